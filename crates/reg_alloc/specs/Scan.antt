-- The scan over ranges.
use Rattle.std.specs.Prelude.{◌≡◌, ◌≢◌, ℕ, ◌+◌, ◌<◌, ◌≤◌, ◌⊎◌, List, length, map, Option, Some, None, slice_index, slice_index_or, All, Contains}
use Rattle.flatten.specs.declared.blocks.BlockProc.{BlockProc}
use Rattle.block_homes.specs.declared.homes.Home.{Home}
use Rattle.block_homes.specs.declared.homes.Home.TheVariants.{Register, Slot}
use Rattle.reg_alloc.specs.Live.{Crowded}
use Rattle.reg_alloc.specs.declared.ranges.Range.{Range}
use Rattle.reg_alloc.specs.declared.scan.Start.{Start}
use Rattle.reg_alloc.specs.declared.scan.Choice.{Choice}
use Rattle.reg_alloc.specs.declared.scan.Choice.TheVariants as C
use Rattle.reg_alloc.specs.Ranges.{RangeOf}

abbrev pub no_range : Range
no_range = record { first = 4294967295; last = 0 }

abbrev pub first_of : List Range → ℕ → ℕ
first_of ranges v = (slice_index_or ranges v no_range).first

abbrev pub last_of : List Range → ℕ → ℕ
last_of ranges v = (slice_index_or ranges v no_range).last

pub record Ranges (p : BlockProc) (ranges : List Range) : Type 0 where
  pub count : length ranges ≡ p.values
  pub each : (v : ℕ) → v < p.values → RangeOf p v (slice_index_or ranges v no_range)

-- the number of a choice: below 12 of a register, 12 of a slot, 13 of none yet
abbrev pub code : Choice → ℕ
code C.Open = 13
code (C.Saved r) = r
code C.Slot = 12

abbrev pub codes : List Choice → List ℕ
codes choices = map code choices

abbrev pub IsProper : Choice → Type 0
IsProper C.Open = Unit {0}
IsProper (C.Saved r) = r < 12
IsProper C.Slot = Unit {0}

abbrev pub AllProper : List Choice → Type 0
AllProper choices = (u : ℕ) → u < length choices → IsProper (slice_index_or choices u C.Open)

-- choices by these numbers; the last user of each register, if there is one
pub record User (n : ℕ) (ranges : List Range) (choices users : List ℕ) (r : ℕ) : Type 0 where
  pub one : slice_index users r < n
  pub its : slice_index choices (slice_index users r) ≡ r
  pub last : (u : ℕ) → slice_index choices u ≡ r → u < n → (u ≡ slice_index users r) ⊎ (last_of ranges u < first_of ranges (slice_index users r))

pub record Scan (p : BlockProc) (ranges : List Range) (choices users : List ℕ) (k : ℕ) : Type 0 where
  pub count : length choices ≡ p.values
  pub registers : length users ≡ 12
  pub apart : (u w : ℕ) → u < p.values → w < p.values → u ≢ w → slice_index choices u ≡ slice_index choices w → slice_index choices u < 12 → (last_of ranges u < first_of ranges w) ⊎ (last_of ranges w < first_of ranges u)
  pub using : (r : ℕ) → r < 12 → ((slice_index users r ≡ p.values) × ((u : ℕ) → u < p.values → slice_index choices u ≢ r)) ⊎ User p.values ranges choices users r
  pub chosen : (u : ℕ) → u < p.values → slice_index choices u ≢ 13 → first_of ranges u ≤ k
  pub slots : (u : ℕ) → u < p.values → slice_index choices u ≡ 12 → Crowded p u
  pub small : (u : ℕ) → u < p.values → slice_index choices u ≤ 13

-- where each range begins, in the order of the beginnings
pub record Starts (ranges : List Range) (starts : List Start) : Type 0 where
  pub each : All (λ s. (s.value < length ranges) × (s.first ≡ first_of ranges s.value)) starts
  pub every : (v : ℕ) → v < length ranges → Contains starts (record { first = first_of ranges v; value = v })

-- a register that is free at k
abbrev pub IsFree : ℕ → List Range → List ℕ → ℕ → ℕ → Type 0
IsFree n ranges users k r = (slice_index users r ≡ n) ⊎ (last_of ranges (slice_index users r) < k)

abbrev pub IsBusy : ℕ → List Range → List ℕ → ℕ → ℕ → Type 0
IsBusy n ranges users k r = (slice_index users r ≢ n) × (k ≤ last_of ranges (slice_index users r))

abbrev pub FreeAnswer : ℕ → List Range → List ℕ → ℕ → Option ℕ → Type 0
FreeAnswer n ranges users k None = (r : ℕ) → r < length users → IsBusy n ranges users k r
FreeAnswer n ranges users k (Some r) = (r < length users) × IsFree n ranges users k r

abbrev pub AllUsers : ℕ → List ℕ → Type 0
AllUsers n users = (r : ℕ) → r < length users → slice_index users r ≤ n

-- the home that a choice stands for
abbrev pub IsChoice : ℕ → ℕ → Home → Type 0
IsChoice v c (Register r) = ((c < 2) × (r ≡ 8 + c)) ⊎ ((2 ≤ c) × (c < 12) × (r ≡ 16 + c)) ⊎ ((13 ≤ c) × (r ≡ 8))
IsChoice v c (Slot s) = (c ≡ 12) × (s ≡ v)

abbrev pub Scanned : BlockProc → List Range → List ℕ → Type 0
Scanned p ranges choices = (users : List ℕ) × (k : ℕ) × Scan p ranges choices users k × ((v : ℕ) → v < p.values → first_of ranges v < 4294967295 → slice_index choices v ≢ 13)

pub record Chosen (choices : List ℕ) (homes : List Home) : Type 0 where
  pub count : length homes ≡ length choices
  pub each : (v : ℕ) (d : Home) → v < length choices → IsChoice v (slice_index choices v) (slice_index_or homes v d)
