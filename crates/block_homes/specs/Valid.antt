-- When each use finds its value at home.
use Rattle.std.specs.Prelude.{◌≡◌, ◌≢◌, ℕ, ◌+◌, ◌<◌, ◌≤◌, ◌⊎◌, List, length, Some, slice_get, slice_index, Contains, All}
use Rattle.flatten.specs.declared.blocks.BlockInsn.{BlockInsn}
use Rattle.flatten.specs.declared.blocks.Block.{Block}
use Rattle.flatten.specs.declared.blocks.BlockProc.{BlockProc}
use Rattle.flatten.specs.Paths.{sets, uses_of, end_uses, goes_to, Path}
use Rattle.flatten.specs.Named.{AllBelow}
use Rattle.block_homes.specs.declared.homes.Home.{Home}
use Rattle.block_homes.specs.declared.homes.Home.TheVariants as H
use Rattle.block_homes.specs.declared.homes.Assignment.{Assignment}
use Rattle.block_homes.specs.declared.homes.Verdict.{Verdict}
use Rattle.block_homes.specs.declared.homes.Verdict.TheVariants as V
use Rattle.block_homes.specs.Held.{places_of, places_at, held_at, uses_from, number}

-- each value that an instruction names is below n
abbrev pub InsnBelow : ℕ → BlockInsn → Type 0
InsnBelow n i = AllBelow n (uses_of i) × AllBelow n (sets i)

-- and each block that a block's end names below m
abbrev pub BlockBelow : ℕ → ℕ → Block → Type 0
BlockBelow n m k = All (InsnBelow n) k.insns × AllBelow n (end_uses k.end) × AllBelow m (goes_to k.end)

-- each value and each block that is named is there, and there are no more parameters than values
pub record IsNamed (q : BlockProc) : Type 0 where
  pub params : q.params ≤ q.values
  pub blocks : All (BlockBelow q.values (length q.blocks)) q.blocks

-- a home is one of the registers 8, 9 and 18 to 27, which callees keep by the psABI, or one of n slots
abbrev pub IsHome : ℕ → Home → Type 0
IsHome n (H.Register r) = ((8 ≤ r) × (r ≤ 9)) ⊎ ((18 ≤ r) × (r ≤ 27))
IsHome n (H.Slot s) = s < n

-- a home for each of n values
pub record AreHomes (n : ℕ) (homes : List Home) : Type 0 where
  pub count : length homes ≡ n
  pub each : All (IsHome n) homes

-- on each path to the instruction i of block b, the home of each value that it uses holds that value
abbrev pub Kept : List ℕ → BlockProc → ℕ → ℕ → Type 0
Kept places q b i =
    (run : List Block) (k : Block) (v : ℕ) → Path q run b → slice_get q.blocks b ≡ Some k → Contains (uses_from k.insns k.end i) v
    → held_at places q run k i (slice_index places v) ≡ v

-- a path on which the home of a value that it uses holds another value, or nothing was written to it
pub record Lost (places : List ℕ) (q : BlockProc) (b i : ℕ) : Type 0 where
  pub block : Block
  pub is_block : slice_get q.blocks b ≡ Some block
  pub value : ℕ
  pub used : Contains (uses_from block.insns block.end i) value
  pub run : List Block
  pub path : Path q run b
  pub other : held_at places q run block i (slice_index places value) ≢ value

-- the first instruction that loses a use has the number k
pub record FirstLost (places : List ℕ) (q : BlockProc) (k : ℕ) : Type 0 where
  pub block : ℕ
  pub insn : ℕ
  pub numbered : number q.blocks block insn ≡ k
  pub lost : Lost places q block insn
  pub earlier : (b i : ℕ) → number q.blocks b i < k → Kept places q b i

abbrev pub IsVerdict : List Home → BlockProc → Verdict → Type 0
IsVerdict homes q V.Yes = (b i : ℕ) → Kept (places_of homes) q b i
IsVerdict homes q (V.No k) = FirstLost (places_of homes) q k

-- each procedure names what is there, and its assignment keeps each use
abbrev pub AllValid : List BlockProc → List Assignment → Type 0
AllValid procs assignments = (f : ℕ) (q : BlockProc) → slice_get procs f ≡ Some q → IsNamed q × ((b i : ℕ) → Kept (places_at assignments f) q b i)
