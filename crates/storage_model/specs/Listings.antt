-- The lists of loans' bytes at home bytes, before and after a change.
use Rattle.std.specs.Prelude.{◌≡◌, ◌≢◌, ℕ, ◌<◌, Bool, true, false, List, length, get_or}
use Rattle.std.specs.Global.{Vec}
use Rattle.storage_model.specs.declared.cell.Place.{Place}
use Rattle.storage_model.specs.declared.cell.Spot.{Spot}
use Rattle.storage_model.specs.declared.held.Cover.{Cover}
use Rattle.storage_model.specs.declared.held.LoanByte.{LoanByte}
use Rattle.storage_model.specs.Storage.{Storage, Lending, Good, is_memory, places}
use Rattle.storage_model.specs.Chain.{home_of}
use Rattle.storage_model.specs.Loans.{place_of}
use Rattle.storage_model.specs.Held.{no_byte, in_stack, nth_stack, stack_at}

-- what was listed in a table is listed still
pub record KeepsTable (old new : List (Vec Cover)) : Type 0 where
  pub kept : (i l k : ℕ) → in_stack l k (nth_stack old i) ≡ true → in_stack l k (nth_stack new i) ≡ true

-- what was listed of other loans is
pub record KeepsOthersInTable (old new : List (Vec Cover)) (loan : ℕ) : Type 0 where
  pub kept : (i l k : ℕ) → l ≢ loan → in_stack l k (nth_stack old i) ≡ true → in_stack l k (nth_stack new i) ≡ true

-- the same of all tables
pub record KeepsStacks (old new : List (Vec (Vec Cover))) : Type 0 where
  pub longer : length new ≡ length old
  pub kept : (h : Place) (l k : ℕ) → in_stack l k (stack_at old h) ≡ true → in_stack l k (stack_at new h) ≡ true

pub record KeepsOthers (old new : List (Vec (Vec Cover))) (loan : ℕ) : Type 0 where
  pub longer : length new ≡ length old
  pub kept : (h : Place) (l k : ℕ) → l ≢ loan → in_stack l k (stack_at old h) ≡ true → in_stack l k (stack_at new h) ≡ true

-- the places of a loan are bytes of live views, and none is a descriptor's
pub record PlacesGood (s : Storage) (bytes : List LoanByte) : Type 0 where
  pub good : (k : ℕ) → k < length bytes → Good s (get_or bytes k no_byte).place
  pub plain : (k : ℕ) → k < length bytes → is_memory s (get_or bytes k no_byte).place ≡ true

-- the first n bytes of a loan are listed at the home bytes under their places
pub record PlacesListed (s : Storage) (covers : List (Vec (Vec Cover))) (loan : ℕ) (bytes : List LoanByte) (n : ℕ) : Type 0 where
  pub listed : (k : ℕ) → k < n → in_stack loan k (stack_at covers (home_of s (get_or bytes k no_byte).place)) ≡ true

-- a byte of a new loan
abbrev pub fresh_byte : Spot → LoanByte
fresh_byte p = record { place = place_of p; written = false; read = false }

-- no loan that was opened later is open
pub record IsLast (s : Storage) (loan : ℕ) : Type 0 where
  pub later : (l : ℕ) → loan < l → (s.loan l).is_open ≡ false

-- the places of a loan are bytes of live views
pub record StandsGood (s : Storage) (loan : ℕ) : Type 0 where
  pub good : (k : ℕ) → k < (s.loan loan).bytes → Good s (places s loan k)

-- an open loan of these bytes
abbrev pub lent : List LoanByte → Bool → Lending
lent bytes writable = record {
  bytes = length bytes;
  place = λ k. (get_or bytes k no_byte).place;
  is_open = true;
  writable = writable;
  written = λ k. (get_or bytes k no_byte).written;
  read = λ k. (get_or bytes k no_byte).read;
}
