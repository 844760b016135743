-- The storage that the vectors hold.
use Rattle.std.specs.Prelude.{◌≡◌, ℕ, zero, suc, ◌<◌, ◌≤◌, ◌^◌, Bool, true, false, ◌==◌, ◌&&◌, if◌then◌else◌, List, [], ◌∷◌, length, get_or}
use Rattle.std.specs.List.{list_any}
use Rattle.std.specs.Global.{Vec}
use Rattle.storage_model.specs.declared.cell.View.{View}
use Rattle.storage_model.specs.declared.cell.View.TheVariants.{Loan}
use Rattle.storage_model.specs.declared.cell.Place.{Place}
use Rattle.storage_model.specs.declared.cell.Cell.TheVariants.{Undefined}
use Rattle.storage_model.specs.declared.held.HeldObject.{HeldObject}
use Rattle.storage_model.specs.declared.held.LoanByte.{LoanByte}
use Rattle.storage_model.specs.declared.held.HeldLoan.{HeldLoan}
use Rattle.storage_model.specs.declared.held.Cover.{Cover}
use Rattle.storage_model.specs.Storage.{Storage, Object, Lending, at, no_object, no_loan, outside, by_view, size_of, has_cells}
use Rattle.storage_model.specs.Chain.{home_of}
use Rattle.storage_model.specs.Laws.{IsSound}

abbrev pub no_byte : LoanByte
no_byte = record { place = outside; written = false; read = false }

abbrev pub object_of : HeldObject → Object
object_of x = record { size = x.size; alive = x.alive; kind = x.kind; cells = λ i. get_or x.cells.items i Undefined }

abbrev pub loan_of : HeldLoan → Lending
loan_of x = record {
  bytes = length x.bytes.items;
  place = λ k. (get_or x.bytes.items k no_byte).place;
  is_open = x.is_open;
  writable = x.writable;
  written = λ k. (get_or x.bytes.items k no_byte).written;
  read = λ k. (get_or x.bytes.items k no_byte).read;
}

abbrev pub nth_object : List HeldObject → ℕ → Object
nth_object [] o = no_object
nth_object (x ∷ xs) zero = object_of x
nth_object (x ∷ xs) (suc o) = nth_object xs o

abbrev pub nth_loan : List HeldLoan → ℕ → Lending
nth_loan [] l = no_loan
nth_loan (x ∷ xs) zero = loan_of x
nth_loan (x ∷ xs) (suc l) = nth_loan xs l

-- the storage that lists of objects and loans hold
abbrev pub facts : List HeldObject → List HeldLoan → Storage
facts objects loans = record { made = length objects; object = nth_object objects; opened = length loans; loan = nth_loan loans }

-- how many cells an object has
abbrev pub cell_count : HeldObject → ℕ
cell_count x = if has_cells x.kind then x.size else 0

-- byte k of loan l is in the list of a home byte
abbrev pub in_stack : ℕ → ℕ → List Cover → Bool
in_stack l k covers = list_any (λ c. (c.loan == l) && (c.byte == k)) covers

abbrev pub nth_stack : List (Vec Cover) → ℕ → List Cover
nth_stack [] i = []
nth_stack (x ∷ xs) zero = x.items
nth_stack (x ∷ xs) (suc i) = nth_stack xs i

abbrev pub nth_table : List (Vec (Vec Cover)) → ℕ → List (Vec Cover)
nth_table [] o = []
nth_table (x ∷ xs) zero = x.items
nth_table (x ∷ xs) (suc o) = nth_table xs o

abbrev pub stack_at : List (Vec (Vec Cover)) → Place → List Cover
stack_at covers h = by_view (λ o. nth_stack (nth_table covers o) h.offset) (λ l. []) h.view

-- what the vectors keep
pub record IsHeld (objects : List HeldObject) (loans : List HeldLoan) (covers : List (Vec (Vec Cover))) : Type 0 where
  pub sound : IsSound (facts objects loans)
  -- each object with cells has one for each byte
  pub sized : (o : ℕ) (x : HeldObject) → o < length objects → x ≡ get_or objects o x → length x.cells.items ≡ cell_count x
  -- sizes are those that offsets can have
  pub small : (v : View) → size_of (facts objects loans) v < 2 ^ 63
  -- each object has a table of such lists
  pub parallel : length objects ≤ length covers
  -- each byte of an open loan is in the list of the home byte under it
  pub listed : (l k : ℕ) → (nth_loan loans l).is_open ≡ true → k < (nth_loan loans l).bytes
      → in_stack l k (stack_at covers (home_of (facts objects loans) (at (Loan l) k))) ≡ true
