-- Objects, loans, and the bytes of their views.
-- An object is a region of data storage with a lifetime (ISO/IEC 9899:2011 3.15 and 6.2.4). A loan is an argument association of an array dummy
-- (ISO/IEC 1539-1:2018 15.5.2.4 and 15.5.2.11): its bytes stand for the bytes of the actual argument, of which no copy is made.
use Rattle.std.specs.Prelude.{◌≡◌, ◌≢◌, ℕ, suc, ◌<◌, Bool, true, false}
use Rattle.storage_model.specs.declared.cell.View.{View}
use Rattle.storage_model.specs.declared.cell.View.TheVariants.{Home, Loan}
use Rattle.storage_model.specs.declared.cell.Place.{Place}
use Rattle.storage_model.specs.declared.cell.Cell.{Cell}
use Rattle.storage_model.specs.declared.cell.Cell.TheVariants.{Undefined}
use Rattle.storage_model.specs.declared.cell.Kind.{Kind}
use Rattle.storage_model.specs.declared.cell.Kind.TheVariants.{Plain, ReadOnly, Descriptor}

-- byte k of a view
abbrev pub at : View → ℕ → Place
at v k = record { view = v; offset = k }

-- an object: its size in bytes, whether its lifetime lasts, its kind, and the cell of each byte
pub record Object : Type 0 where
  pub size : ℕ
  pub alive : Bool
  pub kind : Kind
  pub cells : ℕ → Cell

-- a loan: how many bytes it has, the place of each, whether it is open and writable, and for each byte whether it was written through the loan, and read beside it
pub record Lending : Type 0 where
  pub bytes : ℕ
  pub place : ℕ → Place
  pub is_open : Bool
  pub writable : Bool
  pub written : ℕ → Bool
  pub read : ℕ → Bool

-- the list of objects and the list of loans: how many there are, and each by its number, which is never used again
pub record Storage : Type 0 where
  pub made : ℕ
  pub object : ℕ → Object
  pub opened : ℕ
  pub loan : ℕ → Lending

-- what stands where no object was made, and where no loan was opened
abbrev pub no_object : Object
no_object = record { size = 0; alive = false; kind = Plain; cells = λ i. Undefined }

abbrev pub outside : Place
outside = at (Home 0) 0

abbrev pub no_loan : Lending
no_loan = record { bytes = 0; place = λ k. outside; is_open = false; writable = false; written = λ k. false; read = λ k. false }

abbrev pub empty : Storage
empty = record { made = 0; object = λ o. no_object; opened = 0; loan = λ l. no_loan }

-- the place of byte k of loan l
abbrev pub places : Storage → ℕ → ℕ → Place
places s l k = (s.loan l).place k

-- what belongs to a view: one thing for homes, another for loans
abbrev pub by_view : {A : Type 0} → (ℕ → A) → (ℕ → A) → View → A
by_view home loan (Home o) = home o
by_view home loan (Loan l) = loan l

abbrev pub IsHome : View → Type 0
IsHome (Home o) = Unit {0}
IsHome (Loan l) = ⊥

-- a view is live while its object is alive, or its loan open
abbrev pub is_live : Storage → View → Bool
is_live s v = by_view (λ o. (s.object o).alive) (λ l. (s.loan l).is_open) v

abbrev pub IsLive : Storage → View → Type 0
IsLive s v = is_live s v ≡ true

abbrev pub size_of : Storage → View → ℕ
size_of s v = by_view (λ o. (s.object o).size) (λ l. (s.loan l).bytes) v

-- a read-only object isn't written
abbrev pub can_write : Kind → Bool
can_write Plain = true
can_write ReadOnly = false
can_write (Descriptor r) = true

abbrev pub IsWritable : Storage → View → Type 0
IsWritable s (Home o) = (s.object o).kind ≢ ReadOnly
IsWritable s (Loan l) = (s.loan l).writable ≡ true

-- a descriptor object has no cells
abbrev pub has_cells : Kind → Bool
has_cells Plain = true
has_cells ReadOnly = true
has_cells (Descriptor r) = false

-- the cell of a home byte
abbrev pub cell_at : Storage → Place → Cell
cell_at s p = by_view (λ o. (s.object o).cells p.offset) (λ l. Undefined) p.view

-- p isn't a byte of a descriptor object itself
abbrev pub is_memory : Storage → Place → Bool
is_memory s p = by_view (λ o. has_cells (s.object o).kind) (λ l. true) p.view

-- a byte of a live object or an open loan
pub record Good (s : Storage) (p : Place) : Type 0 where
  pub live : IsLive s p.view
  pub within : p.offset < size_of s p.view

-- q is in the chain of p: p itself, or in the chain of the place of p
pub data On (place : ℕ → ℕ → Place) : Place → Place → Type 0 where
  Here : {p : Place} → On place p p
  Below : {p q : Place} (l : ℕ) → p.view ≡ Loan l → On place (place l p.offset) q → On place p q

-- p and q end at one home byte
pub record Meets (place : ℕ → ℕ → Place) (p q : Place) : Type 0 where
  pub home : Place
  pub is_home : IsHome home.view
  pub left : On place p home
  pub right : On place q home

-- the storage with these cells and marks `written`
abbrev pub with_written : Storage → (ℕ → ℕ → Cell) → (ℕ → ℕ → Bool) → Storage
with_written s cells marks = record s {
  object = λ o. record (s.object o) { cells = cells o };
  loan = λ l. record (s.loan l) { written = marks l };
}

-- the storage with these marks `read`
abbrev pub with_read : Storage → (ℕ → ℕ → Bool) → Storage
with_read s marks = record s { loan = λ l. record (s.loan l) { read = marks l } }

-- the storage with these loans open
abbrev pub with_open : Storage → (ℕ → Bool) → Storage
with_open s flags = record s { loan = λ l. record (s.loan l) { is_open = flags l } }

-- the storage with these objects alive
abbrev pub with_alive : Storage → (ℕ → Bool) → Storage
with_alive s flags = record s { object = λ o. record (s.object o) { alive = flags o } }

-- the storage with one more loan
abbrev pub with_loan : Storage → (ℕ → Lending) → Storage
with_loan s loans = record s { opened = suc s.opened; loan = loans }

-- the storage with one more object
abbrev pub with_object : Storage → (ℕ → Object) → Storage
with_object s objects = record s { made = suc s.made; object = objects }
