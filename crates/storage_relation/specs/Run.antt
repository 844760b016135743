-- Storage and flat memory, side by side.
use Rattle.std.specs.Prelude.{◌≡◌, ◌≢◌, ℕ, Bool, true, false}
use Rattle.storage_model.specs.declared.cell.Place.{Place}
use Rattle.storage_model.specs.declared.cell.Cell.{Cell}
use Rattle.storage_model.specs.declared.cell.Cell.TheVariants.{Undefined}
use Rattle.storage_model.specs.Storage.{Object, Lending, Storage, places, IsHome, has_cells, Good, with_written, with_read, with_open, with_alive, with_loan, with_object}
use Rattle.storage_relation.specs.Relation.{Readable, Writable, PutCell, SetWritten, Closes, IsLast, Ends, OpensLoan, MayOpen, MakesObject}
use Rattle.storage_relation.specs.Flat.{Placement, address, Stands, Known, closing, gather, StartsLoan, Passes, Copies, StartsObject, Fills, Describes}

pub record State : Type 0 where
  pub storage : Storage
  pub placement : Placement
  pub memory : ℕ → ℕ

-- one step on both sides, which meets no violation
pub data Step (a : State) : State → Type 0 where
  -- a read of a byte marks loans beside it; the flat side loads
  Reads : (p : Place) → Good a.storage p → Readable a.storage p → (marks : ℕ → ℕ → Bool)
      → Step a (record a { storage = with_read a.storage marks })
  -- a write of a byte; the flat side stores a byte that stands for the cell, or for an undefined cell may do nothing
  Writes : (p : Place) → Good a.storage p → Writable a.storage p
      → (c : Cell) → Known a.storage.made a.storage.opened c
      → (cells : ℕ → ℕ → Cell) → PutCell a.storage p c cells
      → (marks : ℕ → ℕ → Bool) → SetWritten a.storage p marks
      → (after : ℕ → ℕ) → Stands a.placement c (after (address a.placement p)) → ((x : ℕ) → x ≢ address a.placement p → after x ≡ a.memory x)
      → Step a (record a { storage = with_written a.storage cells marks; memory = after })
  -- a loan is opened; the flat side leaves its bytes where they are
  OpensPassed : (new : Lending) → MayOpen a.storage new → (loans : ℕ → Lending) → OpensLoan a.storage new loans
      → (placement : Placement) → StartsLoan a.storage a.placement placement → Passes a.storage new a.placement placement
      → Step a (record a { storage = with_loan a.storage loans; placement = placement })
  -- a loan is opened; the flat side copies its bytes to a region of their own
  OpensCopied : (new : Lending) → MayOpen a.storage new → (loans : ℕ → Lending) → OpensLoan a.storage new loans
      → (placement : Placement) → StartsLoan a.storage a.placement placement → Copies a.storage new a.placement placement
      → Step a (record { storage = with_loan a.storage loans; placement = placement; memory = gather a.storage new a.placement placement a.memory })
  -- the last loan is closed; the flat side scatters all bytes of a copied writable loan, and does nothing else
  ClosesLoan : (n : ℕ) → IsLast a.storage n → (flags : ℕ → Bool) → Closes a.storage n flags
      → Step a (record a { storage = with_open a.storage flags; memory = closing a.storage a.placement n a.memory })
  -- an object is made
  Makes : (new : Object) → new.alive ≡ true → ((i : ℕ) → Known a.storage.made a.storage.opened (new.cells i))
      → (objects : ℕ → Object) → MakesObject a.storage new objects
      → (placement : Placement) → StartsObject a.storage new a.placement placement → ((i : ℕ) → has_cells new.kind ≡ false → new.cells i ≡ Undefined)
      → (after : ℕ → ℕ) → Fills a.storage new placement a.memory after
      → Step a (record { storage = with_object a.storage objects; placement = placement; memory = after })
  -- a descriptor object is given another value
  SetsDescriptor : (n : ℕ) → (fields : ℕ → ℕ → ℕ) → (after : ℕ → ℕ) → Describes a.storage a.placement n fields a.memory after
      → Step a (record a { placement = record (a.placement) { fields = fields }; memory = after })
  -- an object ends
  EndsObject : (n : ℕ) → (flags : ℕ → Bool) → Ends a.storage n flags
      → Step a (record a { storage = with_alive a.storage flags })

pub data Steps : State → State → Type 0 where
  Stays : {a : State} → Steps a a
  Goes : {a b c : State} → Step a b → Steps b c → Steps a c

-- nothing was made or opened
pub record IsEmpty (s : Storage) : Type 0 where
  pub no_objects : s.made ≡ 0
  pub no_loans : s.opened ≡ 0
  pub dead : (o : ℕ) → (s.object o).alive ≡ false
  pub undefined : (o i : ℕ) → (s.object o).cells i ≡ Undefined
  pub shut : (l : ℕ) → (s.loan l).is_open ≡ false
  pub unmarked : (l k : ℕ) → (s.loan l).written k ≡ false
  pub placeless : (l k : ℕ) → IsHome (places s l k).view
  pub byteless : (l : ℕ) → (s.loan l).bytes ≡ 0
