-- What a step does to a storage, as facts.
use Rattle.std.specs.Prelude.{◌≡◌, ◌≢◌, ℕ, ◌<◌, ◌≤◌, ◌⊎◌, Bool, true, false}
use Rattle.storage_model.specs.declared.cell.View.TheVariants.{Home, Loan}
use Rattle.storage_model.specs.declared.cell.Place.{Place}
use Rattle.storage_model.specs.declared.cell.Cell.{Cell}
use Rattle.storage_model.specs.Storage.{Storage, Object, Lending, at, places, IsHome, IsWritable, is_memory, Good, On, Meets}

-- each byte of an open loan that meets p, and that is marked, is in the chain of p
pub record NoneBeside (s : Storage) (marked : ℕ → ℕ → Type 0) (p : Place) : Type 0 where
  pub through : (l k : ℕ) → (s.loan l).is_open ≡ true → k < (s.loan l).bytes → marked l k
      → Meets (places s) p (at (Loan l) k) → On (places s) p (at (Loan l) k)

abbrev pub Written : Storage → ℕ → ℕ → Type 0
Written s l k = (s.loan l).written k ≡ true

abbrev pub AnyMark : ℕ → ℕ → Type 0
AnyMark l k = Unit {0}

-- a read of p is no V07: no open loan is beside it with the mark `written`
abbrev pub Readable : Storage → Place → Type 0
Readable s p = NoneBeside s (Written s) p

-- a write of p is none of V06, V21 and V07
pub record Writable (s : Storage) (p : Place) : Type 0 where
  pub memory : (q : Place) → On (places s) p q → is_memory s q ≡ true
  pub views : (q : Place) → On (places s) p q → IsWritable s q.view
  pub beside : NoneBeside s AnyMark p
  pub unread : (l k : ℕ) → On (places s) p (at (Loan l) k) → (s.loan l).read k ≡ false

-- a byte is put: its home has the cell, all else stays
pub record PutCell (s : Storage) (p : Place) (c : Cell) (cells : ℕ → ℕ → Cell) : Type 0 where
  pub put : (o i : ℕ) → On (places s) p (at (Home o) i) → cells o i ≡ c
  pub rest : (o i : ℕ) → (On (places s) p (at (Home o) i) → ⊥) → cells o i ≡ (s.object o).cells i

-- the marks after a write of p: those before, and each loan byte of the chain
pub record SetWritten (s : Storage) (p : Place) (marks : ℕ → ℕ → Bool) : Type 0 where
  pub chain : (l k : ℕ) → On (places s) p (at (Loan l) k) → marks l k ≡ true
  pub kept : (l k : ℕ) → Written s l k → marks l k ≡ true
  pub only : (l k : ℕ) → marks l k ≡ true → Written s l k ⊎ On (places s) p (at (Loan l) k)

-- these flags close loan n
pub record Closes (s : Storage) (n : ℕ) (flags : ℕ → Bool) : Type 0 where
  pub off : flags n ≡ false
  pub rest : (l : ℕ) → l ≢ n → flags l ≡ (s.loan l).is_open

-- loan n is open, and no loan that was opened later
pub record IsLast (s : Storage) (n : ℕ) : Type 0 where
  pub is_open : (s.loan n).is_open ≡ true
  pub last : (l : ℕ) → (s.loan l).is_open ≡ true → l ≤ n

-- object n ends, and no open loan is beside a write to one of its bytes
pub record Ends (s : Storage) (n : ℕ) (flags : ℕ → Bool) : Type 0 where
  pub off : flags n ≡ false
  pub rest : (o : ℕ) → o ≢ n → flags o ≡ (s.object o).alive
  pub free : (i : ℕ) → i < (s.object n).size → NoneBeside s AnyMark (at (Home n) i)

pub record OpensLoan (s : Storage) (new : Lending) (loans : ℕ → Lending) : Type 0 where
  pub fresh : loans s.opened ≡ new
  pub rest : (l : ℕ) → l ≢ s.opened → loans l ≡ s.loan l

-- what a new loan is like
pub record MayOpen (s : Storage) (new : Lending) : Type 0 where
  pub is_open : new.is_open ≡ true
  pub unwritten : (k : ℕ) → new.written k ≡ false
  pub grounded : (k : ℕ) → k < new.bytes → Good s (new.place k)
  pub plain : (k : ℕ) → k < new.bytes → is_memory s (new.place k) ≡ true
  pub beyond : (k : ℕ) → new.bytes ≤ k → IsHome (new.place k).view

pub record MakesObject (s : Storage) (new : Object) (objects : ℕ → Object) : Type 0 where
  pub fresh : objects s.made ≡ new
  pub rest : (o : ℕ) → o ≢ s.made → objects o ≡ s.object o
