-- What the vectors keep when a cell or a mark is set.
use Rattle.std.proofs.Common.{ℕ, ◌≡◌, ◌<◌, ◌^◌, sym, ◌∙◌, ap, subst, arith, ⊎_elim, List, length, get_or, set}
use Rattle.std.specs.Prelude.{true, if◌then◌else◌}
use Rattle.std.specs.Global.{Vec}
use Rattle.std.proofs.lemmas.List.{length-set}
use Rattle.std.proofs.lemmas.Bool.{cases_lt, cond-true}
use Rattle.storage_model.proofs.Nth.{nth_loan_at, nth_loan_past, nth_object_at, nth_object_past}
use Rattle.storage_model.specs.declared.cell.View.{View}
use Rattle.storage_model.specs.declared.cell.View.TheVariants.{Loan}
use Rattle.storage_model.specs.declared.cell.Place.{Place}
use Rattle.storage_model.specs.declared.cell.Cell.{Cell}
use Rattle.storage_model.specs.declared.held.HeldObject.{HeldObject}
use Rattle.storage_model.specs.declared.held.HeldLoan.{HeldLoan}
use Rattle.storage_model.specs.declared.held.Cover.{Cover}
use Rattle.storage_model.specs.Storage.{Storage, at, size_of, has_cells}
use Rattle.storage_model.specs.Chain.{home_of}
use Rattle.storage_model.specs.Laws.{IsSound}
use Rattle.storage_model.specs.Held.{IsHeld, facts, nth_loan, nth_object, cell_count, in_stack, stack_at}
use Rattle.storage_model.specs.Marks.{cell_set, written_set, read_set}
use Rattle.storage_model.proofs.Chains.{nat_or}
use Rattle.storage_model.proofs.Updates.{got_here, got_else}

-- what is kept of objects and loans alone
pub record FactsHeld (s : Storage) (covers : List (Vec (Vec Cover))) : Type 0 where
  pub sound : IsSound s
  pub small : (v : View) → size_of s v < 2 ^ 63
  pub listed : (l k : ℕ) → (s.loan l).is_open ≡ true → k < (s.loan l).bytes → in_stack l k (stack_at covers (home_of s (at (Loan l) k))) ≡ true

pub held_facts : (objects : List HeldObject) (loans : List HeldLoan) (covers : List (Vec (Vec Cover))) → IsHeld objects loans covers → FactsHeld (facts objects loans) covers
held_facts objects loans covers h = record { sound = h.sound; small = h.small; listed = h.listed }

pub sound_read_set : (s : Storage) (l k : ℕ) → IsSound s → IsSound (read_set s l k)
sound_read_set s l k laws = record {
  older = laws.older;
  to_open = laws.to_open;
  to_make = laws.to_make;
  grounded = λ m j o b. let g = laws.grounded m j o b in record { live = g.live; within = g.within };
  plain = laws.plain;
}

pub sound_written_set : (s : Storage) (l k : ℕ) → IsSound s → IsSound (written_set s l k)
sound_written_set s l k laws = record {
  older = laws.older;
  to_open = laws.to_open;
  to_make = laws.to_make;
  grounded = λ m j o b. let g = laws.grounded m j o b in record { live = g.live; within = g.within };
  plain = laws.plain;
}

pub sound_cell_set : (s : Storage) (o k : ℕ) (c : Cell) → IsSound s → IsSound (cell_set s o k c)
sound_cell_set s o k c laws = record {
  older = laws.older;
  to_open = laws.to_open;
  to_make = laws.to_make;
  grounded = λ m j o b. let g = laws.grounded m j o b in record { live = g.live; within = g.within };
  plain = laws.plain;
}

module _ (objects : List HeldObject) (loans : List HeldLoan) (covers : List (Vec (Vec Cover))) (held : IsHeld objects loans covers) where
  from_facts : (loans' : List HeldLoan) → FactsHeld (facts objects loans') covers → IsHeld objects loans' covers
  from_facts loans' h = record { sound = h.sound; sized = held.sized; small = h.small; parallel = held.parallel; listed = h.listed }

  pub held_read : (loans' : List HeldLoan) (l k : ℕ) → facts objects loans' ≡ read_set (facts objects loans) l k → IsHeld objects loans' covers
  held_read loans' l k e = from_facts loans' (subst (λ s. FactsHeld s covers) (sym e)
      (record { sound = sound_read_set (facts objects loans) l k held.sound; small = held.small; listed = held.listed }))

  pub held_written : (loans' : List HeldLoan) (l k : ℕ) → facts objects loans' ≡ written_set (facts objects loans) l k → IsHeld objects loans' covers
  held_written loans' l k e = from_facts loans' (subst (λ s. FactsHeld s covers) (sym e)
      (record { sound = sound_written_set (facts objects loans) l k held.sound; small = held.small; listed = held.listed }))

  pub held_cell : (o k : ℕ) (c : Cell) (x x' : HeldObject) → o < length objects → x ≡ get_or objects o x → length x'.cells.items ≡ length x.cells.items → x'.size ≡ x.size → x'.kind ≡ x.kind
      → facts (set objects o x') loans ≡ cell_set (facts objects loans) o k c → IsHeld (set objects o x') loans covers
  held_cell o k c x x' ho is len es ek e =
      let h : FactsHeld (facts (set objects o x') loans) covers = subst (λ s. FactsHeld s covers) (sym e)
      (record { sound = sound_cell_set (facts objects loans) o k c held.sound; small = held.small; listed = held.listed }) in
      let lens = length-set objects o x' in
      record {
        sound = h.sound;
        sized = λ p y hp isy. ⊎_elim
            (λ e'. let at_o : y ≡ x' = isy ∙ ap (λ n. get_or (set objects o x') n y) e' ∙ got_here objects o x' y ho in
            ap (λ z. length z.cells.items) at_o ∙ len ∙ held.sized o x ho is ∙ sym (count x' x es ek) ∙ sym (ap cell_count at_o))
            (λ ne. held.sized p y (omega (arith, hp, lens)) (isy ∙ got_else objects o x' y p ne))
            (nat_or p o);
        small = h.small;
        parallel = (let p = held.parallel in omega (arith, p, lens));
        listed = h.listed;
      }
    where
      count : (y z : HeldObject) → y.size ≡ z.size → y.kind ≡ z.kind → cell_count y ≡ cell_count z
      count y z es ek = ap (λ n. if has_cells y.kind then n else 0) es ∙ ap (λ k. if has_cells k then z.size else 0) ek

-- a byte of a loan is there
pub loan_there : (loans : List HeldLoan) (l k : ℕ) → k < (nth_loan loans l).bytes → l < length loans
loan_there loans l k h = ⊎_elim (λ lt. lt)
    (λ le. let e = ap (λ y. y.bytes) (nth_loan_past loans l le) in absurd (omega (arith, h, e)))
    (cases_lt l (length loans))

pub byte_there : (loans : List HeldLoan) (l k : ℕ) (x : HeldLoan) → k < (nth_loan loans l).bytes → x ≡ get_or loans l x → k < length x.bytes.items
byte_there loans l k x h is = subst (λ y. k < y.bytes) (nth_loan_at loans l x (loan_there loans l k h) is) h

-- a byte of an object is there
pub object_there : (objects : List HeldObject) (o k : ℕ) → k < (nth_object objects o).size → o < length objects
object_there objects o k h = ⊎_elim (λ lt. lt)
    (λ le. let e = ap (λ y. y.size) (nth_object_past objects o le) in absurd (omega (arith, h, e)))
    (cases_lt o (length objects))

pub cell_there : (objects : List HeldObject) (o k : ℕ) (x : HeldObject) → k < (nth_object objects o).size → has_cells (nth_object objects o).kind ≡ true → x ≡ get_or objects o x
    → length x.cells.items ≡ cell_count x → k < length x.cells.items
cell_there objects o k x h mem is sized =
    let n = nth_object_at objects o x (object_there objects o k h) is in
    let m : has_cells x.kind ≡ true = sym (ap (λ y. has_cells y.kind) n) ∙ mem in
    let e = sized ∙ cond-true (has_cells x.kind) x.size 0 m in
    let f = ap (λ y. y.size) n in omega (arith, h, e, f)

pub object_alive : (objects : List HeldObject) (o : ℕ) → (nth_object objects o).alive ≡ true → o < length objects
object_alive objects o h = ⊎_elim (λ lt. lt) (λ le. let e = ap (λ y. y.alive) (nth_object_past objects o le) in absurd (cc)) (cases_lt o (length objects))

-- other lists, which have what was listed of each open loan
pub held_covers : (objects : List HeldObject) (loans : List HeldLoan) (covers covers' : List (Vec (Vec Cover))) → length covers' ≡ length covers
    → ((l k : ℕ) (h : Place) → (nth_loan loans l).is_open ≡ true → in_stack l k (stack_at covers h) ≡ true → in_stack l k (stack_at covers' h) ≡ true)
    → IsHeld objects loans covers → IsHeld objects loans covers'
held_covers objects loans covers covers' len keep held = record {
  sound = held.sound;
  sized = held.sized;
  small = held.small;
  parallel = (let p = held.parallel in omega (arith, p, len));
  listed = λ l k o b. keep l k (home_of (facts objects loans) (at (Loan l) k)) o (held.listed l k o b);
}

pub loan_open : (loans : List HeldLoan) (l : ℕ) → (nth_loan loans l).is_open ≡ true → l < length loans
loan_open loans l h = ⊎_elim (λ lt. lt) (λ le. let e = ap (λ y. y.is_open) (nth_loan_past loans l le) in absurd (cc)) (cases_lt l (length loans))
