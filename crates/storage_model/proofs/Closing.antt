-- The end of a loan, of which none that was opened later is open.
use Rattle.std.proofs.Common.{ℕ, ◌≡◌, ◌<◌, ◌^◌, refl, sym, ◌∙◌, ap, subst, arith, ⊎_elim, List, length, get_or, set}
use Rattle.std.specs.Prelude.{◌≢◌, true, false, ◌==◌, if◌then◌else◌}
use Rattle.std.specs.Global.{Vec}
use Rattle.std.proofs.lemmas.List.{length-set}
use Rattle.std.proofs.lemmas.Bool.{eq-eqb, ne_eqb, cond-true, cond-false, cases_lt}
use Rattle.storage_model.specs.declared.cell.View.{View}
use Rattle.storage_model.specs.declared.cell.View.TheVariants.{Home, Loan}
use Rattle.storage_model.specs.declared.cell.Place.{Place}
use Rattle.storage_model.specs.declared.held.HeldObject.{HeldObject}
use Rattle.storage_model.specs.declared.held.HeldLoan.{HeldLoan}
use Rattle.storage_model.specs.declared.held.LoanByte.{LoanByte}
use Rattle.storage_model.specs.declared.held.Cover.{Cover}
use Rattle.storage_model.specs.Storage.{Storage, Lending, at, places, size_of, is_live, Good}
use Rattle.storage_model.specs.Laws.{IsSound}
use Rattle.storage_model.specs.Chain.{home_of}
use Rattle.storage_model.specs.Loans.{close_one}
use Rattle.storage_model.specs.Held.{IsHeld, facts, nth_loan, loan_of, no_byte, stack_at, in_stack}
use Rattle.storage_model.specs.Listings.{IsLast, StandsGood}
use Rattle.storage_model.proofs.Chains.{nat_or}
use Rattle.storage_model.proofs.Nth.{nth_loan_at}
use Rattle.storage_model.proofs.Grounds.{not_both}
use Rattle.storage_model.proofs.Steps.{get_or_any}
use Rattle.storage_model.proofs.Updates.{set_loan_here, set_loan_else}

module _ (s : Storage) (laws : IsSound s) (n : ℕ) (last : IsLast s n) where
  closed_else : (v : View) → v ≢ Loan n → is_live s v ≡ true → is_live (close_one s n) v ≡ true
  closed_else (Home o) ne h = h
  closed_else (Loan l) ne h = cond-false (l == n) false (s.loan l).is_open (ne_eqb l n (λ e. ne (ap Loan e))) ∙ h

  was_open : (l : ℕ) → ((close_one s n).loan l).is_open ≡ true → (l ≢ n) × ((s.loan l).is_open ≡ true)
  was_open l h = ⊎_elim
      (λ e. absurd (not_both (if l == n then false else (s.loan l).is_open) h (cond-true (l == n) false (s.loan l).is_open (eq-eqb l n e))))
      (λ ne. (ne, sym (cond-false (l == n) false (s.loan l).is_open (ne_eqb l n ne)) ∙ h))
      (nat_or l n)

  -- an open loan that isn't this one was opened before it, and a place of it isn't in this one
  before : (l : ℕ) → (s.loan l).is_open ≡ true → l ≢ n → l < n
  before l o ne = ⊎_elim (λ lt. lt)
      (λ le. ⊎_elim (λ gt. absurd (not_both (s.loan l).is_open o (last.later l gt))) (λ ge. absurd (ne (omega (arith, le, ge)))) (cases_lt n l))
      (cases_lt l n)

  good_close : (p : Place) → p.view ≢ Loan n → Good s p → Good (close_one s n) p
  good_close p ne g = record { live = closed_else p.view ne g.live; within = g.within }

  pub sound_close : IsSound (close_one s n)
  sound_close = record {
    older = laws.older;
    to_open = λ l h. ⊎_elim
        (λ e. cond-true (l == n) false (s.loan l).is_open (eq-eqb l n e))
        (λ ne. cond-false (l == n) false (s.loan l).is_open (ne_eqb l n ne) ∙ laws.to_open l h)
        (nat_or l n);
    to_make = laws.to_make;
    grounded = λ l k o b. let w = was_open l o in
        good_close (places s l k) (λ e. let i = laws.older l k n e in let j = before l w.1 w.0 in absurd (omega (arith, i, j))) (laws.grounded l k w.1 b);
    plain = λ l k o b. laws.plain l k (was_open l o).1 b;
  }

  pub stands_close : (s.loan n).is_open ≡ true → StandsGood (close_one s n) n
  stands_close o = record {
    good = λ k h. good_close (places s n k) (λ e. let i = laws.older n k n e in absurd (omega (arith, i))) (laws.grounded n k o h);
  }

  pub closed_off : ((close_one s n).loan n).is_open ≡ false
  closed_off = cond-true (n == n) false (s.loan n).is_open (eq-eqb n n refl)

  pub listed_close : (covers : List (Vec (Vec Cover)))
      → ((l k : ℕ) → (s.loan l).is_open ≡ true → k < (s.loan l).bytes → in_stack l k (stack_at covers (home_of s (at (Loan l) k))) ≡ true)
      → (l k : ℕ) → ((close_one s n).loan l).is_open ≡ true → k < (s.loan l).bytes → in_stack l k (stack_at covers (home_of s (at (Loan l) k))) ≡ true
  listed_close covers old l k o b = old l k (was_open l o).1 b

module _ (loans : List HeldLoan) (l : ℕ) (x x' : HeldLoan) (hl : l < length loans) (is : x ≡ get_or loans l x)
    (eb : x'.bytes ≡ x.bytes) (eo : x'.is_open ≡ false) (ew : x'.writable ≡ x.writable) where
  closed : ℕ → Lending → Lending
  closed m y = record y { is_open = if m == l then false else y.is_open }

  close_at : (m : ℕ) → nth_loan (set loans l x') m ≡ closed m (nth_loan loans m)
  unfolding closed
  close_at m = ⊎_elim
      (λ e. subst (λ n. nth_loan (set loans l x') n ≡ closed n (nth_loan loans n)) (sym e)
      (set_loan_here loans l x' hl
      ∙ (λ i. record (loan_of (record x { bytes = eb i })) { is_open = (eo ∙ sym (cond-true (l == l) false x.is_open (eq-eqb l l refl))) i; writable = ew i })
      ∙ ap (closed l) (sym (nth_loan_at loans l x hl is))))
      (λ ne. set_loan_else loans l x' m ne
      ∙ (λ i. record (nth_loan loans m) { is_open = (sym (cond-false (m == l) false (nth_loan loans m).is_open (ne_eqb m l ne))) i }))
      (nat_or m l)

  pub close_facts : (objects : List HeldObject) → facts objects (set loans l x') ≡ close_one (facts objects loans) l
  unfolding closed
  close_facts objects = λ i. record (facts objects loans) { opened = length-set loans l x' i; loan = λ m. close_at m i }

  pub held_close : (objects : List HeldObject) (covers : List (Vec (Vec Cover))) → IsLast (facts objects loans) l → IsHeld objects loans covers → IsHeld objects (set loans l x') covers
  held_close objects covers last held =
      let e = close_facts objects in
      let s = facts objects loans in
      record {
        sound = subst IsSound (sym e) (sound_close s held.sound l last);
        sized = held.sized;
        small = subst (λ t. (v : View) → size_of t v < 2 ^ 63) (sym e) held.small;
        parallel = held.parallel;
        listed = subst (λ t. (l k : ℕ) → (t.loan l).is_open ≡ true → k < (t.loan l).bytes → in_stack l k (stack_at covers (home_of t (at (Loan l) k))) ≡ true) (sym e)
            (listed_close s held.sound l last covers held.listed);
      }

-- the place of a byte, as it is held
pub place_held : (loans : List HeldLoan) (l k : ℕ) (x : HeldLoan) (b : LoanByte) → l < length loans → x ≡ get_or loans l x → k < length x.bytes.items → b ≡ get_or x.bytes.items k b
    → (nth_loan loans l).place k ≡ b.place
place_held loans l k x b hl is hk isb = ap (λ y. y.place k) (nth_loan_at loans l x hl is) ∙ ap (λ y. y.place) (get_or_any x.bytes.items k no_byte b hk ∙ sym isb)
