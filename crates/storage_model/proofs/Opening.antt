-- One more loan.
use Rattle.std.proofs.Common.{ℕ, zero, suc, ◌≡◌, ◌≤◌, ◌<◌, ◌^◌, refl, sym, ◌∙◌, ap, subst, arith, ⊎_elim, List, [], ◌∷◌, ◌++◌, length, get_or}
use Rattle.std.specs.Prelude.{◌≢◌, ◌⊎◌, Bool, true, false, ◌==◌, ltb, if◌then◌else◌, map, ℤ, pos, negsuc}
use Rattle.std.specs.List.{list_all}
use Rattle.std.specs.Global.{Vec}
use Rattle.std.proofs.lemmas.Bool.{eq-eqb, ne_eqb, cond-true, cond-false, and_parts, ltb-true}
use Rattle.storage_model.specs.declared.cell.View.{View}
use Rattle.storage_model.specs.declared.cell.View.TheVariants.{Home, Loan}
use Rattle.storage_model.specs.declared.cell.Place.{Place}
use Rattle.storage_model.specs.declared.cell.Spot.{Spot}
use Rattle.storage_model.specs.declared.held.HeldObject.{HeldObject}
use Rattle.storage_model.specs.declared.held.HeldLoan.{HeldLoan}
use Rattle.storage_model.specs.declared.held.Cover.{Cover}
use Rattle.storage_model.specs.declared.held.LoanByte.{LoanByte}
use Rattle.storage_model.specs.Storage.{Storage, Lending, at, by_view, places, is_memory, size_of, is_live, Good, IsHome, outside}
use Rattle.storage_model.specs.declared.cell.Did.{Did}
use Rattle.storage_model.specs.declared.cell.Did.TheVariants.{Done, Violation, Memory}
use Rattle.storage_model.specs.Answers.{IfDone}
use Rattle.storage_model.specs.Laws.{IsSound}
use Rattle.storage_model.specs.Chain.{home, home_of}
use Rattle.storage_model.specs.Access.{by_offset}
use Rattle.storage_model.specs.Loans.{spot_in_range, place_of, new_loan, open_one}
use Rattle.storage_model.specs.Held.{IsHeld, facts, nth_loan, loan_of, no_byte, stack_at, in_stack}
use Rattle.storage_model.specs.Listings.{PlacesGood, PlacesListed, fresh_byte, lent}
use Rattle.storage_model.proofs.Chains.{nat_or, loan_no_home}
use Rattle.storage_model.proofs.Meanings.{home_enough}
use Rattle.storage_model.proofs.Grounds.{not_both, bound, home_loan}
use Rattle.storage_model.proofs.Steps.{get_or_past}

pub push_loan_here : (xs : List HeldLoan) (x : HeldLoan) → nth_loan (xs ++ x ∷ []) (length xs) ≡ loan_of x
push_loan_here [] x = refl
push_loan_here (y ∷ ys) x = push_loan_here ys x

pub push_loan_else : (xs : List HeldLoan) (x : HeldLoan) (o : ℕ) → o ≢ length xs → nth_loan (xs ++ x ∷ []) o ≡ nth_loan xs o
push_loan_else [] x zero ne = absurd (ne refl)
push_loan_else [] x (suc o) ne = refl
push_loan_else (y ∷ ys) x zero ne = refl
push_loan_else (y ∷ ys) x (suc o) ne = push_loan_else ys x o (λ e. ne (omega (arith, e)))

length_pushed : {A : Type 0} (xs : List A) (x : A) → length (xs ++ x ∷ []) ≡ suc (length xs)
length_pushed [] x = refl
length_pushed (y ∷ ys) x = ap suc (length_pushed ys x)

pub push_loan_at : (xs : List HeldLoan) (x : HeldLoan) (l : ℕ) → nth_loan (xs ++ x ∷ []) l ≡ (if l == length xs then loan_of x else nth_loan xs l)
push_loan_at xs x l = ⊎_elim
    (λ e. ap (nth_loan (xs ++ x ∷ [])) e ∙ push_loan_here xs x ∙ sym (cond-true (l == length xs) (loan_of x) (nth_loan xs l) (eq-eqb l (length xs) e)))
    (λ ne. push_loan_else xs x l ne ∙ sym (cond-false (l == length xs) (loan_of x) (nth_loan xs l) (ne_eqb l (length xs) ne)))
    (nat_or l (length xs))

pub open_facts : (objects : List HeldObject) (xs : List HeldLoan) (x : HeldLoan) → facts objects (xs ++ x ∷ []) ≡ open_one (facts objects xs) (loan_of x)
open_facts objects xs x = λ i. record (facts objects xs) { opened = length_pushed xs x i; loan = λ l. push_loan_at xs x l i }

-- what a new loan is like
pub record MayLend (s : Storage) (new : Lending) : Type 0 where
  pub good : (k : ℕ) → k < new.bytes → Good s (new.place k)
  pub plain : (k : ℕ) → k < new.bytes → is_memory s (new.place k) ≡ true
  pub beyond : (k : ℕ) → new.bytes ≤ k → IsHome (new.place k).view

module _ (s : Storage) (laws : IsSound s) (new : Lending) (may : MayLend s new) where
  loan_new : (l : ℕ) → l ≡ s.opened → (if l == s.opened then new else s.loan l) ≡ new
  loan_new l e = cond-true (l == s.opened) new (s.loan l) (eq-eqb l s.opened e)

  loan_old : (l : ℕ) → l ≢ s.opened → (if l == s.opened then new else s.loan l) ≡ s.loan l
  loan_old l ne = cond-false (l == s.opened) new (s.loan l) (ne_eqb l s.opened ne)

  -- what holds of the new loan and of the old ones
  by_loan : (P : ℕ → Lending → Type 0) → P s.opened new → ((l : ℕ) → l ≢ s.opened → P l (s.loan l)) → (l : ℕ) → P l (if l == s.opened then new else s.loan l)
  by_loan P a b l = ⊎_elim
      (λ e. subst (λ x. P x (if x == s.opened then new else s.loan x)) (sym e) (subst (P s.opened) (sym (loan_new s.opened refl)) a))
      (λ ne. subst (P l) (sym (loan_old l ne)) (b l ne))
      (nat_or l s.opened)

  not_new : (l : ℕ) → (s.loan l).is_open ≡ true → l ≢ s.opened
  not_new l h e = not_both (s.loan l).is_open h (laws.to_open l (omega (arith, e)))

  pub good_open : (p : Place) → Good s p → Good (open_one s new) p
  good_open p g = go p.view p.offset g.live g.within
    where
      go : (v : View) (k : ℕ) → is_live s v ≡ true → k < size_of s v → Good (open_one s new) (at v k)
      go (Home o) k live within = record { live = live; within = within }
      go (Loan l) k live within = let e = loan_old l (not_new l live) in
          record { live = ap (λ x. x.is_open) e ∙ live; within = subst (λ x. k < x.bytes) (sym e) within }

  place_older : (k m : ℕ) → (new.place k).view ≡ Loan m → m < s.opened
  place_older k m e = ⊎_elim
      (λ lt. bound s laws (may.good k lt) m e)
      (λ le. absurd (loan_no_home m e (may.beyond k le)))
      (split k new.bytes)
    where
      split : (a b : ℕ) → (a < b) ⊎ (b ≤ a)
      split a b = grind arith

  pub older_open : (l k m : ℕ) → (places (open_one s new) l k).view ≡ Loan m → m < l
  older_open l k = by_loan (λ l x. (m : ℕ) → (x.place k).view ≡ Loan m → m < l) (λ m e. place_older k m e) (λ l ne m e. laws.older l k m e) l

  pub sound_open : IsSound (open_one s new)
  sound_open = record {
    older = older_open;
    to_open = λ l h. let ne : l ≢ s.opened = λ e. absurd (omega (arith, e, h)) in ap (λ x. x.is_open) (loan_old l ne) ∙ laws.to_open l (omega arith);
    to_make = laws.to_make;
    grounded = λ l k. by_loan (λ l x. x.is_open ≡ true → k < x.bytes → Good (open_one s new) (x.place k))
        (λ o b. good_open (new.place k) (may.good k b)) (λ l ne o b. good_open (places s l k) (laws.grounded l k o b)) l;
    plain = λ l k. by_loan (λ l x. x.is_open ≡ true → k < x.bytes → is_memory s (x.place k) ≡ true)
        (λ o b. may.plain k b) (λ l ne o b. laws.plain l k o b) l;
  }

  -- old chains end where they did
  home_same : (n : ℕ) (p : Place) → ((l : ℕ) → p.view ≡ Loan l → l < s.opened) → home (places (open_one s new)) n p ≡ home (places s) n p
  home_same zero p b = refl
  home_same (suc n) p b = go (home_same n) p.view refl
    where
      go : ((q : Place) → ((l : ℕ) → q.view ≡ Loan l → l < s.opened) → home (places (open_one s new)) n q ≡ home (places s) n q)
          → (v : View) → p.view ≡ v → by_view (λ o. p) (λ l. home (places (open_one s new)) n (places (open_one s new) l p.offset)) v ≡ by_view (λ o. p) (λ l. home (places s) n (places s l p.offset)) v
      go ih (Home o) e = refl
      go ih (Loan l) e =
          let lt = b l e in
          let ne : l ≢ s.opened = λ f. absurd (omega (arith, f, lt)) in
          ap (λ x. home (places (open_one s new)) n (x.place p.offset)) (loan_old l ne)
          ∙ ih (places s l p.offset) (λ m f. let i = laws.older l p.offset m f in omega (arith, i, lt))

  pub home_old : (p : Place) → Good s p → home_of (open_one s new) p ≡ home_of s p
  home_old p g =
      home_enough (places (open_one s new)) older_open (suc s.opened) s.opened p (λ l e. let h = bound s laws g l e in omega (arith, h)) (bound s laws g)
      ∙ home_same s.opened p (bound s laws g)

  home_new : new.is_open ≡ true → (k : ℕ) → k < new.bytes → home_of (open_one s new) (at (Loan s.opened) k) ≡ home_of s (new.place k)
  home_new o k h =
      let g : Good (open_one s new) (at (Loan s.opened) k) = record {
        live = ap (λ x. x.is_open) (loan_new s.opened refl) ∙ o;
        within = subst (λ x. k < x.bytes) (sym (loan_new s.opened refl)) h;
      } in
      home_loan (open_one s new) sound_open (at (Loan s.opened) k) s.opened g refl
      ∙ ap (λ x. home_of (open_one s new) (x.place k)) (loan_new s.opened refl)
      ∙ home_old (new.place k) (may.good k h)

  pub listed_open : (covers : List (Vec (Vec Cover))) → new.is_open ≡ true
      → ((l k : ℕ) → (s.loan l).is_open ≡ true → k < (s.loan l).bytes → in_stack l k (stack_at covers (home_of s (at (Loan l) k))) ≡ true)
      → ((k : ℕ) → k < new.bytes → in_stack s.opened k (stack_at covers (home_of s (new.place k))) ≡ true)
      → (l k : ℕ) → ((open_one s new).loan l).is_open ≡ true → k < ((open_one s new).loan l).bytes
      → in_stack l k (stack_at covers (home_of (open_one s new) (at (Loan l) k))) ≡ true
  listed_open covers opens old fresh l k = by_loan
      (λ l x. x.is_open ≡ true → k < x.bytes → in_stack l k (stack_at covers (home_of (open_one s new) (at (Loan l) k))) ≡ true)
      (λ o b. subst (λ h. in_stack s.opened k (stack_at covers h) ≡ true) (sym (home_new opens k b)) (fresh k b))
      (λ l ne o b. subst (λ h. in_stack l k (stack_at covers h) ≡ true) (sym (home_old (at (Loan l) k) (record { live = o; within = b }))) (old l k o b))
      l

  pub small_open : new.bytes < 2 ^ 63 → ((v : View) → size_of s v < 2 ^ 63) → (v : View) → size_of (open_one s new) v < 2 ^ 63
  small_open h small (Home o) = small (Home o)
  small_open h small (Loan l) = by_loan (λ l x. x.bytes < 2 ^ 63) h (λ l ne. small (Loan l)) l

module _ (objects : List HeldObject) (loans : List HeldLoan) (covers : List (Vec (Vec Cover))) (x : HeldLoan) (held : IsHeld objects loans covers)
    (opens : x.is_open ≡ true) (good : PlacesGood (facts objects loans) x.bytes.items)
    (fresh : PlacesListed (facts objects loans) covers (length loans) x.bytes.items (length x.bytes.items)) (small : length x.bytes.items < 2 ^ 63) where
  may : MayLend (facts objects loans) (loan_of x)
  may = record {
    good = good.good;
    plain = good.plain;
    beyond = λ k h. subst (λ b. IsHome b.place.view) (sym (get_or_past x.bytes.items k no_byte h)) tt;
  }

  pub held_open : IsHeld objects (loans ++ x ∷ []) covers
  held_open =
      let e = open_facts objects loans x in
      let s = facts objects loans in
      record {
        sound = subst IsSound (sym e) (sound_open s held.sound (loan_of x) may);
        sized = held.sized;
        small = subst (λ t. (v : View) → size_of t v < 2 ^ 63) (sym e) (small_open s held.sound (loan_of x) may small held.small);
        parallel = held.parallel;
        listed = subst (λ t. (l k : ℕ) → (t.loan l).is_open ≡ true → k < (t.loan l).bytes → in_stack l k (stack_at covers (home_of t (at (Loan l) k))) ≡ true) (sym e)
            (listed_open s held.sound (loan_of x) may covers opens held.listed fresh.listed);
      }

-- the bytes of a new loan, and its places
fresh_place : (spots : List Spot) (k : ℕ) → (get_or (map fresh_byte spots) k no_byte).place ≡ get_or (map place_of spots) k outside
fresh_place [] k = refl
fresh_place (p ∷ ps) zero = refl
fresh_place (p ∷ ps) (suc k) = fresh_place ps k

fresh_written : (spots : List Spot) (k : ℕ) → (get_or (map fresh_byte spots) k no_byte).written ≡ false
fresh_written [] k = refl
fresh_written (p ∷ ps) zero = refl
fresh_written (p ∷ ps) (suc k) = fresh_written ps k

fresh_read : (spots : List Spot) (k : ℕ) → (get_or (map fresh_byte spots) k no_byte).read ≡ false
fresh_read [] k = refl
fresh_read (p ∷ ps) zero = refl
fresh_read (p ∷ ps) (suc k) = fresh_read ps k

fresh_count : (spots : List Spot) → length (map fresh_byte spots) ≡ length (map place_of spots)
fresh_count [] = refl
fresh_count (p ∷ ps) = ap suc (fresh_count ps)

pub lent_fresh : (spots : List Spot) (w : Bool) → lent (map fresh_byte spots) w ≡ new_loan (map place_of spots) w
lent_fresh spots w = λ i. record {
  bytes = fresh_count spots i;
  place = λ k. fresh_place spots k i;
  is_open = true;
  writable = w;
  written = λ k. fresh_written spots k i;
  read = λ k. fresh_read spots k i;
}

spot_good : (s : Storage) (p : Spot) → is_live s p.view ≡ true → spot_in_range s p ≡ true → Good s (place_of p)
spot_good s p live within = record { live = live; within = go p.offset within }
  where
    go : (z : ℤ) → by_offset (λ k. ltb k (size_of s p.view)) false z ≡ true → by_offset (λ k. k) zero z < size_of s p.view
    go (pos k) e = ltb-true k (size_of s p.view) e
    go (negsuc k) e = cc

pub spots_good : (s : Storage) (spots : List Spot) → list_all (λ p. is_live s p.view) spots ≡ true → list_all (spot_in_range s) spots ≡ true
    → list_all (λ p. is_memory s (place_of p)) spots ≡ true → PlacesGood s (map fresh_byte spots)
spots_good s spots a b c = record { good = good spots a b; plain = plain spots c }
  where
    good : (spots : List Spot) → list_all (λ p. is_live s p.view) spots ≡ true → list_all (spot_in_range s) spots ≡ true → (k : ℕ) → k < length (map fresh_byte spots) → Good s (get_or (map fresh_byte spots) k no_byte).place
    good [] a b k h = absurd (omega arith)
    good (p ∷ ps) a b zero h = spot_good s p (and_parts (is_live s p.view) _ a).0 (and_parts (spot_in_range s p) _ b).0
    good (p ∷ ps) a b (suc k) h = good ps (and_parts (is_live s p.view) _ a).1 (and_parts (spot_in_range s p) _ b).1 k (omega arith)

    plain : (spots : List Spot) → list_all (λ p. is_memory s (place_of p)) spots ≡ true → (k : ℕ) → k < length (map fresh_byte spots) → is_memory s (get_or (map fresh_byte spots) k no_byte).place ≡ true
    plain [] c k h = absurd (omega arith)
    plain (p ∷ ps) c zero h = (and_parts (is_memory s (place_of p)) _ c).0
    plain (p ∷ ps) c (suc k) h = plain ps (and_parts (is_memory s (place_of p)) _ c).1 k (omega arith)

pub if_done : {A : Type 0} (d : Did A) (P Q : Type 0) → (P → Q) → IfDone d (λ _. P) → IfDone d (λ _. Q)
if_done (Done x) P Q f p = f p
if_done (Violation t) P Q f p = p
if_done Memory P Q f p = p

-- a vector has fewer than 2^63 elements
pub held_small : (v : Vec LoanByte) → length v.items < 2 ^ 63
held_small v = omega (arith, v.ok.0, v.ok.1, v.small)
