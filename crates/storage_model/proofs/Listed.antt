-- The bytes of loans that are listed at a home byte are all that can be beside an access to it.
use Rattle.std.proofs.Common.{ℕ, suc, ◌≡◌, ◌<◌, sym, ◌∙◌, ap, subst, arith, ⊎_elim, List, [], ◌∷◌, length, get_or}
use Rattle.std.specs.Prelude.{Bool, true, false, not, ◌==◌, ◌&&◌, ltb}
use Rattle.std.proofs.lemmas.Bool.{and_parts, or_cases, eqb-true, ltb-true, not_from_true, false_from_ne_true, not_from_false}
use Rattle.storage_model.specs.declared.cell.View.TheVariants.{Loan}
use Rattle.storage_model.specs.declared.cell.Place.{Place}
use Rattle.storage_model.specs.declared.held.Cover.{Cover}
use Rattle.storage_model.specs.declared.storage.Storage.{Storage}
use Rattle.storage_model.specs.Storage as M
use Rattle.storage_model.specs.Storage.{at, Good}
use Rattle.storage_model.specs.Chain.{each_below, home_of, covers, passes, is_open_byte, is_beside, none_beside}
use Rattle.storage_model.specs.Held.{in_stack, stack_at}
use Rattle.storage_model.specs.Model.{model}
use Rattle.storage_model.proofs.Meanings.{each_from, each_fails, place_true}
use Rattle.storage_model.proofs.Steps.{get_or_any}
use Rattle.storage_model.proofs.Grounds.{opened_if}

-- a byte that is listed stands somewhere in the list
pub in_stack_at : (l k : ℕ) (xs : List Cover) → in_stack l k xs ≡ true → (j : ℕ) × (j < length xs) × ((d : Cover) → ((get_or xs j d).loan ≡ l) × ((get_or xs j d).byte ≡ k))
in_stack_at l k [] e = cc
in_stack_at l k (x ∷ xs) e = ⊎_elim
    (λ h. let p = and_parts (x.loan == l) (x.byte == k) h in (0, omega arith, λ d. (eqb-true x.loan l p.0, eqb-true x.byte k p.1)))
    (λ t. let r = in_stack_at l k xs t in (suc r.0, (let i = r.1 in omega arith), r.2))
    (or_cases ((x.loan == l) && (x.byte == k)) (in_stack l k xs) e)

pub open_byte : (s : M.Storage) (l k : ℕ) → is_open_byte s l k ≡ true → ((s.loan l).is_open ≡ true) × (k < (s.loan l).bytes)
open_byte s l k e = let p = and_parts (s.loan l).is_open (ltb k (s.loan l).bytes) e in (p.0, ltb-true k (s.loan l).bytes p.1)

pub good_open_byte : (s : M.Storage) (l k : ℕ) → is_open_byte s l k ≡ true → Good s (at (Loan l) k)
good_open_byte s l k e = let p = open_byte s l k e in record { live = p.0; within = p.1 }

module _ (s : Storage) (from home : Place) (is : home ≡ home_of (model s) from) where
  -- what is beside is listed
  pub beside_listed : (l k : ℕ) → is_beside (model s) from l k ≡ true → in_stack l k (stack_at s.covers.items home) ≡ true
  beside_listed l k e =
      let p = and_parts (is_open_byte (model s) l k) (covers (model s) l k from && not (passes (model s) from l k)) e in
      let o = open_byte (model s) l k p.0 in
      let q = and_parts (covers (model s) l k from) (not (passes (model s) from l k)) p.1 in
      let same = place_true (home_of (model s) (at (Loan l) k)) (home_of (model s) from) q.0 in
      subst (λ h. in_stack l k (stack_at s.covers.items h) ≡ true) (same ∙ sym is) (s.held.listed l k o.0 o.1)

  module _ (marked : ℕ → ℕ → Bool) where
    -- no listed byte is marked and beside: none is
    pub none_listed : (xs : List Cover) → xs ≡ stack_at s.covers.items home
        → ((j : ℕ) (d : Cover) → j < length xs → marked (get_or xs j d).loan (get_or xs j d).byte && is_beside (model s) from (get_or xs j d).loan (get_or xs j d).byte ≡ false)
        → none_beside (model s) marked from ≡ true
    none_listed xs ex h =
        each_from (λ l. each_below (λ k. not (marked l k && is_beside (model s) from l k)) ((model s).loan l).bytes) (model s).opened (λ l lt.
        each_from (λ k. not (marked l k && is_beside (model s) from l k)) ((model s).loan l).bytes (λ k lt'.
        not_from_false (marked l k && is_beside (model s) from l k) (false_from_ne_true (marked l k && is_beside (model s) from l k) (λ t. clash l k t))))
      where
        clash : (l k : ℕ) → marked l k && is_beside (model s) from l k ≡ true → ⊥
        clash l k t =
            let p = and_parts (marked l k) (is_beside (model s) from l k) t in
            let r = in_stack_at l k xs (subst (λ ys. in_stack l k ys ≡ true) (sym ex) (beside_listed l k p.1)) in
            let d : Cover = record { loan = l; byte = k } in
            let c = r.2 d in
            let f = h r.0 d r.1 in
            let e = ap (λ x. marked x (get_or xs r.0 d).byte && is_beside (model s) from x (get_or xs r.0 d).byte) c.0
            ∙ ap (λ y. marked l y && is_beside (model s) from l y) c.1 in
            cc

    -- one that is marked and beside
    pub one_listed : (l k : ℕ) → marked l k && is_beside (model s) from l k ≡ true → none_beside (model s) marked from ≡ false
    one_listed l k t =
        let p = and_parts (marked l k) (is_beside (model s) from l k) t in
        let q = and_parts (is_open_byte (model s) l k) (covers (model s) l k from && not (passes (model s) from l k)) p.1 in
        let o = open_byte (model s) l k q.0 in
        each_fails (λ l. each_below (λ k. not (marked l k && is_beside (model s) from l k)) ((model s).loan l).bytes) (model s).opened l (opened_if (model s) s.held.sound l o.0)
        (each_fails (λ k. not (marked l k && is_beside (model s) from l k)) ((model s).loan l).bytes k o.1 (not_from_true (marked l k && is_beside (model s) from l k) t))

-- a test of two parts, as the code asked it
pub asked : (x y a b r t : Bool) → a ≡ x → b ≡ y → r ≡ a && b → r ≡ t → x && y ≡ t
asked x y a b r t p q e f = ap (λ z. z && y) (sym p) ∙ ap (λ z. a && z) (sym q) ∙ sym e ∙ f

-- the same at any default
pub at_default : (test : Cover → Bool) (xs : List Cover) (k : ℕ) (d e : Cover) (t : Bool) → k < length xs → test (get_or xs k d) ≡ t → test (get_or xs k e) ≡ t
at_default test xs k d e t h p = subst (λ x. test x ≡ t) (get_or_any xs k d e h) p
