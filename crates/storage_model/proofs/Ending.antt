-- The end of an object that no open loan covers.
use Rattle.std.proofs.Common.{ℕ, ◌≡◌, ◌<◌, ◌^◌, refl, sym, ◌∙◌, ap, subst, arith, ⊎_elim, List, length, get_or, set}
use Rattle.std.specs.Prelude.{◌≢◌, true, false, not, ◌==◌, ◌&&◌, ltb, if◌then◌else◌}
use Rattle.std.specs.Global.{Vec}
use Rattle.std.specs.List.{list_any}
use Rattle.std.proofs.lemmas.List.{length-set}
use Rattle.std.proofs.lemmas.Bool.{eq-eqb, ne_eqb, cond-true, cond-false, and_from, lt-ltb, both_ways, not_from_true, not_from_false}
use Rattle.storage_model.specs.declared.cell.View.{View}
use Rattle.storage_model.specs.declared.cell.View.TheVariants.{Home, Loan}
use Rattle.storage_model.specs.declared.held.HeldObject.{HeldObject}
use Rattle.storage_model.specs.declared.held.HeldLoan.{HeldLoan}
use Rattle.storage_model.specs.declared.held.Cover.{Cover}
use Rattle.storage_model.specs.Storage.{Storage, Object, at, places, is_live, size_of, has_cells}
use Rattle.storage_model.specs.Laws.{IsSound}
use Rattle.storage_model.specs.Chain.{same_place, each_below, home_of, is_open_byte, covers, passes, is_beside, none_beside, any_mark}
use Rattle.storage_model.specs.Ends.{end_one}
use Rattle.storage_model.specs.Held.{IsHeld, facts, nth_object, object_of, cell_count, in_stack, stack_at}
use Rattle.storage_model.specs.Reach.{IsUncovered}
use Rattle.storage_model.proofs.Chains.{nat_or, place_at}
use Rattle.storage_model.proofs.Nth.{nth_object_at}
use Rattle.storage_model.proofs.Meanings.{each_at, place_iff}
use Rattle.storage_model.proofs.Grounds.{good_loan, opened_if, chain_home, home_loan}
use Rattle.storage_model.proofs.Updates.{set_object_here, set_object_else, got_here, got_else}

module _ (s : Storage) (laws : IsSound s) (n : ℕ) where
  -- where no open loan is beside a write to one of its bytes, none stands on the object
  pub uncovered_from : each_below (λ i. none_beside s any_mark (at (Home n) i)) (s.object n).size ≡ true → IsUncovered s n
  uncovered_from all = record { apart = apart }
    where
      apart : (l k : ℕ) → (s.loan l).is_open ≡ true → k < (s.loan l).bytes → (places s l k).view ≢ Home n
      apart l k o b e =
          let q = places s l k in
          let g = laws.grounded l k o b in
          let within : q.offset < (s.object n).size = subst (λ v. q.offset < size_of s v) e g.within in
          let p = at (Home n) q.offset in
          let at_i = each_at (λ i. none_beside s any_mark (at (Home n) i)) (s.object n).size q.offset all within in
          let at_l = each_at (λ l. each_below (λ k. not (true && is_beside s p l k)) (s.loan l).bytes) s.opened l at_i (opened_if s laws l o) in
          let at_k = each_at (λ k. not (true && is_beside s p l k)) (s.loan l).bytes k at_l b in
          let good = good_loan s laws l k o b in
          let over : home_of s (at (Loan l) k) ≡ home_of s p =
          home_loan s laws (at (Loan l) k) l good refl ∙ ap (home_of s) (place_at e) in
          let through : passes s p l k ≡ false = ap (list_any (same_place (at (Loan l) k))) (chain_home s laws p tt) in
          let beside : is_beside s p l k ≡ true = and_from (is_open_byte s l k) (covers s l k p && not (passes s p l k))
          (and_from (s.loan l).is_open (ltb k (s.loan l).bytes) o (lt-ltb k (s.loan l).bytes b))
          (and_from (covers s l k p) (not (passes s p l k)) (place_iff (home_of s (at (Loan l) k)) (home_of s p) over) (not_from_false (passes s p l k) through)) in
          both_ways (not (is_beside s p l k)) (not_from_true (is_beside s p l k) beside) at_k

  module _ (apart : IsUncovered s n) where
    ended_else : (v : View) → v ≢ Home n → is_live s v ≡ true → is_live (end_one s n) v ≡ true
    ended_else (Home o) ne h = cond-false (o == n) false (s.object o).alive (ne_eqb o n (λ e. ne (ap Home e))) ∙ h
    ended_else (Loan l) ne h = h

    pub sound_end : IsSound (end_one s n)
    sound_end = record {
      older = laws.older;
      to_open = laws.to_open;
      to_make = λ o h. ⊎_elim
          (λ e. cond-true (o == n) false (s.object o).alive (eq-eqb o n e))
          (λ ne. cond-false (o == n) false (s.object o).alive (ne_eqb o n ne) ∙ laws.to_make o h)
          (nat_or o n);
      grounded = λ l k o b. let g = laws.grounded l k o b in record { live = ended_else (places s l k).view (apart.apart l k o b) g.live; within = g.within };
      plain = laws.plain;
    }

module _ (objects : List HeldObject) (o : ℕ) (x x' : HeldObject) (ho : o < length objects) (is : x ≡ get_or objects o x)
    (ec : x'.cells ≡ x.cells) (es : x'.size ≡ x.size) (ea : x'.alive ≡ false) (ek : x'.kind ≡ x.kind) where
  ended : ℕ → Object → Object
  ended p y = record y { alive = if p == o then false else y.alive }

  end_at : (p : ℕ) → nth_object (set objects o x') p ≡ ended p (nth_object objects p)
  unfolding ended
  end_at p = ⊎_elim
      (λ e. subst (λ n. nth_object (set objects o x') n ≡ ended n (nth_object objects n)) (sym e)
      (set_object_here objects o x' ho
      ∙ (λ i. record (object_of x) { size = es i; alive = (ea ∙ sym (cond-true (o == o) false x.alive (eq-eqb o o refl))) i; kind = ek i; cells = (λ j. (ap (λ c. (object_of (record x { cells = c })).cells j) ec) i) })
      ∙ ap (ended o) (sym (nth_object_at objects o x ho is))))
      (λ ne. set_object_else objects o x' p ne
      ∙ (λ i. record (nth_object objects p) { alive = (sym (cond-false (p == o) false (nth_object objects p).alive (ne_eqb p o ne))) i }))
      (nat_or p o)

  pub end_facts : (loans : List HeldLoan) → facts (set objects o x') loans ≡ end_one (facts objects loans) o
  unfolding ended
  end_facts loans = λ i. record (facts objects loans) { made = length-set objects o x' i; object = λ p. end_at p i }

  pub held_end : (loans : List HeldLoan) (covers : List (Vec (Vec Cover))) → IsUncovered (facts objects loans) o → IsHeld objects loans covers → IsHeld (set objects o x') loans covers
  held_end loans covers apart held =
      let e = end_facts loans in
      let lens = length-set objects o x' in
      record {
        sound = subst IsSound (sym e) (sound_end (facts objects loans) held.sound o apart);
        sized = λ p y hp isy. ⊎_elim
            (λ e'. let at_o : y ≡ x' = isy ∙ ap (λ n. get_or (set objects o x') n y) e' ∙ got_here objects o x' y ho in
            ap (λ z. length z.cells.items) at_o ∙ ap (λ c. length c.items) ec ∙ held.sized o x ho is ∙ sym (count) ∙ sym (ap cell_count at_o))
            (λ ne. held.sized p y (omega (arith, hp, lens)) (isy ∙ got_else objects o x' y p ne))
            (nat_or p o);
        small = subst (λ t. (v : View) → size_of t v < 2 ^ 63) (sym e) held.small;
        parallel = (let p = held.parallel in omega (arith, p, lens));
        listed = subst (λ t. (l k : ℕ) → (t.loan l).is_open ≡ true → k < (t.loan l).bytes → in_stack l k (stack_at covers (home_of t (at (Loan l) k))) ≡ true) (sym e) held.listed;
      }
    where
      count : cell_count x' ≡ cell_count x
      count = ap (λ n. if has_cells x'.kind then n else 0) es ∙ ap (λ k. if has_cells k then x.size else 0) ek
