-- Closing a loan.
use Rattle.std.proofs.Common.{ℕ, ◌+◌, ◌≡◌, ◌<◌, refl, sym, ◌∙◌, ap, subst, inl, inr, arith, ⊎_elim}
use Rattle.std.specs.Prelude.{◌≢◌, ◌⊎◌, Bool, true, false}
use Rattle.storage_model.specs.declared.cell.View.{View}
use Rattle.storage_model.specs.declared.cell.View.TheVariants.{Home, Loan}
use Rattle.storage_model.specs.declared.cell.Place.{Place}
use Rattle.storage_model.specs.Storage.{at, Storage, places, On, Below, IsHome, IsLive, size_of, cell_at, has_cells, Good, with_open}
use Rattle.storage_relation.specs.Relation.{Readable, Written, Closes, IsLast}
use Rattle.storage_relation.specs.Flat.{IsStorage, Shows, Placement, Stands, address}
use Rattle.storage_model.proofs.Chains.{alone, loan_no_home, loan_same, place_at, below, home_of, one_home, nat_or, place_or}
use Rattle.storage_relation.proofs.Alone.{good_loan, memory_chain, written_chain, not_both}
use Rattle.storage_relation.proofs.Root.{at_region, at_one, bool_or}
use Rattle.storage_relation.proofs.Copy.{Arrives, find_below}

module _ (s : Storage) (f : Placement) (memory after : ℕ → ℕ) (shows : Shows s f memory)
    (n : ℕ) (is_last : IsLast s n) (flags : ℕ → Bool) (closes : Closes s n flags)
    (arrives : Arrives (λ k. f.start (Loan n) + k) (λ k. address f (places s n k)) (s.loan n).bytes (Written s n) memory after) where
  not_last : (l : ℕ) → flags l ≡ true → l ≢ n
  not_last l o e = not_both (flags n) (subst (λ x. flags x ≡ true) e o) closes.off

  still : (l : ℕ) → flags l ≡ true → (s.loan l).is_open ≡ true
  still l o = sym (closes.rest l (not_last l o)) ∙ o

  live_back : (v : View) → IsLive (with_open s flags) v → IsLive s v
  live_back (Home o) h = h
  live_back (Loan l) h = still l h

  good_back : {p : Place} → Good (with_open s flags) p → Good s p
  good_back {p} g = record { live = live_back p.view g.live; within = g.within }

  -- a good byte below an open loan stays good
  good_on : {p : Place} → ((l : ℕ) → p.view ≡ Loan l → l < n) → Good s p → Good (with_open s flags) p
  good_on {p} h g = record { live = live p.view h g.live; within = g.within }
    where
      live : (v : View) → ((l : ℕ) → v ≡ Loan l → l < n) → IsLive s v → IsLive (with_open s flags) v
      live (Home o) h i = i
      live (Loan l) h i = closes.rest l (let j = h l refl in λ e. omega (arith, e)) ∙ i

  laws' : IsStorage (with_open s flags)
  laws' = let laws = shows.laws in record {
    older = laws.older;
    to_open = λ l h. ⊎_elim (λ e. subst (λ x. flags x ≡ false) (sym e) closes.off) (λ ne. closes.rest l ne ∙ laws.to_open l h) (nat_or l n);
    to_make = laws.to_make;
    grounded = λ l k o i. good_on
        (λ m e. let x = laws.older l k m e in let y = is_last.last l (still l o) in omega arith)
        (laws.grounded l k (still l o) i);
    by_writable = laws.by_writable;
    downward = laws.downward;
    covering = λ l k m j o i w o' i' lt meets. laws.covering l k m j (still l o) i w (still m o') i' lt meets;
    known = laws.known;
    marked = laws.marked;
    plain = λ l k o. laws.plain l k (still l o);
    blank = laws.blank;
  }

  -- a Written byte of the loan can be read
  readable_last : (k : ℕ) → k < (s.loan n).bytes → Written s n k → Readable s (at (Loan n) k)
  readable_last k i w = record {
    through = λ m j o b wm meets. shows.laws.covering n k m j is_last.is_open i w o b (is_last.last m o) meets;
  }

  -- where a Written byte of the loan meets p, p is its place
  place_alone : (p h : Place) → Good (with_open s flags) p → Readable (with_open s flags) p → IsHome h.view → On (places s) p h
      → (k : ℕ) → k < (s.loan n).bytes → Written s n k → On (places s) (at (Loan n) k) h → p ≡ places s n k
  place_alone p h g r i a k b w c =
      let q = places s n k in
      let d : On (places s) q h = ⊎_elim (λ e. absurd (loan_no_home n (ap (λ x. x.view) e) i)) (λ x. x) (below (places s) n refl c) in
      let good_q = shows.laws.grounded n k is_last.is_open b in
      alone (places s) shows.laws.older i a d
      (λ l e. let o : flags l ≡ true = subst (λ v. IsLive (with_open s flags) v) e g.live in
      let ne = not_last l o in
      let in_p = subst (λ v. p.offset < size_of s v) e g.within in
      let there = shows.laws.covering n k l p.offset is_last.is_open b w (still l o) in_p (is_last.last l (still l o))
      (record { home = h; is_home = i; left = c; right = subst (λ x. On (places s) x h) (place_at e) a }) in
      ⊎_elim (λ e'. absurd (ne (loan_same (ap (λ x. x.view) e')))) (λ x. x) (below (places s) n refl there))
      (λ m e. let good = good_on (λ l e'. shows.laws.older n k l e') good_q in
      let o : flags m ≡ true = subst (λ v. IsLive (with_open s flags) v) e good.live in
      let in_q = subst (λ v. q.offset < size_of s v) e good.within in
      r.through m q.offset o in_q (shows.laws.downward n k m w e)
      (record { home = h; is_home = i; left = a; right = subst (λ x. On (places s) x h) (place_at e) d }))

  home_at : ℕ → Place
  home_at k = (home_of (places s) shows.laws.older (at (Loan n) k)).0

  Lies : Place → ℕ → Type 0
  Lies h k = record { marked : Written s n k; ends : home_at k ≡ h }

  lies_or : (h : Place) (k : ℕ) → Lies h k ⊎ (Lies h k → ⊥)
  unfolding Lies
  lies_or h k = ⊎_elim
      (λ w. ⊎_elim (λ e. inl (record { marked = w; ends = e })) (λ ne. inr (λ x. ne x.ends)) (place_or (home_at k) h))
      (λ w. inr (λ x. not_both ((s.loan n).written k) x.marked w))
      (bool_or ((s.loan n).written k))

  ends_at : (k : ℕ) (h : Place) → home_at k ≡ h → On (places s) (at (Loan n) k) h
  unfolding home_at
  ends_at k h e = subst (λ x. On (places s) (at (Loan n) k) x) e (home_of (places s) shows.laws.older (at (Loan n) k)).2

  home_is : (k : ℕ) (h : Place) → IsHome h.view → On (places s) (at (Loan n) k) h → home_at k ≡ h
  unfolding home_at
  home_is k h i c = let x = home_of (places s) shows.laws.older (at (Loan n) k) in one_home (places s) x.2 c x.1 i

  cells' : (p h : Place) → Good (with_open s flags) p → Readable (with_open s flags) p → IsHome h.view → On (places s) p h
      → Stands f (cell_at s h) (after (address f p))
  unfolding Lies
  cells' p h g r i a = ⊎_elim
      (λ (k, b, x).
      let c = ends_at k h x.ends in
      let one = place_alone p h g r i a k b x.marked c in
      let full = shows.cells (at (Loan n) k) h (good_loan s shows.laws n k is_last.is_open b) (readable_last k b x.marked) i c in
      subst (λ x. Stands f (cell_at s h) x) (sym (arrives.there k b x.marked) ∙ ap (λ x. after (address f x)) (sym one)) full)
      (λ none.
      let readable : Readable s p = record {
        through = λ l k o b w meets. ⊎_elim
            (λ e. absurd (none k (subst (λ x. k < (s.loan x).bytes) e b)
            (record {
              marked = subst (λ x. Written s x k) e w;
              ends = home_is k h i (subst (λ x. On (places s) (at (Loan x) k) h) e
                  (subst (λ x. On (places s) (at (Loan l) k) x) (one_home (places s) meets.left a meets.is_home i) meets.right));
            })))
            (λ ne. r.through l k (closes.rest l ne ∙ o) b w meets)
            (nat_or l n);
      } in
      let full = shows.cells p h (good_back g) readable i a in
      let same = arrives.rest (address f p) (λ k b w e.
      let good_q = shows.laws.grounded n k is_last.is_open b in
      let meets = at_one s f memory shows p (places s n k) (good_back g) good_q e in
      none k b (record {
        marked = w;
        ends = home_is k h i (Below n refl
            (subst (λ x. On (places s) (places s n k) x) (one_home (places s) meets.left a meets.is_home i) meets.right));
      })) in
      subst (λ x. Stands f (cell_at s h) x) (sym same) full)
      (find_below (s.loan n).bytes (Lies h) (lies_or h))

  unwritten' : (l k : ℕ) → flags l ≡ true → f.copied l ≡ true → k < (s.loan l).bytes → (s.loan l).written k ≡ false
      → after (f.start (Loan l) + k) ≡ after (address f (places s l k))
  unwritten' l k o c b w =
      let good = good_loan s shows.laws l k (still l o) b in
      let good_p = shows.laws.grounded l k (still l o) b in
      let lt : l < n = let le = is_last.last l (still l o) in let ne = not_last l o in omega arith in
      arrives.rest (f.start (Loan l) + k)
      (λ j bj wj e. let good_q = shows.laws.grounded n j is_last.is_open bj in
      let on = at_region s f memory shows (places s n j) (at (Loan l) k) good_q good c (sym e) in
      not_both ((s.loan l).written k) (written_chain s shows.laws n l refl refl (Below n refl on) wj) w)
      ∙ shows.unwritten l k (still l o) c b w
      ∙ sym (arrives.rest (address f (places s l k))
      (λ j bj wj e. let good_q = shows.laws.grounded n j is_last.is_open bj in
      let meets = at_one s f memory shows (places s l k) (places s n j) good_p good_q e in
      let there = shows.laws.covering n j l k is_last.is_open bj wj (still l o) b (is_last.last l (still l o))
      (record { home = meets.home; is_home = meets.is_home; left = Below n refl meets.right; right = Below l refl meets.left }) in
      not_both ((s.loan l).written k) (written_chain s shows.laws n l refl refl there wj) w))

  pub shows' : Shows (with_open s flags) f after
  shows' = record {
    laws = laws';
    aligned = λ v h r. shows.aligned v (live_back v h) r;
    apart = λ v w h i. shows.apart v w (live_back v h) (live_back w i);
    passed = λ l k o. shows.passed l k (still l o);
    begins = λ v h. shows.begins v (live_back v h);
    cells = cells';
    unwritten = unwritten';
    fields = λ o i a d b.
        arrives.rest (f.start (Home o) + i) (λ k bk w e.
        let good_q = shows.laws.grounded n k is_last.is_open bk in
        let on = at_region s f memory shows (places s n k) (at (Home o) i) good_q (record { live = a; within = b }) tt (sym e) in
        not_both (has_cells (s.object o).kind) (memory_chain s shows.laws good_q (shows.laws.plain n k is_last.is_open bk) on) d)
        ∙ shows.fields o i a d b;
  }
