-- A write through a chain.
use Rattle.std.proofs.Common.{ℕ, ◌+◌, ◌≡◌, ◌<◌, refl, sym, ◌∙◌, subst, arith, ⊎_elim}
use Rattle.std.specs.Prelude.{◌≢◌, Bool, true, false}
use Rattle.storage_model.specs.declared.cell.View.{View}
use Rattle.storage_model.specs.declared.cell.View.TheVariants.{Home, Loan}
use Rattle.storage_model.specs.declared.cell.Place.{Place}
use Rattle.storage_model.specs.Storage.{at, Storage, places, by_view, On, Here, Below, IsHome, cell_at, has_cells, Good, with_written}
use Rattle.storage_model.specs.declared.cell.Cell.{Cell}
use Rattle.storage_model.specs.declared.cell.Cell.TheVariants.{Undefined}
use Rattle.storage_relation.specs.Relation.{Readable, Writable, PutCell, SetWritten}
use Rattle.storage_relation.specs.Flat.{IsStorage, Shows, Placement, Stands, Known, address}
use Rattle.storage_model.proofs.Chains.{alone, lower, below, place_at, on_trans, linear, home_of, one_home, place_or}
use Rattle.storage_relation.proofs.Alone.{open_of, within_of, good_loan, good_chain, opened_if}
use Rattle.storage_relation.proofs.Root.{at_region, at_one, bool_or}
use Rattle.storage_relation.proofs.Alone.{not_both}

module _ (s : Storage) (f : Placement) (memory after : ℕ → ℕ) (shows : Shows s f memory)
    (p : Place) (good : Good s p) (may : Writable s p) (c : Cell) (known : Known s.made s.opened c)
    (cells : ℕ → ℕ → Cell) (puts : PutCell s p c cells) (marks : ℕ → ℕ → Bool) (sets : SetWritten s p marks)
    (there : Stands f c (after (address f p))) (rest : (a : ℕ) → a ≢ address f p → after a ≡ memory a) where
  writable : (l k : ℕ) → On (places s) p (at (Loan l) k) → (s.loan l).writable ≡ true
  writable l k a = may.views (at (Loan l) k) a

  laws' : IsStorage (with_written s cells marks)
  laws' = let laws = shows.laws in record {
    older = laws.older;
    to_open = laws.to_open;
    to_make = laws.to_make;
    grounded = λ l k o b. let g = laws.grounded l k o b in record { live = g.live; within = g.within };
    by_writable = λ l k m. ⊎_elim (λ w. laws.by_writable l k w) (λ a. writable l k a) (sets.only l k m);
    downward = λ l k m x e. ⊎_elim
        (λ w. sets.kept m (places s l k).offset (laws.downward l k m w e))
        (λ a. sets.chain m (places s l k).offset
        (on_trans (places s) a (Below l refl (subst (λ x. On (places s) (places s l k) x) (place_at e) Here))))
        (sets.only l k x);
    covering = λ l k m n o b x o' b' lt meets. ⊎_elim
        (λ w. laws.covering l k m n o b w o' b' lt meets)
        (λ a. let t = may.beside.through m n o' b' tt
        (record { home = meets.home; is_home = meets.is_home; left = on_trans (places s) a meets.left; right = meets.right }) in
        ⊎_elim (λ d. d)
        (λ d. ⊎_elim (λ same. subst (λ y. On (places s) (at (Loan l) k) y) same Here)
        (λ on. let low = lower (places s) shows.laws.older m n l k on in absurd (omega arith))
        (below (places s) m refl d))
        (linear (places s) a t))
        (sets.only l k x);
    marked = λ l k m. ⊎_elim (λ w. laws.marked l k w)
        (λ a. opened_if s laws l (good_chain s laws good a).live)
        (sets.only l k m);
    plain = laws.plain;
    blank = λ o i d. puts.rest o i (λ on. not_both (has_cells (s.object o).kind) (may.memory (at (Home o) i) on) d) ∙ laws.blank o i d;
    known = λ o i. let h = home_of (places s) laws.older p in ⊎_elim
        (λ e. subst (λ x. Known s.made s.opened x) (sym (puts.put o i (subst (λ x. On (places s) p x) e h.2))) known)
        (λ ne. subst (λ x. Known s.made s.opened x) (sym (puts.rest o i (λ a. ne (one_home (places s) h.2 a h.1 tt)))) (laws.known o i))
        (place_or h.0 (at (Home o) i));
  }

  cell_put : (v : View) (k : ℕ) → IsHome v → On (places s) p (at v k) → by_view (λ o. cells o k) (λ l. Undefined) v ≡ c
  cell_put (Home o) k i a = puts.put o k a
  cell_put (Loan l) k i a = absurd i

  cell_rest : (v : View) (k : ℕ) → (On (places s) p (at v k) → ⊥) → by_view (λ o. cells o k) (λ l. Undefined) v ≡ by_view (λ o. (s.object o).cells k) (λ l. Undefined) v
  cell_rest (Home o) k away = puts.rest o k away
  cell_rest (Loan l) k away = refl

  cells' : (q h : Place) → Good s q → Readable (with_written s cells marks) q → IsHome h.view → On (places s) q h
      → Stands f (cell_at (with_written s cells marks) h) (after (address f q))
  cells' q h g r i a =
      let hp = home_of (places s) shows.laws.older p in ⊎_elim
      (λ e. let a' = subst (λ x. On (places s) q x) e a in
      let one : q ≡ p = alone (places s) shows.laws.older hp.1 a' hp.2
      (λ l e'. may.beside.through l q.offset (open_of s shows.laws l g e') (within_of s shows.laws l g e') tt
      (record { home = hp.0; is_home = hp.1; left = hp.2; right = subst (λ x. On (places s) x hp.0) (place_at e') a' }))
      (λ l e'. r.through l p.offset (open_of s shows.laws l good e') (within_of s shows.laws l good e')
      (sets.chain l p.offset (subst (λ x. On (places s) p x) (place_at e') Here))
      (record { home = hp.0; is_home = hp.1; left = a'; right = subst (λ x. On (places s) x hp.0) (place_at e') hp.2 })) in
      subst (λ x. Stands f x (after (address f q))) (sym (cell_put h.view h.offset i (subst (λ x. On (places s) p x) (sym e) hp.2)))
      (subst (λ x. Stands f c (after (address f x))) (sym one) there))
      (λ ne.
      let readable : Readable s q = record { through = λ l k o b w meets. r.through l k o b (sets.kept l k w) meets } in
      let same = rest (address f q) (λ e.
      let meets = at_one s f memory shows q p g good e in
      ne (one_home (places s) a meets.left i meets.is_home ∙ sym (one_home (places s) hp.2 meets.right hp.1 meets.is_home))) in
      subst (λ x. Stands f x (after (address f q))) (sym (cell_rest h.view h.offset (λ d. ne (one_home (places s) d hp.2 i hp.1))))
      (subst (λ x. Stands f (cell_at s h) x) (sym same) (shows.cells q h g readable i a)))
      (place_or h hp.0)

  unwritten' : (l k : ℕ) → (s.loan l).is_open ≡ true → f.copied l ≡ true → k < (s.loan l).bytes → marks l k ≡ false
      → after (f.start (Loan l) + k) ≡ after (address f (places s l k))
  unwritten' l k o cp b m =
      let g = good_loan s shows.laws l k o b in
      let g' = shows.laws.grounded l k o b in
      let before : (s.loan l).written k ≡ false = ⊎_elim (λ w. absurd (not_both (marks l k) (sets.kept l k w) m)) (λ w. w) (bool_or ((s.loan l).written k)) in
      rest (f.start (Loan l) + k)
      (λ e. not_both (marks l k) (sets.chain l k (at_region s f memory shows p (at (Loan l) k) good g cp (sym e))) m)
      ∙ shows.unwritten l k o cp b before
      ∙ sym (rest (address f (places s l k))
      (λ e. let meets = at_one s f memory shows (places s l k) p g' good e in
      let t = may.beside.through l k o b tt
      (record { home = meets.home; is_home = meets.is_home; left = meets.right; right = Below l refl meets.left }) in
      not_both (marks l k) (sets.chain l k t) m))

  pub write_keeps : Shows (with_written s cells marks) f after
  write_keeps = record {
    laws = laws';
    aligned = shows.aligned;
    apart = shows.apart;
    passed = shows.passed;
    begins = shows.begins;
    cells = λ q h g. cells' q h (record { live = g.live; within = g.within });
    unwritten = unwritten';
    fields = λ o i a d b.
        rest (f.start (Home o) + i) (λ e.
        let on = at_region s f memory shows p (at (Home o) i) good (record { live = a; within = b }) tt (sym e) in
        not_both (has_cells (s.object o).kind) (may.memory (at (Home o) i) on) d)
        ∙ shows.fields o i a d b;
  }
