-- A change of a descriptor object.
use Rattle.std.proofs.Common.{ℕ, ◌+◌, ◌≡◌, ◌≢◌, ◌≤◌, ◌<◌, refl, sym, ◌∙◌, ap, subst, inl, inr, arith, ⊎_elim}
use Rattle.std.specs.Prelude.{true}
use Rattle.storage_model.specs.declared.cell.View.TheVariants.{Home, Loan}
use Rattle.storage_model.specs.declared.cell.Place.{Place}
use Rattle.storage_model.specs.Storage.{at, Storage, places, by_view, IsHome, size_of, cell_at, is_memory, has_cells, Good}
use Rattle.storage_model.specs.declared.cell.Cell.TheVariants.{Undefined}
use Rattle.storage_relation.specs.Flat.{Shows, Placement, Stands, address, room, Describes}
use Rattle.storage_model.proofs.Chains.{view_or, nat_or, home_chain, home_below}
use Rattle.storage_relation.proofs.Alone.{good_loan, memory_chain, not_both}
use Rattle.storage_relation.proofs.Opening.{stands_later, known_at}
use Rattle.storage_relation.proofs.Root.{root_of, in_room}

module _ (s : Storage) (f : Placement) (memory after : ℕ → ℕ) (shows : Shows s f memory)
    (n : ℕ) (fields : ℕ → ℕ → ℕ) (sets : Describes s f n fields memory after) where
  in_size : (k m : ℕ) → k < m → k < room m
  in_size k m h = omega arith

  -- a byte whose root isn't in the descriptor stays
  away : (p : Place) (good : Good s p) → (root_of s f memory shows p good).root.view ≢ Home n → after (address f p) ≡ memory (address f p)
  away p good ne =
      let r = root_of s f memory shows p good in
      let same = r.same in
      let i = in_room (size_of s r.root.view) r.root.offset r.good.within in
      let big = room_covers (s.object n).size in
      sets.rest (address f p) (⊎_elim (λ h. inl (omega (arith, h, i, same))) (λ h. inr (omega (arith, h, i, same, big)))
      (shows.apart r.root.view (Home n) r.good.live sets.live r.region tt ne))
    where
      room_covers : (m : ℕ) → m ≤ room m
      room_covers m = omega arith

  blank_at : (h : Place) → h.view ≡ Home n → cell_at s h ≡ Undefined
  blank_at h e = subst (λ v. by_view (λ o. (s.object o).cells h.offset) (λ l. Undefined) v ≡ Undefined) (sym e) (shows.laws.blank n h.offset sets.kind)

  loan_away : (l k : ℕ) → (s.loan l).is_open ≡ true → (b : k < (s.loan l).bytes) → (p : Place) → (good : Good s p) → is_memory s p ≡ true
      → after (address f p) ≡ memory (address f p)
  loan_away l k o b p good m = away p good (λ e.
      let r = root_of s f memory shows p good in
      let x = memory_chain s shows.laws good m r.on in
      not_both (has_cells (s.object n).kind) (subst (λ v. by_view (λ o. has_cells (s.object o).kind) (λ l. true) v ≡ true) e x) sets.kind)

  pub describe_keeps : Shows s (record f { fields = fields }) after
  describe_keeps = record {
    laws = shows.laws;
    aligned = shows.aligned;
    apart = shows.apart;
    passed = shows.passed;
    begins = shows.begins;
    cells = λ p h g r i a. ⊎_elim
        (λ e. subst (λ c. Stands (record f { fields = fields }) c (after (address f p))) (sym (blank_at h e)) tt)
        (λ ne.
        let same = away p g (λ e.
        let w = root_of s f memory shows p g in
        ne (ap (λ x. x.view) (sym (home_chain (places s) (subst IsHome (sym e) tt) (home_below (places s) w.on a i))) ∙ e)) in
        stands_later f (record f { fields = fields }) s.made s.opened (λ v m. refl) (λ x. refl) (cell_at s h) (known_at s shows.laws h) (after (address f p))
        (subst (λ x. Stands f (cell_at s h) x) (sym same) (shows.cells p h g r i a)))
        (view_or h.view (Home n));
    unwritten = λ l k o c b w.
        loan_away l k o b (at (Loan l) k) (good_loan s shows.laws l k o b) refl ∙ shows.unwritten l k o c b w
        ∙ sym (loan_away l k o b (places s l k) (shows.laws.grounded l k o b) (shows.laws.plain l k o b));
    fields = λ o i a d b. ⊎_elim
        (λ e. subst (λ x. i < (s.object x).size → after (f.start (Home x) + i) ≡ fields x i) (sym e) (sets.shown i) b)
        (λ ne.
        let good : Good s (at (Home o) i) = record { live = a; within = b } in
        away (at (Home o) i) good (λ e.
        let w = root_of s f memory shows (at (Home o) i) good in
        let x : Home o ≡ Home n = ap (λ y. y.view) (home_chain (places s) tt w.on) ∙ e in
        ne (cc))
        ∙ shows.fields o i a d b ∙ sym (sets.others o i ne))
        (nat_or o n);
  }
