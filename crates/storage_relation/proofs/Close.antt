-- Closing by what the code does: nothing for a passed or a read-only loan, else a scatter of all bytes.
use Rattle.std.proofs.Common.{ℕ, ◌+◌, ◌≡◌, refl, sym, ap, inl, inr, arith, ⊎_elim}
use Rattle.std.specs.Prelude.{◌⊎◌, Bool, true, false}
use Rattle.storage_model.specs.declared.cell.View.TheVariants.{Loan}
use Rattle.storage_model.specs.Storage.{at, Storage, places, Below, with_open}
use Rattle.storage_relation.specs.Relation.{Written, Closes, IsLast}
use Rattle.storage_relation.specs.Flat.{Shows, Placement, address, copy, closing}
use Rattle.storage_model.proofs.Chains.{lower, below}
use Rattle.storage_relation.proofs.Alone.{good_loan, not_both}
use Rattle.storage_relation.proofs.Root.{at_region, at_one, bool_or}
use Rattle.storage_relation.proofs.Copy.{Arrives, copy_arrives}
use Rattle.storage_relation.proofs.Closing.{shows'}

module _ (s : Storage) (f : Placement) (memory : ℕ → ℕ) (shows : Shows s f memory) (n : ℕ) (is_last : IsLast s n) where
  written_or : (k : ℕ) → Written s n k ⊎ (Written s n k → ⊥)
  written_or k = ⊎_elim inl (λ w. inr (λ x. not_both ((s.loan n).written k) x w)) (bool_or ((s.loan n).written k))

  scatter : f.copied n ≡ true → Arrives (λ k. f.start (Loan n) + k) (λ k. address f (places s n k)) (s.loan n).bytes (Written s n) memory
      (copy (λ k. f.start (Loan n) + k) (λ k. address f (places s n k)) (s.loan n).bytes memory)
  scatter c = copy_arrives _ _ (s.loan n).bytes (Written s n) memory written_or
      (λ k b no. shows.unwritten n k is_last.is_open c b (⊎_elim (λ w. absurd (no w)) (λ w. w) (bool_or ((s.loan n).written k))))
      (λ j k bj bk w e.
      let good_j = shows.laws.grounded n j is_last.is_open bj in
      let good_k = shows.laws.grounded n k is_last.is_open bk in
      let meets = at_one s f memory shows (places s n j) (places s n k) good_j good_k e in
      let there = shows.laws.covering n k n j is_last.is_open bk w is_last.is_open bj (omega arith)
      (record { home = meets.home; is_home = meets.is_home; left = Below n refl meets.right; right = Below n refl meets.left }) in
      ⊎_elim (λ same. ap (λ x. x.offset) same) (λ on. let lt = lower (places s) shows.laws.older n k n j on in absurd (omega arith)) (below (places s) n refl there))
      (λ j k bj bk e.
      let good_k = shows.laws.grounded n k is_last.is_open bk in
      let on = at_region s f memory shows (places s n k) (at (Loan n) j) good_k (good_loan s shows.laws n j is_last.is_open bj) c (sym e) in
      let lt = lower (places s) shows.laws.older n k n j on in omega arith)
      (s.loan n).bytes (omega arith)

  arrives : Arrives (λ k. f.start (Loan n) + k) (λ k. address f (places s n k)) (s.loan n).bytes (Written s n) memory (closing s f n memory)
  arrives = go (f.copied n) (s.loan n).writable refl refl
    where
      go : (c w : Bool) → f.copied n ≡ c → (s.loan n).writable ≡ w
          → Arrives (λ k. f.start (Loan n) + k) (λ k. address f (places s n k)) (s.loan n).bytes (Written s n) memory (closing s f n memory)
      go false w e i = rw e (record { rest = λ a no. refl; there = λ k b x. ap memory (sym (shows.passed n k is_last.is_open e b)) })
      go true false e i = rw e (rw i (record { rest = λ a no. refl; there = λ k b x. absurd (not_both (s.loan n).writable (shows.laws.by_writable n k x) i) }))
      go true true e i = rw e (rw i (scatter e))

  pub close_keeps : (flags : ℕ → Bool) → Closes s n flags → Shows (with_open s flags) f (closing s f n memory)
  close_keeps flags closes = shows' s f memory (closing s f n memory) shows n is_last flags closes arrives
