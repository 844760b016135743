-- Opening by what the code does: nothing for a passed loan, a gather for a copied one.
use Rattle.std.proofs.Common.{ℕ, ◌+◌, ◌≡◌, ◌<◌, refl, ap, inl, arith, ⊎_elim}
use Rattle.storage_model.specs.declared.cell.View.TheVariants.{Loan}
use Rattle.storage_model.specs.declared.cell.Place.{Place}
use Rattle.storage_model.specs.Storage.{Lending, Storage, size_of, Good, with_loan}
use Rattle.storage_relation.specs.Relation.{OpensLoan, MayOpen}
use Rattle.storage_relation.specs.Flat.{Shows, Placement, address, StartsLoan, Passes, Copies, gather}
use Rattle.storage_relation.proofs.Alone.{not_both}
use Rattle.storage_relation.proofs.Root.{root_of, in_room}
use Rattle.storage_relation.proofs.Copy.{Arrives, copy_arrives}
use Rattle.storage_relation.proofs.Opening.{opening_keeps}

module _ (s : Storage) (f g : Placement) (memory : ℕ → ℕ) (shows : Shows s f memory)
    (new : Lending) (may : MayOpen s new) (loans : ℕ → Lending) (opens : OpensLoan s new loans) (starts : StartsLoan s f g) where
  pub open_passed : Passes s new f g → Shows (with_loan s loans) g memory
  open_passed passes = opening_keeps s f g memory memory shows new may loans opens starts
      (λ c. absurd (not_both (g.copied s.opened) c passes.flag))
      (λ c. absurd (not_both (g.copied s.opened) c passes.flag))
      (λ c. passes.lies)
      (λ p good. refl)
      (λ k b. ap memory (passes.lies k b))

  module _ (copies : Copies s new f g) where
    outside : (p : Place) → Good s p → (k : ℕ) → k < new.bytes → address f p ≡ g.start (Loan s.opened) + k → ⊥
    outside p good k b e =
        let r = root_of s f memory shows p good in
        let same = r.same in
        let i = in_room (size_of s r.root.view) r.root.offset r.good.within in
        let j = in_room new.bytes k b in
        ⊎_elim (λ h. absurd (omega (arith, e, h, i, j, same))) (λ h. absurd (omega (arith, e, h, i, j, same)))
        (copies.apart r.root.view r.good.live r.region)

    gathered : Arrives (λ k. address f (new.place k)) (λ k. g.start (Loan s.opened) + k) new.bytes (λ k. Unit {0}) memory (gather s new f g memory)
    gathered = copy_arrives _ _ new.bytes (λ k. Unit {0}) memory
        (λ k. inl tt)
        (λ k b no_one. absurd (no_one tt))
        (λ j k bj bk m e. omega (arith, e))
        (λ j k bj bk e. outside (new.place j) (may.grounded j bj) k bk e)
        new.bytes (omega arith)

    pub open_copied : Shows (with_loan s loans) g (gather s new f g memory)
    open_copied = opening_keeps s f g memory (gather s new f g memory) shows new may loans opens starts
        (λ c. copies.aligned)
        (λ c. copies.apart)
        (λ c. absurd (not_both (g.copied s.opened) copies.flag c))
        (λ p good. gathered.rest (address f p) (λ k b m e. outside p good k b e))
        (λ k b. gathered.there k b tt)
