-- Only the bytes of live regions matter.
use Rattle.std.proofs.Common.{ℕ, ◌+◌, ◌≡◌, ◌<◌, sym, ◌∙◌, ap, subst}
use Rattle.storage_model.specs.declared.cell.View.{View}
use Rattle.storage_model.specs.declared.cell.View.TheVariants.{Home, Loan}
use Rattle.storage_model.specs.declared.cell.Place.{Place}
use Rattle.storage_model.specs.Storage.{at, Storage, places, IsLive, size_of, cell_at, Good}
use Rattle.storage_relation.specs.Flat.{Shows, Placement, HasRegion, Stands, address}
use Rattle.storage_relation.proofs.Alone.{good_loan}
use Rattle.storage_relation.proofs.Root.{root_of}

module _ (s : Storage) (f : Placement) (memory after : ℕ → ℕ) (shows : Shows s f memory)
    (same : (v : View) → IsLive s v → HasRegion f v → (k : ℕ) → k < size_of s v → after (f.start v + k) ≡ memory (f.start v + k)) where
  keeps : (p : Place) → Good s p → after (address f p) ≡ memory (address f p)
  keeps p good =
      let r = root_of s f memory shows p good in
      ap after r.same ∙ same r.root.view r.good.live r.region r.root.offset r.good.within ∙ sym (ap memory r.same)

  pub elsewhere : Shows s f after
  elsewhere = record {
    laws = shows.laws;
    aligned = shows.aligned;
    apart = shows.apart;
    passed = shows.passed;
    begins = shows.begins;
    cells = λ p h g r i a. subst (λ x. Stands f (cell_at s h) x) (sym (keeps p g)) (shows.cells p h g r i a);
    unwritten = λ l k o c b w. keeps (at (Loan l) k) (good_loan s shows.laws l k o b) ∙ shows.unwritten l k o c b w ∙ sym (keeps (places s l k) (shows.laws.grounded l k o b));
    fields = λ o i a d b. keeps (at (Home o) i) (record { live = a; within = b }) ∙ shows.fields o i a d b;
  }
