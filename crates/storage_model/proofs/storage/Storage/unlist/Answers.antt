use Rattle.std.proofs.Common.{◌<◌, ◌∙◌, ap, arith, length}
use Rattle.storage_model.specs.Held.{nth_loan}
use Rattle.storage_model.proofs.Grounds.{not_both}
use Rattle.storage_model.proofs.Keeps.{held_covers}
use Rattle.storage_model.proofs.Stacks.{others_kept}
use Rattle.storage_model.proofs.storage.Storage.unlist.Goals as goal

pub invariant_of-self : goal.invariant_of-self
invariant_of-self c =
    let s = c.args.self.now in
    let there : c.in-Home.o < length s.covers.items = omega (arith, s.covers.ok.0) in
    let keep = others_kept s.covers.items c.in-Home.o c.index_mut.result.now c.drop_cover.new.table c.args.loan there c.index_mut.ensures.value c.drop_cover.ensures in
    record {
      held = held_covers s.objects.items s.loans.items s.covers.items _ keep.longer
          (λ l k h o. keep.kept h l k (λ e. not_both (nth_loan s.loans.items l).is_open o (ap (λ x. (nth_loan s.loans.items x).is_open) e ∙ c.requires))) s.held;
    }
