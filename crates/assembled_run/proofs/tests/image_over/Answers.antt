use Rattle.std.proofs.Common.{◌≡◌, List, sym, ◌∙◌, subst}
use Rattle.rv_assemble.specs.declared.unit.AsmUnit.{AsmUnit}
use Rattle.rv_assemble.specs.declared.object.ObjUnit.{ObjUnit}
use Rattle.assembled_run.specs.Program.{AreProper, AreAssembled, AreClosed, StayWithin}
use Rattle.assembled_run.specs.Trial.{over_units}
use Rattle.assembled_run.proofs.Trials.{over_proper, over_closed, over_within}
use Rattle.assembled_run.proofs.tests.image_over.Goals as goal

pub image_of-requires-clause-proper : goal.image_of-requires-clause-proper
image_of-requires-clause-proper c =
    let are : c.as_slice.result.now ≡ over_units c.args.count = c.as_slice.ensures.value ∙ c.in_ok-units.ensures in
    subst (λ (us : List AsmUnit). AreProper us) (sym are) (over_proper c.args.count)

pub image_of-requires-clause-closed : goal.image_of-requires-clause-closed
image_of-requires-clause-closed c =
    let are : c.as_slice.result.now ≡ over_units c.args.count = c.as_slice.ensures.value ∙ c.in_ok-units.ensures in
    subst (λ (us : List AsmUnit). AreClosed us) (sym are) (over_closed c.args.count)

pub image_of-requires-clause-within : goal.image_of-requires-clause-within
image_of-requires-clause-within c =
    let are : c.as_slice.result.now ≡ over_units c.args.count = c.as_slice.ensures.value ∙ c.in_ok-units.ensures in
    subst (λ (us : List AsmUnit). (os : List ObjUnit) → AreAssembled us os → StayWithin us os) (sym are) (over_within c.args.count)
