use Rattle.std.proofs.Common.{◌≡◌, List, sym, ◌∙◌, subst}
use Rattle.rv_assemble.specs.declared.unit.AsmUnit.{AsmUnit}
use Rattle.rv_assemble.specs.declared.object.ObjUnit.{ObjUnit}
use Rattle.assembled_run.specs.Program.{AreProper, AreAssembled, AreClosed, StayWithin}
use Rattle.assembled_run.specs.Trial.{calling_units}
use Rattle.assembled_run.proofs.Trials.{calling_proper, calling_closed, calling_within}
use Rattle.assembled_run.proofs.tests.image_with_a_call.Goals as goal

pub image_of-requires-clause-proper : goal.image_of-requires-clause-proper
image_of-requires-clause-proper c =
    let are : c.as_slice.result.now ≡ calling_units = c.as_slice.ensures.value ∙ c.in_ok-units.ensures in
    subst (λ (us : List AsmUnit). AreProper us) (sym are) calling_proper

pub image_of-requires-clause-closed : goal.image_of-requires-clause-closed
image_of-requires-clause-closed c =
    let are : c.as_slice.result.now ≡ calling_units = c.as_slice.ensures.value ∙ c.in_ok-units.ensures in
    subst (λ (us : List AsmUnit). AreClosed us) (sym are) calling_closed

pub image_of-requires-clause-within : goal.image_of-requires-clause-within
image_of-requires-clause-within c =
    let are : c.as_slice.result.now ≡ calling_units = c.as_slice.ensures.value ∙ c.in_ok-units.ensures in
    subst (λ (us : List AsmUnit). (os : List ObjUnit) → AreAssembled us os → StayWithin us os) (sym are) calling_within
