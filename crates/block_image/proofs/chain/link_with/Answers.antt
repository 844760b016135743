use Rattle.std.proofs.Common.{List, IfOk, sym, subst, ◌∙◌}
use Rattle.rv_assemble.specs.declared.unit.AsmUnit.{AsmUnit}
use Rattle.rv_assemble.specs.declared.object.ObjUnit.{ObjUnit}
use Rattle.assembled_run.specs.Program.{AreProper, AreAssembled, AreClosed, StayWithin, IsImageOf}
use Rattle.emitted_units.proofs.Units.{units_proper, units_closed, units_within}
use Rattle.block_image.proofs.chain.link_with.Goals as goal

pub image_of-requires-clause-proper : goal.image_of-requires-clause-proper
image_of-requires-clause-proper c =
    let P : List AsmUnit → Type 0 = λ us. AreProper us in
    subst P (sym (c.as_slice.ensures.value ∙ c.in_ok-units.ensures)) (units_proper c.args.q.now c.args.assignments.now c.requires)

pub image_of-requires-clause-closed : goal.image_of-requires-clause-closed
image_of-requires-clause-closed c =
    let P : List AsmUnit → Type 0 = λ us. AreClosed us in
    subst P (sym (c.as_slice.ensures.value ∙ c.in_ok-units.ensures)) (units_closed c.args.q.now c.args.assignments.now c.requires)

pub image_of-requires-clause-within : goal.image_of-requires-clause-within
image_of-requires-clause-within c =
    let P : List AsmUnit → Type 0 = λ us. (os : List ObjUnit) → AreAssembled us os → StayWithin us os in
    subst P (sym (c.as_slice.ensures.value ∙ c.in_ok-units.ensures)) (units_within c.args.q.now c.args.assignments.now c.requires)

pub returns : goal.returns
returns c =
    let P : List AsmUnit → Type 0 = λ us. IfOk c.image_of.result (λ image. IsImageOf us image) in
    subst P (c.as_slice.ensures.value ∙ c.in_ok-units.ensures) c.image_of.ensures
