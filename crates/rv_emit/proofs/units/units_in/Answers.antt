use Rattle.std.proofs.Common.{◌++◌, ◌∷◌, [], ap, ◌∙◌}
use Rattle.emitted_code.specs.Units.{proc_units}
use Rattle.rv_emit.proofs.units.units_in.Goals as goal

pub returns : goal.returns
returns c =
    let units = c.in_ok-units.ensures ∙ ap (λ ps. proc_units 0 ps c.args.assignments.now) c.as_slice.ensures in
    c.in_ok-add.ensures ∙ (λ i. units i ++ c.in_ok-last.ensures i ∷ [])
