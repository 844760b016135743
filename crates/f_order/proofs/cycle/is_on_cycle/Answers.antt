use Rattle.std.proofs.Common.{Option, ap, ◌∙◌, subst}
use Rattle.f_order.specs.declared.units.Edge.{Edge}
use Rattle.f_order.specs.Marks.{marked}
use Rattle.f_order.specs.Units.{EdgeFound}
use Rattle.f_order.proofs.Edges.{inside}
use Rattle.f_order.proofs.Cycles.{no_edge_no_cycle, edge_on_cycle}
use Rattle.f_order.proofs.cycle.is_on_cycle.Goals as goal

pub reached_from-requires-clause-inside : goal.reached_from-requires-clause-inside
reached_from-requires-clause-inside c = inside c.args.program.now c.args.units.now c.requires.units

pub reached_from-requires-clause-from : goal.reached_from-requires-clause-from
reached_from-requires-clause-from c =
    let P : Option Edge → Type 0 = λ r. EdgeFound c.args.program.now.items c.args.place r in
    let found = subst P c.in-Some.is c.edge_at.ensures in
    inside c.args.program.now c.args.units.now c.requires.units c.in-Some.edge.unit c.in-Some.edge.module_unit (c.args.place, found.0)

pub returns-in-None : goal.returns-in-None
returns-in-None c =
    let P : Option Edge → Type 0 = λ r. EdgeFound c.args.program.now.items c.args.place r in
    no_edge_no_cycle c.args.program.now.items c.args.place (subst P c.in-None.is c.edge_at.ensures)

pub returns-in_ok-marks-in-Some : goal.returns-in_ok-marks-in-Some
returns-in_ok-marks-in-Some c =
    let P : Option Edge → Type 0 = λ r. EdgeFound c.args.program.now.items c.args.place r in
    edge_on_cycle c.args.program.now.items c.args.place c.in-Some.edge c.in_ok-marks-in-Some.marks.items c.is_marked.result (subst P c.in-Some.is c.edge_at.ensures) c.in_ok-marks-in-Some.ensures (c.is_marked.ensures ∙ ap (λ l. marked l c.in-Some.edge.unit) c.as_slice.ensures.value)
