use Rattle.std.proofs.Common.{◌≡◌, ◌+◌, ℕ, suc, List, Bool, length, sym, ap, ◌∙◌, subst, arith}
use Rattle.f_order.proofs.Marking.{MarkedBelow, length_some}
use Rattle.f_order.proofs.Edges.{StandsIn, stands_next, all_stand}
use Rattle.f_order.proofs.graph.mark_units.Goals as goal

pub items-preserved : goal.items-preserved
items-preserved c =
    let test = c.items-test.true in
    let next : suc c.items.place ≡ c.items.place + 1 = omega arith in
    let Q : ℕ → Type 0 = λ j. MarkedBelow (StandsIn c.args.program.now.items) c.mark_some.new.marks.items j in
    let P : List Bool → Type 0 = λ m. MarkedBelow (StandsIn c.args.program.now.items) m (suc c.items.place) in
    record {
      within = omega (arith, test);
      long = ap length c.mark_some.ensures ∙ length_some c.items.marks.items c.unit_at.result ∙ c.items.invariant.long;
      below = subst Q next (subst P (sym c.mark_some.ensures) (stands_next c.args.program.now c.args.units.now c.requires c.items.marks.items c.items.place c.unit_at.result c.items.invariant.long c.unit_at.ensures c.items.invariant.below));
    }

pub returns : goal.returns
returns c =
    let test = c.items-test.false in
    let within = c.items.invariant.within in
    let count = c.item_count-count.ensures in
    all_stand c.args.program.now c.args.units.now c.requires c.items.marks.items c.items.place (omega (arith, test, within, count)) c.items.invariant.below
