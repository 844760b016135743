use Rattle.std.proofs.Common.{[], ◌∷◌, ◌++◌, ◌+◌, drop, slice_get, ap, sym, ◌∙◌, append_assoc, arith}
use Rattle.emitted_code.specs.Units.{proc_unit, proc_units}
use Rattle.rv_emit.proofs.Lists.{units_step, drop_next}
use Rattle.rv_emit.proofs.units.units_of.Goals as goal

pub loop-p-preserved : goal.loop-p-preserved
loop-p-preserved c =
    let procs = c.args.procs.now in
    let homes = c.args.assignments.now in
    let p = c.loop-p.p in
    let f = c.index-procs-p.result in
    let items = c.loop-p.units.items in
    let behind = proc_units (p + 1) (drop (p + 1) procs) (drop (p + 1) homes) in
    let unit = proc_unit p f (slice_get homes p) in
    ap (λ x. x ++ behind) (c.in_ok-add.ensures ∙ ap (λ u. items ++ u ∷ []) c.in_ok-unit.ensures)
    ∙ append_assoc items (unit ∷ []) behind
    ∙ ap (λ x. items ++ x) (sym (units_step p (p + 1) p f (drop (p + 1) procs) homes (omega arith)))
    ∙ ap (λ fs. items ++ proc_units p fs (drop p homes)) (sym (drop_next procs p f (omega arith) c.index-procs-p.is))
    ∙ c.loop-p.invariant
