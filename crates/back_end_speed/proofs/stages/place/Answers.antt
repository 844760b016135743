use Rattle.std.proofs.Common.{List, length, All, sym, subst}
use Rattle.flatten.specs.declared.blocks.BlockProc.{BlockProc}
use Rattle.flatten.specs.Paths.{UsesAreSet}
use Rattle.block_homes.specs.Valid.{IsNamed}
use Rattle.block_homes.proofs.Naming.{all_named, all_set}
use Rattle.back_end.proofs.Assigned.{all_assigned_at}
use Rattle.back_end_speed.proofs.stages.place.Goals as goal

pub assign_all-requires-clause-named : goal.assign_all-requires-clause-named
assign_all-requires-clause-named c =
    let P : List BlockProc → Type 0 = λ l. All IsNamed l in
    subst P (sym c.as_slice-procs.ensures) (all_named (length c.args.q.now.procs) (length c.args.q.now.image) c.args.q.now.procs c.requires.named)

pub assign_all-requires-clause-set_first : goal.assign_all-requires-clause-set_first
assign_all-requires-clause-set_first c =
    let P : List BlockProc → Type 0 = λ l. All UsesAreSet l in
    subst P (sym c.as_slice-procs.ensures) (all_set c.args.q.now.procs c.requires.set_first)

pub valid_of-requires-clause-named : goal.valid_of-requires-clause-named
valid_of-requires-clause-named c =
    let P : List BlockProc → Type 0 = λ l. All IsNamed l in
    subst P (sym c.as_slice-procs.ensures) (all_named (length c.args.q.now.procs) (length c.args.q.now.image) c.args.q.now.procs c.requires.named)

pub emit_and_link-requires-clause-assigned : goal.emit_and_link-requires-clause-assigned
emit_and_link-requires-clause-assigned c =
    all_assigned_at c.args.q.now.procs c.as_slice-procs.result.now c.in-Ok.assignments.items c.as_slice-3.result.now c.as_slice-procs.ensures c.as_slice-3.ensures.value c.in-Ok.ensures.assigned
