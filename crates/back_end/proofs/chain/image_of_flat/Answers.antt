use Rattle.std.proofs.Common.{List, length, All, sym, subst}
use Rattle.flatten.specs.declared.blocks.BlockProc.{BlockProc}
use Rattle.flatten.specs.Paths.{UsesAreSet}
use Rattle.block_homes.specs.Valid.{IsNamed}
use Rattle.block_homes.proofs.Naming.{all_named, all_set}
use Rattle.back_end.proofs.Checked.{blocks_hold_at}
use Rattle.back_end.proofs.Assigned.{all_assigned_at}
use Rattle.back_end.proofs.Composed.{chained}
use Rattle.back_end.proofs.chain.image_of_flat.Goals as goal

pub assign_all-requires-clause-named : goal.assign_all-requires-clause-named
assign_all-requires-clause-named c =
    let P : List BlockProc → Type 0 = λ qs. All IsNamed qs in
    subst P (sym c.as_slice.ensures) (all_named (length c.args.p.now.procs) (length c.args.p.now.image) c.in_ok-q.q.procs c.in_ok-q.ensures.named)

pub assign_all-requires-clause-set_first : goal.assign_all-requires-clause-set_first
assign_all-requires-clause-set_first c =
    let P : List BlockProc → Type 0 = λ qs. All UsesAreSet qs in
    subst P (sym c.as_slice.ensures) (all_set c.in_ok-q.q.procs c.in_ok-q.ensures.set_first)

pub read_image-requires-clause-holds : goal.read_image-requires-clause-holds
read_image-requires-clause-holds c = blocks_hold_at c.args.p.now c.in_ok-q.q c.in_ok-q.ensures.code c.requires.ok c.in_ok-q.ensures.named c.in_ok-q.ensures.set_first

pub read_image-requires-clause-assigned : goal.read_image-requires-clause-assigned
read_image-requires-clause-assigned c =
    all_assigned_at c.in_ok-q.q.procs c.as_slice.result.now c.in_ok-assignments.assignments.items c.as_slice-2.result.now c.as_slice.ensures c.as_slice-2.ensures.value c.in_ok-assignments.ensures.assigned

pub returns : goal.returns
returns c =
    let assigned = all_assigned_at c.in_ok-q.q.procs c.as_slice.result.now c.in_ok-assignments.assignments.items c.as_slice-2.result.now c.as_slice.ensures c.as_slice-2.ensures.value c.in_ok-assignments.ensures.assigned in
    chained c.images_follow_flat_programs.ensures c.args.p.now c.in_ok-q.q c.as_slice-2.result.now c.read_image.result c.in_ok-q.ensures.code c.requires.ok c.requires.room assigned c.read_image.ensures.units c.read_image.ensures.held c.read_image.ensures.bytes
