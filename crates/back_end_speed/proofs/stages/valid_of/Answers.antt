use Rattle.std.proofs.Common.{◌<◌, length, sym, subst}
use Rattle.flatten.specs.declared.blocks.BlockProc.{BlockProc}
use Rattle.block_homes.specs.Valid.{IsNamed}
use Rattle.back_end_speed.proofs.Picked.{homes_at}
use Rattle.back_end_speed.proofs.stages.valid_of.Goals as goal

pub validate-requires-clause-named : goal.validate-requires-clause-named
validate-requires-clause-named c =
    let lt : c.loop-f.f < length c.args.procs.now = c.loop-f-test.true in
    subst (λ (q : BlockProc). IsNamed q) (sym c.index-procs-f.is) (c.requires.named c.loop-f.f c.index-procs-f.result lt)

pub validate-requires-clause-homes : goal.validate-requires-clause-homes
validate-requires-clause-homes c =
    let lt : c.loop-f.f < length c.args.procs.now = c.loop-f-test.true in
    homes_at c.args.procs.now c.args.assignments.now c.loop-f.f c.index-procs-f.result c.index-assignments-f.result c.requires.assigned lt c.index-procs-f.is c.index-assignments-f.is
