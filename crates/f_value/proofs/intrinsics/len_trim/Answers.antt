use Rattle.f_value.proofs.Trimming.{len_trim_next}
use Rattle.f_value.proofs.intrinsics.len_trim.Goals as goal

pub loop-i-preserved : goal.loop-i-preserved
loop-i-preserved c = len_trim_next c.args.s.now c.loop-i.i c.loop-i.n c.trimmed_at-n.result c.loop-i-test.true c.loop-i.invariant c.trimmed_at-n.ensures
