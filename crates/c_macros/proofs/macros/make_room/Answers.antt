use Rattle.std.proofs.Common.{ap, ◌∙◌, get_or, false, arith}
use Rattle.c_macros.proofs.Tracked.{one_down}
use Rattle.c_macros.proofs.macros.make_room.Goals as goal

pub loop-flags-preserved : goal.loop-flags-preserved
loop-flags-preserved c = record {
  same = λ m. ap (λ l. get_or l m false) c.in_ok-push.ensures.items ∙ one_down c.loop-flags.flags.items m ∙ c.loop-flags.invariant.same m;
  longer = (let n = c.in_ok-push.ensures.len in let i = c.loop-flags.invariant.longer in omega arith);
}
