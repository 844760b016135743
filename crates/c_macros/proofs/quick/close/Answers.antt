use Rattle.c_macros.proofs.Tracked.{one_more}
use Rattle.c_macros.proofs.quick.close.Goals as goal

pub returns-in_ok-push-clause-tracked : goal.returns-in_ok-push-clause-tracked
returns-in_ok-push-clause-tracked c = λ t. one_more c.args.void.now c.set-then-level.new.flags c.args.remembered.now.items c.push.new.self.items c.args.level.name c.in_ok-push.ensures.items c.set-then-level.ensures t
