use Rattle.back_end.proofs.Checked.{blocks_hold_at}
use Rattle.back_end_speed.proofs.stages.blocks_of.Goals as goal

pub returns : goal.returns
returns c = blocks_hold_at c.args.p.now c.in-Ok.q c.in-Ok.ensures.code c.requires c.in-Ok.ensures.named c.in-Ok.ensures.set_first
