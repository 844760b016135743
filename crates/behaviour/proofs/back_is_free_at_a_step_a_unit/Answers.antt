use Rattle.behaviour.proofs.Back.{steady_follows}
use Rattle.behaviour.proofs.back_is_free_at_a_step_a_unit.Goals as goal

pub returns : goal.returns
returns c = steady_follows
