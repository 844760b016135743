use Rattle.work.proofs.Steps.{work_steps}
use Rattle.work.proofs.a_stack_does_the_work.Goals as goal

pub returns : goal.returns
returns g c = work_steps
