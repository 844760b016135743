use Rattle.rv_machine.proofs.Keeps.{steps}
use Rattle.rv_machine.proofs.Laws.{one_given, one_ended}
use Rattle.rv_machine.proofs.theorems.step_laws.Goals as goal

pub returns : goal.returns
returns c = record { keeps = steps; ignores = one_given; ended = λ s e given. one_ended s e given }
