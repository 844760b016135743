use Rattle.rv_machine.proofs.Laws.{exec_add, exec_ended}
use Rattle.rv_machine.proofs.theorems.run_laws.Goals as goal

pub returns : goal.returns
returns c = record { added = exec_add; ended = exec_ended }
