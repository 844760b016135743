use Rattle.std.proofs.Common.{ap, ◌∙◌}
use Rattle.rv_machine.proofs.Laws.{ready_again}
use Rattle.image_run.proofs.run.take.Goals as goal

pub returns-in-Byte-clause-ready : goal.returns-in-Byte-clause-ready
returns-in-Byte-clause-ready g c = λ went. ap (λ w. w.0.mode) c.step-ran.ensures ∙ ready_again _ _ c.requires

pub returns-in-End-clause-ready : goal.returns-in-End-clause-ready
returns-in-End-clause-ready g c = λ went. ap (λ w. w.0.mode) c.step-ran-in-End.ensures ∙ ready_again _ _ c.requires
