use Rattle.work.proofs.Depth.{is_run}
use Rattle.first_meaning.specs.Joint.{rules_of, function, main}
use Rattle.first_meaning.proofs.joint_is_a_run.Goals as goal

pub returns : goal.returns
returns c = λ p limits input. is_run (rules_of limits) (λ _. function p) (main p) (record { frames = 0; objects = 0 }) input
