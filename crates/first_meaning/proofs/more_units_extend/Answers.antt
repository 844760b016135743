use Rattle.behaviour.proofs.Later.{extends_at}
use Rattle.work.proofs.Depth.{is_run}
use Rattle.first_meaning.specs.Joint.{rules_of, function, main, joint}
use Rattle.first_meaning.proofs.more_units_extend.Goals as goal

pub returns : goal.returns
returns c = λ p limits input. extends_at (joint p limits input) (is_run (rules_of limits) (λ _. function p) (main p) (record { frames = 0; objects = 0 }) input)
