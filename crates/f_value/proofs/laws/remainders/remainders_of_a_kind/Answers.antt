use Rattle.f_value.proofs.RemainderLaws.{divided, leaves_remainder, leaves_modulo}
use Rattle.f_value.proofs.laws.remainders.remainders_of_a_kind.Goals as goal

pub returns-clause-remainder : goal.returns-clause-remainder
returns-clause-remainder c = λ a p kind e q h. (divided a p kind h, leaves_remainder a p kind q h)

pub returns-clause-modulo : goal.returns-clause-modulo
returns-clause-modulo c = λ a p kind e q h. leaves_modulo a p kind q h
