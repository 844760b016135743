use Rattle.f_value.proofs.ModuloLaws.{modulo_down, modulo_up}
use Rattle.f_value.proofs.laws.remainders.modulo_has_the_sign_of_p.Goals as goal

pub returns-clause-positive : goal.returns-clause-positive
returns-clause-positive c = modulo_up c.args.a c.args.p

pub returns-clause-negative : goal.returns-clause-negative
returns-clause-negative c = modulo_down c.args.a c.args.p
