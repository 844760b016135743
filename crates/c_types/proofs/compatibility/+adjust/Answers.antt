use Rattle.c_types.proofs.Settling.{adjusted-Function}
use Rattle.c_types.proofs.compatibility.+adjust.Goals as goal

pub returns-in-Function-clause-kind : goal.returns-in-Function-clause-kind
returns-in-Function-clause-kind t c = rw c.in-Function.is (adjusted-Function c.in-Function.field-0 c.args.is_const)
