use Rattle.flat_ir.proofs.Lawful.{flat_lawful}
use Rattle.flat_ir.proofs.laws.flat_is_a_run.Goals as goal

pub returns : goal.returns
returns c p g input = flat_lawful p g input
