use Rattle.std.proofs.lemmas.Int.{quot-rem}
use Rattle.f_value.proofs.laws.remainders.division_leaves_the_remainder.Goals as goal

pub returns : goal.returns
returns c = quot-rem c.args.a c.args.p
