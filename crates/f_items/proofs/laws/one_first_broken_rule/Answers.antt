use Rattle.f_items.proofs.Single.{one_first}
use Rattle.f_items.proofs.laws.one_first_broken_rule.Goals as goal

pub returns : goal.returns
returns c = one_first
