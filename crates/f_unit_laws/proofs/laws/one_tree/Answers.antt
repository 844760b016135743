use Rattle.f_unit_laws.proofs.Derived.{one_tree}
use Rattle.f_unit_laws.proofs.laws.one_tree.Goals as goal

pub returns : goal.returns
returns c = one_tree
