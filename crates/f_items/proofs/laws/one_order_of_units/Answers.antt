use Rattle.std.proofs.Common.{[]}
use Rattle.f_items.proofs.Single.{one_order}
use Rattle.f_items.proofs.laws.one_order_of_units.Goals as goal

pub returns : goal.returns
returns c p = one_order p []
