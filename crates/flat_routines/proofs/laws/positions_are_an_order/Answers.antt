use Rattle.flat_routines.proofs.Order.{is_order}
use Rattle.flat_routines.proofs.laws.positions_are_an_order.Goals as goal

pub returns : goal.returns
returns c dims = is_order dims
