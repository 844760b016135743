use Rattle.c_types.proofs.Depth.{never_reached}
use Rattle.c_types.proofs.laws.structs_compare_by_members.Goals as goal

pub returns : goal.returns
returns c = never_reached c.args.t.now c.args.other.now c.completed_in_order.ensures c.completed_in_order-2.ensures c.args.s c.args.u
