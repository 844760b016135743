use Rattle.c_types.proofs.Depth.{only_relation}
use Rattle.c_types.proofs.laws.one_relation_compares_by_members.Goals as goal

pub returns : goal.returns
returns c = only_relation c.args.t.now c.args.other.now c.completed_in_order.ensures c.completed_in_order-2.ensures
