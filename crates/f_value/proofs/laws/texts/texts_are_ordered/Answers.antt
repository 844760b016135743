use Rattle.f_value.proofs.OrderLaws.{order_self, order_flip}
use Rattle.f_value.proofs.laws.texts.texts_are_ordered.Goals as goal

pub returns-clause-itself : goal.returns-clause-itself
returns-clause-itself c = order_self c.args.s.now

pub returns-clause-either_way : goal.returns-clause-either_way
returns-clause-either_way c = order_flip c.args.s.now c.args.t.now
