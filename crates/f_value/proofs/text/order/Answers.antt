use Rattle.std.proofs.Common.{arith}
use Rattle.f_value.proofs.Padding.{order_less, order_greater, order_goes_on, order_ends}
use Rattle.f_value.proofs.text.order.Goals as goal

pub returns-then-x-y : goal.returns-then-x-y
returns-then-x-y c = order_less c.args.s.now c.args.t.now c.loop-i.i c.byte_or_blank-x.result c.byte_or_blank-y.result c.loop-i.invariant c.byte_or_blank-x.ensures c.byte_or_blank-y.ensures c.if-x-y.true

pub returns-then-x-y-2 : goal.returns-then-x-y-2
returns-then-x-y-2 c = order_greater c.args.s.now c.args.t.now c.loop-i.i c.byte_or_blank-x.result c.byte_or_blank-y.result c.loop-i.invariant c.byte_or_blank-x.ensures c.byte_or_blank-y.ensures c.if-x-y-2.true

pub loop-i-preserved : goal.loop-i-preserved
loop-i-preserved c = order_goes_on c.args.s.now c.args.t.now c.loop-i.i c.byte_or_blank-x.result c.byte_or_blank-y.result c.loop-i.invariant c.byte_or_blank-x.ensures c.byte_or_blank-y.ensures c.if-x-y.false c.if-x-y-2.false

pub returns : goal.returns
returns c = order_ends c.args.s.now c.args.t.now c.loop-i.i c.loop-i.invariant (omega arith) (omega arith)
