use Rattle.std.proofs.Common.{◌≡◌, ◌+◌, ◌<◌, OnOk, arith}
use Rattle.flat_ir.specs.View.{stmts_of}
use Rattle.flatten.specs.Emission.{measured}
use Rattle.flatten.proofs.Arms.{if_arm}
use Rattle.flatten.proofs.Weight.{weight}
use Rattle.flatten.proofs.measure.+measure.Goals as goal

pub measure_stmt-measure_if-requires : goal.measure_stmt-measure_if-requires
measure_stmt-measure_if-requires t c =
    let x = c.as_slice.result.now in
    let y = c.as_slice-in-If.result.now in
    let less = if_arm (λ s. weight (stmts_of x) + weight (stmts_of y) + 1 < weight s) c.args.s.now c.in-If.e c.in-If.a c.in-If.b x y c.in-If.is c.as_slice.ensures c.as_slice-in-If.ensures (omega arith) in
    (omega (arith, less, c.decreases), tt)

pub measure_stmt-returns-in-If : goal.measure_stmt-returns-in-If
measure_stmt-returns-in-If t c =
    if_arm (λ s. OnOk c.measure_if.result (c.measure_if.new.m ≡ measured s c.args.m.now)) c.args.s.now c.in-If.e c.in-If.a c.in-If.b c.as_slice.result.now c.as_slice-in-If.result.now c.in-If.is c.as_slice.ensures c.as_slice-in-If.ensures c.measure_if.ensures
