use Rattle.std.proofs.Common.{◌≡◌, ◌+◌, ◌-◌, ◌<◌, OnOk, ap, arith}
use Rattle.flat_ir.specs.View.{stmt_of, stmts_of}
use Rattle.flatten.specs.Emission.{emitted}
use Rattle.flatten.proofs.Arms.{if_arm}
use Rattle.flatten.proofs.Weight.{weight, lighter}
use Rattle.flatten.proofs.emit.+emit.Goals as goal

pub emit_stmt-emit_if-requires : goal.emit_stmt-emit_if-requires
emit_stmt-emit_if-requires t c =
    let x = c.as_slice.result.now in
    let y = c.as_slice-in-If.result.now in
    let less = if_arm (λ s. weight (stmts_of x) + weight (stmts_of y) + 1 < weight s) c.args.s.now c.in-If.e c.in-If.a c.in-If.b x y c.in-If.is c.as_slice.ensures c.as_slice-in-If.ensures (omega arith) in
    (omega (arith, less, c.decreases), tt)

pub emit_stmt-returns-in-If : goal.emit_stmt-returns-in-If
emit_stmt-returns-in-If t c =
    if_arm (λ s. OnOk c.emit_if.result (c.emit_if.new.out ≡ emitted s c.args.out.now)) c.args.s.now c.in-If.e c.in-If.a c.in-If.b c.as_slice.result.now c.as_slice-in-If.result.now c.in-If.is c.as_slice.ensures c.as_slice-in-If.ensures c.emit_if.ensures

pub emit_stmts-emit_stmt-requires : goal.emit_stmts-emit_stmt-requires
emit_stmts-emit_stmt-requires t c =
    let same = ap (λ s. weight (stmt_of s)) c.index-stmts-i.is in
    let less = lighter c.args.stmts.now (c.loop-i.i - 1) c.index-stmts-i.result (omega arith) in
    (omega (arith, same, less, c.decreases), tt)
