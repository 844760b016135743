use Rattle.std.proofs.Common.{◌-◌, ap, sym, ◌∙◌, arith}
use Rattle.emitted_code.specs.Straight.{lines}
use Rattle.emitted_code.specs.Code.{receive}
use Rattle.rv_emit.proofs.Pieces.{receive_last}
use Rattle.rv_emit.proofs.homes.receive.Goals as goal

pub loop-i-preserved : goal.loop-i-preserved
loop-i-preserved c =
    let j = c.loop-i.i - 1 in
    ap (λ k. lines (receive c.args.f.now j) k) c.in_ok-receive_one.ensures
    ∙ sym (receive_last c.args.f.now c.loop-i.i j c.loop-i.out (omega arith))
    ∙ c.loop-i.invariant
