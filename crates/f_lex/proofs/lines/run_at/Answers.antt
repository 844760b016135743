use Rattle.std.proofs.Common.{◌≡◌, ap, sym, ◌∙◌, drop, length, take, arith}
use Rattle.f_lex.specs.Characters.{goes_on}
use Rattle.f_lex.proofs.Scan.{pair_is, run_on, run_off, run_end}
use Rattle.f_lex.proofs.lines.run_at.Goals as goal

pub returns-then-not-goes_on : goal.returns-then-not-goes_on
returns-then-not-goes_on c =
    pair_is c.split_at-then-not-goes_on.ensures.front c.split_at-then-not-goes_on.ensures.back
    ∙ run_off c.args.run c.args.bytes.now c.loop-index.index _ c.loop-index.invariant c.loop-index-test.true (ap (goes_on c.args.run) (sym c.split_at.ensures.back) ∙ sym c.if-not-goes_on.ensures)

pub loop-index-preserved : goal.loop-index-preserved
loop-index-preserved c = run_on c.args.run c.args.bytes.now c.loop-index.index _ c.loop-index.invariant c.loop-index-test.true (ap (goes_on c.args.run) (sym c.split_at.ensures.back) ∙ sym c.if-not-goes_on.ensures)

pub returns : goal.returns
returns c =
    let last : c.loop-index.index ≡ length c.args.bytes.now = omega arith in
    pair_is (c.split_at-2.ensures.front ∙ ap (λ n. take n c.args.bytes.now) (sym last)) (c.split_at-2.ensures.back ∙ ap (λ n. drop n c.args.bytes.now) (sym last))
    ∙ run_end c.args.run c.args.bytes.now c.loop-index.index _ c.loop-index.invariant c.loop-index-test.false
