use Rattle.std.proofs.Common.{◌++◌, ◌+◌, drop, get_or, ap, sym, ◌∙◌, arith}
use Rattle.emitted_code.specs.Frames.{used_of}
use Rattle.std.proofs.lemmas.Grind.{get_or_default_zero}
use Rattle.rv_emit.proofs.Lists.{used_step, drop_next}
use Rattle.rv_emit.proofs.frame.push_used.Goals as goal

pub loop-i-preserved : goal.loop-i-preserved
loop-i-preserved c =
    let homes = c.args._homes.now in
    let kept = c.args.kept.now in
    let i = c.loop-i.i in
    let r = get_or kept i 0 in
    let items = c.loop-i.registers.items in
    let behind = drop (i + 1) kept in
    ap (λ x. x ++ used_of behind homes) c.in_ok-push_if.ensures
    ∙ used_step items behind r homes _ (c.requires.marked r (omega (arith, c.type_inv.kept i)))
    ∙ ap (λ x. items ++ used_of x homes) (sym (drop_next kept i r (omega arith) (sym (get_or_default_zero kept i r (omega arith)))))
    ∙ c.loop-i.invariant
