use Rattle.std.proofs.Common.{subst, take_all, refl}
use Rattle.command.proofs.Different.{Differ, found_before, not_before}
use Rattle.command.proofs.files.are_different.Goals as goal

pub returns-then-contains : goal.returns-then-contains
returns-then-contains c =
    let name = c.index-names-i.result in
    let found = c.if-contains.ensures.cases in
    let twice = found_before c.args.names.now c.loop-i.i name c.loop-i-test.true c.index-names-i.is found.0 found.1 (found.2 name) in
    (λ no. absurd (cc), λ differ. absurd (twice differ))

pub loop-i-preserved : goal.loop-i-preserved
loop-i-preserved c = not_before c.args.names.now c.loop-i.i c.index-names-i.result c.loop-i-test.true c.index-names-i.is c.if-contains.ensures.cases c.loop-i.invariant

pub returns : goal.returns
returns c =
    (λ _. subst Differ (take_all c.loop-i.i c.args.names.now c.loop-i-test.false) c.loop-i.invariant, λ _. refl)
