use Rattle.std.proofs.Common.{List, sym, subst}
use Rattle.rv_assemble.specs.declared.unit.AsmLine.{AsmLine}
use Rattle.rv_assemble.specs.Lines.{AreProperLines}
use Rattle.rv_assemble.proofs.Proper.{proper-more}
use Rattle.rv_assemble.proofs.tests.add.Goals as goal

pub returns-clause-proper : goal.returns-clause-proper
returns-clause-proper c =
    subst (λ (ls : List AsmLine). AreProperLines ls) (sym c.in_ok-push.ensures.items) (proper-more c.args.lines.now.items c.args.line c.requires.lines c.requires.line)
