use Rattle.std.proofs.Common.{◌≡◌, ◌++◌, take}
use Rattle.rv_assemble.specs.Lines.{asked_by_fixes}
use Rattle.rv_assemble.proofs.assembling.ask_fixes.Given as goal

abbrev pub invariant-loop-fix : goal.invariant-loop-fix
invariant-loop-fix l = l.asked.items ≡ l.initial.asked.items ++ asked_by_fixes l.code_len (take l.fix-index l.fixes)
