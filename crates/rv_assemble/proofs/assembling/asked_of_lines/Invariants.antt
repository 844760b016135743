use Rattle.std.proofs.Common.{◌≡◌, take}
use Rattle.rv_assemble.specs.Lines.{asked_by_lines}
use Rattle.rv_assemble.proofs.assembling.asked_of_lines.Given as goal

abbrev pub invariant-loop-k : goal.invariant-loop-k
invariant-loop-k l = l.asked.items ≡ asked_by_lines 0 (take l.k l.lines) l.places
