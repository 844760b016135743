use Rattle.std.proofs.Common.{◌≡◌, max, map, drop}
use Rattle.c_text.specs.Marks.{longest}
use Rattle.c_text.proofs.marks.longest.Given as goal

abbrev pub invariant-loop-mark : goal.invariant-loop-mark
invariant-loop-mark l = max l.found (longest (drop l.mark-index (map (λ x. x.now) l.marks)) l.text) ≡ longest (map (λ x. x.now) l.marks) l.text
