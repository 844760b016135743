use Rattle.std.proofs.Common.{◌≡◌, length}
use Rattle.first_form.specs.Lines.{without_leading_blanks}
use Rattle.first_form.proofs.lines.without_leading_blanks.Given as goal

abbrev pub invariant-loop-first : goal.invariant-loop-first
invariant-loop-first l = without_leading_blanks l.line ≡ without_leading_blanks l.initial.line

abbrev pub decreases-loop-first : goal.decreases-loop-first
decreases-loop-first l = length l.line
