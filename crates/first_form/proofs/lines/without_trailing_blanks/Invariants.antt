use Rattle.std.proofs.Common.{◌≡◌, length, reverse}
use Rattle.first_form.specs.Lines.{without_leading_blanks}
use Rattle.first_form.proofs.lines.without_trailing_blanks.Given as goal

abbrev pub invariant-loop-last : goal.invariant-loop-last
invariant-loop-last l = without_leading_blanks (reverse l.line) ≡ without_leading_blanks (reverse l.initial.line)

abbrev pub decreases-loop-last : goal.decreases-loop-last
decreases-loop-last l = length l.line
