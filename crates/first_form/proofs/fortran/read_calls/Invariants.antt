use Rattle.std.proofs.Common.{◌≡◌, length}
use Rattle.std.specs.List.{All}
use Rattle.first_form.specs.Lines.{text_lines}
use Rattle.first_form.specs.Words.{IsInt}
use Rattle.first_form.specs.Runs.{spelled, call_before}
use Rattle.first_form.proofs.fortran.read_calls.Given as goal

abbrev pub invariant-loop-number : goal.invariant-loop-number
invariant-loop-number l = (All IsInt l.calls.items) × (text_lines l.text ≡ spelled (call_before l.label) l.calls.items (text_lines l.rest))

abbrev pub decreases-loop-number : goal.decreases-loop-number
decreases-loop-number l = length l.rest
