use Rattle.std.proofs.Common.{◌≡◌, length}
use Rattle.std.specs.List.{All}
use Rattle.first_form.specs.Lines.{text_lines}
use Rattle.first_form.specs.Forms.{IsArgument}
use Rattle.first_form.specs.Runs.{spelled, put_line_before}
use Rattle.first_form.proofs.c.read_put_lines.Given as goal

abbrev pub invariant-loop-argument : goal.invariant-loop-argument
invariant-loop-argument l = (All IsArgument l.puts.items) × (text_lines l.text ≡ spelled put_line_before l.puts.items (text_lines l.rest))

abbrev pub decreases-loop-argument : goal.decreases-loop-argument
decreases-loop-argument l = length l.rest
