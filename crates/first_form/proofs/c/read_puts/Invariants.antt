use Rattle.std.proofs.Common.{◌≡◌, length}
use Rattle.std.specs.List.{All}
use Rattle.first_form.specs.Forms.{IsArgument}
use Rattle.first_form.specs.Runs.{spelled, put_before}
use Rattle.first_form.proofs.c.read_puts.Given as goal

abbrev pub invariant-loop-argument : goal.invariant-loop-argument
invariant-loop-argument l = (All IsArgument l.puts.items) × (l.text ≡ spelled put_before l.puts.items l.rest)

abbrev pub decreases-loop-argument : goal.decreases-loop-argument
decreases-loop-argument l = length l.rest
