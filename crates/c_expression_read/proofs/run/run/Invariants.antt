use Rattle.std.proofs.Common.{◌≡◌, length}
use Rattle.c_grammar.specs.Reading.{run_at}
use Rattle.c_expression_read.proofs.Runs.{before}
use Rattle.c_expression_read.proofs.run.run.Given as goal

abbrev pub invariant-marks : goal.invariant-marks
invariant-marks l = before l.marks.items (run_at l.rest) ≡ run_at l.tokens

abbrev pub decreases-marks : goal.decreases-marks
decreases-marks l = length l.rest
