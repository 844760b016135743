use Rattle.std.proofs.Common.{◌≡◌, false, length}
use Rattle.c_text.specs.Rests.{number_rest}
use Rattle.c_text.proofs.rests.number_rest.Given as goal

abbrev pub invariant-loop-first : goal.invariant-loop-first
invariant-loop-first l = number_rest l.behind_exponent l.rest ≡ number_rest false l.text

abbrev pub decreases-loop-first : goal.decreases-loop-first
decreases-loop-first l = length l.rest
