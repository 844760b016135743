use Rattle.std.proofs.Common.{◌≡◌, length, Some}
use Rattle.c_literal.specs.Digits.{digits_at}
use Rattle.c_literal.proofs.digits.digits_at.Given as goal

abbrev pub invariant-loop-first : goal.invariant-loop-first
invariant-loop-first l = digits_at l.radix l.value l.rest ≡ digits_at l.fn.radix (Some 0) l.fn.text

abbrev pub decreases-loop-first : goal.decreases-loop-first
decreases-loop-first l = length l.rest
