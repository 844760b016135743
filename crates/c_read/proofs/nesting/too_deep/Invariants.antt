use Rattle.std.proofs.Common.{◌≡◌, length}
use Rattle.c_read.specs.Nesting.{too_deep_at}
use Rattle.c_read.proofs.nesting.too_deep.Given as goal

abbrev pub invariant-tokens : goal.invariant-tokens
invariant-tokens l = too_deep_at l.nested l.rest ≡ too_deep_at 0 l.words

abbrev pub decreases-tokens : goal.decreases-tokens
decreases-tokens l = length l.rest
