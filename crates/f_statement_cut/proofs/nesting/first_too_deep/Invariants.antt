use Rattle.std.proofs.Common.{◌≡◌, length}
use Rattle.f_statement_cut.specs.Nesting.{too_deep_at}
use Rattle.f_statement_cut.proofs.nesting.first_too_deep.Given as goal

abbrev pub invariant-tokens : goal.invariant-tokens
invariant-tokens l = too_deep_at l.around l.nested l.rest ≡ too_deep_at l.around 0 l.tokens

abbrev pub decreases-tokens : goal.decreases-tokens
decreases-tokens l = length l.rest
