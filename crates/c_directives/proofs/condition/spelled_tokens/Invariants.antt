use Rattle.std.proofs.Common.{◌≡◌, ◌++◌, map, length}
use Rattle.c_directives.specs.Conditions.{spelled_tokens}
use Rattle.c_directives.proofs.condition.spelled_tokens.Given as goal

abbrev pub invariant-tokens : goal.invariant-tokens
invariant-tokens l = l.out.items ++ spelled_tokens (map (λ s. s.token) l.rest) ≡ spelled_tokens (map (λ s. s.token) l.tokens)

abbrev pub decreases-tokens : goal.decreases-tokens
decreases-tokens l = length l.rest
