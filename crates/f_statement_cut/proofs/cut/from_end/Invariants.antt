use Rattle.std.proofs.Common.{◌≡◌, length}
use Rattle.f_statement_cut.specs.Pieces.{from_end}
use Rattle.f_statement_cut.proofs.cut.from_end.Given as goal

abbrev pub invariant-tokens : goal.invariant-tokens
invariant-tokens l = from_end l.rest ≡ from_end l.tokens

abbrev pub decreases-tokens : goal.decreases-tokens
decreases-tokens l = length l.rest
