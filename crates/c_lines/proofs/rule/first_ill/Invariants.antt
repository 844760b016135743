use Rattle.std.proofs.Common.{◌≡◌, length}
use Rattle.c_lines.specs.Rules.{first_ill}
use Rattle.c_lines.proofs.rule.first_ill.Given as goal

abbrev pub invariant-lexemes : goal.invariant-lexemes
invariant-lexemes l = first_ill l.rest ≡ first_ill l.lexemes

abbrev pub decreases-lexemes : goal.decreases-lexemes
decreases-lexemes l = length l.rest
