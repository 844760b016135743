use Rattle.std.proofs.Common.{◌≡◌, length}
use Rattle.c_lines.specs.Rows.{row_rest}
use Rattle.c_lines.proofs.row.row_rest.Given as goal

abbrev pub invariant-lexemes : goal.invariant-lexemes
invariant-lexemes l = row_rest l.rest ≡ row_rest l.lexemes

abbrev pub decreases-lexemes : goal.decreases-lexemes
decreases-lexemes l = length l.rest
