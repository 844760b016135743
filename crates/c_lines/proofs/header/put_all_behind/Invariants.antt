use Rattle.std.proofs.Common.{◌≡◌, ◌++◌, length}
use Rattle.c_lines.specs.Headers.{spelled_behind}
use Rattle.c_lines.proofs.header.put_all_behind.Given as goal

abbrev pub invariant-lexemes : goal.invariant-lexemes
invariant-lexemes l = l.out.items ++ spelled_behind l.rest ≡ l.fn.out.items ++ spelled_behind l.lexemes

abbrev pub decreases-lexemes : goal.decreases-lexemes
decreases-lexemes l = length l.rest
