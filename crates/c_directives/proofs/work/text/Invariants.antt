use Rattle.std.proofs.Common.{◌≡◌, ◌≤◌, length}
use Rattle.c_directives.specs.Texts.{text_at}
use Rattle.c_directives.specs.Sorting.{work_of}
use Rattle.c_directives.proofs.work.text.Given as goal

abbrev pub invariant-lexemes : goal.invariant-lexemes
invariant-lexemes l = record { room : length l.pre.out.items ≤ l.limit; so_far : text_at l.limit l.origin (work_of l.pre) l.rest ≡ text_at l.limit l.origin (work_of l.fn.pre) l.line }

abbrev pub decreases-lexemes : goal.decreases-lexemes
decreases-lexemes l = length l.rest
