use Rattle.std.proofs.Common.{◌≡◌, ℕ, ◌≤◌, ◌+◌, ◌*◌, List, [], length, reverse, Some}
use Rattle.c_lines.specs.Rows.{rows}
use Rattle.c_directives.specs.Reading.{lines_at, file_at}
use Rattle.c_directives.specs.Sorting.{state_of}
use Rattle.c_pre.specs.Files.{include_at}
use Rattle.c_pre.proofs.Acting.{SoFar}
use Rattle.c_pre.proofs.reader.+reader.Given as goal

abbrev pub decreases-act : goal.decreases-act
decreases-act g l = 4 * l.reading.depth + 1

abbrev pub decreases-include : goal.decreases-include
decreases-include g l = 4 * l.reading.depth

abbrev pub decreases-read : goal.decreases-read
decreases-read g l = 4 * l.reading.depth + 3

abbrev pub decreases-step : goal.decreases-step
decreases-step g l = 4 * l.reading.depth + 2

abbrev pub decreases-read-lines : goal.decreases-read-lines
decreases-read-lines g l = length l.rest

abbrev pub invariant-read-lines : goal.invariant-read-lines
invariant-read-lines g l =
    (length l.pre.out.items ≤ l.reading.limit) × (g.L.Library.files l.library ≡ g.L.Library.files l.fn.library) × (g.L.Library.faults l.library ≡ g.L.Library.faults l.fn.library)
    × ((fs : List (List ℕ × List ℕ)) → g.L.Library.files l.fn.library ≡ Some fs → SoFar
    (λ k. lines_at (include_at fs l.reading.limit l.reading.depth) l.reading.limit l.reading.origin (reverse l.opens.items, state_of k l.pre) (rows l.rest))
    (λ k. file_at (include_at fs l.reading.limit l.reading.depth) l.reading.limit l.reading.origin (state_of k l.fn.pre) l.bytes))
    × ((fs : List (List ℕ × List ℕ)) → g.L.Library.files l.fn.library ≡ Some fs → g.L.Library.strays l.library ≡ g.L.Library.strays l.fn.library)
