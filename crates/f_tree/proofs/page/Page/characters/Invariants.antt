use Rattle.std.proofs.Common.{◌≡◌, length}
use Rattle.f_tree.specs.Text.{and_then, characters}
use Rattle.f_tree.proofs.page.Page.characters.Given as goal

abbrev pub invariant-loop-first : goal.invariant-loop-first
invariant-loop-first l = and_then l.self (characters l.rest) ≡ and_then l.fn.self (characters l.fn.bytes)

abbrev pub decreases-loop-first : goal.decreases-loop-first
decreases-loop-first l = length l.rest
