use Rattle.std.proofs.Common.{◌≡◌, ◌++◌, length}
use Rattle.f_tree.specs.Text.{text_from, text_of}
use Rattle.f_tree.proofs.page.text_of.Given as goal

abbrev pub invariant-loop-first : goal.invariant-loop-first
invariant-loop-first l = l.page.0 ++ text_from l.page.1 l.rest ≡ text_of l.fn.tokens

abbrev pub decreases-loop-first : goal.decreases-loop-first
decreases-loop-first l = length l.rest
