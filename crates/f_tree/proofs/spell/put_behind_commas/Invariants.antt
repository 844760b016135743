use Rattle.std.proofs.Common.{◌≡◌, ◌≤◌, map, take, length}
use Rattle.f_tree.specs.Lexemes.{behind_commas}
use Rattle.f_tree.proofs.spell.put_behind_commas.Given as goal

abbrev pub invariant-loop-left : goal.invariant-loop-left
invariant-loop-left g l = record { within : l.left ≤ length l.items; so_far : behind_commas (map g.T.Spell.spelled (take l.left l.items)) l.out ≡ behind_commas (map g.T.Spell.spelled l.items) l.initial.out }

abbrev pub decreases-loop-left : goal.decreases-loop-left
decreases-loop-left g l = l.left
