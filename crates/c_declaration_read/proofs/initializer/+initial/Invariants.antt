use Rattle.std.proofs.Common.{◌+◌, ◌*◌, ◌-◌, length, map}
use Rattle.c_unit_grammar.specs.Statements.{initial, after_initials}
use Rattle.c_unit_grammar.specs.Reading.{initials_at, initial_in}
use Rattle.c_expression_read.specs.Gives.{behind}
use Rattle.c_expression_read.proofs.Loops.{Reads}
use Rattle.c_declaration_read.specs.Views.{view_initializer, initials_of}
use Rattle.c_declaration_read.proofs.initializer.+initial.Given as goal

abbrev pub decreases-nested : goal.decreases-nested
decreases-nested l = 4 * l.depth

abbrev pub decreases-others : goal.decreases-others
decreases-others l = 4 * l.depth + 1

abbrev pub decreases-list : goal.decreases-list
decreases-list l = 4 * l.depth + 2

abbrev pub decreases-initializer : goal.decreases-initializer
decreases-initializer l = 4 * l.depth + 3

abbrev pub invariant-others-initials : goal.invariant-others-initials
invariant-others-initials l = Reads (behind initial (map view_initializer l.others.items) (initials_at (initial_in l.depth) (length l.tokens - l.counter) l.scope l.rest)) (initials_at (initial_in l.depth) (length l.tokens) l.fn.scope l.tokens) l.scope (after_initials (initials_of (map view_initializer l.others.items)) l.fn.scope)
