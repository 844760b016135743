use Rattle.std.proofs.Common.{suc, ◌+◌, ◌*◌, ◌-◌, length, map}
use Rattle.c_unit_grammar.specs.Statements.{after_items}
use Rattle.c_unit_grammar.specs.Reading.{items_at, stmt_in}
use Rattle.c_expression_read.specs.Gives.{behind}
use Rattle.c_expression_read.proofs.Loops.{Reads}
use Rattle.c_statement_read.specs.Views.{in_front, view_item, items_of}
use Rattle.c_statement_read.proofs.statement.+statement.Given as goal

abbrev pub decreases-nested : goal.decreases-nested
decreases-nested l = 9 * l.depth

abbrev pub decreases-substatement : goal.decreases-substatement
decreases-substatement l = 9 * l.depth + 1

abbrev pub decreases-body : goal.decreases-body
decreases-body l = 9 * l.depth + 2

abbrev pub decreases-block_items : goal.decreases-block_items
decreases-block_items l = 9 * l.depth + 3

abbrev pub decreases-if_statement : goal.decreases-if_statement
decreases-if_statement l = 9 * l.depth + 4

abbrev pub decreases-switch : goal.decreases-switch
decreases-switch l = 9 * l.depth + 4

abbrev pub decreases-case : goal.decreases-case
decreases-case l = 9 * l.depth + 4

abbrev pub decreases-default : goal.decreases-default
decreases-default l = 9 * l.depth + 4

abbrev pub decreases-while_loop : goal.decreases-while_loop
decreases-while_loop l = 9 * l.depth + 4

abbrev pub decreases-do_while : goal.decreases-do_while
decreases-do_while l = 9 * l.depth + 4

abbrev pub decreases-for_loop : goal.decreases-for_loop
decreases-for_loop l = 9 * l.depth + 4

abbrev pub decreases-block : goal.decreases-block
decreases-block l = 9 * l.depth + 4

abbrev pub decreases-statement : goal.decreases-statement
decreases-statement l = 9 * l.depth + 5

abbrev pub decreases-item : goal.decreases-item
decreases-item l = 9 * l.depth + 6

abbrev pub decreases-items : goal.decreases-items
decreases-items l = 9 * l.depth + 7

abbrev pub decreases-closed_items : goal.decreases-closed_items
decreases-closed_items l = 9 * l.depth + 8

abbrev pub invariant-items-items : goal.invariant-items-items
invariant-items-items l = Reads (behind in_front (map view_item l.items.items) (items_at l.depth (stmt_in (suc l.depth)) (length l.tokens - l.counter) l.scope l.rest)) (items_at l.depth (stmt_in (suc l.depth)) (length l.tokens) l.fn.scope l.tokens) l.scope (after_items (items_of (map view_item l.items.items)) l.fn.scope)
