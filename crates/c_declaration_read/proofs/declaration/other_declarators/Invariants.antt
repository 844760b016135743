use Rattle.std.proofs.Common.{◌-◌, [], length, map}
use Rattle.c_unit_grammar.specs.Statements.{after_inits}
use Rattle.c_unit_grammar.specs.Reading.{inits_at}
use Rattle.c_expression_read.specs.Gives.{behind, onto}
use Rattle.c_expression_read.proofs.Loops.{Reads}
use Rattle.c_declaration_read.specs.Views.{view_init}
use Rattle.c_declaration_read.proofs.Turns.{one_more}
use Rattle.c_declaration_read.proofs.declaration.other_declarators.Given as goal

abbrev pub invariant-declarators : goal.invariant-declarators
invariant-declarators l = Reads (behind one_more (map view_init l.others.items) (inits_at l.depth l.is_typedef (length l.tokens - l.counter) l.scope l.rest)) (inits_at l.depth l.is_typedef (length l.tokens) l.fn.scope l.tokens) l.scope (after_inits l.is_typedef (onto one_more (map view_init l.others.items) []) l.fn.scope)
