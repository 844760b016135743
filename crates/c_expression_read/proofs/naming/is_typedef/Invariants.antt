use Rattle.std.proofs.Common.{◌≡◌, map, length}
use Rattle.c_grammar.specs.Grammar.{is_typedef}
use Rattle.c_expression_read.specs.Views.{view_specifier, specs_of}
use Rattle.c_expression_read.proofs.naming.is_typedef.Given as goal

abbrev pub invariant-loop-first : goal.invariant-loop-first
invariant-loop-first l = is_typedef (specs_of (map view_specifier l.rest)) ≡ is_typedef (specs_of (map view_specifier l.specifiers))

abbrev pub decreases-loop-first : goal.decreases-loop-first
decreases-loop-first l = length l.rest
