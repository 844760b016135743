use Rattle.std.proofs.Common.{◌≡◌, drop, map}
use Rattle.c_grammar.specs.Grammar.{after_more}
use Rattle.c_expression_read.specs.Views.{view_typed, more_of}
use Rattle.c_redeclare.proofs.function.listed.Given as goal

abbrev pub invariant-parameters : goal.invariant-parameters
invariant-parameters l = after_more (more_of (map view_typed (drop l.one-index l.all))) l.scope ≡ after_more (more_of (map view_typed l.all)) l.fn.scope
