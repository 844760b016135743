use Rattle.std.proofs.Common.{◌≡◌, drop}
use Rattle.c_grammar.specs.Grammar.{is_type, type_after}
use Rattle.c_grammar.proofs.scope.is_type.Given as goal

abbrev pub invariant-loop-binding : goal.invariant-loop-binding
invariant-loop-binding l = type_after l.found (drop l.binding-index l.scope) l.name ≡ is_type l.scope l.name
