use Rattle.std.proofs.Common.{refl}
use Rattle.c_grammar.specs.Grammar.{is_type}
use Rattle.c_grammar.proofs.scope.is_type.Goals as goal

pub loop-binding-init : goal.loop-binding-init
unfolding is_type
loop-binding-init c = refl
