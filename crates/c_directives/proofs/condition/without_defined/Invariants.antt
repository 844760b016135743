use Rattle.std.proofs.Common.{◌≡◌, length}
use Rattle.c_define.specs.Numbers.{macros_of}
use Rattle.c_directives.specs.declared.condition.Expected.TheVariants.{Any}
use Rattle.c_directives.specs.Conditions.{without_defined}
use Rattle.c_directives.proofs.Steps.{behind}
use Rattle.c_directives.proofs.condition.without_defined.Given as goal

abbrev pub invariant-tokens : goal.invariant-tokens
invariant-tokens l = behind l.out.items (without_defined (macros_of l.macros) l.expected l.rest) ≡ without_defined (macros_of l.macros) Any l.tokens

abbrev pub decreases-tokens : goal.decreases-tokens
decreases-tokens l = length l.rest
