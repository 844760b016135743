use Rattle.std.proofs.Common.{◌≡◌, length, take}
use Rattle.c_scope.specs.Scopes.{Remembers, bindings}
use Rattle.c_scope.proofs.scope.take_back.Given as goal

abbrev pub invariant-loop-declared : goal.invariant-loop-declared
invariant-loop-declared l = Remembers l.kinds.items l.declared.items × (take l.mark (bindings l.declared.items) ≡ take l.mark (bindings l.fn.declared.items))

abbrev pub decreases-loop-declared : goal.decreases-loop-declared
decreases-loop-declared l = length l.declared.items
