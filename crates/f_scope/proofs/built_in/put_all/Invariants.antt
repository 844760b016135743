use Rattle.std.proofs.Common.{◌≡◌, ◌++◌, map, take}
use Rattle.f_scope.specs.BuiltIn.{built_in}
use Rattle.f_scope.proofs.built_in.put_all.Given as goal

abbrev pub invariant-loop-name : goal.invariant-loop-name
invariant-loop-name l = l.items.items ≡ l.initial.items.items ++ map (λ n. built_in l.class n.now) (take l.name-index l.names)
