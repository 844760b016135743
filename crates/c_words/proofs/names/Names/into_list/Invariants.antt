use Rattle.std.proofs.Common.{◌≡◌, ◌++◌, map}
use Rattle.c_words.proofs.names.Names.into_list.Given as goal

-- the names that were put and those that are left are all
abbrev pub invariant-loop-name : goal.invariant-loop-name
invariant-loop-name l = l.names.items ++ map (λ v. v.items) l.name-iterator ≡ l.fn.self
