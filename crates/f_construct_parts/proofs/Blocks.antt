-- The statements of a list of trees, its last tree apart.
use Rattle.std.proofs.Common.{◌≡◌, List, [], ◌∷◌, ◌++◌, map, refl, ap}
use Rattle.f_statement_grammar.specs.Statements.{Statement}
use Rattle.f_construct_parts.specs.Lines.{Front, each}

pub each_last : {A : Type 0} (f : A → Front) (xs : List A) (x : A) (rest : List Statement) → each (map f (xs ++ x ∷ [])) rest ≡ each (map f xs) (f x rest)
each_last f [] x rest = refl
each_last f (y ∷ ys) x rest = ap (f y) (each_last f ys x rest)
