-- What can be said of a program before a name is looked up in another scope.
use Rattle.std.specs.Prelude.{◌≡◌, ℕ, List}
use Rattle.f_items.specs.Places.{Located}
use Rattle.f_items.specs.Scoped.{IsNamedTwice, BreaksFirst}
use Rattle.f_scope.specs.declared.program.Begun.{Begun}
use Rattle.f_scope.specs.declared.program.Begun.TheVariants.{NamedTwice, Begins}

-- two units have one name, which is the first broken rule, or the program has these items
abbrev pub IsBegun : List Located → Begun → Type 0
IsBegun p (NamedTwice k) = BreaksFirst p k 1
IsBegun p (Begins q) = (q.items ≡ p) × ((k : ℕ) → IsNamedTwice p k → ⊥)
