-- What a scope remembers (ISO/IEC 9899:2011, 6.2.1): what each name is now, and what it was before each declaration.
use Rattle.std.specs.Prelude.{◌≡◌, ℕ, ◌<◌, List, [], ◌∷◌, ◌++◌, Bool, false, get_or, length}
use Rattle.c_grammar.specs.declared.scope.Binding.{Binding}
use Rattle.c_grammar.specs.Grammar.{type_after}
use Rattle.c_scope.specs.declared.scope.Declared.{Declared}

abbrev pub binding : Declared → Binding
binding d = record { name = d.name; is_type = d.is_type }

abbrev pub bindings : List Declared → List Binding
bindings [] = []
bindings (d ∷ ds) = binding d ∷ bindings ds

-- each declaration has a place in the table, and knows what its name was before it
abbrev pub Undoes : ℕ → List Binding → List Declared → Type 0
Undoes n s [] = Unit {0}
Undoes n s (d ∷ ds) = (d.name < n) × (d.was_type ≡ type_after false s d.name) × Undoes n (s ++ binding d ∷ []) ds

pub record Remembers (kinds : List Bool) (ds : List Declared) : Type 0 where
  pub now : (k : ℕ) → get_or kinds k false ≡ type_after false (bindings ds) k
  pub before : Undoes (length kinds) [] ds
