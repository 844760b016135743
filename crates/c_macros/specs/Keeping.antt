-- What a table of macros holds.
use Rattle.std.specs.Prelude.{◌≡◌, ℕ, zero, suc, List, [], ◌∷◌, Bool, true, false, slice_index_or, slice_set}
use Rattle.c_macros.specs.declared.token.Token.{Token}
use Rattle.c_macros.specs.Expansion.{Bodies, Macros}
use Rattle.c_macros.specs.Void.{member}
use Rattle.c_macros.specs.Remembering.{Remembers}

-- the bodies of the names, and which names are macros
pub record State : Type 0 where
  pub bodies : Bodies
  pub on : Macros

-- a list that has this element there, with others before it where it was too short
abbrev pub put : {A : Type 0} → List A → ℕ → A → A → List A
put [] zero x d = x ∷ []
put [] (suc n) x d = d ∷ put [] n x d
put (y ∷ ys) zero x d = x ∷ ys
put (y ∷ ys) (suc n) x d = y ∷ put ys n x d

-- where the name is a macro with this body
abbrev pub defined : State → ℕ → List Token → State
defined s n body = record { bodies = put s.bodies n body []; on = put s.on n true false }

-- where the name is no macro
abbrev pub undefined : State → ℕ → State
undefined s n = record s { on = slice_set s.on n false }

-- each flag that is up is that of a name in the list
abbrev pub AreTracked : List Bool → List ℕ → Type 0
AreTracked void names = (m : ℕ) → slice_index_or void m false ≡ true → member m names ≡ true

pub record Keeps (bodies : Bodies) (on : Macros) (void : List Bool) (names : List ℕ) : Type 0 where
  pub remembers : Remembers bodies on void
  pub tracked : AreTracked void names

-- no flag is up
abbrev pub AreDown : List Bool → Type 0
AreDown void = (m : ℕ) → slice_index_or void m false ≡ false
