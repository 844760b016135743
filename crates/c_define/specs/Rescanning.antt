-- Rescanning and further replacement, as the standard tells it (ISO/IEC 9899:2011, 6.10.3p9 and 6.10.3.4). A sequence is scanned from its first token on.
use Rattle.std.specs.Prelude.{◌≡◌, ℕ, List, [], ◌∷◌, ◌++◌, map, Option, Some, None, Bool, true, false, if◌then◌else◌}
use Rattle.std.specs.Str.{bytes_eq}
use Rattle.c_token.specs.declared.token.CToken.{CToken}
use Rattle.c_token.specs.declared.token.CToken.TheVariants.{Id}
use Rattle.c_define.specs.Definitions.{Names}
use Rattle.c_define.specs.Expansion.{body_of}

-- a token of the sequence, and the names of the macros in whose replacement it was found: none for a token of the text
pub data Found : Type 0 where
  Within : (token : CToken) (macros : List (List ℕ)) → Found

abbrev pub is_among : List ℕ → List (List ℕ) → Bool
is_among name [] = false
is_among name (n ∷ ns) = if bytes_eq name n then true else is_among name ns

-- the replacement list of a token that is the name of a macro; a name that is found in the replacement of its own macro isn't replaced (6.10.3.4p2)
abbrev pub replacement : Names → List (List ℕ) → CToken → Option (List CToken)
replacement names macros (Id name) = if is_among name macros then None else body_of names (Id name)
replacement names macros _ = None

-- the macros in whose replacement the tokens of a token's replacement list are found
abbrev pub with_name : CToken → List (List ℕ) → List (List ℕ)
with_name (Id name) macros = name ∷ macros
with_name _ macros = macros

abbrev pub found : List (List ℕ) → List CToken → List Found
found macros tokens = map (λ t. Within t macros) tokens

-- A token that isn't replaced stays. One that is replaced gives its replacement list, which is scanned again together with all tokens behind it (6.10.3.4p1).
pub data Rescans (names : Names) : List Found → List CToken → Type 0 where
  Ends : Rescans names [] []
  Stays : (t : CToken) (macros : List (List ℕ)) (rest : List Found) (out : List CToken) → replacement names macros t ≡ None → Rescans names rest out → Rescans names (Within t macros ∷ rest) (t ∷ out)
  Replaced : (t : CToken) (macros : List (List ℕ)) (list : List CToken) (rest : List Found) (out : List CToken) → replacement names macros t ≡ Some list
      → Rescans names (found (with_name t macros) list ++ rest) out → Rescans names (Within t macros ∷ rest) out

-- what tokens of the text expand to
abbrev pub Expands : Names → List CToken → List CToken → Type 0
Expands names tokens out = Rescans names (found [] tokens) out
