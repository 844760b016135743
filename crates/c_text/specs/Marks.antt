-- The longest punctuator that a text begins with (ISO/IEC 9899:2011, 6.4.6 and 6.4).
use Rattle.std.specs.Prelude.{◌≡◌, ℕ, ◌≤◌, ◌⊎◌, List, [], ◌∷◌, codes, length, Bool, true, false, ◌==◌, ◌&&◌, max, if◌then◌else◌}
use Rattle.c_text.specs.Characters.{Character}

-- the punctuators
abbrev pub punctuators : List (List ℕ)
punctuators = codes "[" ∷ codes "]" ∷ codes "(" ∷ codes ")" ∷ codes "{" ∷ codes "}" ∷ codes "." ∷ codes "->" ∷ codes "++" ∷ codes "--" ∷ codes "&" ∷ codes "*" ∷ codes "+" ∷ codes "-" ∷ codes "~"
    ∷ codes "!" ∷ codes "/" ∷ codes "%" ∷ codes "<<" ∷ codes ">>" ∷ codes "<" ∷ codes ">" ∷ codes "<=" ∷ codes ">=" ∷ codes "==" ∷ codes "!=" ∷ codes "^" ∷ codes "|" ∷ codes "&&"
    ∷ codes "||" ∷ codes "?" ∷ codes ":" ∷ codes ";" ∷ codes "..." ∷ codes "=" ∷ codes "*=" ∷ codes "/=" ∷ codes "%=" ∷ codes "+=" ∷ codes "-=" ∷ codes "<<=" ∷ codes ">>="
    ∷ codes "&=" ∷ codes "^=" ∷ codes "|=" ∷ codes "," ∷ codes "#" ∷ codes "##" ∷ codes "<:" ∷ codes ":>" ∷ codes "<%" ∷ codes "%>" ∷ codes "%:" ∷ codes "%:%:" ∷ []

-- a text begins with the mark
abbrev pub begins : List ℕ → List Character → Bool
begins [] cs = true
begins (m ∷ ms) [] = false
begins (m ∷ ms) (c ∷ cs) = m == c.byte && begins ms cs

-- how long the mark is, if a text begins with it, or else 0
abbrev pub length_at : List ℕ → List Character → ℕ
length_at m cs = if begins m cs then length m else 0

-- how long the longest mark of a table is that a text begins with; 0 where there is none
unfoldable pub longest : List (List ℕ) → List Character → ℕ
longest [] cs = 0
longest (m ∷ ms) cs = max (length_at m cs) (longest ms cs)

-- how long the longest punctuator is that a text begins with
unfoldable pub mark_length : List Character → ℕ
mark_length cs = longest punctuators cs

abbrev pub IsIn : List ℕ → List (List ℕ) → Type 0
IsIn m [] = ⊥
IsIn m (x ∷ xs) = (x ≡ m) ⊎ IsIn m xs

-- the length of a mark that the text begins with, and of no shorter one than any other; or 0
pub record IsLongest (marks : List (List ℕ)) (cs : List Character) (n : ℕ) : Type 0 where
  pub most : (m : List ℕ) → IsIn m marks → begins m cs ≡ true → length m ≤ n
  pub found : (n ≡ 0) ⊎ ((m : List ℕ) × IsIn m marks × (begins m cs ≡ true) × (n ≡ length m))
