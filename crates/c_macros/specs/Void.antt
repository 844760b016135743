-- Macros that expand to nothing.
use Rattle.std.specs.Prelude.{◌≡◌, ℕ, List, [], ◌∷◌, Bool, true, false, ◌==◌, if◌then◌else◌, slice_index_or}
use Rattle.c_macros.specs.declared.token.Token.{Token}
use Rattle.c_macros.specs.declared.token.Token.TheVariants.{Name, Other}
use Rattle.c_macros.specs.Expansion.{Bodies, Macros}

abbrev pub member : ℕ → List ℕ → Bool
member m [] = false
member m (n ∷ ns) = if m == n then true else member m ns

-- tokens that are all names of these
abbrev pub AllIn : List Token → List ℕ → Type 0
AllIn [] names = Unit {0}
AllIn (Name m ∷ ts) names = (member m names ≡ true) × AllIn ts names
AllIn (Other c ∷ ts) names = ⊥

-- each name's body has names alone that stand behind it
abbrev pub AreVoid : Bodies → List ℕ → Type 0
AreVoid bodies [] = Unit {0}
AreVoid bodies (n ∷ names) = AllIn (slice_index_or bodies n []) names × AreVoid bodies names

abbrev pub AreOn : Macros → List ℕ → Type 0
AreOn on [] = Unit {0}
AreOn on (n ∷ names) = (slice_index_or on n false ≡ true) × AreOn on names
