-- How many tokens of the text a function's definition has: a word was made of one token, or of string literals that stood side by side.
use Rattle.std.specs.Prelude.{◌≡◌, ℕ, ◌-◌, List, [], ◌∷◌, length, drop, take, sum}
use Rattle.c_tree.specs.declared.unit.External.{External}
use Rattle.c_tree.specs.declared.unit.External.TheVariants as external
use Rattle.c_grammar.specs.declared.token.Token.{Token}
use Rattle.c_unit_grammar.specs.Statements.{spell_ext}
use Rattle.c_external_read.specs.Views.{view_external}

-- the tokens of so many words, the first of which has this number
abbrev pub tokens_in : List ℕ → ℕ → ℕ → ℕ
tokens_in counts first words = sum (take words (drop first counts))

-- a function's definition tells the number of its first word, and how many tokens its words have
abbrev pub IsCounted : List ℕ → ℕ → ℕ → External → Type 0
IsCounted counts first words (external.Declaration d) = Unit {0}
IsCounted counts first words (external.Function specifiers declarator body tokens at) = (at ≡ first) × (tokens ≡ tokens_in counts first words)

-- from these tokens up to the rest; the number behind the last token of the unit is `end`
abbrev pub Counted : List ℕ → ℕ → List Token → List External → List Token → Type 0
Counted counts end ts [] rest = ts ≡ rest
Counted counts end ts (x ∷ xs) rest = (behind : List Token) × (ts ≡ spell_ext (view_external x) behind) × IsCounted counts (end - length ts) (length ts - length behind) x × Counted counts end behind xs rest

-- all external declarations of a file
abbrev pub AreCounted : List ℕ → List Token → List External → Type 0
AreCounted counts ts xs = Counted counts (length ts) ts xs []
