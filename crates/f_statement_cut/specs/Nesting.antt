-- Where parentheses and brackets nest too deep.
use Rattle.std.specs.Prelude.{◌≡◌, ℕ, suc, ◌+◌, List, [], ◌∷◌, ◌++◌, Option, Some, None, true, false, nat_lt, if◌then◌else◌}
use Rattle.jf_base.specs.declared.place.Place.{Place}
use Rattle.f_lex.specs.declared.token.Mark.TheVariants as mark
use Rattle.f_lex.specs.declared.token.Token.{Token}
use Rattle.f_lex.specs.declared.token.Token.TheVariants as token
use Rattle.f_lex.specs.declared.token.Spanned.{Spanned}
use Rattle.f_expr_read.specs.Views.{tokens_of}
use Rattle.f_unit_grammar.specs.Units.{deepest, fewer, deeper}

-- With so many constructs around these tokens, the one at this place is the first that opens a nesting too many.
pub record OpensTooDeep (around : ℕ) (tokens : List Spanned) (place : Place) : Type 0 where
  pub before : List Spanned
  pub opening : Spanned
  pub behind : List Spanned
  pub parts : tokens ≡ before ++ opening ∷ behind
  pub fits : deeper around 0 (tokens_of before) ≡ false
  pub is_deeper : deeper around 0 (tokens_of (before ++ opening ∷ [])) ≡ true
  pub is_there : place ≡ opening.place
  pub whole : deeper around 0 (tokens_of tokens) ≡ true

-- ---- one token behind the other

-- what a token does to the nestings
pub data Turn : Type 0 where
  Opens : Turn
  Closes : Turn
  Stays : Turn

abbrev pub turn_of : Token → Turn
turn_of (token.Mark mark.Open) = Opens
turn_of (token.Mark mark.OpenBracket) = Opens
turn_of (token.Mark mark.Close) = Closes
turn_of (token.Mark mark.CloseBracket) = Closes
turn_of _ = Stays

abbrev pub by_turn : {A : Type 0} → Turn → A → A → A → A
by_turn Opens a b c = a
by_turn Closes a b c = b
by_turn Stays a b c = c

-- where so many are nested, the place of the first that opens one too many
unfoldable pub too_deep_at : ℕ → ℕ → List Spanned → Option Place
too_deep_at around nested [] = None
too_deep_at around nested (t ∷ ts) =
    by_turn (turn_of t.token)
    (if nat_lt deepest (around + suc nested) then Some t.place else too_deep_at around (suc nested) ts)
    (too_deep_at around (fewer nested) ts)
    (too_deep_at around nested ts)
