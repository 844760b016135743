-- The statements of a list of tokens (ISO/IEC 1539-1:2018, 6.3.2.4): each goes up to the next end of a statement or the end of the list.
use Rattle.std.specs.Prelude.{◌≡◌, List, [], ◌∷◌, Option, Some, None, is_some, Bool, true, false, if◌then◌else◌}
use Rattle.jf_base.specs.declared.place.Place.{Place}
use Rattle.f_lex.specs.declared.token.Token.{Token}
use Rattle.f_lex.specs.declared.token.Token.TheVariants as token
use Rattle.f_lex.specs.declared.token.Spanned.{Spanned}
use Rattle.f_expr_read.specs.Views.{tokens_of}
use Rattle.f_unit_grammar.specs.Rules.{Cut}

-- the tokens of a statement, and the place of its end where that stands behind them
abbrev pub Piece : Type 0
Piece = List Spanned × Option Place

abbrev pub is_end : Token → Bool
is_end token.End = true
is_end _ = false

-- a token in front of the first statement
abbrev pub in_front : Spanned → List Piece → List Piece
in_front t [] = (t ∷ [], None) ∷ []
in_front t (p ∷ ps) = (t ∷ p.0, p.1) ∷ ps

unfoldable pub pieces : List Spanned → List Piece
pieces [] = []
pieces (t ∷ ts) = if is_end t.token then ([], Some t.place) ∷ pieces ts else in_front t (pieces ts)

-- a statement without its places
abbrev pub cut_of : Piece → Cut
cut_of p = (tokens_of p.0, is_some p.1)

-- the first token of a statement, its end where it has no other, stands here
abbrev pub BeginsAt : Piece → Place → Type 0
BeginsAt ([], None) place = ⊥
BeginsAt ([], Some end) place = place ≡ end
BeginsAt (t ∷ ts, end) place = place ≡ t.place

-- where the first token of a statement stands; one that has none stands nowhere
abbrev pub place_or : Place → Piece → Place
place_or other ([], None) = other
place_or other ([], Some end) = end
place_or other (t ∷ ts, end) = t.place

-- ---- the first statement

-- its tokens, and what stands from its end on
unfoldable pub before_end : List Spanned → List Spanned
before_end [] = []
before_end (t ∷ ts) = if is_end t.token then [] else t ∷ before_end ts

unfoldable pub from_end : List Spanned → List Spanned
from_end [] = []
from_end (t ∷ ts) = if is_end t.token then t ∷ ts else from_end ts

-- where the end stands, and what stands behind it
abbrev pub end_place : List Spanned → Option Place
end_place [] = None
end_place (t ∷ ts) = Some t.place

abbrev pub behind_first : List Spanned → List Spanned
behind_first [] = []
behind_first (t ∷ ts) = ts
