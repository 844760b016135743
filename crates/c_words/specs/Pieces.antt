-- Adjacent string literals, which are one sequence in translation phase 6 (ISO/IEC 9899:2011, 5.1.1.2p1, 6.4.5p5).
use Rattle.std.specs.Prelude.{◌≡◌, List, [], ◌∷◌, ◌++◌, Bool, true, false}
use Rattle.c_token.specs.declared.token.CToken.{CToken}
use Rattle.c_token.specs.declared.token.CToken.TheVariants as token
use Rattle.c_token.specs.declared.token.CSpanned.{CSpanned}

-- what becomes one word: a token and, where it is a string literal, those that stand side by side behind it
pub record Piece : Type 0 where
  pub first : CSpanned
  pub others : List CSpanned

abbrev pub piece : CSpanned → List CSpanned → Piece
piece t others = record { first = t; others = others }

abbrev pub is_literal : CToken → Bool
is_literal (token.Text content) = true
is_literal _ = false

-- a token in front of pieces
abbrev pub join : Bool → CSpanned → Piece → List Piece → List Piece
join true t p ps = piece t (p.first ∷ p.others) ∷ ps
join false t p ps = piece t [] ∷ p ∷ ps

abbrev pub both : Bool → Bool → Bool
both true b = b
both false b = false

abbrev pub put_before : CSpanned → List Piece → List Piece
put_before t [] = piece t [] ∷ []
put_before t (p ∷ ps) = join (both (is_literal t.token) (is_literal p.first.token)) t p ps

-- the pieces of a text: string literals that stand side by side are one, and each other token is one of its own
unfoldable pub pieces : List CSpanned → List Piece
pieces [] = []
pieces (t ∷ ts) = put_before t (pieces ts)

-- ---- what makes them the pieces

-- the tokens of pieces
abbrev pub tokens_of : List Piece → List CSpanned
tokens_of [] = []
tokens_of (p ∷ ps) = p.first ∷ (p.others ++ tokens_of ps)

abbrev pub AreLiterals : List CSpanned → Type 0
AreLiterals [] = Unit {0}
AreLiterals (t ∷ ts) = (is_literal t.token ≡ true) × AreLiterals ts

-- only literals are joined
abbrev pub AreJoined : Bool → List CSpanned → Type 0
AreJoined true others = AreLiterals others
AreJoined false others = others ≡ []

-- and no literal stands behind a literal that it isn't joined to
abbrev pub IsApart : Bool → List Piece → Type 0
IsApart false ps = Unit {0}
IsApart true [] = Unit {0}
IsApart true (p ∷ ps) = is_literal p.first.token ≡ false

abbrev pub AreWhole : List Piece → Type 0
AreWhole [] = Unit {0}
AreWhole (p ∷ ps) = AreJoined (is_literal p.first.token) p.others × IsApart (is_literal p.first.token) ps × AreWhole ps

-- the pieces have the tokens, in their order, and are as long as can be
pub record ArePieces (ts : List CSpanned) (ps : List Piece) : Type 0 where
  pub tokens : ts ≡ tokens_of ps
  pub whole : AreWhole ps
