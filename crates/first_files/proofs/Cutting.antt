-- Pieces in front of a rest, and the tokens that they give.
use Rattle.std.proofs.Common.{◌≡◌, ℕ, List, [], ◌∷◌, ◌++◌, length, Some, None, Bool, true, false, if◌then◌else◌, is_some, option_to_list, refl, sym, ap, ◌∙◌, subst}
use Rattle.std.proofs.lemmas.List.{map-append}
use Rattle.f_lex.specs.declared.piece.Piece.{Piece}
use Rattle.f_lex.specs.declared.piece.Piece.TheVariants as piece
use Rattle.f_lex.specs.declared.reader.Position.{Position}
use Rattle.f_lex.specs.declared.token.Token.{Token}
use Rattle.f_lex.specs.declared.token.Token.TheVariants as token
use Rattle.f_lex.specs.declared.token.Spanned.{Spanned}
use Rattle.f_lex.specs.Grammar.{Shape, spell, meaning, Fits, spell_text, FitsText}
use Rattle.f_lex.specs.Rules.{given, moved, spanned}
use Rattle.f_lex.specs.Source.{Cut, tokens_from, position_behind, start}
use Rattle.f_lex.specs.Lexing.{Lexes, Consists, cuts_of}
use Rattle.f_lex.proofs.WholeLaws.{read_cuts}
use Rattle.f_expr_read.specs.Views.{tokens_of}

-- pieces in front of a rest
abbrev pub spelled : List Shape → List ℕ → List ℕ
spelled [] rest = rest
spelled (s ∷ ss) rest = spell s (spelled ss rest)

abbrev pub FitAll : List Shape → List ℕ → Type 0
FitAll [] rest = Unit {0}
FitAll (s ∷ ss) rest = Fits s (spelled ss rest) × FitAll ss rest

pub spelled_append : (ss qs : List Shape) (rest : List ℕ) → spelled (ss ++ qs) rest ≡ spelled ss (spelled qs rest)
spelled_append [] qs rest = refl
spelled_append (s ∷ ss) qs rest = ap (spell s) (spelled_append ss qs rest)

pub fit_append : (ss qs : List Shape) (rest : List ℕ) → FitAll ss (spelled qs rest) → FitAll qs rest → FitAll (ss ++ qs) rest
fit_append [] qs rest f g = g
fit_append (s ∷ ss) qs rest f g = (subst (Fits s) (sym (spelled_append ss qs rest)) f.0, fit_append ss qs rest f.1 g)

text_is : (ss : List Shape) → spelled ss [] ≡ spell_text ss
text_is [] = refl
text_is (s ∷ ss) = ap (spell s) (text_is ss)

fits_text : (ss : List Shape) → FitAll ss [] → FitsText ss
fits_text [] f = tt
fits_text (s ∷ ss) f = (subst (Fits s) (text_is ss) f.0, fits_text ss f.1)

pub consists_of : (bytes : List ℕ) (ss : List Shape) → FitAll ss [] → spelled ss [] ≡ bytes → Consists bytes ss
consists_of bytes ss f e = record { fits = fits_text ss f; spelled = sym e ∙ text_is ss }

-- ---- tokens without their places

abbrev pub plain_piece : Bool → Piece → List Token
plain_piece has (piece.Token t passed broken) = t ∷ []
plain_piece true piece.LineEnd = token.End ∷ []
plain_piece false piece.LineEnd = []
plain_piece true piece.Semicolon = token.End ∷ []
plain_piece false piece.Semicolon = []
plain_piece has piece.Blank = []
plain_piece has piece.Joined = []
plain_piece has piece.Lost = []
plain_piece has (piece.Ill r) = []

-- whether the statement has tokens behind a piece
abbrev pub has_behind : Bool → Piece → Bool
has_behind has (piece.Token t passed broken) = true
has_behind has piece.LineEnd = false
has_behind has piece.Semicolon = false
has_behind has piece.Blank = has
has_behind has piece.Joined = has
has_behind has piece.Lost = has
has_behind has (piece.Ill r) = has

-- the tokens of pieces, and the end that the end of the file is
abbrev pub plain : Bool → List Shape → List Token
plain has [] = plain_piece has piece.LineEnd
plain has (s ∷ ss) = plain_piece has (meaning s) ++ plain (has_behind has (meaning s)) ss

given_plain : (file : ℕ) (at : Position) (p : Piece) (len : ℕ) → tokens_of (option_to_list (given file at p len)) ≡ plain_piece (is_some at.statement) p
unfolding given
given_plain file at (piece.Token t passed broken) len = refl
given_plain file at piece.LineEnd len = pick (is_some at.statement)
  where
    pick : (b : Bool) → tokens_of (option_to_list (if b then Some (spanned file at len token.End) else None)) ≡ plain_piece b piece.LineEnd
    pick true = refl
    pick false = refl
given_plain file at piece.Semicolon len = pick (is_some at.statement)
  where
    pick : (b : Bool) → tokens_of (option_to_list (if b then Some (spanned file at len token.End) else None)) ≡ plain_piece b piece.Semicolon
    pick true = refl
    pick false = refl
given_plain file at piece.Blank len = refl
given_plain file at piece.Joined len = refl
given_plain file at piece.Lost len = refl
given_plain file at (piece.Ill r) len = refl

has_moved : (at : Position) (x : Cut) → is_some (position_behind at x).statement ≡ has_behind (is_some at.statement) x.0
unfolding moved
has_moved at (piece.Token t passed broken, bytes) = refl
has_moved at (piece.LineEnd, bytes) = refl
has_moved at (piece.Semicolon, bytes) = refl
has_moved at (piece.Blank, bytes) = refl
has_moved at (piece.Joined, bytes) = refl
has_moved at (piece.Lost, bytes) = refl
has_moved at (piece.Ill r, bytes) = refl

nil_behind : {A : Type 0} (xs : List A) → xs ++ [] ≡ xs
nil_behind [] = refl
nil_behind (x ∷ xs) = ap (λ l. x ∷ l) (nil_behind xs)

plain_from : (file : ℕ) (at : Position) (ss : List Shape) → tokens_of (tokens_from file at (cuts_of ss)) ≡ plain (is_some at.statement) ss
plain_from file at [] = ap tokens_of (nil_behind (option_to_list (given file at piece.LineEnd 0))) ∙ given_plain file at piece.LineEnd 0
plain_from file at (s ∷ ss) =
    let x : Cut = (meaning s, spell s []) in
    map-append (λ (t : Spanned). t.token) (option_to_list (given file at x.0 (length x.1))) (tokens_from file (position_behind at x) (cuts_of ss))
    ∙ ap (λ (l : List Token). l ++ tokens_of (tokens_from file (position_behind at x) (cuts_of ss))) (given_plain file at x.0 (length x.1))
    ∙ ap (λ (l : List Token). plain_piece (is_some at.statement) (meaning s) ++ l) (plain_from file (position_behind at x) ss ∙ ap (λ (b : Bool). plain b ss) (has_moved at x))

-- the tokens of a text are those of its pieces
pub plain_tokens : (file before : ℕ) (bytes : List ℕ) (ts : List Spanned) (ss : List Shape) → Lexes file before bytes ts → Consists bytes ss → tokens_of ts ≡ plain false ss
plain_tokens file before bytes ts ss lexed c =
    let same : cuts_of lexed.shapes ≡ cuts_of ss = sym (read_cuts bytes lexed.shapes lexed.consists) ∙ read_cuts bytes ss c in
    ap tokens_of (lexed.tokens_are ∙ ap (tokens_from file (start before)) same) ∙ plain_from file (start before) ss
