-- Pieces of a text by their bytes, wherever their characters stand: what they consist of, and the lexemes that they give.
use Rattle.std.proofs.Common.{◌≡◌, ℕ, suc, Bool, true, false, List, [], ◌∷◌, ◌++◌, map, length, Some, None, refl, sym, ap, ◌∙◌, subst}
use Rattle.c_token.specs.declared.mark.Mark.{Mark as Punctuator}
use Rattle.c_text.specs.declared.character.Point.{Point}
use Rattle.c_text.specs.declared.kind.Kind.TheVariants as kind
use Rattle.c_text.specs.declared.kind.Lexeme.{Lexeme}
use Rattle.c_text.specs.declared.kind.Kind.{Kind}
use Rattle.c_text.specs.declared.character.Character.{Character}
use Rattle.c_text.specs.Source.{Cut, cuts, given, is_white, lexemes_from, text_of, lexemes_in}
use Rattle.c_text.specs.Grammar.{Text, Shape, Word, Number, Sign, Space, EndOfLine, spell, meaning, Fits, spell_text, FitsText}
use Rattle.c_text.specs.Lexing.{Consists, cuts_of}
use Rattle.c_text.proofs.WholeLaws.{cuts_are}

-- ---- characters

-- where each character stands
abbrev pub Points : Type 0
Points = ℕ → Point

abbrev pub next : Points → Points
next f = λ n. f (suc n)

abbrev pub character : ℕ → Point → Character
character b p = record { byte = b; point = p }

abbrev pub at : Points → List ℕ → Text
at f [] = []
at f (b ∷ bs) = character b (f 0) ∷ at (next f) bs

-- the points behind bytes
abbrev pub skip : List ℕ → Points → Points
skip [] f = f
skip (b ∷ bs) f = skip bs (next f)

at_append : (xs ys : List ℕ) (f : Points) → at f (xs ++ ys) ≡ at f xs ++ at (skip xs f) ys
at_append [] ys f = refl
at_append (x ∷ xs) ys f = ap (λ (t : Text). character x (f 0) ∷ t) (at_append xs ys (next f))

bytes_at : (xs : List ℕ) (f : Points) → map (λ (c : Character). c.byte) (at f xs ++ []) ≡ xs
bytes_at [] f = refl
bytes_at (x ∷ xs) f = ap (λ (l : List ℕ). x ∷ l) (bytes_at xs (next f))

-- ---- pieces

pub data Bit : Type 0 where
  WordBit : (c : ℕ) (cs : List ℕ) → Bit
  NumberBit : (c : ℕ) (cs : List ℕ) → Bit
  SignBit : (m : Punctuator) (c : ℕ) → Bit
  HashBit : Bit
  SpaceBit : (c : ℕ) → Bit
  FeedBit : Bit

abbrev pub bytes_of : Bit → List ℕ
bytes_of (WordBit c cs) = c ∷ cs
bytes_of (NumberBit c cs) = c ∷ cs
bytes_of (SignBit m c) = c ∷ []
bytes_of HashBit = 35 ∷ []
bytes_of (SpaceBit c) = c ∷ []
bytes_of FeedBit = 10 ∷ []

abbrev pub shape : Points → Bit → Shape
shape f (WordBit c cs) = Word (character c (f 0)) (at (next f) cs)
shape f (NumberBit c cs) = Number (character c (f 0)) (at (next f) cs)
shape f (SignBit m c) = Sign (character c (f 0)) []
shape f HashBit = Sign (character 35 (f 0)) []
shape f (SpaceBit c) = Space (character c (f 0))
shape f FeedBit = EndOfLine (character 10 (f 0))

-- pieces in front of a rest
abbrev pub spelled : List Bit → List ℕ → List ℕ
spelled [] rest = rest
spelled (b ∷ bs) rest = bytes_of b ++ spelled bs rest

-- a piece fits in front of a rest
abbrev pub FitBit : Bit → List ℕ → Type 0
FitBit b rest = (f g : Points) → Fits (shape f b) (at g rest)

abbrev pub FitAll : List Bit → List ℕ → Type 0
FitAll [] rest = Unit {0}
FitAll (b ∷ bs) rest = FitBit b (spelled bs rest) × FitAll bs rest

pub spelled_append : (bs qs : List Bit) (rest : List ℕ) → spelled (bs ++ qs) rest ≡ spelled bs (spelled qs rest)
spelled_append [] qs rest = refl
spelled_append (b ∷ bs) qs rest = ap (λ (l : List ℕ). bytes_of b ++ l) (spelled_append bs qs rest)

pub fit_append : (bs qs : List Bit) (rest : List ℕ) → FitAll bs (spelled qs rest) → FitAll qs rest → FitAll (bs ++ qs) rest
fit_append [] qs rest f g = g
fit_append (b ∷ bs) qs rest f g = (subst (FitBit b) (sym (spelled_append bs qs rest)) f.0, fit_append bs qs rest f.1 g)

-- ---- texts consist of pieces

abbrev shapes : Points → List Bit → List Shape
shapes f [] = []
shapes f (b ∷ bs) = shape f b ∷ shapes (skip (bytes_of b) f) bs

one_spelled : (b : Bit) (f : Points) (rest : List ℕ) → spell (shape f b) (at (skip (bytes_of b) f) rest) ≡ at f (bytes_of b ++ rest)
one_spelled (WordBit c cs) f rest = ap (λ (t : Text). character c (f 0) ∷ t) (sym (at_append cs rest (next f)))
one_spelled (NumberBit c cs) f rest = ap (λ (t : Text). character c (f 0) ∷ t) (sym (at_append cs rest (next f)))
one_spelled (SignBit m c) f rest = refl
one_spelled HashBit f rest = refl
one_spelled (SpaceBit c) f rest = refl
one_spelled FeedBit f rest = refl

all_spelled : (bs : List Bit) (f : Points) → spell_text (shapes f bs) ≡ at f (spelled bs [])
all_spelled [] f = refl
all_spelled (b ∷ bs) f = ap (spell (shape f b)) (all_spelled bs (skip (bytes_of b) f)) ∙ one_spelled b f (spelled bs [])

all_fit : (bs : List Bit) (f : Points) → FitAll bs [] → FitsText (shapes f bs)
all_fit [] f fit = tt
all_fit (b ∷ bs) f fit = (subst (Fits (shape f b)) (sym (all_spelled bs (skip (bytes_of b) f))) (fit.0 f (skip (bytes_of b) f)), all_fit bs (skip (bytes_of b) f) fit.1)

consists : (bs : List Bit) (f : Points) → FitAll bs [] → Consists (at f (spelled bs [])) (shapes f bs)
consists bs f fit = record { fits = all_fit bs f fit; spelled = sym (all_spelled bs f) }

-- ---- lexemes

abbrev pub lexeme : Kind → List ℕ → Point → Bool → Lexeme
lexeme k s p blank = record { kind = k; spelling = s; point = p; after_blank = blank }

-- the lexemes of pieces
abbrev pub made_of : Bool → Points → List Bit → List Lexeme
made_of blank f [] = []
made_of blank f (WordBit c cs ∷ bs) = lexeme kind.Name (c ∷ cs) (f 0) blank ∷ made_of false (skip cs (next f)) bs
made_of blank f (NumberBit c cs ∷ bs) = lexeme kind.Number (c ∷ cs) (f 0) blank ∷ made_of false (skip cs (next f)) bs
made_of blank f (SignBit m c ∷ bs) = lexeme kind.Mark (c ∷ []) (f 0) blank ∷ made_of false (next f) bs
made_of blank f (HashBit ∷ bs) = lexeme kind.Mark (35 ∷ []) (f 0) blank ∷ made_of false (next f) bs
made_of blank f (SpaceBit c ∷ bs) = made_of true (next f) bs
made_of blank f (FeedBit ∷ bs) = lexeme kind.LineEnd (10 ∷ []) (f 0) blank ∷ made_of false (next f) bs

lexemes_made : (bs : List Bit) (blank : Bool) (f : Points) → lexemes_from blank (cuts_of (shapes f bs)) ≡ made_of blank f bs
lexemes_made [] blank f = refl
lexemes_made (WordBit c cs ∷ bs) blank f =
    ap (λ (s : List ℕ). lexeme kind.Name (c ∷ s) (f 0) blank ∷ lexemes_from false (cuts_of (shapes (skip cs (next f)) bs))) (bytes_at cs (next f))
    ∙ ap (λ (ls : List Lexeme). lexeme kind.Name (c ∷ cs) (f 0) blank ∷ ls) (lexemes_made bs false (skip cs (next f)))
lexemes_made (NumberBit c cs ∷ bs) blank f =
    ap (λ (s : List ℕ). lexeme kind.Number (c ∷ s) (f 0) blank ∷ lexemes_from false (cuts_of (shapes (skip cs (next f)) bs))) (bytes_at cs (next f))
    ∙ ap (λ (ls : List Lexeme). lexeme kind.Number (c ∷ cs) (f 0) blank ∷ ls) (lexemes_made bs false (skip cs (next f)))
lexemes_made (SignBit m c ∷ bs) blank f = ap (λ (ls : List Lexeme). lexeme kind.Mark (c ∷ []) (f 0) blank ∷ ls) (lexemes_made bs false (next f))
lexemes_made (HashBit ∷ bs) blank f = ap (λ (ls : List Lexeme). lexeme kind.Mark (35 ∷ []) (f 0) blank ∷ ls) (lexemes_made bs false (next f))
lexemes_made (SpaceBit c ∷ bs) blank f = lexemes_made bs true (next f)
lexemes_made (FeedBit ∷ bs) blank f = ap (λ (ls : List Lexeme). lexeme kind.LineEnd (10 ∷ []) (f 0) blank ∷ ls) (lexemes_made bs false (next f))

-- the lexemes of a text whose characters have the bytes of pieces that fit
pub lexemes_are : (bytes : List ℕ) (bs : List Bit) (f : Points) → text_of bytes ≡ at f (spelled bs []) → FitAll bs [] → lexemes_in bytes ≡ made_of false f bs
lexemes_are bytes bs f e fit =
    ap (λ (t : Text). lexemes_from false (cuts (length t) t)) e
    ∙ ap (lexemes_from false) (cuts_are (at f (spelled bs [])) (shapes f bs) (consists bs f fit))
    ∙ lexemes_made bs false f
