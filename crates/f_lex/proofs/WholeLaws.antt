-- Whole texts: each consists of pieces, they are those that are read, and so it has one list of tokens or one first broken rule.
use Rattle.std.proofs.Common.{◌≡◌, ℕ, zero, suc, ◌+◌, ◌-◌, ◌<◌, ◌≤◌, nat_lt, Bool, true, false, List, [], ◌∷◌, ◌++◌, ◌⊎◌, inl, inr, length, take, Option, Some, None, Result, Err, Vec, refl, sym, ap, subst, ◌∙◌, arith, append_assoc, length-append}
use Rattle.std.proofs.Math.Seq.{take-append_seam}
use Rattle.std.proofs.lemmas.List.{append-nil}
use Rattle.std.proofs.lemmas.Bool.Decides.{nat_tests}
use Rattle.f_lex.specs.declared.piece.Piece.{Piece}
use Rattle.f_lex.specs.declared.token.Spanned.{Spanned}
use Rattle.f_lex.specs.declared.reader.Fault.{Fault}
use Rattle.f_lex.specs.Characters.{Letter, Digit, Nothing, ampersand, underscore, class_at}
use Rattle.f_lex.specs.Pieces.{dot, piece_at}
use Rattle.f_lex.specs.Rules.{tag_number, least, long_lines}
use Rattle.f_lex.specs.Source.{Cut, spelled_by, cuts, breaks_from, tokens_from, start, breaks_of, tokens_of}
use Rattle.f_lex.specs.Grammar.{with_lead, Part, Char, Doubled, Split, Ending, Closed, Open, Lost, spell_parts, KindPart, Plain, Named, Numbered, spell_behind, spell_before, FitsBefore, Shape, Word, Number, Operator, Truth, DotDot, Text, Sign, Blanks, Comment, Joined, LastLine, EndOfLine, Separator, Stray, Alien, spell, Fits, meaning, spell_text, FitsText}
use Rattle.f_lex.specs.Lexing.{Consists, cuts_of, asked, AreKept, IsAmong, NoneBefore, Lexes, BreaksFirst, too_large, Breaks, IsLexed}
use Rattle.std.specs.declared.alloc.Global.{Global}
use Rattle.jf_base.specs.declared.place.Refusal.{Refusal}
use Rattle.jf_base.specs.declared.place.Refusal.TheVariants.{At}
use Rattle.f_lex.proofs.PieceLaws.{IsPiece, piece_sound, piece_again}
use Rattle.f_lex.proofs.Whole.{next-shorter}
use Rattle.f_lex.proofs.Order.{least-kept, least-first, kept_none, among_later, same_fault}

-- ---- the bytes of a piece

lead-append : (lead : Bool) (a b : List ℕ) → with_lead lead (a ++ b) ≡ with_lead lead a ++ b
lead-append true a b = refl
lead-append false a b = refl

ending-append : (quote : ℕ) (e : Ending) (rest : List ℕ) → spell_parts quote [] e rest ≡ spell_parts quote [] e [] ++ rest
ending-append quote Closed rest = refl
ending-append quote Open rest = refl
ending-append quote Lost rest = refl

parts-append : (quote : ℕ) (ps : List Part) (e : Ending) (rest : List ℕ) → spell_parts quote ps e rest ≡ spell_parts quote ps e [] ++ rest
parts-append quote [] e rest = ending-append quote e rest
parts-append quote (Char c ∷ ps) e rest = ap (λ l. c ∷ l) (parts-append quote ps e rest)
parts-append quote (Doubled ∷ ps) e rest = ap (λ l. quote ∷ quote ∷ l) (parts-append quote ps e rest)
parts-append quote (Split between lead ∷ ps) e rest =
    ap (λ l. ampersand ∷ (between ++ with_lead lead l)) (parts-append quote ps e rest)
    ∙ ap (λ l. ampersand ∷ (between ++ l)) (lead-append lead (spell_parts quote ps e []) rest)
    ∙ ap (λ l. ampersand ∷ l) (sym (append_assoc between (with_lead lead (spell_parts quote ps e [])) rest))

behind-append : (k : KindPart) (rest : List ℕ) → spell_behind k rest ≡ spell_behind k [] ++ rest
behind-append Plain rest = refl
behind-append (Named cs) rest = ap (λ l. underscore ∷ l) (ap (λ l. l ++ rest) (sym (append-nil cs)))
behind-append (Numbered ds) rest = ap (λ l. underscore ∷ l) (ap (λ l. l ++ rest) (sym (append-nil ds)))

before-append : (k : KindPart) (a b : List ℕ) → spell_before k (a ++ b) ≡ spell_before k a ++ b
before-append Plain a b = refl
before-append (Named cs) a b = sym (append_assoc cs (underscore ∷ a) b)
before-append (Numbered ds) a b = sym (append_assoc ds (underscore ∷ a) b)

nil-append : (cs rest : List ℕ) → cs ++ rest ≡ (cs ++ []) ++ rest
nil-append cs rest = ap (λ l. l ++ rest) (sym (append-nil cs))

spell-append : (s : Shape) (rest : List ℕ) → spell s rest ≡ spell s [] ++ rest
spell-append (Word cs) rest = nil-append cs rest
spell-append (Number ds k) rest = ap (λ l. ds ++ l) (behind-append k rest) ∙ sym (append_assoc ds (spell_behind k []) rest)
spell-append (Operator letters m) rest = ap (λ l. dot ∷ l) (sym (append_assoc letters (dot ∷ []) rest))
spell-append (Truth letters value k) rest = ap (λ l. dot ∷ l) (ap (λ l. letters ++ (dot ∷ l)) (behind-append k rest) ∙ sym (append_assoc letters (dot ∷ spell_behind k []) rest))
spell-append DotDot rest = refl
spell-append (Text k quote ps e) rest = ap (λ l. spell_before k (quote ∷ l)) (parts-append quote ps e rest) ∙ before-append k (quote ∷ spell_parts quote ps e []) rest
spell-append (Sign m c cs) rest = ap (λ l. c ∷ l) (nil-append cs rest)
spell-append (Blanks c cs) rest = ap (λ l. c ∷ l) (nil-append cs rest)
spell-append (Comment c cs) rest = ap (λ l. c ∷ l) (nil-append cs rest)
spell-append (Joined c between lead) rest = ap (λ l. c ∷ (between ++ l)) (lead-append lead [] rest) ∙ ap (λ l. c ∷ l) (sym (append_assoc between (with_lead lead []) rest))
spell-append (LastLine c) rest = refl
spell-append (EndOfLine c) rest = refl
spell-append (Separator c) rest = refl
spell-append (Stray c) rest = refl
spell-append (Alien c) rest = refl

front : (a b : List ℕ) → spelled_by (a ++ b) b ≡ a
front a b = let n : length (a ++ b) - length b ≡ length a = omega (arith, length-append a b) in ap (λ k. take k (a ++ b)) n ∙ take-append_seam a b

spelled_piece : (s : Shape) (rest : List ℕ) → spelled_by (spell s rest) rest ≡ spell s []
spelled_piece s rest = ap (λ l. spelled_by l rest) (spell-append s rest) ∙ front (spell s []) rest

-- ---- each piece has a byte

some_class : (bytes : List ℕ) → (class_at bytes ≡ Nothing → ⊥) → 1 ≤ length bytes
unfolding class_at
some_class [] n = absurd (n refl)
some_class (c ∷ cs) n = omega arith

of_letter : (bytes : List ℕ) → class_at bytes ≡ Letter → 1 ≤ length bytes
of_letter bytes e = some_class bytes (λ f. let both : Letter ≡ Nothing = sym e ∙ f in cc)

of_digit : (bytes : List ℕ) → class_at bytes ≡ Digit → 1 ≤ length bytes
of_digit bytes e = some_class bytes (λ f. let both : Digit ≡ Nothing = sym e ∙ f in cc)

before_some : (k : KindPart) (quote : ℕ) (body : List ℕ) → FitsBefore k (quote ∷ body) → 1 ≤ length (spell_before k (quote ∷ body))
before_some Plain quote body f = omega arith
before_some (Named cs) quote body f = of_letter _ f.0
before_some (Numbered ds) quote body f = of_digit _ f.0

some_byte : (s : Shape) (rest : List ℕ) → Fits s rest → 1 ≤ length (spell s rest)
some_byte (Word cs) rest f = of_letter _ f.0
some_byte (Number ds k) rest f = of_digit _ f.0
some_byte (Operator letters m) rest f = omega arith
some_byte (Truth letters value k) rest f = omega arith
some_byte DotDot rest f = omega arith
some_byte (Text k quote ps e) rest f = before_some k quote (spell_parts quote ps e rest) f.0
some_byte (Sign m c cs) rest f = omega arith
some_byte (Blanks c cs) rest f = omega arith
some_byte (Comment c cs) rest f = omega arith
some_byte (Joined c between lead) rest f = omega arith
some_byte (LastLine c) rest f = omega arith
some_byte (EndOfLine c) rest f = omega arith
some_byte (Separator c) rest f = omega arith
some_byte (Stray c) rest f = omega arith
some_byte (Alien c) rest f = omega arith

-- ---- the pieces of a text are those that are read

one_cut : (k : ℕ) (bytes rest : List ℕ) (p : Piece) → 1 ≤ length bytes → piece_at bytes ≡ (p, rest) → cuts (suc k) bytes ≡ (p, spelled_by bytes rest) ∷ cuts k rest
unfolding cuts
one_cut k [] rest p some e = absurd (omega (arith, some))
one_cut k (c ∷ cs) rest p some e = rw e refl

no_cut : (k : ℕ) → cuts k [] ≡ cuts_of []
unfolding cuts
no_cut k = refl

cuts_again : (ss : List Shape) (k : ℕ) → FitsText ss → length (spell_text ss) ≤ k → cuts k (spell_text ss) ≡ cuts_of ss
cuts_again [] k f le = no_cut k
cuts_again (s ∷ ss) k f le = by k le (λ k le. cuts_again ss k f.1 le)
  where
    more : 1 ≤ length (spell s (spell_text ss))
    more = some_byte s (spell_text ss) f.0

    less : length (spell_text ss) + 1 ≤ length (spell s (spell_text ss))
    less = next-shorter (meaning s) (spell s (spell_text ss)) (spell_text ss) more (sym (piece_again s (spell_text ss) f.0))

    by : (k : ℕ) → length (spell s (spell_text ss)) ≤ k → ((k : ℕ) → length (spell_text ss) ≤ k → cuts k (spell_text ss) ≡ cuts_of ss) → cuts k (spell s (spell_text ss)) ≡ (meaning s, spell s []) ∷ cuts_of ss
    by zero le ih = absurd (omega (arith, le, more))
    by (suc k) le ih =
        one_cut k (spell s (spell_text ss)) (spell_text ss) (meaning s) more (piece_again s (spell_text ss) f.0)
        ∙ ap (λ (l : List ℕ). let x : Cut = (meaning s, l) in x ∷ cuts k (spell_text ss)) (spelled_piece s (spell_text ss))
        ∙ ap (λ (l : List Cut). (meaning s, spell s []) ∷ l) (ih k (omega (arith, le, less)))

IsCutUp : List ℕ → Type 0
IsCutUp bytes = (ss : List Shape) × FitsText ss × (bytes ≡ spell_text ss)

cut_up : (k : ℕ) (bytes : List ℕ) → length bytes ≤ k → IsCutUp bytes
unfolding IsCutUp
cut_up k [] le = ([], tt, refl)
cut_up zero (c ∷ cs) le = absurd (omega (arith, le))
cut_up (suc k) (c ∷ cs) le = pick (piece_at (c ∷ cs)) refl (piece_sound c cs) (λ rest le. cut_up k rest le)
  where
    pick : (x : Piece × List ℕ) → piece_at (c ∷ cs) ≡ x → IsPiece (c ∷ cs) x → ((rest : List ℕ) → length rest ≤ k → IsCutUp rest) → IsCutUp (c ∷ cs)
    pick x e (s, is, fits, means) ih =
        let less : length x.1 + 1 ≤ length (c ∷ cs) = next-shorter x.0 (c ∷ cs) x.1 (omega arith) (sym e) in
        let (ss, all, spelled) = ih x.1 (omega (arith, le, less)) in
        (s ∷ ss, (subst (Fits s) spelled fits, all), is ∙ ap (spell s) spelled)

-- each text consists of pieces
pub consists : (bytes : List ℕ) → (ss : List Shape) × Consists bytes ss
unfolding IsCutUp
consists bytes = let (ss, all, spelled) = cut_up (length bytes) bytes (omega arith) in (ss, record { fits = all; spelled = spelled })

-- and they are those that are read
pub read_cuts : (bytes : List ℕ) (ss : List Shape) → Consists bytes ss → cuts (length bytes) bytes ≡ cuts_of ss
read_cuts bytes ss c = ap (λ l. cuts (length l) l) c.spelled ∙ cuts_again ss (length (spell_text ss)) c.fits (omega arith)

-- ---- tokens and the first broken rule

asked_is : (before : ℕ) (bytes : List ℕ) (ss : List Shape) → Consists bytes ss → breaks_of before bytes ≡ asked before bytes ss
asked_is before bytes ss c = ap (λ (l : List Cut). long_lines 1 0 bytes ++ breaks_from (start before) l) (read_cuts bytes ss c)

pub found_tokens : (file before : ℕ) (bytes : List ℕ) (tokens : List Spanned) → length bytes ≤ 1048576 → least None (breaks_of before bytes) ≡ None → tokens ≡ tokens_of file before bytes → Lexes file before bytes tokens
found_tokens file before bytes tokens le e t =
    let (ss, c) = consists bytes in
    record {
      size = le;
      shapes = ss;
      consists = c;
      kept = subst AreKept (asked_is before bytes ss c) (least-kept None (breaks_of before bytes) e).1;
      tokens_are = t ∙ ap (tokens_from file (start before)) (read_cuts bytes ss c);
    }

pub found_fault : (before : ℕ) (bytes : List ℕ) (f : Fault) → length bytes ≤ 1048576 → least None (breaks_of before bytes) ≡ Some f → BreaksFirst before bytes f
found_fault before bytes f le e = by (consists bytes) (least-first None (breaks_of before bytes) f e)
  where
    among : (None ≡ Some f) ⊎ IsAmong f (breaks_of before bytes) → IsAmong f (breaks_of before bytes)
    among (inl e) = cc
    among (inr i) = i

    by : (ss : List Shape) × Consists bytes ss → ((None ≡ Some f) ⊎ IsAmong f (breaks_of before bytes)) × Unit {0} × NoneBefore f (breaks_of before bytes) → BreaksFirst before bytes f
    by (ss, c) h = record {
      size = le;
      shapes = ss;
      consists = c;
      broken = subst (IsAmong f) (asked_is before bytes ss c) (among h.0);
      first = subst (NoneBefore f) (asked_is before bytes ss c) h.2;
    }

-- two ways to cut up a text ask the same
one_asked : (before : ℕ) (bytes : List ℕ) (ss us : List Shape) → Consists bytes ss → Consists bytes us → asked before bytes ss ≡ asked before bytes us
one_asked before bytes ss us c d = sym (asked_is before bytes ss c) ∙ asked_is before bytes us d

pub one_list : (file before : ℕ) (bytes : List ℕ) (ts us : List Spanned) → Lexes file before bytes ts → Lexes file before bytes us → ts ≡ us
one_list file before bytes ts us l m =
    l.tokens_are ∙ ap (tokens_from file (start before)) (sym (read_cuts bytes l.shapes l.consists) ∙ read_cuts bytes m.shapes m.consists) ∙ sym m.tokens_are

more : (m n : ℕ) → nat_lt m n ≡ true → m < n
more m n e = grind (arith, nat_tests)

not_more : (m n : ℕ) → nat_lt m n ≡ false → n ≤ m
not_more m n e = grind (arith, nat_tests)

pub list_or_rule : (file before : ℕ) (bytes : List ℕ) → ((ts : List Spanned) × Lexes file before bytes ts) ⊎ ((f : Fault) × Breaks before bytes f)
list_or_rule file before bytes = size (nat_lt 1048576 (length bytes)) refl
  where
    found : length bytes ≤ 1048576 → (o : Option Fault) → least None (breaks_of before bytes) ≡ o → ((ts : List Spanned) × Lexes file before bytes ts) ⊎ ((f : Fault) × Breaks before bytes f)
    found le None e = inl (tokens_of file before bytes, found_tokens file before bytes (tokens_of file before bytes) le e refl)
    found le (Some f) e = inr (f, inr (found_fault before bytes f le e))

    size : (v : Bool) → nat_lt 1048576 (length bytes) ≡ v → ((ts : List Spanned) × Lexes file before bytes ts) ⊎ ((f : Fault) × Breaks before bytes f)
    size true e = inr (too_large, inl (more 1048576 (length bytes) e, refl))
    size false e = found (not_more 1048576 (length bytes) e) (least None (breaks_of before bytes)) refl

pub not_both : (file before : ℕ) (bytes : List ℕ) (ts : List Spanned) (f : Fault) → Lexes file before bytes ts → Breaks before bytes f → ⊥
not_both file before bytes ts f l (inl b) = omega (arith, l.size, b.0)
not_both file before bytes ts f l (inr b) = kept_none f (asked before bytes l.shapes) l.kept (subst (IsAmong f) (one_asked before bytes b.shapes l.shapes b.consists l.consists) b.broken)

pub one_rule : (before : ℕ) (bytes : List ℕ) (f g : Fault) → Breaks before bytes f → Breaks before bytes g → f ≡ g
one_rule before bytes f g (inl b) (inl d) = b.1 ∙ sym d.1
one_rule before bytes f g (inl b) (inr d) = absurd (omega (arith, b.0, d.size))
one_rule before bytes f g (inr b) (inl d) = absurd (omega (arith, d.0, b.size))
one_rule before bytes f g (inr b) (inr d) =
    let e = one_asked before bytes b.shapes d.shapes b.consists d.consists in
    same_fault f g (among_later g f (asked before bytes d.shapes) d.first (subst (IsAmong f) e b.broken)) (among_later f g (asked before bytes b.shapes) b.first (subst (IsAmong g) (sym e) d.broken))

-- an answer that names the first broken rule
pub refused : (file before : ℕ) (bytes : List ℕ) (f : Fault) (r : Refusal) → r ≡ At (record { file = file; line = f.point.line; column = f.point.column }) (record { 0 = tag_number f.rule }) → Breaks before bytes f
    → let answer : Result (Vec Spanned Global) Refusal = Err r in IsLexed file before bytes answer
refused file before bytes f r e b = subst (λ (x : Refusal). let answer : Result (Vec Spanned Global) Refusal = Err x in IsLexed file before bytes answer) (sym e) (f, b, refl, refl)
