-- The pieces of a printed token, and what stands before it.
use Rattle.std.proofs.Common.{◌≡◌, ℕ, ◌-◌, ◌+◌, Bool, true, false, cond, eqb, nat_lt, List, [], ◌∷◌, ◌++◌, length, Option, Some, None, refl, sym, ap, subst, ◌∙◌, append_assoc}
use Rattle.std.specs.Prelude.{codes}
use Rattle.std.proofs.lemmas.Bool.{eqb-true}
use Rattle.f_lex.specs.declared.class.Run.TheVariants as run_of
use Rattle.f_lex.specs.declared.class.Class.{Class}
use Rattle.f_lex.specs.declared.class.Class.TheVariants.{Letter, Digit, Underscore, Blank, LineEnd, Exclamation, Ampersand, Quote, Semicolon, Dot, Mark as MarkClass, Unused, Foreign, Nothing}
use Rattle.f_lex.specs.declared.lines.Context.TheVariants.{Outside}
use Rattle.f_lex.specs.declared.piece.Piece.TheVariants as piece
use Rattle.f_lex.specs.declared.token.Kind.{Kind}
use Rattle.f_lex.specs.declared.token.Token.{Token}
use Rattle.f_lex.specs.declared.token.Token.TheVariants as token
use Rattle.f_lex.specs.Characters.{class_of, class_at, goes_on, is_next}
use Rattle.f_lex.specs.Lines.{byte_at, run_at, passes_over, ends_line, first_of_line}
use Rattle.f_lex.specs.Words.{lowered, dot_word, relation_word, logic_word}
use Rattle.f_lex.specs.Pieces.{whole}
use Rattle.f_lex.specs.Grammar.{AreBetween, Part, Closed, continuing, spell_parts, KindPart, Plain, Named, Numbered, kind_given, spell_before, spell_behind, FitsBefore, Shape, Word, Number, Operator, Truth, DotDot, Text, Sign, Blanks, Comment, Joined, LastLine, EndOfLine, Separator, Stray, Alien, spell, Fits, meaning, spell_text, FitsText}
use Rattle.f_tree.specs.declared.page.Line.{Line}
use Rattle.f_tree.specs.Text.{Written, and_then, fresh, begun, opened, run, word, quoted, written, characters, mark_text, behind_literal, before_text, truth_text}
use Rattle.f_print_laws.specs.Tokens.{IsKind, IsToken, is_begun_by}
use Rattle.f_print_laws.proofs.Classes.{Stops, feed_class, lowered_name, lowered_digits, word_run, digit_run, word_stops, no_quote, no_kind_quote}
use Rattle.f_print_laws.proofs.Words.{part_of, kind_is, behind_is, before_is, behind_fits, no_quote_kind, digits_end, before_fits, all_of_name, all_digits, first_letter, first_digit, shape_of_mark, mark_spelled, mark_means, mark_fits}
use Rattle.f_print_laws.proofs.TextParts.{parts_from, parts_spelled, parts_fit, parts_content, text_begins}

-- ---- a token by itself

abbrev letters_of : Bool → List ℕ
letters_of true = codes "true"
letters_of false = codes "false"

-- the piece of a token that begins in this line
abbrev pub shape_of : Token → Line → Shape
shape_of (token.Name name) l = Word name
shape_of (token.Number digits k) l = Number digits (part_of k)
shape_of (token.Truth value k) l = Truth (letters_of value) value (part_of k)
shape_of (token.Text bytes k) l = Text (part_of k) 39 (parts_from bytes (run (before_text k ++ 39 ∷ []) l).1) Closed
shape_of (token.Mark m) l = shape_of_mark m
shape_of token.End l = EndOfLine 10

abbrev pub passed_by : Token → Line → ℕ
passed_by (token.Text bytes k) l = continuing (parts_from bytes (run (before_text k ++ 39 ∷ []) l).1)
passed_by _ l = 0

-- a token without what stands before it
abbrev pub inner : Token → Line → Written
inner (token.Name name) l = run name l
inner (token.Number digits k) l = run (digits ++ behind_literal k) l
inner (token.Truth value k) l = run (truth_text value ++ behind_literal k) l
inner (token.Text bytes k) l = and_then (run (before_text k ++ 39 ∷ []) l) (characters bytes)
inner (token.Mark m) l = run (mark_text m) l
inner token.End l = (10 ∷ [], fresh)

abbrev pub has_room : Token → Line → Bool
has_room (token.Name name) l = nat_lt (length name) l.room
has_room (token.Number digits k) l = nat_lt (length (digits ++ behind_literal k)) l.room
has_room (token.Truth value k) l = nat_lt (length (truth_text value ++ behind_literal k)) l.room
has_room (token.Text bytes k) l = nat_lt (length bytes) (l.room - (length (before_text k) + 2))
has_room (token.Mark m) l = nat_lt (length (mark_text m)) l.room
has_room token.End l = true

pub written_is : (t : Token) (l : Line) → is_begun_by t ≡ true → written t l ≡ and_then (opened (has_room t l) l) (inner t)
unfolding written word quoted
written_is (token.Name name) l e = refl
written_is (token.Number digits k) l e = refl
written_is (token.Truth value k) l e = refl
written_is (token.Text bytes k) l e = refl
written_is (token.Mark m) l e = refl
written_is token.End l e = absurd cc

truth_spelled : (value : Bool) (k : Option Kind) (rest : List ℕ) → 46 ∷ (letters_of value ++ (46 ∷ (behind_literal k ++ rest))) ≡ (truth_text value ++ behind_literal k) ++ rest
truth_spelled true k rest = refl
truth_spelled false k rest = refl

pub shape_spelled : (t : Token) (l : Line) (rest : List ℕ) → spell (shape_of t l) rest ≡ (inner t l).0 ++ rest
unfolding run
shape_spelled (token.Name name) l rest = refl
shape_spelled (token.Number digits k) l rest = ap (λ (x : List ℕ). digits ++ x) (behind_is k rest) ∙ sym (append_assoc digits (behind_literal k) rest)
shape_spelled (token.Truth value k) l rest = ap (λ (x : List ℕ). 46 ∷ (letters_of value ++ (46 ∷ x))) (behind_is k rest) ∙ truth_spelled value k rest
shape_spelled (token.Text bytes k) l rest =
    let m : Line = (run (before_text k ++ 39 ∷ []) l).1 in
    before_is k (39 ∷ spell_parts 39 (parts_from bytes m) Closed rest)
    ∙ ap (λ (x : List ℕ). before_text k ++ (39 ∷ x)) (parts_spelled bytes m rest)
    ∙ sym (append_assoc (before_text k) (39 ∷ []) ((characters bytes m).0 ++ rest))
    ∙ sym (append_assoc (before_text k ++ 39 ∷ []) (characters bytes m).0 rest)
shape_spelled (token.Mark m) l rest = mark_spelled m rest
shape_spelled token.End l rest = refl

truth_fits : (value : Bool) (k : Option Kind) (rest : List ℕ) → IsKind k → Stops rest → Fits (Truth (letters_of value) value (part_of k)) rest
unfolding is_next goes_on class_at class_of lowered dot_word relation_word logic_word
truth_fits true k rest i s = (refl, (refl, (refl, (refl, (refl, refl)))), refl, behind_fits k rest i s)
truth_fits false k rest i s = (refl, (refl, (refl, (refl, (refl, (refl, refl))))), refl, behind_fits k rest i s)

quote_class : (cs : List ℕ) → class_at (39 ∷ cs) ≡ Quote
unfolding class_at class_of
quote_class cs = refl

pub shape_fits : (b : Bool) (t : Token) (l : Line) (rest : List ℕ) → IsToken b t → is_begun_by t ≡ true → Stops rest → Fits (shape_of t l) rest
shape_fits b (token.Name name) l rest i e s = (first_letter name rest i, word_run name rest (all_of_name name i) (word_stops rest s) (no_quote rest s), no_kind_quote rest s)
shape_fits b (token.Number digits k) l rest i e s =
    (first_digit digits (spell_behind (part_of k) rest) i.0, digit_run digits (spell_behind (part_of k) rest) (all_digits digits i.0) (digits_end k rest s), no_quote_kind k rest i.1 s, behind_fits k rest i.1 s)
shape_fits b (token.Truth value k) l rest i e s = truth_fits value k rest i s
shape_fits b (token.Text bytes k) l rest i e s =
    let ps : List Part = parts_from bytes (run (before_text k ++ 39 ∷ []) l).1 in
    (before_fits k (spell_parts 39 ps Closed rest) i.1, quote_class (spell_parts 39 ps Closed rest), parts_fit bytes (run (before_text k ++ 39 ∷ []) l).1 rest i.0 s)
shape_fits b (token.Mark m) l rest i e s = mark_fits m rest s
shape_fits b token.End l rest i e s = absurd cc

pub shape_means : (b : Bool) (t : Token) (l : Line) → IsToken b t → is_begun_by t ≡ true → meaning (shape_of t l) ≡ piece.Token t (passed_by t l) None
shape_means b (token.Name name) l i e = ap (λ (x : List ℕ). whole (token.Name x)) (lowered_name name (all_of_name name i))
shape_means b (token.Number digits k) l i e =
    ap (λ (x : List ℕ). whole (token.Number x (kind_given (part_of k)))) (lowered_digits digits (all_digits digits i.0)) ∙ ap (λ (x : Option Kind). whole (token.Number digits x)) (kind_is k i.1)
shape_means b (token.Truth value k) l i e = ap (λ (x : Option Kind). whole (token.Truth value x)) (kind_is k i)
shape_means b (token.Text bytes k) l i e =
    let m : Line = (run (before_text k ++ 39 ∷ []) l).1 in
    let n : ℕ = continuing (parts_from bytes m) in
    ap (λ (x : List ℕ). piece.Token (token.Text x (kind_given (part_of k))) n None) (parts_content bytes m) ∙ ap (λ (x : Option Kind). piece.Token (token.Text bytes x) n None) (kind_is k i.1)
shape_means b (token.Mark m) l i e = mark_means m
shape_means b token.End l i e = absurd cc

-- ---- how a token begins

abbrev pub starts : Class → Bool
starts Blank = false
starts LineEnd = false
starts Exclamation = false
starts Ampersand = false
starts Nothing = false
starts _ = true

dot_class : (cs : List ℕ) → class_at (46 ∷ cs) ≡ Dot
unfolding class_at class_of
dot_class cs = refl

text_starts : (k : KindPart) (rest : List ℕ) → FitsBefore k (39 ∷ rest) → starts (class_at (spell_before k (39 ∷ rest))) ≡ true
text_starts Plain rest f = rw (quote_class rest) refl
text_starts (Named cs) rest f = rw f.0 refl
text_starts (Numbered ds) rest f = rw f.0 refl

mark_starts : (s : Shape) (rest : List ℕ) (t : Token) → meaning s ≡ whole t → Fits s rest → starts (class_at (spell s rest)) ≡ true
mark_starts (Word cs) rest t e f = rw f.0 refl
mark_starts (Number ds k) rest t e f = rw f.0 refl
mark_starts (Operator letters m) rest t e f = rw (dot_class (letters ++ (46 ∷ rest))) refl
mark_starts (Truth letters value k) rest t e f = rw (dot_class (letters ++ (46 ∷ spell_behind k rest))) refl
mark_starts DotDot rest t e f = rw (dot_class (46 ∷ rest)) refl
mark_starts (Sign m c cs) rest t e f = rw f.0 refl
mark_starts (Text k quote ps n) rest t e f = text_begins_at k quote (spell_parts quote ps n rest) f.0 f.1
  where
    text_begins_at : (k : KindPart) (quote : ℕ) (body : List ℕ) → FitsBefore k (quote ∷ body) → class_at (quote ∷ body) ≡ Quote → starts (class_at (spell_before k (quote ∷ body))) ≡ true
    text_begins_at Plain quote body f q = rw q refl
    text_begins_at (Named cs) quote body f q = rw f.0 refl
    text_begins_at (Numbered ds) quote body f q = rw f.0 refl
mark_starts (Blanks c cs) rest t e f = absurd cc
mark_starts (Comment c cs) rest t e f = absurd cc
mark_starts (Joined c between lead) rest t e f = absurd cc
mark_starts (LastLine c) rest t e f = absurd cc
mark_starts (EndOfLine c) rest t e f = absurd cc
mark_starts (Separator c) rest t e f = absurd cc
mark_starts (Stray c) rest t e f = absurd cc
mark_starts (Alien c) rest t e f = absurd cc

pub shape_starts : (b : Bool) (t : Token) (l : Line) (rest : List ℕ) → IsToken b t → is_begun_by t ≡ true → Fits (shape_of t l) rest → starts (class_at (spell (shape_of t l) rest)) ≡ true
shape_starts b (token.Name name) l rest i e f = rw f.0 refl
shape_starts b (token.Number digits k) l rest i e f = rw f.0 refl
shape_starts b (token.Truth value k) l rest i e f = rw (dot_class (letters_of value ++ (46 ∷ spell_behind (part_of k) rest))) refl
shape_starts b (token.Text bytes k) l rest i e f = text_starts (part_of k) _ f.0
shape_starts b (token.Mark m) l rest i e f = mark_starts (shape_of_mark m) rest (token.Mark m) (mark_means m) f
shape_starts b token.End l rest i e f = absurd cc

-- ---- what stands before a token

no_blank_of : (v : Class) (cs : List ℕ) → class_at cs ≡ v → starts v ≡ true → goes_on run_of.Blanks cs ≡ false
unfolding goes_on
no_blank_of Letter cs e s = rw e refl
no_blank_of Digit cs e s = rw e refl
no_blank_of Underscore cs e s = rw e refl
no_blank_of Quote cs e s = rw e refl
no_blank_of Semicolon cs e s = rw e refl
no_blank_of Dot cs e s = rw e refl
no_blank_of MarkClass cs e s = rw e refl
no_blank_of Unused cs e s = rw e refl
no_blank_of Foreign cs e s = rw e refl
no_blank_of Blank cs e s = absurd cc
no_blank_of LineEnd cs e s = absurd cc
no_blank_of Exclamation cs e s = absurd cc
no_blank_of Ampersand cs e s = absurd cc
no_blank_of Nothing cs e s = absurd cc

stays_of : (v : Class) → starts v ≡ true → passes_over false v ≡ None
stays_of Letter s = refl
stays_of Digit s = refl
stays_of Underscore s = refl
stays_of Quote s = refl
stays_of Semicolon s = refl
stays_of Dot s = refl
stays_of MarkClass s = refl
stays_of Unused s = refl
stays_of Foreign s = refl
stays_of Blank s = absurd cc
stays_of LineEnd s = absurd cc
stays_of Exclamation s = absurd cc
stays_of Ampersand s = absurd cc
stays_of Nothing s = absurd cc

nothing_class : class_at [] ≡ Nothing
unfolding class_at
nothing_class = refl

ampersand_class : (cs : List ℕ) → class_at (38 ∷ cs) ≡ Ampersand
unfolding class_at class_of
ampersand_class cs = refl

stays : (cs : List ℕ) → starts (class_at cs) ≡ true → AreBetween false [] cs
stays [] s = absurd (let n : starts Nothing ≡ true = ap starts (sym nothing_class) ∙ s in cc)
stays (c ∷ cs) s = stays_of (class_at (c ∷ cs)) s

no_lead : (cs : List ℕ) → starts (class_at cs) ≡ true → first_of_line Outside cs ≡ cs
unfolding first_of_line byte_at
no_lead [] s = refl
no_lead (c ∷ cs) s = rw (pick (eqb c 38) refl) refl
  where
    pick : (b : Bool) → eqb c 38 ≡ b → b ≡ false
    pick false e = refl
    pick true e = absurd (let n : starts Ampersand ≡ true = ap starts (sym (ampersand_class cs)) ∙ subst (λ (n : ℕ). starts (class_at (n ∷ cs)) ≡ true) (eqb-true c 38 e) s in cc)

ends_here : (cs : List ℕ) → ends_line Outside (10 ∷ cs) ≡ true
unfolding ends_line run_at goes_on class_at class_of
ends_here cs = refl

feed_passes : (cs : List ℕ) → passes_over false (class_at (10 ∷ cs)) ≡ Some false
feed_passes cs = rw (feed_class cs) refl

-- `&` and a line end in front of a token
pub joins : (cs : List ℕ) → starts (class_at cs) ≡ true → Fits (Joined 38 (10 ∷ []) false) cs
joins cs s = (ampersand_class (10 ∷ cs), record { last = ends_here cs; stands_between = (false, feed_passes cs, stays cs s); has_lead = tt; goes_on = no_lead cs s })

blank_class : (cs : List ℕ) → starts (class_at cs) ≡ true → class_at (32 ∷ cs) ≡ Blank
unfolding class_at class_of
blank_class cs s = refl

-- a blank in front of a token
pub blank_fits : (cs : List ℕ) → starts (class_at cs) ≡ true → Fits (Blanks 32 []) cs
blank_fits cs s = (blank_class cs s, no_blank_of (class_at cs) cs refl s)

-- a blank in front of `&`
pub blank_joins : (cs : List ℕ) → Fits (Blanks 32 []) (38 ∷ cs)
unfolding class_at class_of goes_on
blank_joins cs = (refl, refl)

-- what stands before a token, in a line where a token stands or none, and where there is room or none
abbrev pub opening : Bool → Bool → List Shape → List Shape
opening false room ss = ss
opening true true ss = Blanks 32 [] ∷ ss
opening true false ss = Blanks 32 [] ∷ Joined 38 (10 ∷ []) false ∷ ss

abbrev open_line : Bool → Bool → Line → Written
open_line b room l = cond b (cond room (32 ∷ [], begun (l.room - 1)) (32 ∷ 38 ∷ 10 ∷ [], begun 130)) ([], l)

open_spelled : (b room : Bool) (l : Line) (ss : List Shape) → spell_text (opening b room ss) ≡ (open_line b room l).0 ++ spell_text ss
open_spelled false room l ss = refl
open_spelled true true l ss = refl
open_spelled true false l ss = refl

pub opening_spelled : (room : Bool) (l : Line) (ss : List Shape) → spell_text (opening l.is_begun room ss) ≡ (opened room l).0 ++ spell_text ss
unfolding opened
opening_spelled room l ss = open_spelled l.is_begun room l ss

pub opening_fits : (b room : Bool) (ss : List Shape) → starts (class_at (spell_text ss)) ≡ true → FitsText ss → FitsText (opening b room ss)
opening_fits false room ss s f = f
opening_fits true true ss s f = (blank_fits (spell_text ss) s, f)
opening_fits true false ss s f = (blank_joins (10 ∷ spell_text ss), (joins (spell_text ss) s, f))

-- the line behind a token
pub inner_begins : (t : Token) (l : Line) → (inner t l).1.is_begun ≡ is_begun_by t
unfolding run
inner_begins (token.Name name) l = refl
inner_begins (token.Number digits k) l = refl
inner_begins (token.Truth value k) l = refl
inner_begins (token.Text bytes k) l = text_begins bytes (run (before_text k ++ 39 ∷ []) l).1
inner_begins (token.Mark m) l = refl
inner_begins token.End l = refl
