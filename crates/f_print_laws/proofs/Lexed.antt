-- The tokens that a text has are tokens as a text can have them.
use Rattle.std.proofs.Common.{◌≡◌, ℕ, ◌≤◌, ◌<◌, Bool, true, false, cond, eqb, nat_lt, List, [], ◌∷◌, ◌++◌, map, length, Option, Some, None, refl, sym, ap, subst, ◌∙◌, arith}
use Rattle.std.specs.Prelude.{◌||◌, ◌&&◌, not, is_some, option_to_list}
use Rattle.std.specs.Char.{to_ascii_lowercase}
use Rattle.std.proofs.lemmas.Bool.{eqb-true}
use Rattle.std.proofs.lemmas.Bool.Decides.{nat_tests}
use Rattle.f_lex.specs.declared.class.Run.TheVariants as run
use Rattle.f_lex.specs.declared.class.Class.{Class}
use Rattle.f_lex.specs.declared.class.Class.TheVariants.{Letter, Digit, Underscore, Blank, LineEnd, Exclamation, Ampersand, Quote, Semicolon, Dot, Mark as MarkClass, Unused, Foreign, Nothing}
use Rattle.f_lex.specs.declared.fault.Rule.{Rule}
use Rattle.f_lex.specs.declared.fault.Rule.TheVariants as rule
use Rattle.f_lex.specs.declared.piece.Piece.TheVariants as piece
use Rattle.f_lex.specs.declared.token.Token.{Token}
use Rattle.f_lex.specs.declared.token.Token.TheVariants as token
use Rattle.f_lex.specs.declared.token.Spanned.{Spanned}
use Rattle.f_lex.specs.declared.reader.Point.{Point}
use Rattle.f_lex.specs.declared.reader.Fault.{Fault}
use Rattle.f_lex.specs.declared.reader.Position.{Position}
use Rattle.f_lex.specs.Characters.{is_digit as is_digit_at, within, class_at, goes_on, is_alphanumeric, is_underscore, quote_is_second, underscore}
use Rattle.f_lex.specs.Words.{lowered, number_of}
use Rattle.f_lex.specs.Rules.{kind_rule, or_rule, fault_at, token_rule, token_break, given, moved, long_lines}
use Rattle.f_lex.specs.Source.{Cut, position_behind, breaks_from, tokens_from, start}
use Rattle.f_lex.specs.Grammar.{AreRun, Part, Char, Doubled, Split, Ending, spell_parts, IsCharacter, FitsParts, content_of, continuing, broken_by, KindPart, Plain, Named, Numbered, kind_given, spell_behind, FitsBehind, FitsBefore, Shape, Word, Number, Operator, Truth, DotDot, Text, Sign, Blanks, Comment, Joined, LastLine, EndOfLine, Separator, Stray, Alien, spell, Fits, meaning, spell_text, FitsText}
use Rattle.f_lex.specs.Lexing.{cuts_of, AreKept, Lexes}
use Rattle.f_print_laws.specs.Tokens.{is_letter, is_digit, is_of_name, is_of_text, Each, IsName, IsNumber, IsKind, IsToken, is_begun_by, AreTokensFrom, AreTokens}
use Rattle.f_print_laws.proofs.Classes.{Tells, class_tells, feed_class, letter_is_of_name, lowered_digits}
use Rattle.f_print_laws.proofs.Pieces.{token_of}

-- ---- characters

is_below : (m n : ℕ) → nat_lt m n ≡ true → m < n
is_below m n e = grind (arith, nat_tests)

is_at_most : (m n : ℕ) → nat_lt n m ≡ false → m ≤ n
is_at_most m n e = grind (arith, nat_tests)

lower_is_letter : (c : ℕ) → (within 65 90 c || within 97 122 c) ≡ true → is_letter (to_ascii_lowercase c) ≡ true
lower_is_letter c e = grind (arith, nat_tests)

digit_is_of_name : (c : ℕ) → is_digit c ≡ true → is_of_name (to_ascii_lowercase c) ≡ true
digit_is_of_name c e = grind (arith, nat_tests)

alphanumeric : (c : ℕ) (v : Class) → is_alphanumeric v ≡ true → Tells v c → is_of_name (to_ascii_lowercase c) ≡ true
alphanumeric c Letter a t = letter_is_of_name (to_ascii_lowercase c) (lower_is_letter c t)
alphanumeric c Digit a t = digit_is_of_name c t
alphanumeric c Underscore a t = ap (λ (n : ℕ). is_of_name (to_ascii_lowercase n)) (eqb-true c 95 t)
alphanumeric c Blank a t = absurd cc
alphanumeric c LineEnd a t = absurd cc
alphanumeric c Exclamation a t = absurd cc
alphanumeric c Ampersand a t = absurd cc
alphanumeric c Quote a t = absurd cc
alphanumeric c Semicolon a t = absurd cc
alphanumeric c Dot a t = absurd cc
alphanumeric c MarkClass a t = absurd cc
alphanumeric c Unused a t = absurd cc
alphanumeric c Foreign a t = absurd cc
alphanumeric c Nothing a t = absurd cc

first_of_both : (a b : Bool) → (a && b) ≡ true → a ≡ true
first_of_both true b e = refl
first_of_both false b e = e

word_on : (c : ℕ) (l : List ℕ) → goes_on run.Word (c ∷ l) ≡ true → is_of_name (to_ascii_lowercase c) ≡ true
unfolding goes_on
word_on c l e = alphanumeric c (class_at (c ∷ l)) (first_of_both (is_alphanumeric (class_at (c ∷ l))) (not (is_underscore (class_at (c ∷ l)) && quote_is_second (c ∷ l))) e) (class_tells (class_at (c ∷ l)) c l refl)

name_on : (c : ℕ) (l : List ℕ) → goes_on run.Name (c ∷ l) ≡ true → is_of_name (to_ascii_lowercase c) ≡ true
unfolding goes_on
name_on c l e = alphanumeric c (class_at (c ∷ l)) e (class_tells (class_at (c ∷ l)) c l refl)

digit_of : (c : ℕ) (v : Class) → is_digit_at v ≡ true → Tells v c → is_digit c ≡ true
digit_of c Digit e t = t
digit_of c Letter e t = absurd cc
digit_of c Underscore e t = absurd cc
digit_of c Blank e t = absurd cc
digit_of c LineEnd e t = absurd cc
digit_of c Exclamation e t = absurd cc
digit_of c Ampersand e t = absurd cc
digit_of c Quote e t = absurd cc
digit_of c Semicolon e t = absurd cc
digit_of c Dot e t = absurd cc
digit_of c MarkClass e t = absurd cc
digit_of c Unused e t = absurd cc
digit_of c Foreign e t = absurd cc
digit_of c Nothing e t = absurd cc

digit_on : (c : ℕ) (l : List ℕ) → goes_on run.Digits (c ∷ l) ≡ true → is_digit c ≡ true
unfolding goes_on
digit_on c l e = digit_of c (class_at (c ∷ l)) e (class_tells (class_at (c ∷ l)) c l refl)

-- ---- names and numbers

each_of_word : (cs rest : List ℕ) → AreRun run.Word cs rest → Each is_of_name (map to_ascii_lowercase cs)
each_of_word [] rest r = tt
each_of_word (c ∷ cs) rest r = (word_on c (cs ++ rest) r.0, each_of_word cs rest r.1)

each_of_name : (cs rest : List ℕ) → AreRun run.Name cs rest → Each is_of_name (map to_ascii_lowercase cs)
each_of_name [] rest r = tt
each_of_name (c ∷ cs) rest r = (name_on c (cs ++ rest) r.0, each_of_name cs rest r.1)

each_digit : (ds rest : List ℕ) → AreRun run.Digits ds rest → Each is_digit ds
each_digit [] rest r = tt
each_digit (c ∷ cs) rest r = (digit_on c (cs ++ rest) r.0, each_digit cs rest r.1)

letter_begins_word : (rest : List ℕ) → class_at rest ≡ Letter → goes_on run.Word rest ≡ false → ⊥
unfolding goes_on
letter_begins_word rest e f = let on : goes_on run.Word rest ≡ true = rw e refl in cc

letter_begins_name : (rest : List ℕ) → class_at rest ≡ Letter → goes_on run.Name rest ≡ false → ⊥
unfolding goes_on
letter_begins_name rest e f = let on : goes_on run.Name rest ≡ true = rw e refl in cc

digit_begins : (rest : List ℕ) → class_at rest ≡ Digit → goes_on run.Digits rest ≡ false → ⊥
unfolding goes_on
digit_begins rest e f = let on : goes_on run.Digits rest ≡ true = rw e refl in cc

word_is_name : (cs rest : List ℕ) → class_at (cs ++ rest) ≡ Letter → AreRun run.Word cs rest → nat_lt 63 (length (lowered cs)) ≡ false → IsName (lowered cs)
unfolding lowered
word_is_name [] rest e r n = absurd (letter_begins_word rest e r)
word_is_name (c ∷ cs) rest e r n = (lower_is_letter c (class_tells Letter c (cs ++ rest) e), each_of_word cs rest r.1, is_at_most (length (map to_ascii_lowercase (c ∷ cs))) 63 n)

name_is_name : (cs rest : List ℕ) → class_at (cs ++ rest) ≡ Letter → AreRun run.Name cs rest → nat_lt 63 (length (lowered cs)) ≡ false → IsName (lowered cs)
unfolding lowered
name_is_name [] rest e r n = absurd (letter_begins_name rest e r)
name_is_name (c ∷ cs) rest e r n = (lower_is_letter c (class_tells Letter c (cs ++ rest) e), each_of_name cs rest r.1, is_at_most (length (map to_ascii_lowercase (c ∷ cs))) 63 n)

digits_are_number : (ds rest : List ℕ) → class_at (ds ++ rest) ≡ Digit → AreRun run.Digits ds rest → nat_lt (number_of ds) 9223372036854775808 ≡ true → IsNumber ds
digits_are_number [] rest e r n = absurd (digit_begins rest e r)
digits_are_number (d ∷ ds) rest e r n = (digit_on d (ds ++ rest) r.0, each_digit ds rest r.1, is_below (number_of (d ∷ ds)) 9223372036854775808 n)

digits_are : (ds rest : List ℕ) → class_at (ds ++ rest) ≡ Digit → AreRun run.Digits ds rest → nat_lt (number_of (lowered ds)) 9223372036854775808 ≡ true → IsNumber (lowered ds)
digits_are ds rest e r n =
    let same : lowered ds ≡ ds = lowered_digits ds (each_digit ds rest r) in
    subst IsNumber (sym same) (digits_are_number ds rest e r (subst (λ (l : List ℕ). nat_lt (number_of l) 9223372036854775808 ≡ true) same n))

-- ---- rules that are kept

kept_long : (b : Bool) → cond b (Some rule.LongName) None ≡ None → b ≡ false
kept_long true e = absurd cc
kept_long false e = refl

kept_large : (b : Bool) → cond b None (Some rule.NoToken) ≡ None → b ≡ true
kept_large true e = refl
kept_large false e = absurd cc

kept_first : (a b : Option Rule) → or_rule a b ≡ None → a ≡ None
kept_first None b e = refl
kept_first (Some r) b e = e

kept_second : (a b : Option Rule) → or_rule a b ≡ None → b ≡ None
kept_second None b e = e
kept_second (Some r) b e = absurd cc

kept_fault : (p : Point) (o : Option Rule) → fault_at p o ≡ None → o ≡ None
kept_fault p None e = refl
kept_fault p (Some r) e = absurd cc

-- ---- kinds

kind_behind : (k : KindPart) (rest : List ℕ) → FitsBehind k rest → kind_rule (kind_given k) ≡ None → IsKind (kind_given k)
unfolding kind_rule
kind_behind Plain rest f e = tt
kind_behind (Named cs) rest f e = name_is_name cs rest f.0 f.1 (kept_long (nat_lt 63 (length (lowered cs))) e)
kind_behind (Numbered ds) rest f e = digits_are ds rest f.0 f.1 (kept_large (nat_lt (number_of (lowered ds)) 9223372036854775808) e)

kind_before : (k : KindPart) (rest : List ℕ) → FitsBefore k rest → kind_rule (kind_given k) ≡ None → IsKind (kind_given k)
unfolding kind_rule
kind_before Plain rest f e = tt
kind_before (Named cs) rest f e = word_is_name cs (underscore ∷ rest) f.0 f.1 (kept_long (nat_lt 63 (length (lowered cs))) e)
kind_before (Numbered ds) rest f e = digits_are ds (underscore ∷ rest) f.0 f.1 (kept_large (nat_lt (number_of (lowered ds)) 9223372036854775808) e)

-- ---- texts

is_text_character : (c : ℕ) (cs : List ℕ) → (class_at (c ∷ cs) ≡ LineEnd → ⊥) → is_of_text c ≡ true
is_text_character c cs n = pick (eqb c 10) refl
  where
    pick : (b : Bool) → eqb c 10 ≡ b → not b ≡ true
    pick false e = refl
    pick true e = absurd (n (ap (λ (m : ℕ). class_at (m ∷ cs)) (eqb-true c 10 e) ∙ feed_class cs))

quote_is_of_text : (q : ℕ) (cs : List ℕ) → class_at (q ∷ cs) ≡ Quote → is_of_text q ≡ true
quote_is_of_text q cs e = is_text_character q cs (λ f. let both : Quote ≡ LineEnd = sym e ∙ f in cc)

content_is : (quote : ℕ) (ps : List Part) (n : Ending) (rest : List ℕ) → is_of_text quote ≡ true → FitsParts quote ps n rest → Each is_of_text (content_of quote ps)
content_is quote [] n rest q f = tt
content_is quote (Char c ∷ ps) n rest q f =
    (is_text_character c (spell_parts quote ps n rest) (λ e. subst (λ (v : Class). IsCharacter v (spell_parts quote ps n rest)) e f.1), content_is quote ps n rest q f.2)
content_is quote (Doubled ∷ ps) n rest q f = (q, content_is quote ps n rest q f)
content_is quote (Split between lead ∷ ps) n rest q f = content_is quote ps n rest q f.1

-- ---- what a piece gives

module _ (file : ℕ) where
  Are : Position → List Cut → Type 0
  Are at xs = AreTokensFrom (is_some at.statement) (map token_of (tokens_from file at xs))

  quiet_blank : (at : Position) (b : List ℕ) (xs : List Cut) → Are (position_behind at (piece.Blank, b)) xs → Are at ((piece.Blank, b) ∷ xs)
  unfolding Are given moved
  quiet_blank at b xs a = a

  quiet_joined : (at : Position) (b : List ℕ) (xs : List Cut) → Are (position_behind at (piece.Joined, b)) xs → Are at ((piece.Joined, b) ∷ xs)
  unfolding Are given moved
  quiet_joined at b xs a = a

  quiet_lost : (at : Position) (b : List ℕ) (xs : List Cut) → Are (position_behind at (piece.Lost, b)) xs → Are at ((piece.Lost, b) ∷ xs)
  unfolding Are given moved
  quiet_lost at b xs a = a

  quiet_ill : (at : Position) (r : Rule) (b : List ℕ) (xs : List Cut) → Are (position_behind at (piece.Ill r, b)) xs → Are at ((piece.Ill r, b) ∷ xs)
  unfolding Are given moved
  quiet_ill at r b xs a = a

  ended : (b : Bool) (s : Spanned) (ss : List Spanned) → token_of s ≡ token.End → AreTokensFrom false (map token_of ss) → AreTokensFrom b (map token_of (option_to_list (cond b (Some s) None) ++ ss))
  ended true s ss e a = subst (λ (t : Token). AreTokensFrom true (t ∷ map token_of ss)) (sym e) (refl, a)
  ended false s ss e a = a

  ends_line : (at : Position) (b : List ℕ) (xs : List Cut) → Are (position_behind at (piece.LineEnd, b)) xs → Are at ((piece.LineEnd, b) ∷ xs)
  unfolding Are given moved
  ends_line at b xs a = ended (is_some at.statement) _ (tokens_from file (position_behind at (piece.LineEnd, b)) xs) refl a

  ends_part : (at : Position) (b : List ℕ) (xs : List Cut) → Are (position_behind at (piece.Semicolon, b)) xs → Are at ((piece.Semicolon, b) ∷ xs)
  unfolding Are given moved
  ends_part at b xs a = ended (is_some at.statement) _ (tokens_from file (position_behind at (piece.Semicolon, b)) xs) refl a

  a_token : (at : Position) (t : Token) (n : ℕ) (o : Option Rule) (b : List ℕ) (xs : List Cut) → is_begun_by t ≡ true → IsToken (is_some at.statement) t → Are (position_behind at (piece.Token t n o, b)) xs → Are at ((piece.Token t n o, b) ∷ xs)
  unfolding Are given moved
  a_token at t n o b xs e i a = (i, subst (λ (v : Bool). AreTokensFrom v (map token_of (tokens_from file (position_behind at (piece.Token t n o, b)) xs))) (sym e) a)

  kept_token : (at : Position) (t : Token) (n : ℕ) (o : Option Rule) → token_break at (piece.Token t n o) ≡ None → token_rule t ≡ None
  unfolding token_break
  kept_token at t n o e = kept_fault at.point (token_rule t) e

  name_of : (b : Bool) (cs rest : List ℕ) → Fits (Word cs) rest → token_rule (token.Name (lowered cs)) ≡ None → IsToken b (token.Name (lowered cs))
  unfolding token_rule
  name_of b cs rest f e = word_is_name cs rest f.0 f.1 (kept_long (nat_lt 63 (length (lowered cs))) e)

  number_is : (b : Bool) (ds : List ℕ) (k : KindPart) (rest : List ℕ) → Fits (Number ds k) rest → token_rule (token.Number (lowered ds) (kind_given k)) ≡ None → IsToken b (token.Number (lowered ds) (kind_given k))
  unfolding token_rule
  number_is b ds k rest f e = (
    digits_are ds (spell_behind k rest) f.0 f.1 (kept_large (nat_lt (number_of (lowered ds)) 9223372036854775808) (kept_second (kind_rule (kind_given k)) _ e)),
    kind_behind k rest f.3 (kept_first (kind_rule (kind_given k)) _ e),
  )

  truth_is : (b value : Bool) (letters : List ℕ) (k : KindPart) (rest : List ℕ) → Fits (Truth letters value k) rest → token_rule (token.Truth value (kind_given k)) ≡ None → IsToken b (token.Truth value (kind_given k))
  unfolding token_rule
  truth_is b value letters k rest f e = kind_behind k rest f.3 e

  text_is : (b : Bool) (k : KindPart) (quote : ℕ) (ps : List Part) (n : Ending) (rest : List ℕ) → Fits (Text k quote ps n) rest → token_rule (token.Text (content_of quote ps) (kind_given k)) ≡ None → IsToken b (token.Text (content_of quote ps) (kind_given k))
  unfolding token_rule
  text_is b k quote ps n rest f e = (content_is quote ps n rest (quote_is_of_text quote (spell_parts quote ps n rest) f.1) f.2, kind_before k (quote ∷ spell_parts quote ps n rest) f.0 e)

  one : (s : Shape) (rest : List ℕ) (at : Position) (b : List ℕ) (xs : List Cut) → Fits s rest → token_break at (meaning s) ≡ None → Are (position_behind at (meaning s, b)) xs → Are at ((meaning s, b) ∷ xs)
  one (Word cs) rest at b xs f e a = a_token at (token.Name (lowered cs)) 0 None b xs refl (name_of (is_some at.statement) cs rest f (kept_token at _ 0 None e)) a
  one (Number ds k) rest at b xs f e a = a_token at (token.Number (lowered ds) (kind_given k)) 0 None b xs refl (number_is (is_some at.statement) ds k rest f (kept_token at _ 0 None e)) a
  one (Operator letters m) rest at b xs f e a = a_token at _ 0 None b xs refl tt a
  one (Truth letters value k) rest at b xs f e a = a_token at (token.Truth value (kind_given k)) 0 None b xs refl (truth_is (is_some at.statement) value letters k rest f (kept_token at _ 0 None e)) a
  one DotDot rest at b xs f e a = a_token at _ 0 None b xs refl tt a
  one (Text k quote ps n) rest at b xs f e a =
      a_token at (token.Text (content_of quote ps) (kind_given k)) (continuing ps) (broken_by n) b xs refl (text_is (is_some at.statement) k quote ps n rest f (kept_token at _ (continuing ps) (broken_by n) e)) a
  one (Sign m c cs) rest at b xs f e a = a_token at (token.Mark m) 0 None b xs refl tt a
  one (Blanks c cs) rest at b xs f e a = quiet_blank at b xs a
  one (Comment c cs) rest at b xs f e a = quiet_blank at b xs a
  one (Joined c between lead) rest at b xs f e a = quiet_joined at b xs a
  one (LastLine c) rest at b xs f e a = quiet_lost at b xs a
  one (EndOfLine c) rest at b xs f e a = ends_line at b xs a
  one (Separator c) rest at b xs f e a = ends_part at b xs a
  one (Stray c) rest at b xs f e a = quiet_ill at rule.NoToken b xs a
  one (Alien c) rest at b xs f e a = quiet_ill at rule.ForeignByte b xs a

  nothing_left : (at : Position) (b : List ℕ) → Are (position_behind at (piece.LineEnd, b)) []
  unfolding Are moved
  nothing_left at b = refl

  all : (ss : List Shape) (at : Position) → FitsText ss → AreKept (breaks_from at (cuts_of ss)) → Are at (cuts_of ss)
  all [] at f k = ends_line at [] [] (nothing_left at [])
  all (s ∷ ss) at f k = one s (spell_text ss) at (spell s []) (cuts_of ss) f.0 k.0 (all ss (position_behind at (meaning s, spell s [])) f.1 k.1.1.1.1)

  kept_behind : (os ps : List (Option Fault)) → AreKept (os ++ ps) → AreKept ps
  kept_behind [] ps k = k
  kept_behind (o ∷ os) ps k = kept_behind os ps k.1

  pub lexed : (before : ℕ) (bytes : List ℕ) (tokens : List Spanned) → Lexes file before bytes tokens → AreTokens (map (λ t. t.token) tokens)
  unfolding Are
  lexed before bytes tokens l =
      subst (λ (ts : List Spanned). AreTokens (map token_of ts)) (sym l.tokens_are)
      (all l.shapes (start before) l.consists.fits (kept_behind (long_lines 1 0 bytes) (breaks_from (start before) (cuts_of l.shapes)) l.kept))
