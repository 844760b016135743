-- Pieces: what is read is spelled so and fits, and what is spelled so and fits is read.
use Rattle.std.proofs.Common.{◌≡◌, ℕ, ◌+◌, Bool, true, false, cond, eqb, List, [], ◌∷◌, ◌++◌, length, Option, Some, None, refl, sym, ap, subst, ◌∙◌, arith}
use Rattle.std.specs.Prelude.{not, ◌&&◌}
use Rattle.f_lex.specs.declared.class.Run.TheVariants as run
use Rattle.f_lex.specs.declared.fault.Rule.TheVariants as rule
use Rattle.f_lex.specs.declared.lines.Context.TheVariants.{Outside}
use Rattle.f_lex.specs.declared.text.Body.{Body}
use Rattle.f_lex.specs.declared.token.Mark.{Mark as MarkOf}
use Rattle.f_lex.specs.declared.token.Mark.TheVariants as mark
use Rattle.f_lex.specs.declared.token.Kind.{Kind}
use Rattle.f_lex.specs.declared.token.Kind.TheVariants as kind
use Rattle.f_lex.specs.declared.token.Token.TheVariants as token
use Rattle.f_lex.specs.declared.words.DotWord.{DotWord}
use Rattle.f_lex.specs.declared.words.DotWord.TheVariants as dotted
use Rattle.f_lex.specs.declared.piece.Piece.{Piece}
use Rattle.f_lex.specs.declared.piece.Piece.TheVariants as piece
use Rattle.f_lex.specs.Characters.{Class, Letter, Digit, Underscore, Blank, LineEnd, Exclamation, Ampersand, Quote, Semicolon, Dot, Mark, Unused, Foreign, Nothing, ampersand, underscore, class_at, is_next, is_quote}
use Rattle.f_lex.specs.Lines.{choose, run_at, byte_at, next_line, ends_line, is_outside, first_of_line, goes_on_at}
use Rattle.f_lex.specs.Texts.{body_at}
use Rattle.f_lex.specs.Words.{lowered, kind_of, kind_at, quote_at, kind_quote_at, dot_word, one_or_two, single_mark, double_mark, other_mark, mark_at}
use Rattle.f_lex.specs.Pieces.{dot, whole, text_of, text_at, word_of, word_at, number_with, number_of_run, number_at, truth_with, dotted_piece, dotted_of, dot_at, joined_or_lost, ampersand_at, marked, piece_of, piece_at}
use Rattle.f_lex.specs.Grammar.{AreRun, Ending, spell_parts, FitsParts, content_of, continuing, broken_by, KindPart, Plain, Named, Numbered, kind_given, spell_behind, FitsBehind, spell_before, FitsBefore, Part, Shape, Word, Number, Operator, Truth, DotDot, Text, Sign, Blanks, Comment, Joined, LastLine, EndOfLine, Separator, Stray, Alien, spell, BeginsNoDotted, IsStray, IsAlien, Fits, meaning}
use Rattle.f_lex.proofs.Small.{is_class, class_dot, IsRun, run_sound, run_again, IsByte, byte_sound, byte_again, no_byte, IsContinued, continues_sound, continues_again}
use Rattle.f_lex.proofs.TextLaws.{body_is, body_of, IsBody, body_sound, body_again, length-parts}

-- what is read of these bytes: a shape that is spelled so, fits and means that
abbrev pub IsPiece : List ℕ → Piece × List ℕ → Type 0
IsPiece bytes x = (s : Shape) × (bytes ≡ spell s x.1) × Fits s x.1 × (x.0 ≡ meaning s)

-- ---- texts

body_from_start : (quote : ℕ) (ps : List Part) (e : Ending) (rest : List ℕ) → body_of quote [] 0 ps e rest ≡ (record { bytes = content_of quote ps; passed = continuing ps; broken = broken_by e }, rest)
body_from_start quote ps e rest = body_is _ _ (0 + continuing ps) (continuing ps) (broken_by e) rest refl (omega arith)

before_with : (k : KindPart) (quote : ℕ) (a b : List ℕ) → a ≡ b → FitsBefore k (quote ∷ a) → FitsBefore k (quote ∷ b)
before_with k quote a b e f = subst (λ (l : List ℕ). FitsBefore k (quote ∷ l)) e f

text_sound : (k : KindPart) (quote : ℕ) (all body : List ℕ) → all ≡ spell_before k (quote ∷ body) → FitsBefore k (quote ∷ body) → class_at (quote ∷ body) ≡ Quote → IsPiece all (text_at (kind_given k) quote body)
unfolding text_at
text_sound k quote all body is before q = pick (body_at (length body + 1) quote [] 0 body) (body_sound (length body + 1) quote [] 0 body (omega arith))
  where
    pick : (x : Body × List ℕ) → IsBody quote [] 0 body x → IsPiece all (text_of (kind_given k) x)
    pick x (ps, e, rest, spelled, fits, same) =
        subst (λ (x : Body × List ℕ). IsPiece all (text_of (kind_given k) x)) (sym (same ∙ body_from_start quote ps e rest)) (
          Text k quote ps e,
          is ∙ ap (λ (l : List ℕ). spell_before k (quote ∷ l)) spelled,
          (before_with k quote body (spell_parts quote ps e rest) spelled before, subst (λ (l : List ℕ). class_at (quote ∷ l) ≡ Quote) spelled q, fits),
          refl,
        )

text_again : (k : Option Kind) (quote : ℕ) (ps : List Part) (e : Ending) (rest : List ℕ) → class_at (quote ∷ spell_parts quote ps e rest) ≡ Quote → FitsParts quote ps e rest
    → text_at k quote (spell_parts quote ps e rest) ≡ (piece.Token (token.Text (content_of quote ps) k) (continuing ps) (broken_by e), rest)
unfolding text_at
text_again k quote ps e rest q f =
    ap (text_of k) (body_again quote (spell_parts quote ps e rest) q ps e (length (spell_parts quote ps e rest) + 1) [] 0 rest f (omega (arith, length-parts quote ps e rest)) ∙ body_from_start quote ps e rest)

-- ---- kinds

abbrev IsKind : List ℕ → Option Kind × List ℕ → Type 0
IsKind cs x = (k : KindPart) × (cs ≡ spell_behind k x.1) × FitsBehind k x.1 × (x.0 ≡ kind_given k)

kind_sound : (cs : List ℕ) → IsKind cs (kind_at cs)
unfolding kind_at
kind_sound cs = pick (byte_at underscore cs) refl (byte_sound underscore cs)
  where
    named : (r : List ℕ) → cs ≡ underscore ∷ r → class_at r ≡ Letter → (s : List ℕ × List ℕ) → IsRun run.Name r s → IsKind cs (Some (kind.Name (lowered s.0)), s.1)
    named r is e s (spelled, are) = (Named s.0, is ∙ ap (λ l. underscore ∷ l) spelled, (subst (λ (l : List ℕ). class_at l ≡ Letter) spelled e, are), refl)

    numbered : (r : List ℕ) → cs ≡ underscore ∷ r → class_at r ≡ Digit → (s : List ℕ × List ℕ) → IsRun run.Digits r s → IsKind cs (Some (kind.Number (lowered s.0)), s.1)
    numbered r is e s (spelled, are) = (Numbered s.0, is ∙ ap (λ l. underscore ∷ l) spelled, (subst (λ (l : List ℕ). class_at l ≡ Digit) spelled e, are), refl)

    plain : choose (byte_at underscore cs) (None, cs) (λ r. kind_of (class_at r) r cs) ≡ (None, cs) → IsKind cs (None, cs)
    plain e = (Plain, refl, e, refl)

    inner : (r : List ℕ) → byte_at underscore cs ≡ Some r → cs ≡ underscore ∷ r → (v : Class) → class_at r ≡ v → IsKind cs (kind_of v r cs)
    inner r f is Letter e = named r is e (run_at run.Name r) (run_sound run.Name r)
    inner r f is Digit e = numbered r is e (run_at run.Digits r) (run_sound run.Digits r)
    inner r f is Underscore e = plain (rw (f, e) refl)
    inner r f is Blank e = plain (rw (f, e) refl)
    inner r f is LineEnd e = plain (rw (f, e) refl)
    inner r f is Exclamation e = plain (rw (f, e) refl)
    inner r f is Ampersand e = plain (rw (f, e) refl)
    inner r f is Quote e = plain (rw (f, e) refl)
    inner r f is Semicolon e = plain (rw (f, e) refl)
    inner r f is Dot e = plain (rw (f, e) refl)
    inner r f is Mark e = plain (rw (f, e) refl)
    inner r f is Unused e = plain (rw (f, e) refl)
    inner r f is Foreign e = plain (rw (f, e) refl)
    inner r f is Nothing e = plain (rw (f, e) refl)

    pick : (o : Option (List ℕ)) → byte_at underscore cs ≡ o → IsByte underscore cs o → IsKind cs (choose o (None, cs) (λ r. kind_of (class_at r) r cs))
    pick None f i = plain (rw f refl)
    pick (Some r) f i = inner r f i (class_at r) refl

kind_again : (k : KindPart) (rest : List ℕ) → FitsBehind k rest → kind_at (spell_behind k rest) ≡ (kind_given k, rest)
unfolding kind_at
kind_again Plain rest f = f
kind_again (Named cs) rest f = rw (byte_again underscore (cs ++ rest), f.0, run_again run.Name cs rest f.1) refl
kind_again (Numbered ds) rest f = rw (byte_again underscore (ds ++ rest), f.0, run_again run.Digits ds rest f.1) refl

abbrev IsKindQuote : List ℕ → Option (ℕ × List ℕ) → Type 0
IsKindQuote cs None = Unit {0}
IsKindQuote cs (Some q) = (cs ≡ underscore ∷ q.0 ∷ q.1) × (class_at (q.0 ∷ q.1) ≡ Quote)

quote_is : (v : Class) → is_quote v ≡ true → v ≡ Quote
quote_is Quote e = refl
quote_is Letter e = cc
quote_is Digit e = cc
quote_is Underscore e = cc
quote_is Blank e = cc
quote_is LineEnd e = cc
quote_is Exclamation e = cc
quote_is Ampersand e = cc
quote_is Semicolon e = cc
quote_is Dot e = cc
quote_is Mark e = cc
quote_is Unused e = cc
quote_is Foreign e = cc
quote_is Nothing e = cc

kind_quote_sound : (cs : List ℕ) → IsKindQuote cs (kind_quote_at cs)
unfolding kind_quote_at quote_at
kind_quote_sound cs = pick (byte_at underscore cs) (byte_sound underscore cs)
  where
    test : (c : ℕ) (r : List ℕ) → cs ≡ underscore ∷ c ∷ r → (v : Bool) → is_quote (class_at (c ∷ r)) ≡ v → IsKindQuote cs (cond v (Some (c, r)) None)
    test c r is true e = (is, quote_is (class_at (c ∷ r)) e)
    test c r is false e = tt

    inner : (r : List ℕ) → cs ≡ underscore ∷ r → IsKindQuote cs (quote_at r)
    inner [] is = tt
    inner (c ∷ r) is = test c r is (is_quote (class_at (c ∷ r))) refl

    pick : (o : Option (List ℕ)) → IsByte underscore cs o → IsKindQuote cs (choose o None quote_at)
    pick None i = tt
    pick (Some r) i = inner r i

kind_quote_again : (quote : ℕ) (body : List ℕ) → class_at (quote ∷ body) ≡ Quote → kind_quote_at (underscore ∷ quote ∷ body) ≡ Some (quote, body)
unfolding kind_quote_at quote_at
kind_quote_again quote body e = rw (byte_again underscore (quote ∷ body), e) refl

-- ---- words and numbers

word_sound : (c : ℕ) (cs : List ℕ) → class_at (c ∷ cs) ≡ Letter → IsPiece (c ∷ cs) (word_at (c ∷ cs))
unfolding word_at
word_sound c cs e = pick (run_at run.Word (c ∷ cs)) (run_sound run.Word (c ∷ cs))
  where
    behind : (s : List ℕ × List ℕ) → IsRun run.Word (c ∷ cs) s → (o : Option (ℕ × List ℕ)) → kind_quote_at s.1 ≡ o → IsKindQuote s.1 o
        → IsPiece (c ∷ cs) (choose o (whole (token.Name (lowered s.0)), s.1) (λ q. text_at (Some (kind.Name (lowered s.0))) q.0 q.1))
    behind s (is, are) None f i = (Word s.0, is, (subst (λ (l : List ℕ). class_at l ≡ Letter) is e, are, f), refl)
    behind s (is, are) (Some q) f i =
        let whole_is : c ∷ cs ≡ s.0 ++ (underscore ∷ q.0 ∷ q.1) = is ∙ ap (λ l. s.0 ++ l) i.0 in
        text_sound (Named s.0) q.0 (c ∷ cs) q.1 whole_is (subst (λ (l : List ℕ). class_at l ≡ Letter) whole_is e, subst (AreRun run.Word s.0) i.0 are) i.1

    pick : (s : List ℕ × List ℕ) → IsRun run.Word (c ∷ cs) s → IsPiece (c ∷ cs) (word_of s)
    pick s i = behind s i (kind_quote_at s.1) refl (kind_quote_sound s.1)

number_sound : (c : ℕ) (cs : List ℕ) → class_at (c ∷ cs) ≡ Digit → IsPiece (c ∷ cs) (number_at (c ∷ cs))
unfolding number_at
number_sound c cs e = pick (run_at run.Digits (c ∷ cs)) (run_sound run.Digits (c ∷ cs))
  where
    plain : (s : List ℕ × List ℕ) → IsRun run.Digits (c ∷ cs) s → kind_quote_at s.1 ≡ None → (x : Option Kind × List ℕ) → IsKind s.1 x → IsPiece (c ∷ cs) (number_with s.0 x)
    plain s (is, are) none x (k, spelled, fits, given) =
        let whole_is : c ∷ cs ≡ s.0 ++ spell_behind k x.1 = is ∙ ap (λ l. s.0 ++ l) spelled in
        (Number s.0 k, whole_is, (subst (λ (l : List ℕ). class_at l ≡ Digit) whole_is e, subst (AreRun run.Digits s.0) spelled are, ap kind_quote_at (sym spelled) ∙ none, fits), ap (λ o. whole (token.Number (lowered s.0) o)) given)

    behind : (s : List ℕ × List ℕ) → IsRun run.Digits (c ∷ cs) s → (o : Option (ℕ × List ℕ)) → kind_quote_at s.1 ≡ o → IsKindQuote s.1 o
        → IsPiece (c ∷ cs) (choose o (number_with s.0 (kind_at s.1)) (λ q. text_at (Some (kind.Number (lowered s.0))) q.0 q.1))
    behind s i None f j = plain s i f (kind_at s.1) (kind_sound s.1)
    behind s (is, are) (Some q) f i =
        let whole_is : c ∷ cs ≡ s.0 ++ (underscore ∷ q.0 ∷ q.1) = is ∙ ap (λ l. s.0 ++ l) i.0 in
        text_sound (Numbered s.0) q.0 (c ∷ cs) q.1 whole_is (subst (λ (l : List ℕ). class_at l ≡ Digit) whole_is e, subst (AreRun run.Digits s.0) i.0 are) i.1

    pick : (s : List ℕ × List ℕ) → IsRun run.Digits (c ∷ cs) s → IsPiece (c ∷ cs) (number_of_run s)
    pick s i = behind s i (kind_quote_at s.1) refl (kind_quote_sound s.1)

-- ---- dots

dotted_again : (letters more : List ℕ) (w : DotWord) → is_next dot (letters ++ (dot ∷ more)) ≡ false → AreRun run.Letters letters (dot ∷ more) → dot_word (lowered letters) ≡ Some w → dot_at (letters ++ (dot ∷ more)) ≡ dotted_piece w more
unfolding dot_at
dotted_again letters more w isnt are is = rw (no_byte dot (letters ++ (dot ∷ more)) isnt, run_again run.Letters letters (dot ∷ more) are, byte_again dot more, is) refl

no_dotted : (cs : List ℕ) → is_next dot cs ≡ false → dot_at cs ≡ (piece.Ill rule.NoToken, cs) → ((letters more : List ℕ) (w : DotWord) → dot_at cs ≡ dotted_piece w more → ⊥) → BeginsNoDotted cs
no_dotted cs isnt ill none = (isnt, λ letters more w spelled are is. none letters more w (ap dot_at spelled ∙ dotted_again letters more w (subst (λ (l : List ℕ). is_next dot l ≡ false) spelled isnt) are is))

ill_is_no_word : (cs more : List ℕ) (w : DotWord) → let ill : Piece × List ℕ = (piece.Ill rule.NoToken, cs) in ill ≡ dotted_piece w more → ⊥
ill_is_no_word cs more (dotted.Operator m) e = let same : piece.Ill rule.NoToken ≡ whole (token.Mark m) = ap (λ (x : Piece × List ℕ). x.0) e in cc
ill_is_no_word cs more (dotted.Truth value) e = let same : piece.Ill rule.NoToken ≡ whole (token.Truth value (kind_at more).0) = ap (λ (x : Piece × List ℕ). x.0) e in cc

dot_none : (cs : List ℕ) → byte_at dot cs ≡ None → dot_at cs ≡ dotted_of cs (run_at run.Letters cs)
unfolding dot_at
dot_none cs f = rw f refl

dot_some : (cs r : List ℕ) → byte_at dot cs ≡ Some r → dot_at cs ≡ (whole (token.Mark mark.DotDot), r)
unfolding dot_at
dot_some cs r f = rw f refl

dot_sound : (c : ℕ) (cs : List ℕ) → class_at (c ∷ cs) ≡ Dot → IsPiece (c ∷ cs) (dot_at cs)
dot_sound c cs e = by (byte_at dot cs) refl (byte_sound dot cs)
  where
    c_is : (l : List ℕ) → cs ≡ l → c ∷ cs ≡ dot ∷ l
    c_is l is = ap (λ c. c ∷ cs) (is_class Dot c cs e) ∙ ap (λ l. dot ∷ l) is

    stray : is_next dot cs ≡ false → dot_at cs ≡ (piece.Ill rule.NoToken, cs) → IsPiece (c ∷ cs) (piece.Ill rule.NoToken, cs)
    stray isnt ill = (Stray c, refl, subst (λ (v : Class). IsStray v cs) (sym e) (no_dotted cs isnt ill (λ letters more w is. ill_is_no_word cs more w (sym ill ∙ is))), refl)

    truth : (s : List ℕ × List ℕ) (r : List ℕ) (value : Bool) → is_next dot cs ≡ false → IsRun run.Letters cs s → s.1 ≡ dot ∷ r → dot_word (lowered s.0) ≡ Some (dotted.Truth value) → (x : Option Kind × List ℕ) → IsKind r x → IsPiece (c ∷ cs) (truth_with value x)
    truth s r value isnt (is, are) i w x (k, spelled, fits, given) =
        let cs_is : cs ≡ s.0 ++ (dot ∷ spell_behind k x.1) = is ∙ ap (λ l. s.0 ++ l) (i ∙ ap (λ l. dot ∷ l) spelled) in
        (Truth s.0 value k, c_is _ cs_is, (subst (λ (l : List ℕ). is_next dot l ≡ false) cs_is isnt, subst (AreRun run.Letters s.0) (i ∙ ap (λ l. dot ∷ l) spelled) are, w, fits), ap (λ o. whole (token.Truth value o)) given)

    word : (s : List ℕ × List ℕ) (r : List ℕ) → is_next dot cs ≡ false → IsRun run.Letters cs s → s.1 ≡ dot ∷ r → (o : Option DotWord) → dot_word (lowered s.0) ≡ o
        → dot_at cs ≡ choose o (piece.Ill rule.NoToken, cs) (λ w. dotted_piece w r) → IsPiece (c ∷ cs) (choose o (piece.Ill rule.NoToken, cs) (λ w. dotted_piece w r))
    word s r isnt i j None w ill = stray isnt ill
    word s r isnt (is, are) j (Some (dotted.Operator m)) w ill =
        let cs_is : cs ≡ s.0 ++ (dot ∷ r) = is ∙ ap (λ l. s.0 ++ l) j in
        (Operator s.0 m, c_is _ cs_is, (subst (λ (l : List ℕ). is_next dot l ≡ false) cs_is isnt, subst (AreRun run.Letters s.0) j are, w), refl)
    word s r isnt i j (Some (dotted.Truth value)) w ill = truth s r value isnt i j w (kind_at r) (kind_sound r)

    closing : (s : List ℕ × List ℕ) → is_next dot cs ≡ false → IsRun run.Letters cs s → (o : Option (List ℕ)) → IsByte dot s.1 o
        → dot_at cs ≡ choose o (piece.Ill rule.NoToken, cs) (λ r. choose (dot_word (lowered s.0)) (piece.Ill rule.NoToken, cs) (λ w. dotted_piece w r))
        → IsPiece (c ∷ cs) (choose o (piece.Ill rule.NoToken, cs) (λ r. choose (dot_word (lowered s.0)) (piece.Ill rule.NoToken, cs) (λ w. dotted_piece w r)))
    closing s isnt i None j ill = stray isnt ill
    closing s isnt i (Some r) j ill = word s r isnt i j (dot_word (lowered s.0)) refl ill

    by : (o : Option (List ℕ)) → byte_at dot cs ≡ o → IsByte dot cs o → IsPiece (c ∷ cs) (dot_at cs)
    by None f i =
        let is : dot_at cs ≡ dotted_of cs (run_at run.Letters cs) = dot_none cs f in
        subst (IsPiece (c ∷ cs)) (sym is) (closing (run_at run.Letters cs) i (run_sound run.Letters cs) (byte_at dot (run_at run.Letters cs).1) (byte_sound dot (run_at run.Letters cs).1) is)
    by (Some r) f i = subst (IsPiece (c ∷ cs)) (sym (dot_some cs r f)) (DotDot, c_is _ i, tt, refl)

stray_dot : (cs : List ℕ) → BeginsNoDotted cs → dot_at cs ≡ (piece.Ill rule.NoToken, cs)
unfolding dot_at
stray_dot cs (isnt, none) = rw (no_byte dot cs isnt) (closing (run_at run.Letters cs) (run_sound run.Letters cs) (byte_at dot (run_at run.Letters cs).1) (byte_sound dot (run_at run.Letters cs).1))
  where
    word : (s : List ℕ × List ℕ) (r : List ℕ) → IsRun run.Letters cs s → s.1 ≡ dot ∷ r → (o : Option DotWord) → dot_word (lowered s.0) ≡ o → choose o (piece.Ill rule.NoToken, cs) (λ w. dotted_piece w r) ≡ (piece.Ill rule.NoToken, cs)
    word s r i j None w = refl
    word s r (is, are) j (Some d) w = absurd (none s.0 r d (is ∙ ap (λ l. s.0 ++ l) j) (subst (AreRun run.Letters s.0) j are) w)

    closing : (s : List ℕ × List ℕ) → IsRun run.Letters cs s → (o : Option (List ℕ)) → IsByte dot s.1 o
        → choose o (piece.Ill rule.NoToken, cs) (λ r. choose (dot_word (lowered s.0)) (piece.Ill rule.NoToken, cs) (λ w. dotted_piece w r)) ≡ (piece.Ill rule.NoToken, cs)
    closing s i None j = refl
    closing s i (Some r) j = word s r i j (dot_word (lowered s.0)) refl

-- ---- marks

abbrev IsSign : List ℕ → MarkOf × List ℕ → Type 0
IsSign cs x = (ds : List ℕ) × (cs ≡ ds ++ x.1)

two_sound : (one : MarkOf) (second : ℕ) (two : MarkOf) (cs : List ℕ) → IsSign cs (one_or_two one second two cs)
unfolding one_or_two
two_sound one second two cs = pick (byte_at second cs) (byte_sound second cs)
  where
    pick : (o : Option (List ℕ)) → IsByte second cs o → IsSign cs (choose o (one, cs) (λ r. (two, r)))
    pick None i = ([], refl)
    pick (Some r) i = (second ∷ [], i)

or_two_sound : (b : ℕ) (cs : List ℕ) (x : MarkOf × List ℕ) (m : MarkOf) → IsSign cs x → IsSign cs (choose (byte_at b cs) x (λ r. (m, r)))
or_two_sound b cs x m h = pick (byte_at b cs) (byte_sound b cs)
  where
    pick : (o : Option (List ℕ)) → IsByte b cs o → IsSign cs (choose o x (λ r. (m, r)))
    pick None i = h
    pick (Some r) i = (b ∷ [], i)

mark_sound : (c : ℕ) (cs : List ℕ) → IsSign cs (mark_at c cs)
unfolding mark_at
mark_sound c cs = pick (single_mark c) (double_mark c) (eqb c 47)
  where
    pick : (o : Option MarkOf) (p : Option (MarkOf × ℕ × MarkOf)) (b : Bool) → IsSign cs (choose o (choose p (other_mark b cs) (λ m. one_or_two m.0 m.1 m.2 cs)) (λ m. (m, cs)))
    pick (Some m) p b = ([], refl)
    pick None (Some m) b = two_sound m.0 m.1 m.2 cs
    pick None None true = or_two_sound 47 cs (one_or_two mark.Slash 61 mark.NotEqual cs) mark.Concat (two_sound mark.Slash 61 mark.NotEqual cs)
    pick None None false = or_two_sound 62 cs (one_or_two mark.Assign 61 mark.Equal cs) mark.Arrow (two_sound mark.Assign 61 mark.Equal cs)

sign_sound : (c : ℕ) (cs : List ℕ) → class_at (c ∷ cs) ≡ Mark → IsPiece (c ∷ cs) (marked (c ∷ cs))
sign_sound c cs e = by (mark_at c cs) refl (mark_sound c cs)
  where
    by : (x : MarkOf × List ℕ) → mark_at c cs ≡ x → IsSign cs x → IsPiece (c ∷ cs) (whole (token.Mark x.0), x.1)
    by x f (ds, is) = (Sign x.0 c ds, ap (λ l. c ∷ l) is, (subst (λ (l : List ℕ). class_at (c ∷ l) ≡ Mark) is e, ap (mark_at c) (sym is) ∙ f), refl)

-- ---- ampersands

outside_none : (cs : List ℕ) → goes_on_at Outside cs ≡ None → next_line false cs ≡ None
unfolding goes_on_at
outside_none cs e = pick (next_line false cs) e
  where
    pick : (o : Option (List ℕ)) → choose o None (λ r. cond (not (is_outside Outside) && not (is_next ampersand r)) None (Some (first_of_line Outside r))) ≡ None → o ≡ None
    pick None e = refl
    pick (Some r) e = cc

none_outside : (cs : List ℕ) → next_line false cs ≡ None → goes_on_at Outside cs ≡ None
unfolding goes_on_at
none_outside cs e = rw e refl

ampersand_sound : (c : ℕ) (cs : List ℕ) → class_at (c ∷ cs) ≡ Ampersand → IsPiece (c ∷ cs) (ampersand_at cs)
unfolding ampersand_at
ampersand_sound c cs e = pick (ends_line Outside cs) refl
  where
    joined : ends_line Outside cs ≡ true → (o : Option (List ℕ)) → goes_on_at Outside cs ≡ o → IsContinued Outside cs o → IsPiece (c ∷ cs) (joined_or_lost cs o)
    joined last None f i = (LastLine c, refl, (e, last, outside_none cs f), refl)
    joined last (Some r) f (between, lead, is, h) = (Joined c between lead, ap (λ l. c ∷ l) is, (subst (λ (l : List ℕ). class_at (c ∷ l) ≡ Ampersand) is e, h), refl)

    pick : (v : Bool) → ends_line Outside cs ≡ v → IsPiece (c ∷ cs) (cond v (joined_or_lost cs (goes_on_at Outside cs)) (piece.Ill rule.NoToken, cs))
    pick true last = joined last (goes_on_at Outside cs) refl (continues_sound Outside cs last)
    pick false last = (Stray c, refl, subst (λ (v : Class). IsStray v cs) (sym e) last, refl)

-- ---- any piece

pub piece_sound : (c : ℕ) (cs : List ℕ) → IsPiece (c ∷ cs) (piece_at (c ∷ cs))
unfolding piece_at
piece_sound c cs = pick (class_at (c ∷ cs)) refl
  where
    blanks : class_at (c ∷ cs) ≡ Blank → (s : List ℕ × List ℕ) → IsRun run.Blanks cs s → IsPiece (c ∷ cs) (piece.Blank, s.1)
    blanks e s (is, are) = (Blanks c s.0, ap (λ l. c ∷ l) is, (subst (λ (l : List ℕ). class_at (c ∷ l) ≡ Blank) is e, are), refl)

    comment : class_at (c ∷ cs) ≡ Exclamation → (s : List ℕ × List ℕ) → IsRun run.Comment cs s → IsPiece (c ∷ cs) (piece.Blank, s.1)
    comment e s (is, are) = (Comment c s.0, ap (λ l. c ∷ l) is, (subst (λ (l : List ℕ). class_at (c ∷ l) ≡ Exclamation) is e, are), refl)

    pick : (v : Class) → class_at (c ∷ cs) ≡ v → IsPiece (c ∷ cs) (piece_of v c cs)
    pick Letter e = word_sound c cs e
    pick Digit e = number_sound c cs e
    pick Quote e = text_sound Plain c (c ∷ cs) cs refl tt e
    pick Dot e = dot_sound c cs e
    pick Mark e = sign_sound c cs e
    pick Blank e = blanks e (run_at run.Blanks cs) (run_sound run.Blanks cs)
    pick Exclamation e = comment e (run_at run.Comment cs) (run_sound run.Comment cs)
    pick Ampersand e = ampersand_sound c cs e
    pick LineEnd e = (EndOfLine c, refl, e, refl)
    pick Semicolon e = (Separator c, refl, e, refl)
    pick Underscore e = (Stray c, refl, subst (λ (v : Class). IsStray v cs) (sym e) tt, refl)
    pick Unused e = (Stray c, refl, subst (λ (v : Class). IsStray v cs) (sym e) tt, refl)
    pick Foreign e = (Alien c, refl, subst IsAlien (sym e) tt, refl)
    pick Nothing e = (Alien c, refl, subst IsAlien (sym e) tt, refl)

-- ---- what is spelled so is read

letter_piece : (bytes : List ℕ) → class_at bytes ≡ Letter → piece_at bytes ≡ word_at bytes
unfolding piece_at class_at
letter_piece [] e = cc
letter_piece (c ∷ cs) e = rw e refl

digit_piece : (bytes : List ℕ) → class_at bytes ≡ Digit → piece_at bytes ≡ number_at bytes
unfolding piece_at class_at
digit_piece [] e = cc
digit_piece (c ∷ cs) e = rw e refl

before_again : (k : KindPart) (quote : ℕ) (body : List ℕ) → FitsBefore k (quote ∷ body) → class_at (quote ∷ body) ≡ Quote → piece_at (spell_before k (quote ∷ body)) ≡ text_at (kind_given k) quote body
unfolding piece_at word_at number_at
before_again Plain quote body f q = rw q refl
before_again (Named cs) quote body f q = letter_piece (cs ++ (underscore ∷ quote ∷ body)) f.0 ∙ (rw (run_again run.Word cs (underscore ∷ quote ∷ body) f.1, kind_quote_again quote body q) refl)
before_again (Numbered ds) quote body f q = digit_piece (ds ++ (underscore ∷ quote ∷ body)) f.0 ∙ (rw (run_again run.Digits ds (underscore ∷ quote ∷ body) f.1, kind_quote_again quote body q) refl)

dot_piece : (cs : List ℕ) → piece_at (dot ∷ cs) ≡ dot_at cs
unfolding piece_at
dot_piece cs = rw (class_dot cs) refl

stray_again : (v : Class) (c : ℕ) (rest : List ℕ) → class_at (c ∷ rest) ≡ v → IsStray v rest → piece_of v c rest ≡ (piece.Ill rule.NoToken, rest)
unfolding ampersand_at
stray_again Underscore c rest e f = refl
stray_again Unused c rest e f = refl
stray_again Dot c rest e f = stray_dot rest f
stray_again Ampersand c rest e f = rw f refl
stray_again Letter c rest e f = absurd f
stray_again Digit c rest e f = absurd f
stray_again Quote c rest e f = absurd f
stray_again Mark c rest e f = absurd f
stray_again Blank c rest e f = absurd f
stray_again Exclamation c rest e f = absurd f
stray_again LineEnd c rest e f = absurd f
stray_again Semicolon c rest e f = absurd f
stray_again Foreign c rest e f = absurd f
stray_again Nothing c rest e f = absurd f

alien_again : (v : Class) (c : ℕ) (rest : List ℕ) → IsAlien v → piece_of v c rest ≡ (piece.Ill rule.ForeignByte, rest)
alien_again Foreign c rest f = refl
alien_again Nothing c rest f = refl
alien_again Underscore c rest f = absurd f
alien_again Unused c rest f = absurd f
alien_again Dot c rest f = absurd f
alien_again Ampersand c rest f = absurd f
alien_again Letter c rest f = absurd f
alien_again Digit c rest f = absurd f
alien_again Quote c rest f = absurd f
alien_again Mark c rest f = absurd f
alien_again Blank c rest f = absurd f
alien_again Exclamation c rest f = absurd f
alien_again LineEnd c rest f = absurd f
alien_again Semicolon c rest f = absurd f

pub piece_again : (s : Shape) (rest : List ℕ) → Fits s rest → piece_at (spell s rest) ≡ (meaning s, rest)
unfolding piece_at word_at number_at ampersand_at dot_at
piece_again (Word cs) rest f = letter_piece (cs ++ rest) f.0 ∙ (rw (run_again run.Word cs rest f.1, f.2) refl)
piece_again (Number ds k) rest f = digit_piece (ds ++ spell_behind k rest) f.0 ∙ (rw (run_again run.Digits ds (spell_behind k rest) f.1, f.2, kind_again k rest f.3) refl)
piece_again (Operator letters m) rest f = dot_piece (letters ++ (dot ∷ rest)) ∙ dotted_again letters rest (dotted.Operator m) f.0 f.1 f.2
piece_again (Truth letters value k) rest f = dot_piece (letters ++ (dot ∷ spell_behind k rest)) ∙ dotted_again letters (spell_behind k rest) (dotted.Truth value) f.0 f.1 f.2 ∙ ap (truth_with value) (kind_again k rest f.3)
piece_again DotDot rest f = rw (class_dot (dot ∷ rest), byte_again dot rest) refl
piece_again (Text k quote parts e) rest f = before_again k quote (spell_parts quote parts e rest) f.0 f.1 ∙ text_again (kind_given k) quote parts e rest f.1 f.2
piece_again (Sign m c cs) rest f = rw (f.0, f.1) refl
piece_again (Blanks c cs) rest f = rw (f.0, run_again run.Blanks cs rest f.1) refl
piece_again (Comment c cs) rest f = rw (f.0, run_again run.Comment cs rest f.1) refl
piece_again (Joined c between lead) rest f = rw (f.0, f.1.last, continues_again Outside between lead rest f.1) refl
piece_again (LastLine c) rest f = rw (f.0, f.1, none_outside rest f.2) refl
piece_again (EndOfLine c) rest f = rw f refl
piece_again (Separator c) rest f = rw f refl
piece_again (Stray c) rest f = stray_again (class_at (c ∷ rest)) c rest refl f
piece_again (Alien c) rest f = alien_again (class_at (c ∷ rest)) c rest f
