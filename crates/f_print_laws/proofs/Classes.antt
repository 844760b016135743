-- Characters of names and numbers, and the runs that they make.
use Rattle.std.proofs.Common.{◌≡◌, ℕ, ◌<◌, lit<, Bool, true, false, cond, eqb, List, [], ◌∷◌, ◌++◌, map, None, refl, sym, ap, subst, ◌∙◌, arith}
use Rattle.std.specs.Prelude.{◌||◌, ◌&&◌, not}
use Rattle.std.specs.Char.{to_ascii_lowercase}
use Rattle.std.proofs.lemmas.Bool.{eqb-true}
use Rattle.std.proofs.lemmas.Bool.Decides.{nat_tests}
use Rattle.f_lex.specs.declared.class.Run.TheVariants as run
use Rattle.f_lex.specs.declared.class.Class.{Class}
use Rattle.f_lex.specs.declared.class.Class.TheVariants.{Letter, Digit, Underscore, Blank, LineEnd, Exclamation, Ampersand, Quote, Semicolon, Dot, Mark, Unused, Foreign, Nothing}
use Rattle.f_lex.specs.Characters.{line_feed, carriage_return, within, from_blank, from_dot, class_of, class_at, goes_on, is_next, is_quote, quote_is_second, is_alphanumeric, is_underscore}
use Rattle.f_lex.specs.Lines.{byte_at}
use Rattle.f_lex.specs.Words.{lowered, kind_at, kind_quote_at}
use Rattle.f_lex.specs.Grammar.{AreRun}
use Rattle.f_print_laws.specs.Tokens.{is_letter, is_digit, is_of_name, Each}

-- what stands behind a token: nothing, a blank or a line end
pub data Stops : List ℕ → Type 0 where
  nothing : Stops []
  blank : (cs : List ℕ) → Stops (32 ∷ cs)
  line : (cs : List ℕ) → Stops (10 ∷ cs)

-- ---- classes

-- what a class tells of its byte
abbrev pub Tells : Class → ℕ → Type 0
Tells Letter c = (within 65 90 c || within 97 122 c) ≡ true
Tells Digit c = within 48 57 c ≡ true
Tells Underscore c = eqb c 95 ≡ true
Tells LineEnd c = eqb c 10 ≡ true
Tells _ c = Unit {0}

either : (c : ℕ) (b : Bool) (x y : Class) → (b ≡ true → Tells x c) → Tells y c → Tells (cond b x y) c
either c true x y f g = f refl
either c false x y f g = g

of_class : (c : ℕ) → Tells (class_of c) c
unfolding class_of
of_class c =
    either c (within 65 90 c || within 97 122 c) Letter _ (λ e. e) (either c (within 48 57 c) Digit _ (λ e. e) (either c (eqb c 95) Underscore (from_blank c) (λ e. e)
    (either c (eqb c 32 || eqb c 9) Blank _ (λ e. tt) (either c (eqb c 10) LineEnd _ (λ e. e) (either c (eqb c 33) Exclamation _ (λ e. tt)
    (either c (eqb c 38) Ampersand _ (λ e. tt) (either c (eqb c 34 || eqb c 39) Quote _ (λ e. tt) (either c (eqb c 59) Semicolon (from_dot c) (λ e. tt)
    (either c (eqb c 46) Dot _ (λ e. tt)
    (either c (eqb c 37 || within 40 47 c || eqb c 58 || within 60 62 c || eqb c 91 || eqb c 93) Mark _ (λ e. tt)
    (either c (within 35 36 c || within 63 64 c || eqb c 92 || eqb c 94 || eqb c 96 || within 123 126 c) Unused Foreign (λ e. tt) tt)))))))))))

at_class : (c : ℕ) (cs : List ℕ) → Tells (class_at (c ∷ cs)) c
unfolding class_at
at_class c cs = either c (eqb c carriage_return && is_next line_feed cs) Blank (class_of c) (λ e. tt) (of_class c)

pub class_tells : (v : Class) (c : ℕ) (cs : List ℕ) → class_at (c ∷ cs) ≡ v → Tells v c
class_tells v c cs e = subst (λ (w : Class). Tells w c) e (at_class c cs)

not_return : (low high c : ℕ) → within low high 13 ≡ false → within low high c ≡ true → eqb c 13 ≡ false
not_return low high c out is = pick (eqb c 13) refl
  where
    pick : (b : Bool) → eqb c 13 ≡ b → b ≡ false
    pick false e = refl
    pick true e = let both : within low high 13 ≡ true = subst (λ (n : ℕ). within low high n ≡ true) (eqb-true c 13 e) is in absurd (let no : true ≡ false = sym both ∙ out in cc)

as_class : (c : ℕ) (l : List ℕ) → eqb c 13 ≡ false → class_at (c ∷ l) ≡ class_of c
unfolding class_at
as_class c l e = rw e refl

letter_of : (a b d : Bool) (x y : Class) → b ≡ true → cond (a || b) Letter (cond d Digit y) ≡ Letter
letter_of true b d x y e = refl
letter_of false true d x y e = refl
letter_of false false d x y e = absurd (let no : false ≡ true = e in cc)

pub letter_class : (c : ℕ) (l : List ℕ) → is_letter c ≡ true → class_at (c ∷ l) ≡ Letter
unfolding class_of
letter_class c l e = as_class c l (not_return 97 122 c refl e) ∙ letter_of (within 65 90 c) (within 97 122 c) (within 48 57 c) Letter (cond (eqb c 95) Underscore (from_blank c)) e

small_digit : (low high c : ℕ) → 57 < low → within 48 57 c ≡ true → within low high c ≡ false
small_digit low high c lt e = grind (arith, nat_tests)

digit_of : (a b d : Bool) (y : Class) → a ≡ false → b ≡ false → d ≡ true → cond (a || b) Letter (cond d Digit y) ≡ Digit
digit_of a b d y e f g = rw (e, f, g) refl

pub digit_class : (c : ℕ) (l : List ℕ) → is_digit c ≡ true → class_at (c ∷ l) ≡ Digit
unfolding class_of
digit_class c l e = as_class c l (not_return 48 57 c refl e) ∙ digit_of (within 65 90 c) (within 97 122 c) (within 48 57 c) (cond (eqb c 95) Underscore (from_blank c)) (small_digit 65 90 c (lit< tt) e) (small_digit 97 122 c (lit< tt) e) e

no_return : (c : ℕ) → is_of_name c ≡ true → eqb c 13 ≡ false
no_return c is = pick (eqb c 13) refl
  where
    pick : (b : Bool) → eqb c 13 ≡ b → b ≡ false
    pick false e = refl
    pick true e = let both : false ≡ true = subst (λ (n : ℕ). is_of_name n ≡ true) (eqb-true c 13 e) is in absurd cc

name_of : (a b d u : Bool) (y : Class) → (b || d || u) ≡ true → is_alphanumeric (cond (a || b) Letter (cond d Digit (cond u Underscore y))) ≡ true
name_of true b d u y e = refl
name_of false true d u y e = refl
name_of false false true u y e = refl
name_of false false false true y e = refl
name_of false false false false y e = absurd cc

pub name_class : (c : ℕ) (l : List ℕ) → is_of_name c ≡ true → is_alphanumeric (class_at (c ∷ l)) ≡ true
unfolding class_of
name_class c l e = ap is_alphanumeric (as_class c l (no_return c e)) ∙ name_of (within 65 90 c) (within 97 122 c) (within 48 57 c) (eqb c 95) (from_blank c) e

pub letter_is_of_name : (c : ℕ) → is_letter c ≡ true → is_of_name c ≡ true
letter_is_of_name c e = rw e refl

pub feed_class : (cs : List ℕ) → class_at (10 ∷ cs) ≡ LineEnd
unfolding class_at class_of
feed_class cs = refl

-- ---- runs

no_quote_of : (v : Class) → is_alphanumeric v ≡ true → is_quote v ≡ false
no_quote_of Letter e = refl
no_quote_of Digit e = refl
no_quote_of Underscore e = refl
no_quote_of Blank e = refl
no_quote_of LineEnd e = refl
no_quote_of Exclamation e = refl
no_quote_of Ampersand e = refl
no_quote_of Quote e = absurd cc
no_quote_of Semicolon e = refl
no_quote_of Dot e = refl
no_quote_of Mark e = refl
no_quote_of Unused e = refl
no_quote_of Foreign e = refl
no_quote_of Nothing e = refl

pub no_quote_behind : (cs rest : List ℕ) → Each is_of_name cs → is_quote (class_at rest) ≡ false → is_quote (class_at (cs ++ rest)) ≡ false
no_quote_behind [] rest a e = e
no_quote_behind (c ∷ cs) rest a e = no_quote_of (class_at (c ∷ (cs ++ rest))) (name_class c (cs ++ rest) a.0)

both : (a b q : Bool) → a ≡ true → q ≡ false → (a && not (b && q)) ≡ true
both a true q e f = rw (e, f) refl
both a false q e f = rw e refl

word_on : (c : ℕ) (l : List ℕ) → is_of_name c ≡ true → is_quote (class_at l) ≡ false → goes_on run.Word (c ∷ l) ≡ true
unfolding goes_on quote_is_second
word_on c l e f = both (is_alphanumeric (class_at (c ∷ l))) (is_underscore (class_at (c ∷ l))) (is_quote (class_at l)) (name_class c l e) f

pub word_run : (cs rest : List ℕ) → Each is_of_name cs → goes_on run.Word rest ≡ false → is_quote (class_at rest) ≡ false → AreRun run.Word cs rest
word_run [] rest a e f = e
word_run (c ∷ cs) rest a e f = (word_on c (cs ++ rest) a.0 (no_quote_behind cs rest a.1 f), word_run cs rest a.1 e f)

name_on : (c : ℕ) (l : List ℕ) → is_of_name c ≡ true → goes_on run.Name (c ∷ l) ≡ true
unfolding goes_on
name_on c l e = name_class c l e

pub name_run : (cs rest : List ℕ) → Each is_of_name cs → goes_on run.Name rest ≡ false → AreRun run.Name cs rest
name_run [] rest a e = e
name_run (c ∷ cs) rest a e = (name_on c (cs ++ rest) a.0, name_run cs rest a.1 e)

digit_on : (c : ℕ) (l : List ℕ) → is_digit c ≡ true → goes_on run.Digits (c ∷ l) ≡ true
unfolding goes_on
digit_on c l e = rw (digit_class c l e) refl

pub digit_run : (ds rest : List ℕ) → Each is_digit ds → goes_on run.Digits rest ≡ false → AreRun run.Digits ds rest
digit_run [] rest a e = e
digit_run (c ∷ cs) rest a e = (digit_on c (cs ++ rest) a.0, digit_run cs rest a.1 e)

-- ---- lowered

lower_letter : (c : ℕ) → is_of_name c ≡ true → to_ascii_lowercase c ≡ c
lower_letter c e = grind (arith, nat_tests)

pub lower_digit : (c : ℕ) → is_digit c ≡ true → to_ascii_lowercase c ≡ c
lower_digit c e = grind (arith, nat_tests)

pub lowered_name : (cs : List ℕ) → Each is_of_name cs → lowered cs ≡ cs
unfolding lowered
lowered_name [] a = refl
lowered_name (c ∷ cs) a = ap (λ (n : ℕ). n ∷ map to_ascii_lowercase cs) (lower_letter c a.0) ∙ ap (λ (l : List ℕ). c ∷ l) (lowered_name cs a.1)

pub lowered_digits : (cs : List ℕ) → Each is_digit cs → lowered cs ≡ cs
unfolding lowered
lowered_digits [] a = refl
lowered_digits (c ∷ cs) a = ap (λ (n : ℕ). n ∷ map to_ascii_lowercase cs) (lower_digit c a.0) ∙ ap (λ (l : List ℕ). c ∷ l) (lowered_digits cs a.1)

-- ---- behind a token

pub word_stops : (rest : List ℕ) → Stops rest → goes_on run.Word rest ≡ false
unfolding goes_on class_at class_of
word_stops _ nothing = refl
word_stops _ (blank cs) = refl
word_stops _ (line cs) = refl

pub name_stops : (rest : List ℕ) → Stops rest → goes_on run.Name rest ≡ false
unfolding goes_on class_at class_of
name_stops _ nothing = refl
name_stops _ (blank cs) = refl
name_stops _ (line cs) = refl

pub digits_stop : (rest : List ℕ) → Stops rest → goes_on run.Digits rest ≡ false
unfolding goes_on class_at class_of
digits_stop _ nothing = refl
digits_stop _ (blank cs) = refl
digits_stop _ (line cs) = refl

pub no_quote : (rest : List ℕ) → Stops rest → is_quote (class_at rest) ≡ false
unfolding class_at class_of
no_quote _ nothing = refl
no_quote _ (blank cs) = refl
no_quote _ (line cs) = refl

pub no_kind_quote : (rest : List ℕ) → Stops rest → kind_quote_at rest ≡ None
unfolding kind_quote_at byte_at
no_kind_quote _ nothing = refl
no_kind_quote _ (blank cs) = refl
no_kind_quote _ (line cs) = refl

pub no_kind : (rest : List ℕ) → Stops rest → kind_at rest ≡ (None, rest)
unfolding kind_at byte_at
no_kind _ nothing = refl
no_kind _ (blank cs) = refl
no_kind _ (line cs) = refl

pub not_next : (b : ℕ) (rest : List ℕ) → eqb 32 b ≡ false → eqb 10 b ≡ false → Stops rest → is_next b rest ≡ false
unfolding is_next
not_next b _ e f nothing = refl
not_next b _ e f (blank cs) = e
not_next b _ e f (line cs) = f
