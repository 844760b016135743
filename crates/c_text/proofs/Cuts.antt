-- One piece after the other.
use Rattle.std.proofs.Common.{◌≡◌, ℕ, zero, suc, ◌+◌, ◌-◌, ◌≤◌, Bool, true, false, ◌==◌, ◌&&◌, ◌||◌, not, if◌then◌else◌, List, [], ◌∷◌, ◌++◌, length, Option, Some, None, refl, sym, ap, ◌∙◌, subst, arith, append_assoc, length-drop}
use Rattle.std.proofs.lemmas.List.{append-nil}
use Rattle.std.specs.Option.{is_some}
use Rattle.c_text.specs.declared.kind.Kind.{Kind}
use Rattle.c_text.specs.declared.kind.Kind.TheVariants as kind
use Rattle.c_text.specs.declared.kind.Lexeme.{Lexeme}
use Rattle.c_text.specs.Classes.{Class, Letter, Digit, Blank, LineEnd, Quote, Slash, Dot, Mark, Backslash, Foreign, is_alphanumeric, class_of}
use Rattle.c_text.specs.Characters.{Character}
use Rattle.c_text.specs.Rests.{choose, byte_at, digit_is_next, is_exponent, is_in_number, word_rest, number_rest, line_rest, comment_rest, literal_rest}
use Rattle.c_text.specs.Marks.{mark_length}
use Rattle.c_text.specs.Pieces.{Found, quote_of, quote_at, eight_at, prefixed_at, literal_of, literal_at, word_at, mark_at, comment_of, slash_at, dot_at, piece_of, piece_at}
use Rattle.c_text.specs.Source.{Cut, spelled_by, cuts, given, is_white, lexemes_from, text_of, lexemes_in}

-- ---- what stands behind is no longer

abbrev Text : Type 0
Text = List Character

pub word-shorter : (cs : Text) → length (word_rest cs) ≤ length cs
unfolding word_rest
word-shorter [] = omega arith
word-shorter (c ∷ cs) = pick (word-shorter cs) (is_alphanumeric (class_of c.byte)) refl
  where
    pick : length (word_rest cs) ≤ length cs → (b : Bool) → is_alphanumeric (class_of c.byte) ≡ b → length (word_rest (c ∷ cs)) ≤ length (c ∷ cs)
    pick h true e = rw e (omega arith)
    pick h false e = rw e (omega arith)

pub number-shorter : (s : Bool) (cs : Text) → length (number_rest s cs) ≤ length cs
unfolding number_rest
number-shorter s [] = omega arith
number-shorter s (c ∷ cs) = pick (number-shorter (is_exponent c.byte) cs) (is_in_number s c.byte) refl
  where
    pick : length (number_rest (is_exponent c.byte) cs) ≤ length cs → (b : Bool) → is_in_number s c.byte ≡ b → length (number_rest s (c ∷ cs)) ≤ length (c ∷ cs)
    pick h true e = rw e (omega arith)
    pick h false e = rw e (omega arith)

pub line-shorter : (cs : Text) → length (line_rest cs) ≤ length cs
unfolding line_rest
line-shorter [] = omega arith
line-shorter (c ∷ cs) = pick (line-shorter cs) (c.byte == 10) refl
  where
    pick : length (line_rest cs) ≤ length cs → (b : Bool) → (c.byte == 10) ≡ b → length (line_rest (c ∷ cs)) ≤ length (c ∷ cs)
    pick h true e = rw e (omega arith)
    pick h false e = rw e (omega arith)

abbrev IfShorter : Option Text → ℕ → Type 0
IfShorter None n = Unit {0}
IfShorter (Some r) n = length r ≤ n

some-shorter : (o : Option Text) (n : ℕ) (r : Text) → IfShorter o n → o ≡ Some r → length r ≤ n
some-shorter o n r h e = let P : Option Text → Type 0 = λ x. IfShorter x n in subst P e h

at-shorter : (b : ℕ) (cs : Text) → IfShorter (byte_at b cs) (length cs)
unfolding byte_at
at-shorter b [] = tt
at-shorter b (c ∷ cs) = pick (c.byte == b) refl
  where
    pick : (v : Bool) → (c.byte == b) ≡ v → IfShorter (byte_at b (c ∷ cs)) (length (c ∷ cs))
    pick true e = rw e (omega arith)
    pick false e = rw e tt

wider : (o : Option Text) (n m : ℕ) → n ≤ m → IfShorter o n → IfShorter o m
wider None n m le h = tt
wider (Some r) n m le h = omega arith

comment-shorter : (cs : Text) → IfShorter (comment_rest cs) (length cs)
unfolding comment_rest
comment-shorter [] = tt
comment-shorter (c ∷ cs) = pick (wider (comment_rest cs) (length cs) (length (c ∷ cs)) (omega arith) (comment-shorter cs)) (c.byte == 42) refl
  where
    chosen : IfShorter (comment_rest cs) (length (c ∷ cs)) → (o : Option Text) → IfShorter o (length cs) → IfShorter (choose o (comment_rest cs) Some) (length (c ∷ cs))
    chosen i None h = i
    chosen i (Some r) h = omega arith

    pick : IfShorter (comment_rest cs) (length (c ∷ cs)) → (v : Bool) → (c.byte == 42) ≡ v → IfShorter (comment_rest (c ∷ cs)) (length (c ∷ cs))
    pick i true e = rw e (chosen i (byte_at 47 cs) (at-shorter 47 cs))
    pick i false e = rw e i

literal-shorter : (s : Bool) (q : ℕ) (cs : Text) → length (literal_rest s q cs).1 ≤ length cs
unfolding literal_rest
literal-shorter s q [] = omega arith
literal-shorter s q (c ∷ cs) = pick (literal-shorter (not s && (c.byte == 92)) q cs) (c.byte == 10) refl
  where
    inside : length (literal_rest (not s && (c.byte == 92)) q cs).1 ≤ length cs → (v : Bool) → (not s && (c.byte == q)) ≡ v → (c.byte == 10) ≡ false → length (literal_rest s q (c ∷ cs)).1 ≤ length (c ∷ cs)
    inside h true f e = rw (e, f) (omega arith)
    inside h false f e = rw (e, f) (omega arith)

    pick : length (literal_rest (not s && (c.byte == 92)) q cs).1 ≤ length cs → (v : Bool) → (c.byte == 10) ≡ v → length (literal_rest s q (c ∷ cs)).1 ≤ length (c ∷ cs)
    pick h true e = rw e (omega arith)
    pick h false e = inside h (not s && (c.byte == q)) refl e

abbrev IfBehind : Option (ℕ × Text) → ℕ → Type 0
IfBehind None n = Unit {0}
IfBehind (Some x) n = length x.1 ≤ n

quote-shorter : (cs : Text) → IfBehind (quote_at cs) (length cs)
unfolding quote_at
quote-shorter [] = tt
quote-shorter (c ∷ cs) = pick (class_of c.byte)
  where
    pick : (k : Class) → IfBehind (quote_of k c.byte cs) (length (c ∷ cs))
    pick Quote = omega arith
    pick _ = tt

eight-shorter : (first : ℕ) (cs : Text) → IfBehind (eight_at first cs) (length cs)
eight-shorter first cs = pick (byte_at 56 cs) (at-shorter 56 cs)
  where
    last : (r s : Text) → length r ≤ length cs → length s ≤ length r → (v : Bool) → IfBehind (if v then Some (34, s) else None) (length cs)
    last r s h k true = omega arith
    last r s h k false = tt

    inner : (r : Text) → length r ≤ length cs → (p : Option Text) → IfShorter p (length r) → IfBehind (choose p None (λ s. if first == 117 then Some (34, s) else None)) (length cs)
    inner r h None k = tt
    inner r h (Some s) k = last r s h k (first == 117)

    pick : (o : Option Text) → IfShorter o (length cs) → IfBehind (choose o None (λ r. choose (byte_at 34 r) None (λ s. if first == 117 then Some (34, s) else None))) (length cs)
    pick None h = tt
    pick (Some r) h = inner r h (byte_at 34 r) (at-shorter 34 r)

prefixed-shorter : (first : ℕ) (cs : Text) → IfBehind (prefixed_at first cs) (length cs)
unfolding prefixed_at
prefixed-shorter first cs = pick ((first == 76) || (first == 117) || (first == 85))
  where
    chosen : (o : Option (ℕ × Text)) → IfBehind o (length cs) → IfBehind (choose o (eight_at first cs) Some) (length cs)
    chosen None h = eight-shorter first cs
    chosen (Some x) h = h

    pick : (v : Bool) → IfBehind (if v then choose (quote_at cs) (eight_at first cs) Some else None) (length cs)
    pick true = chosen (quote_at cs) (quote-shorter cs)
    pick false = tt

of-shorter : (q : ℕ) (x : Bool × Text) (n : ℕ) → length x.1 ≤ n → length (literal_of q x).1 ≤ n
of-shorter q (true, r) n h = h
of-shorter q (false, r) n h = h

literal_at-shorter : (q : ℕ) (cs : Text) → length (literal_at q cs).1 ≤ length cs
unfolding literal_at
literal_at-shorter q cs = of-shorter q (literal_rest false q cs) (length cs) (literal-shorter false q cs)

word_at-shorter : (first : ℕ) (cs : Text) → length (word_at first cs).1 ≤ length cs
unfolding word_at
word_at-shorter first cs = pick (prefixed_at first cs) (prefixed-shorter first cs)
  where
    pick : (o : Option (ℕ × Text)) → IfBehind o (length cs) → let none : Found = (Some kind.Name, word_rest cs) in length (choose o none (λ q. literal_at q.0 q.1)).1 ≤ length cs
    pick None h = word-shorter cs
    pick (Some q) h = omega (arith, h, literal_at-shorter q.0 q.1)

mark-shorter : (text cs : Text) → length (mark_at text cs).1 ≤ length cs
unfolding mark_at
mark-shorter text cs = omega (arith, length-drop (mark_length text - 1) cs)

slash-shorter : (text cs : Text) → length (slash_at text cs).1 ≤ length cs
unfolding slash_at
slash-shorter text cs = pick (byte_at 47 cs) (at-shorter 47 cs)
  where
    closed : (o : Option Text) (n : ℕ) → IfShorter o n → length (comment_of o).1 ≤ n
    closed None n h = omega arith
    closed (Some r) n h = h

    star : (o : Option Text) → IfShorter o (length cs) → length (choose o (mark_at text cs) (λ r. comment_of (comment_rest r))).1 ≤ length cs
    star None h = mark-shorter text cs
    star (Some r) h = closed (comment_rest r) (length cs) (wider (comment_rest r) (length r) (length cs) h (comment-shorter r))

    pick : (o : Option Text) → IfShorter o (length cs) → length (choose o (choose (byte_at 42 cs) (mark_at text cs) (λ r. comment_of (comment_rest r))) (λ r. (None, line_rest r))).1 ≤ length cs
    pick None h = star (byte_at 42 cs) (at-shorter 42 cs)
    pick (Some r) h = omega (arith, h, line-shorter r)

dot-shorter : (text cs : Text) → length (dot_at text cs).1 ≤ length cs
unfolding dot_at
dot-shorter text cs = pick (digit_is_next cs) refl
  where
    pick : (v : Bool) → digit_is_next cs ≡ v → length (dot_at text cs).1 ≤ length cs
    pick true e = rw e (number-shorter false cs)
    pick false e = rw e (mark-shorter text cs)

of_class-shorter : (k : Class) (c : Character) (cs : Text) → length (piece_of k c cs).1 ≤ length cs
of_class-shorter Letter c cs = word_at-shorter c.byte cs
of_class-shorter Digit c cs = number-shorter false cs
of_class-shorter Blank c cs = omega arith
of_class-shorter LineEnd c cs = omega arith
of_class-shorter Quote c cs = literal_at-shorter c.byte cs
of_class-shorter Slash c cs = slash-shorter (c ∷ cs) cs
of_class-shorter Dot c cs = dot-shorter (c ∷ cs) cs
of_class-shorter Mark c cs = mark-shorter (c ∷ cs) cs
of_class-shorter Backslash c cs = omega arith
of_class-shorter Foreign c cs = omega arith

pub next-shorter : (text : Text) (x : Found) → 1 ≤ length text → x ≡ piece_at text → length x.1 + 1 ≤ length text
unfolding piece_at
next-shorter [] x some e = absurd (omega arith)
next-shorter (c ∷ cs) x some e = let same = ap (λ (f : Found). length f.1) e in omega (arith, same, of_class-shorter (class_of c.byte) c cs)

-- ---- the lexemes that are still to come

pub record Goes (lexemes : List Lexeme) (after_blank : Bool) (rest : Text) (total : List Lexeme) : Type 0 where
  pub steps : ℕ
  pub enough : length rest ≤ steps
  pub so : lexemes ++ lexemes_from after_blank (cuts steps rest) ≡ total

one_cut : (x : Found) (k : ℕ) (t : Text) → 1 ≤ length t → x ≡ piece_at t → cuts (suc k) t ≡ (x.0, spelled_by t x.1) ∷ cuts k x.1
unfolding cuts
one_cut x k [] some e = absurd (omega (arith, some))
one_cut x k (c ∷ cs) some e = rw e refl

pub goes_on : (lexemes now total : List Lexeme) (after_blank white : Bool) (text : Text) (x : Found) (spelled : Text) → 1 ≤ length text → x ≡ piece_at text → spelled ≡ spelled_by text x.1
    → now ≡ lexemes ++ given x.0 after_blank spelled → white ≡ is_white x.0 → Goes lexemes after_blank text total → Goes now white x.1 total
goes_on lexemes now total after_blank white text x spelled some e s n w go = step text some e s go go.steps refl
  where
    step : (t : Text) → 1 ≤ length t → x ≡ piece_at t → spelled ≡ spelled_by t x.1 → (go : Goes lexemes after_blank t total) → (k : ℕ) → go.steps ≡ k → Goes now white x.1 total
    step t some e s go zero z = absurd (omega (arith, some, go.enough, z))
    step t some e s go (suc k) z = record {
      steps = k;
      enough = omega (arith, next-shorter t x some e, go.enough, z);
      so = ap (λ (l : List Lexeme). l ++ lexemes_from white (cuts k x.1)) n
          ∙ append_assoc lexemes (given x.0 after_blank spelled) (lexemes_from white (cuts k x.1))
          ∙ ap (λ (l : List Lexeme). lexemes ++ l)
          (ap (λ (d : Text). given x.0 after_blank d ++ lexemes_from white (cuts k x.1)) s ∙ ap (λ (v : Bool). given x.0 after_blank (spelled_by t x.1) ++ lexemes_from v (cuts k x.1)) w
          ∙ ap (lexemes_from after_blank) (sym (one_cut x k t some e) ∙ ap (λ (j : ℕ). cuts j t) (sym z)))
          ∙ go.so;
    }

pub goes_from : (bytes : List ℕ) (text : Text) → text ≡ text_of bytes → Goes [] false text (lexemes_in bytes)
goes_from bytes text e = let P : Text → Type 0 = λ t. Goes [] false t (lexemes_in bytes) in subst P (sym e) (record { steps = length (text_of bytes); enough = omega arith; so = refl })

none_cut : (k : ℕ) (text : Text) → length text ≡ 0 → cuts k text ≡ []
unfolding cuts
none_cut k [] e = refl
none_cut k (c ∷ cs) e = absurd (omega arith)

pub goes_out : (lexemes total : List Lexeme) (after_blank : Bool) (text : Text) → length text ≡ 0 → Goes lexemes after_blank text total → lexemes ≡ total
goes_out lexemes total after_blank text e go = sym (append-nil lexemes) ∙ ap (λ (x : List Cut). lexemes ++ lexemes_from after_blank x) (sym (none_cut go.steps text e)) ∙ go.so

pub white_is : (o : Option Kind) (b : Bool) → is_some o ≡ not b → b ≡ is_white o
white_is None true e = refl
white_is None false e = absurd (let no : false ≡ true = e in cc)
white_is (Some k) true e = absurd (let no : true ≡ false = e in cc)
white_is (Some k) false e = refl
