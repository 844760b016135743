-- The lines of the form's C text, cut into their pieces.
use Rattle.std.proofs.Common.{◌≡◌, ℕ, suc, ◌≤◌, Bool, true, false, cond, eqb, List, [], ◌∷◌, ◌++◌, length, Option, None, codes, refl, sym, ap, ◌∙◌, subst, arith, append_assoc, ◌||◌}
use Rattle.std.specs.List.{All, flat_map}
use Rattle.std.specs.Fmt.{decimal}
use Rattle.std.specs.Char.{IsAsciiLowercase, IsAsciiDigit}
use Rattle.std.proofs.lemmas.Bool.{ne_eqb, le-leb, lt-leb}
use Rattle.std.proofs.lemmas.List.Elements.{All-head, All-tail}
use Rattle.c_token.specs.declared.mark.Mark.TheVariants as mark
use Rattle.c_text.specs.declared.character.Point.{Point}
use Rattle.c_text.specs.declared.class.Class.{Class}
use Rattle.c_text.specs.declared.class.Class.TheVariants as class
use Rattle.c_text.specs.Classes.{class_of}
use Rattle.c_text.specs.Rests.{digit_is_next, is_exponent, is_in_number, choose, byte_at}
use Rattle.c_text.specs.Marks.{longest, mark_length}
use Rattle.c_text.specs.Pieces.{prefixed_at, quote_at, eight_at}
use Rattle.c_text.specs.Grammar.{Text, AreWord, AreNumber, number_goes_on, BeginsNumber}
use Rattle.c_text.specs.declared.kind.Lexeme.{Lexeme}
use Rattle.c_lines.specs.Rows.{Row}
use Rattle.first_form.specs.declared.program.PutcharArgument.{PutcharArgument}
use Rattle.first_form.specs.declared.program.PutcharArgument.TheVariants.{Parameter, Number}
use Rattle.first_form.specs.Words.{IsName, IsInt}
use Rattle.first_form.specs.Forms.{include_line, opening_text, put_text, closing_text, argument_text, IsArgument}
use Rattle.first_form.proofs.Numerals.{decimal_plain}
use Rattle.first_c_files.proofs.Bits.{Points, next, character, at, Bit, WordBit, NumberBit, SignBit, HashBit, SpaceBit, FeedBit, bytes_of, spelled, FitBit, FitAll, spelled_append, fit_append, made_of}
use Rattle.first_c_files.proofs.Bytes.{is_clean, clean_append}

-- ---- letters and digits

letter_class : (x : ℕ) → IsAsciiLowercase x → class_of x ≡ class.Letter
unfolding class_of
letter_class x h = rw (le-leb 65 x (omega arith), lt-leb x 90 (omega arith), le-leb 97 x (omega arith), le-leb x 122 (omega arith)) refl

digit_class : (x : ℕ) → IsAsciiDigit x → class_of x ≡ class.Digit
unfolding class_of
digit_class x h = rw (lt-leb 65 x (omega arith), lt-leb 97 x (omega arith), ne_eqb x 95 (λ e. absurd (omega arith)), le-leb 48 x (omega arith), le-leb x 57 (omega arith)) refl

letters_clean : (cs : List ℕ) → All IsAsciiLowercase cs → is_clean cs ≡ true
letters_clean [] a = refl
letters_clean (c ∷ cs) a =
    let h : IsAsciiLowercase c = All-head IsAsciiLowercase c cs a in
    rw (ne_eqb c 63 (λ e. absurd (omega arith)), ne_eqb c 13 (λ e. absurd (omega arith)), ne_eqb c 92 (λ e. absurd (omega arith))) (letters_clean cs (All-tail IsAsciiLowercase c cs a))

digits_clean : (cs : List ℕ) → All IsAsciiDigit cs → is_clean cs ≡ true
digits_clean [] a = refl
digits_clean (c ∷ cs) a =
    let h : IsAsciiDigit c = All-head IsAsciiDigit c cs a in
    rw (ne_eqb c 63 (λ e. absurd (omega arith)), ne_eqb c 13 (λ e. absurd (omega arith)), ne_eqb c 92 (λ e. absurd (omega arith))) (digits_clean cs (All-tail IsAsciiDigit c cs a))

-- a letter goes on with a word
letters_word : (cs more : List ℕ) (f g : Points) → All IsAsciiLowercase cs → AreWord (at f cs) (at g (40 ∷ more))
unfolding class_of
letters_word [] more f g a = refl
letters_word (c ∷ cs) more f g a = (rw (letter_class c (All-head IsAsciiLowercase c cs a)) refl, letters_word cs more (next f) g (All-tail IsAsciiLowercase c cs a))

-- a digit goes on with a number
digits_number : (ds more : List ℕ) (f g : Points) (b : Bool) → All IsAsciiDigit ds → AreNumber b (at f ds) (at g (41 ∷ more))
unfolding class_of
digits_number [] more f g true a = refl
digits_number [] more f g false a = refl
digits_number (d ∷ ds) more f g b a = (rw (digit_class d (All-head IsAsciiDigit d ds a)) refl, digits_number ds more (next f) g (is_exponent d) (All-tail IsAsciiDigit d ds a))

nothing : (b : Bool) → let none : Option (ℕ × Text) = None in cond b none none ≡ none
nothing true = refl
nothing false = refl

-- what stands behind a first letter is no quote
no_prefix : (first d : ℕ) (p : Point) (text : Text) → class_of d ≡ class.Letter → eqb d 56 ≡ false → prefixed_at first (character d p ∷ text) ≡ None
unfolding prefixed_at quote_at byte_at
no_prefix first d p text k e = rw (k, e) (nothing ((eqb first 76 || eqb first 117) || eqb first 85))

no_prefix_open : (first : ℕ) (p : Point) (text : Text) → prefixed_at first (character 40 p ∷ text) ≡ None
unfolding prefixed_at quote_at byte_at class_of
no_prefix_open first p text = nothing ((eqb first 76 || eqb first 117) || eqb first 85)

label_fits : (c : ℕ) (cs more : List ℕ) → All IsAsciiLowercase (c ∷ cs) → FitBit (WordBit c cs) (40 ∷ more)
label_fits c [] more a = λ f g. (letter_class c (All-head IsAsciiLowercase c [] a), no_prefix_open c (g 0) (at (next g) more), letters_word [] more (next f) g (All-tail IsAsciiLowercase c [] a))
label_fits c (d ∷ ds) more a =
    let others = All-tail IsAsciiLowercase c (d ∷ ds) a in
    let second : IsAsciiLowercase d = All-head IsAsciiLowercase d ds others in
    λ f g. (
      letter_class c (All-head IsAsciiLowercase c (d ∷ ds) a),
      no_prefix c d (next f 0) _ (letter_class d second) (ne_eqb d 56 (λ e. absurd (omega arith))),
      letters_word (d ∷ ds) more (next f) g others,
    )

digits_fit : (d : ℕ) (ds more : List ℕ) → All IsAsciiDigit (d ∷ ds) → FitBit (NumberBit d ds) (41 ∷ more)
digits_fit d ds more a =
    λ f g. (
      (let P : Class → Type 0 = λ k. BeginsNumber k (at (next f) ds ++ at g (41 ∷ more)) in subst P (sym (digit_class d (All-head IsAsciiDigit d ds a))) tt),
      digits_number ds more (next f) g false (All-tail IsAsciiDigit d ds a),
    )

-- ---- lines

-- what stands behind a line
pub data Gap : List ℕ → Type 0 where
  gap_end : Gap []
  gap_feed : (more : List ℕ) → Gap (10 ∷ more)
  gap_space : (more : List ℕ) → Gap (32 ∷ more)
  gap_tab : (more : List ℕ) → Gap (9 ∷ more)

abbrev pub NoFeed : Bit → Type 0
NoFeed FeedBit = ⊥
NoFeed b = Unit {0}

abbrev pub NoFeeds : List Bit → Type 0
NoFeeds [] = Unit {0}
NoFeeds (b ∷ bs) = NoFeed b × NoFeeds bs

pub no_feeds_append : (bs cs : List Bit) → NoFeeds bs → NoFeeds cs → NoFeeds (bs ++ cs)
no_feeds_append [] cs n m = m
no_feeds_append (b ∷ bs) cs n m = (n.0, no_feeds_append bs cs n.1 m)

-- lexemes are a row, unless there are none
abbrev pub one_or_none : List Lexeme → List Row
one_or_none [] = []
one_or_none (l ∷ ls) = (l ∷ ls) ∷ []

-- a part of a line is cut into pieces, whatever stands behind
pub record PartOf (part : List ℕ) (bits : List Bit) : Type 0 where
  pub spelled_is : (rest : List ℕ) → spelled bits rest ≡ part ++ rest
  pub clean : is_clean part ≡ true
  pub fit : (rest : List ℕ) → FitAll bits rest
  pub no_feeds : NoFeeds bits

-- and a whole line
pub record LineOf (line : List ℕ) (bits : List Bit) : Type 0 where
  pub spelled_is : (rest : List ℕ) → spelled bits rest ≡ line ++ rest
  pub clean : is_clean line ≡ true
  pub fit : (rest : List ℕ) → Gap rest → FitAll bits rest
  pub no_feeds : NoFeeds bits
  pub some : (blank : Bool) (f : Points) → one_or_none (made_of blank f bits) ≡ made_of blank f bits ∷ []

pub part_append : {xs ys : List ℕ} {bs cs : List Bit} → PartOf xs bs → PartOf ys cs → PartOf (xs ++ ys) (bs ++ cs)
part_append {xs} {ys} {bs} {cs} p q = record {
  spelled_is = λ rest. spelled_append bs cs rest ∙ ap (spelled bs) (q.spelled_is rest) ∙ p.spelled_is (ys ++ rest) ∙ sym (append_assoc xs ys rest);
  clean = clean_append xs ys p.clean q.clean;
  fit = λ rest. fit_append bs cs rest (p.fit (spelled cs rest)) (q.fit rest);
  no_feeds = no_feeds_append bs cs p.no_feeds q.no_feeds;
}

pub line_of : {xs : List ℕ} {bs : List Bit} → PartOf xs bs → ((blank : Bool) (f : Points) → one_or_none (made_of blank f bs) ≡ made_of blank f bs ∷ []) → LineOf xs bs
line_of {xs} {bs} p some = record { spelled_is = p.spelled_is; clean = p.clean; fit = λ rest gap. p.fit rest; no_feeds = p.no_feeds; some = some }

abbrev pub include_bits : List Bit
include_bits = HashBit ∷ WordBit 105 (110 ∷ 99 ∷ 108 ∷ 117 ∷ 100 ∷ 101 ∷ []) ∷ SpaceBit 32 ∷ SignBit mark.Less 60 ∷ WordBit 115 (116 ∷ 100 ∷ 105 ∷ 111 ∷ []) ∷ SignBit mark.Dot 46 ∷ WordBit 104 ([]) ∷ SignBit mark.Greater 62 ∷ []

greater_fits : (rest : List ℕ) → Gap rest → FitBit (SignBit mark.Greater 62) rest
unfolding class_of prefixed_at longest mark_length digit_is_next
greater_fits rest gap_end = (λ f g. (tt, refl))
greater_fits rest (gap_feed more) = (λ f g. (tt, refl))
greater_fits rest (gap_space more) = (λ f g. (tt, refl))
greater_fits rest (gap_tab more) = (λ f g. (tt, refl))

pub included_line : LineOf include_line include_bits
unfolding class_of prefixed_at longest mark_length digit_is_next include_line
included_line = record {
  spelled_is = λ rest. refl;
  clean = refl;
  fit = λ rest gap. ((λ f g. (tt, refl)), ((λ f g. (refl, refl, (refl, (refl, (refl, (refl, (refl, (refl, refl)))))))), ((λ f g. refl), ((λ f g. (tt, refl)), ((λ f g. (refl, refl, (refl, (refl, (refl, (refl, refl)))))), ((λ f g. (refl, refl)), ((λ f g. (refl, refl, refl)), (greater_fits rest gap, tt))))))));
  no_feeds = (tt, (tt, (tt, (tt, (tt, (tt, (tt, (tt, tt))))))));
  some = λ blank f. refl;
}

abbrev pub opening_bits : ℕ → List ℕ → List Bit
opening_bits c cs = WordBit 118 (111 ∷ 105 ∷ 100 ∷ []) ∷ SpaceBit 32 ∷ WordBit c cs ∷ SignBit mark.Open 40 ∷ WordBit 105 (110 ∷ 116 ∷ []) ∷ SpaceBit 32 ∷ WordBit 99 ([]) ∷ SignBit mark.Close 41 ∷ SignBit mark.OpenBrace 123 ∷ []

pub opening_part : (c : ℕ) (cs : List ℕ) → IsName (c ∷ cs) → PartOf (opening_text (c ∷ cs)) (opening_bits c cs)
unfolding class_of prefixed_at longest mark_length digit_is_next opening_text
opening_part c cs h = record {
  spelled_is = λ rest. ap (λ (l : List ℕ). codes "void " ++ c ∷ l) (sym (append_assoc cs (codes "(int c){") rest));
  clean = clean_append (c ∷ cs) (codes "(int c){") (letters_clean (c ∷ cs) h.letters) refl;
  fit = λ rest. ((λ f g. (refl, refl, (refl, (refl, (refl, refl))))), ((λ f g. refl), (label_fits c cs (codes "int c){" ++ rest) h.letters, ((λ f g. (tt, refl)), ((λ f g. (refl, refl, (refl, (refl, refl)))), ((λ f g. refl), ((λ f g. (refl, refl, refl)), ((λ f g. (tt, refl)), ((λ f g. (tt, refl)), tt)))))))));
  no_feeds = (tt, (tt, (tt, (tt, (tt, (tt, (tt, (tt, (tt, tt)))))))));
}

-- what stands between the parentheses
pub data IsPutBit : Bit → Type 0 where
  the_parameter : IsPutBit (WordBit 99 [])
  a_number : (d : ℕ) (ds : List ℕ) → All IsAsciiDigit (d ∷ ds) → IsPutBit (NumberBit d ds)

pub record ArgumentBit (a : PutcharArgument) : Type 0 where
  pub bit : Bit
  pub is_put : IsPutBit bit
  pub bytes : bytes_of bit ≡ argument_text a

number_bit : (n : ℕ) (ds : List ℕ) → decimal n ≡ ds → 1 ≤ length ds → All IsAsciiDigit ds → ArgumentBit (Number n)
number_bit n [] e some a = absurd (omega (arith, some))
number_bit n (d ∷ ds) e some a = record { bit = NumberBit d ds; is_put = a_number d ds a; bytes = sym e }

pub argument_bit : (a : PutcharArgument) → IsArgument a → ArgumentBit a
argument_bit Parameter h = record { bit = WordBit 99 []; is_put = the_parameter; bytes = refl }
argument_bit (Number n) h = let p = decimal_plain n h in number_bit n (decimal n) refl p.some p.digits

bit_clean : (b : Bit) → IsPutBit b → is_clean (bytes_of b) ≡ true
bit_clean b the_parameter = refl
bit_clean b (a_number d ds a) = digits_clean (d ∷ ds) a

bit_fits : (b : Bit) (more : List ℕ) → IsPutBit b → FitBit b (41 ∷ more)
unfolding class_of prefixed_at longest mark_length digit_is_next
bit_fits b more the_parameter = (λ f g. (refl, refl, refl))
bit_fits b more (a_number d ds a) = digits_fit d ds more a

bit_stays : (b : Bit) → IsPutBit b → NoFeed b
bit_stays b the_parameter = tt
bit_stays b (a_number d ds a) = tt

abbrev pub put_bits : Bit → List Bit
put_bits b = WordBit 112 (117 ∷ 116 ∷ 99 ∷ 104 ∷ 97 ∷ 114 ∷ []) ∷ SignBit mark.Open 40 ∷ b ∷ SignBit mark.Close 41 ∷ SignBit mark.Semicolon 59 ∷ []

pub put_part : (a : PutcharArgument) (b : ArgumentBit a) → PartOf (put_text a) (put_bits b.bit)
unfolding class_of prefixed_at longest mark_length digit_is_next put_text
put_part a b = record {
  spelled_is = λ rest. ap (λ (l : List ℕ). codes "putchar(" ++ (l ++ (codes ");" ++ rest))) b.bytes ∙ ap (λ (l : List ℕ). codes "putchar(" ++ l) (sym (append_assoc (argument_text a) (codes ");") rest));
  clean = clean_append (argument_text a) (codes ");") (sym (ap is_clean b.bytes) ∙ bit_clean b.bit b.is_put) refl;
  fit = λ rest. ((λ f g. (refl, refl, (refl, (refl, (refl, (refl, (refl, (refl, refl)))))))), ((λ f g. (tt, refl)), (bit_fits b.bit (codes ";" ++ rest) b.is_put, ((λ f g. (tt, refl)), ((λ f g. (tt, refl)), tt)))));
  no_feeds = (tt, (tt, (bit_stays b.bit b.is_put, (tt, (tt, tt)))));
}

abbrev pub closing_bits : List Bit
closing_bits = SignBit mark.CloseBrace 125 ∷ []

pub closing_part : PartOf closing_text closing_bits
unfolding class_of prefixed_at longest mark_length digit_is_next closing_text
closing_part = record { spelled_is = λ rest. refl; clean = refl; fit = λ rest. ((λ f g. (tt, refl)), tt); no_feeds = (tt, tt) }
