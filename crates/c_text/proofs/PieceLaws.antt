-- Each text begins with a piece that fits, and a piece that fits is the one that is read.
use Rattle.std.proofs.Common.{◌≡◌, ℕ, ◌-◌, ◌≤◌, Bool, true, false, ◌==◌, ◌||◌, if◌then◌else◌, [], ◌∷◌, ◌++◌, length, take, drop, Option, Some, None, refl, sym, ap, subst, ◌∙◌, arith}
use Rattle.std.proofs.Math.Seq.{drop-append_seam}
use Rattle.std.proofs.lemmas.List.{take-append-drop, length-take-le}
use Rattle.std.proofs.lemmas.Bool.Decides.{nat_tests}
use Rattle.c_text.specs.declared.kind.Kind.{Kind}
use Rattle.c_text.specs.declared.kind.Kind.TheVariants as kind
use Rattle.c_text.specs.Classes.{Class, Letter, Digit, Blank, LineEnd, Quote, Slash, Dot, Mark, Backslash, Foreign, class_of}
use Rattle.c_text.specs.Characters.{Character}
use Rattle.c_text.specs.Rests.{choose, byte_at, digit_is_next, word_rest, number_rest, line_rest, comment_rest}
use Rattle.c_text.specs.Marks.{punctuators, mark_length}
use Rattle.c_text.specs.Pieces.{Found, quote_of, quote_at, eight_at, prefixed_at, literal_of, literal_at, word_at, mark_at, comment_of, slash_at, dot_at, piece_of, piece_at}
use Rattle.c_text.specs.Grammar.{Text, AreNumber, CommentEnd, Ended, Unended, spell_end, FitsEnd, end_kind, Ending, Closed, Open, spell_ending, AreLiteral, ending_kind, Prefix, Plain, Wide, Eight, spell_prefix, FitsPrefix, Shape, Word, Number, Literal, Sign, Space, LineComment, Comment, EndOfLine, Stray, Alien, spell, BeginsNumber, BeginsSign, Fits, meaning}
use Rattle.c_text.proofs.Best.{longest_within}
use Rattle.c_text.proofs.Runs.{word_split, word_again, number_split, number_again, line_split, line_again, literal_split, literal_again, comment_split, behind_end, comment_again, some_at, none_at}

-- ---- a piece that fits is the one that is read

at_class : (c : Character) (cs : Text) (k : Class) → class_of c.byte ≡ k → piece_at (c ∷ cs) ≡ piece_of k c cs
unfolding piece_at
at_class c cs k e = ap (λ (x : Class). piece_of x c cs) e

literal_is : (q : ℕ) (cs : Text) (e : Ending) (rest : Text) → AreLiteral false q cs e rest → literal_at q (cs ++ spell_ending e rest) ≡ (Some (ending_kind q e), rest)
unfolding literal_at
literal_is q cs (Closed z) rest a = ap (literal_of q) (literal_again false q cs (Closed z) rest a)
literal_is q cs Open rest a = ap (literal_of q) (literal_again false q cs Open rest a)

word_is : (first : ℕ) (cs : Text) → prefixed_at first cs ≡ None → word_at first cs ≡ (Some kind.Name, word_rest cs)
unfolding word_at
word_is first cs e = rw e refl

prefixed_is : (first : ℕ) (cs : Text) (x : ℕ × Text) → prefixed_at first cs ≡ Some x → word_at first cs ≡ literal_at x.0 x.1
unfolding word_at
prefixed_is first cs x e = rw e refl

with_rest : (k : Option Kind) (a b : Text) → a ≡ b → let x : Found = (k, a) in let y : Found = (k, b) in x ≡ y
with_rest k a b e = ap (λ (r : Text). (k, r)) e

mark_is : (text cs rest : Text) → length cs ≡ mark_length text - 1 → mark_at text (cs ++ rest) ≡ (Some kind.Mark, rest)
unfolding mark_at
mark_is text cs rest e = with_rest (Some kind.Mark) (drop (mark_length text - 1) (cs ++ rest)) rest (ap (λ (n : ℕ). drop n (cs ++ rest)) (sym e) ∙ drop-append_seam cs rest)

dot_number : (text cs : Text) → digit_is_next cs ≡ true → dot_at text cs ≡ (Some kind.Number, number_rest false cs)
unfolding dot_at
dot_number text cs e = rw e refl

dot_mark : (text cs : Text) → digit_is_next cs ≡ false → dot_at text cs ≡ mark_at text cs
unfolding dot_at
dot_mark text cs e = rw e refl

slash_mark : (text cs : Text) → byte_at 47 cs ≡ None → byte_at 42 cs ≡ None → slash_at text cs ≡ mark_at text cs
unfolding slash_at
slash_mark text cs e f = rw (e, f) refl

slash_line : (text cs r : Text) → byte_at 47 cs ≡ Some r → slash_at text cs ≡ (None, line_rest r)
unfolding slash_at
slash_line text cs r e = rw e refl

slash_comment : (text cs r : Text) → byte_at 47 cs ≡ None → byte_at 42 cs ≡ Some r → slash_at text cs ≡ comment_of (comment_rest r)
unfolding slash_at
slash_comment text cs r e f = rw (e, f) refl

number_of : (k : Class) (c : Character) (cs rest : Text) → class_of c.byte ≡ k → BeginsNumber k (cs ++ rest) → AreNumber false cs rest → piece_at (c ∷ (cs ++ rest)) ≡ (Some kind.Number, rest)
number_of Digit c cs rest e b a = at_class c (cs ++ rest) Digit e ∙ with_rest (Some kind.Number) (number_rest false (cs ++ rest)) rest (number_again false cs rest a)
number_of Dot c cs rest e b a = at_class c (cs ++ rest) Dot e ∙ dot_number (c ∷ (cs ++ rest)) (cs ++ rest) b ∙ with_rest (Some kind.Number) (number_rest false (cs ++ rest)) rest (number_again false cs rest a)
number_of _ c cs rest e b a = absurd b

sign_of : (k : Class) (c : Character) (cs rest : Text) → class_of c.byte ≡ k → BeginsSign k (cs ++ rest) → length cs ≡ mark_length (c ∷ (cs ++ rest)) - 1 → piece_at (c ∷ (cs ++ rest)) ≡ (Some kind.Mark, rest)
sign_of Mark c cs rest e b n = at_class c (cs ++ rest) Mark e ∙ mark_is (c ∷ (cs ++ rest)) cs rest n
sign_of Dot c cs rest e b n = at_class c (cs ++ rest) Dot e ∙ dot_mark (c ∷ (cs ++ rest)) (cs ++ rest) b ∙ mark_is (c ∷ (cs ++ rest)) cs rest n
sign_of Slash c cs rest e b n = at_class c (cs ++ rest) Slash e ∙ slash_mark (c ∷ (cs ++ rest)) (cs ++ rest) b.0 b.1 ∙ mark_is (c ∷ (cs ++ rest)) cs rest n
sign_of _ c cs rest e b n = absurd b

literal_of_prefix : (p : Prefix) (q : Character) (rest : Text) → FitsPrefix p q rest → piece_at (spell_prefix p (q ∷ rest)) ≡ literal_at q.byte rest
literal_of_prefix Plain q rest f = at_class q rest Quote f
literal_of_prefix (Wide c) q rest f = at_class c (q ∷ rest) Letter f.0 ∙ prefixed_is c.byte (q ∷ rest) (q.byte, rest) f.1
literal_of_prefix (Eight c d) q rest f = at_class c (d ∷ q ∷ rest) Letter f.0 ∙ prefixed_is c.byte (d ∷ q ∷ rest) (q.byte, rest) f.1

comment_is : (e : CommentEnd) (rest : Text) → FitsEnd e rest → comment_of (behind_end e rest) ≡ (end_kind e, rest)
comment_is (Ended s t) rest f = refl
comment_is Unended rest f = with_rest (Some kind.OpenText) [] rest (sym f)

pub piece_again : (s : Shape) (rest : Text) → Fits s rest → piece_at (spell s rest) ≡ (meaning s, rest)
piece_again (Word c cs) rest f = at_class c (cs ++ rest) Letter f.0 ∙ word_is c.byte (cs ++ rest) f.1 ∙ with_rest (Some kind.Name) (word_rest (cs ++ rest)) rest (word_again cs rest f.2)
piece_again (Number c cs) rest f = number_of (class_of c.byte) c cs rest refl f.0 f.1
piece_again (Literal p q cs e) rest f = literal_of_prefix p q (cs ++ spell_ending e rest) f.0 ∙ literal_is q.byte cs e rest f.1
piece_again (Sign c cs) rest f = sign_of (class_of c.byte) c cs rest refl f.0 f.1
piece_again (Space c) rest f = at_class c rest Blank f
piece_again (LineComment c d cs) rest f =
    at_class c (d ∷ (cs ++ rest)) Slash f.0 ∙ slash_line (c ∷ d ∷ (cs ++ rest)) (d ∷ (cs ++ rest)) (cs ++ rest) (some_at 47 d (cs ++ rest) f.1) ∙ with_rest None (line_rest (cs ++ rest)) rest (line_again cs rest f.2)
piece_again (Comment c d cs e) rest f =
    let behind = cs ++ spell_end e rest in
    at_class c (d ∷ behind) Slash f.0 ∙ slash_comment (c ∷ d ∷ behind) (d ∷ behind) behind (none_at 47 d behind f.1) (some_at 42 d behind f.2) ∙ ap comment_of (comment_again cs e rest f.3 f.4) ∙ comment_is e rest f.4
piece_again (EndOfLine c) rest f = at_class c rest LineEnd f
piece_again (Stray c) rest f = at_class c rest Backslash f
piece_again (Alien c) rest f = at_class c rest Foreign f

-- ---- each text begins with a piece that fits

pub record IsPiece (text : Text) : Type 0 where
  pub shape : Shape
  pub rest : Text
  pub fits : Fits shape rest
  pub is : text ≡ spell shape rest

-- the character in front, and what stands behind it
record Front (cs : Text) (b : ℕ) (rest : Text) : Type 0 where
  first : Character
  is : cs ≡ first ∷ rest
  byte : b ≡ first.byte

quote_front : (cs : Text) (x : ℕ × Text) → quote_at cs ≡ Some x → Front cs x.0 x.1
unfolding quote_at
quote_front [] x e = absurd (let no : None ≡ Some x = e in cc)
quote_front (c ∷ cs) x e = pick (class_of c.byte) e
  where
    pick : (k : Class) → quote_of k c.byte cs ≡ Some x → Front (c ∷ cs) x.0 x.1
    pick Quote f = let y : ℕ × Text = (c.byte, cs) in let same : y ≡ x = cc in record { first = c; is = ap (λ (z : ℕ × Text). c ∷ z.1) same; byte = ap (λ (z : ℕ × Text). z.0) (sym same) }
    pick _ f = absurd (let no : None ≡ Some x = f in cc)

byte_front : (b : ℕ) (cs rest : Text) → byte_at b cs ≡ Some rest → (first : Character) × (cs ≡ first ∷ rest) × ((first.byte == b) ≡ true)
unfolding byte_at
byte_front b [] rest e = absurd (let no : None ≡ Some rest = e in cc)
byte_front b (c ∷ cs) rest e = pick (c.byte == b) refl e
  where
    pick : (v : Bool) → (c.byte == b) ≡ v → (if v then Some cs else None) ≡ Some rest → (first : Character) × (c ∷ cs ≡ first ∷ rest) × ((first.byte == b) ≡ true)
    pick true t f = let same : cs ≡ rest = cc in (c, ap (λ (l : Text). c ∷ l) same, t)
    pick false t f = absurd (let no : None ≡ Some rest = f in cc)

-- the quote of a literal with a prefix
record Prefixed (c : Character) (cs : Text) (q : ℕ) (rest : Text) : Type 0 where
  prefix : Prefix
  quote : Character
  is : c ∷ cs ≡ spell_prefix prefix (quote ∷ rest)
  fits : FitsPrefix prefix quote rest

wide_of : (c : Character) (cs : Text) (x : ℕ × Text) → class_of c.byte ≡ Letter → prefixed_at c.byte cs ≡ Some x → Front cs x.0 x.1 → Prefixed c cs x.0 x.1
wide_of c cs x e p f = record {
  prefix = Wide c;
  quote = f.first;
  is = ap (λ (l : Text). c ∷ l) f.is;
  fits = (e, ap (prefixed_at c.byte) (sym f.is) ∙ p ∙ ap (λ (b : ℕ). let y : ℕ × Text = (b, x.1) in Some y) f.byte);
}

same_number : (a b : ℕ) → (a == b) ≡ true → b ≡ a
same_number a b e = grind (arith, nat_tests)

eight_of : (c : Character) (cs : Text) (x : ℕ × Text) → class_of c.byte ≡ Letter → prefixed_at c.byte cs ≡ Some x → eight_at c.byte cs ≡ Some x → Prefixed c cs x.0 x.1
eight_of c cs x e p f = outer (byte_at 56 cs) refl f
  where
    last : (r s : Text) → byte_at 56 cs ≡ Some r → byte_at 34 r ≡ Some s → (v : Bool) → (let y : ℕ × Text = (34, s) in if v then Some y else None) ≡ Some x → Prefixed c cs x.0 x.1
    last r s a b false g = absurd (let no : None ≡ Some x = g in cc)
    last r s a b true g =
        let d = byte_front 56 cs r a in
        let q = byte_front 34 r s b in
        let y : ℕ × Text = (34, s) in
        let same : y ≡ x = cc in
        let spelled : cs ≡ d.0 ∷ q.0 ∷ x.1 = d.1 ∙ ap (λ (l : Text). d.0 ∷ l) (q.1 ∙ ap (λ (z : ℕ × Text). q.0 ∷ z.1) same) in
        let number : x.0 ≡ q.0.byte = ap (λ (z : ℕ × Text). z.0) (sym same) ∙ same_number q.0.byte 34 q.2 in
        record {
          prefix = Eight c d.0;
          quote = q.0;
          is = ap (λ (l : Text). c ∷ l) spelled;
          fits = (e, ap (prefixed_at c.byte) (sym spelled) ∙ p ∙ ap (λ (b : ℕ). let y : ℕ × Text = (b, x.1) in Some y) number);
        }

    inner : (r : Text) → byte_at 56 cs ≡ Some r → (o : Option Text) → byte_at 34 r ≡ o → choose o None (λ s. if c.byte == 117 then Some (34, s) else None) ≡ Some x → Prefixed c cs x.0 x.1
    inner r a None b g = absurd (let no : None ≡ Some x = g in cc)
    inner r a (Some s) b g = last r s a b (c.byte == 117) g

    outer : (o : Option Text) → byte_at 56 cs ≡ o → choose o None (λ r. choose (byte_at 34 r) None (λ s. if c.byte == 117 then Some (34, s) else None)) ≡ Some x → Prefixed c cs x.0 x.1
    outer None a g = absurd (let no : None ≡ Some x = g in cc)
    outer (Some r) a g = inner r a (byte_at 34 r) refl g

prefixed_of : (c : Character) (cs : Text) (x : ℕ × Text) → class_of c.byte ≡ Letter → prefixed_at c.byte cs ≡ Some x → Prefixed c cs x.0 x.1
unfolding prefixed_at
prefixed_of c cs x e p = outer ((c.byte == 76) || (c.byte == 117) || (c.byte == 85)) p
  where
    inner : (o : Option (ℕ × Text)) → quote_at cs ≡ o → choose o (eight_at c.byte cs) Some ≡ Some x → Prefixed c cs x.0 x.1
    inner None a g = eight_of c cs x e p g
    inner (Some y) a g = let same : y ≡ x = cc in wide_of c cs x e p (quote_front cs x (a ∙ ap Some same))

    outer : (v : Bool) → (if v then choose (quote_at cs) (eight_at c.byte cs) Some else None) ≡ Some x → Prefixed c cs x.0 x.1
    outer true g = inner (quote_at cs) refl g
    outer false g = absurd (let no : None ≡ Some x = g in cc)

literal_from : (p : Prefix) (q : Character) (text rest : Text) → text ≡ spell_prefix p (q ∷ rest) → FitsPrefix p q rest → IsPiece text
literal_from p q text rest is f =
    let h = literal_split false q.byte rest in
    record {
      shape = Literal p q h.run h.end;
      rest = h.rest;
      fits = (subst (FitsPrefix p q) h.is f, h.are);
      is = is ∙ ap (λ (l : Text). spell_prefix p (q ∷ l)) h.is;
    }

word_from : (c : Character) (cs : Text) → class_of c.byte ≡ Letter → (o : Option (ℕ × Text)) → prefixed_at c.byte cs ≡ o → IsPiece (c ∷ cs)
word_from c cs e None p =
    let h = word_split cs in
    record { shape = Word c h.run; rest = h.rest; fits = (e, ap (prefixed_at c.byte) (sym h.is) ∙ p, h.are); is = ap (λ (l : Text). c ∷ l) h.is }
word_from c cs e (Some x) p = let h = prefixed_of c cs x e p in literal_from h.prefix h.quote (c ∷ cs) x.1 h.is h.fits

number_from : (c : Character) (cs : Text) → BeginsNumber (class_of c.byte) cs → IsPiece (c ∷ cs)
number_from c cs b =
    let h = number_split false cs in
    record { shape = Number c h.run; rest = h.rest; fits = (subst (BeginsNumber (class_of c.byte)) h.is b, h.are); is = ap (λ (l : Text). c ∷ l) h.is }

mark_within : (text : Text) → mark_length text ≤ length text
unfolding mark_length
mark_within text = longest_within punctuators text

length_taken : (n : ℕ) (cs : Text) → n ≤ length cs → length (take n cs) ≡ n
length_taken n cs le = length-take-le n cs le

sign_from : (c : Character) (cs : Text) → BeginsSign (class_of c.byte) cs → IsPiece (c ∷ cs)
sign_from c cs b =
    let n = mark_length (c ∷ cs) - 1 in
    let is : cs ≡ take n cs ++ drop n cs = sym (take-append-drop n cs) in
    let within : n ≤ length cs = omega (arith, mark_within (c ∷ cs)) in
    record {
      shape = Sign c (take n cs);
      rest = drop n cs;
      fits = (subst (BeginsSign (class_of c.byte)) is b, length_taken n cs within ∙ ap (λ (l : Text). mark_length (c ∷ l) - 1) is);
      is = ap (λ (l : Text). c ∷ l) is;
    }

nothing_first : (b : ℕ) → byte_at b [] ≡ None
unfolding byte_at
nothing_first b = refl

slash_from : (c : Character) (cs : Text) → class_of c.byte ≡ Slash → IsPiece (c ∷ cs)
slash_from c [] e = sign_from c [] (let P : Class → Type 0 = λ k. BeginsSign k [] in subst P (sym e) (nothing_first 47, nothing_first 42))
slash_from c (d ∷ ds) e = pick (d.byte == 47) refl
  where
    star : (d.byte == 47) ≡ false → (v : Bool) → (d.byte == 42) ≡ v → IsPiece (c ∷ d ∷ ds)
    star f true t = let h = comment_split ds in record { shape = Comment c d h.run h.end; rest = h.rest; fits = (e, f, t, h.are, h.fits); is = ap (λ (l : Text). c ∷ d ∷ l) h.is }
    star f false t = sign_from c (d ∷ ds) (let P : Class → Type 0 = λ k. BeginsSign k (d ∷ ds) in subst P (sym e) (none_at 47 d ds f, none_at 42 d ds t))

    pick : (v : Bool) → (d.byte == 47) ≡ v → IsPiece (c ∷ d ∷ ds)
    pick true t = let h = line_split ds in record { shape = LineComment c d h.run; rest = h.rest; fits = (e, t, h.are); is = ap (λ (l : Text). c ∷ d ∷ l) h.is }
    pick false f = star f (d.byte == 42) refl

dot_from : (c : Character) (cs : Text) → class_of c.byte ≡ Dot → (v : Bool) → digit_is_next cs ≡ v → IsPiece (c ∷ cs)
dot_from c cs e true d = number_from c cs (let P : Class → Type 0 = λ k. BeginsNumber k cs in subst P (sym e) d)
dot_from c cs e false d = sign_from c cs (let P : Class → Type 0 = λ k. BeginsSign k cs in subst P (sym e) d)

of_class : (c : Character) (cs : Text) (k : Class) → class_of c.byte ≡ k → IsPiece (c ∷ cs)
of_class c cs Letter e = word_from c cs e (prefixed_at c.byte cs) refl
of_class c cs Digit e = number_from c cs (let P : Class → Type 0 = λ k. BeginsNumber k cs in subst P (sym e) tt)
of_class c cs Blank e = record { shape = Space c; rest = cs; fits = e; is = refl }
of_class c cs LineEnd e = record { shape = EndOfLine c; rest = cs; fits = e; is = refl }
of_class c cs Quote e = literal_from Plain c (c ∷ cs) cs refl e
of_class c cs Slash e = slash_from c cs e
of_class c cs Dot e = dot_from c cs e (digit_is_next cs) refl
of_class c cs Mark e = sign_from c cs (let P : Class → Type 0 = λ k. BeginsSign k cs in subst P (sym e) tt)
of_class c cs Backslash e = record { shape = Stray c; rest = cs; fits = e; is = refl }
of_class c cs Foreign e = record { shape = Alien c; rest = cs; fits = e; is = refl }

pub piece_found : (c : Character) (cs : Text) → IsPiece (c ∷ cs)
piece_found c cs = of_class c cs (class_of c.byte) refl
