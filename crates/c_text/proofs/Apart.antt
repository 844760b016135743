-- A text is cut into pieces line by line: those of a line are the same whatever stands behind its end.
use Rattle.std.proofs.Common.{◌≡◌, ℕ, zero, suc, ◌-◌, ◌≤◌, Bool, true, false, ◌==◌, ◌&&◌, ◌||◌, not, if◌then◌else◌, List, [], ◌∷◌, ◌++◌, length, take, Option, Some, None, refl, sym, ap, ◌∙◌, arith, append_assoc, length-append}
use Rattle.std.proofs.lemmas.List.{append-nil, take-append-le, drop-append-le}
use Rattle.c_text.specs.declared.kind.Kind.{Kind}
use Rattle.c_text.specs.declared.kind.Kind.TheVariants as kind
use Rattle.c_text.specs.declared.kind.Lexeme.{Lexeme}
use Rattle.c_text.specs.Characters.{Character}
use Rattle.c_text.specs.Classes.{Class, Letter, Digit, Blank, LineEnd, Quote, Slash, Dot, Mark, Backslash, Foreign, is_alphanumeric, class_of}
use Rattle.c_text.specs.Marks.{begins, longest, punctuators, mark_length}
use Rattle.c_text.specs.Rests.{choose, seen, byte_at, digit_is_next, is_exponent, is_in_number, word_rest, number_rest, line_rest, comment_rest, literal_rest}
use Rattle.c_text.specs.Pieces.{Found, quote_of, quote_at, eight_at, prefixed_at, literal_of, literal_at, word_at, mark_at, comment_of, slash_at, dot_at, piece_of, piece_at}
use Rattle.c_text.specs.Source.{Cut, spelled_by, cut_of, cuts, given, is_white, lexemes_from}
use Rattle.c_text.specs.Grammar.{Text}
use Rattle.c_text.specs.Lines.{is_closed, all_closed, pieces_of, lexemes_of, LinesAreApart}
use Rattle.c_text.proofs.Best.{longest_within}
use Rattle.c_text.proofs.Cuts.{next-shorter}

-- no line end stands in a mark
abbrev no_end : List ℕ → Bool
no_end [] = true
no_end (b ∷ bs) = if b == 10 then false else no_end bs

abbrev no_ends : List (List ℕ) → Bool
no_ends [] = true
no_ends (m ∷ ms) = if no_end m then no_ends ms else false

first_holds : (a x : Bool) → (if a then x else false) ≡ true → a ≡ true
first_holds true x e = refl
first_holds false x e = cc

then_holds : (a x : Bool) → (if a then x else false) ≡ true → x ≡ true
then_holds true x e = e
then_holds false x e = cc

first_fails : (a x : Bool) → (if a then false else x) ≡ true → a ≡ false
first_fails true x e = cc
first_fails false x e = refl

else_holds : (a x : Bool) → (if a then false else x) ≡ true → x ≡ true
else_holds true x e = cc
else_holds false x e = e

-- more steps than characters change nothing
same_fuel : (k j : ℕ) (text : Text) → length text ≤ k → length text ≤ j → cuts k text ≡ cuts j text
unfolding cuts
same_fuel k j [] a b = refl
same_fuel zero j (c ∷ cs) a b = absurd (omega arith)
same_fuel (suc k) zero (c ∷ cs) a b = absurd (omega arith)
same_fuel (suc k) (suc j) (c ∷ cs) a b =
    let x : Found = piece_at (c ∷ cs) in
    let less = next-shorter (c ∷ cs) x (omega arith) refl in
    ap (λ xs. cut_of (c ∷ cs) x ∷ xs) (same_fuel k j x.1 (omega (arith, less, a)) (omega (arith, less, b)))

-- ---- pieces in front of a line end

module _ (nl : Character) (ends : nl.byte ≡ 10) (more : Text) where
  abbrev far : Text → Text
  far cs = cs ++ nl ∷ more

  abbrev further : Found → Found
  further x = (x.0, far x.1)

  abbrev quoted_further : ℕ × Text → ℕ × Text
  quoted_further x = (x.0, far x.1)

  end_class : class_of nl.byte ≡ LineEnd
  unfolding class_of
  end_class = rw ends refl

  is_end : (nl.byte == 10) ≡ true
  is_end = rw ends refl

  other_byte : (b : ℕ) → (10 == b) ≡ false → (nl.byte == b) ≡ false
  other_byte b e = rw ends e

  not_in_number : (s : Bool) → is_in_number s nl.byte ≡ false
  not_in_number true = rw (end_class, other_byte 43 refl, other_byte 45 refl) refl
  not_in_number false = rw end_class refl

  word_far : (cs : Text) → word_rest (far cs) ≡ far (word_rest cs)
  unfolding word_rest
  word_far [] = rw end_class refl
  word_far (c ∷ cs) = pick (is_alphanumeric (class_of c.byte)) refl (word_far cs)
    where
      pick : (b : Bool) → is_alphanumeric (class_of c.byte) ≡ b → word_rest (far cs) ≡ far (word_rest cs) → word_rest (c ∷ far cs) ≡ far (word_rest (c ∷ cs))
      pick true e h = rw e h
      pick false e h = rw e refl

  number_far : (s : Bool) (cs : Text) → number_rest s (far cs) ≡ far (number_rest s cs)
  unfolding number_rest
  number_far s [] = rw (not_in_number s) refl
  number_far s (c ∷ cs) = pick (is_in_number s c.byte) refl (number_far (is_exponent c.byte) cs)
    where
      pick : (b : Bool) → is_in_number s c.byte ≡ b → number_rest (is_exponent c.byte) (far cs) ≡ far (number_rest (is_exponent c.byte) cs) → number_rest s (c ∷ far cs) ≡ far (number_rest s (c ∷ cs))
      pick true e h = rw e h
      pick false e h = rw e refl

  line_far : (cs : Text) → line_rest (far cs) ≡ far (line_rest cs)
  unfolding line_rest
  line_far [] = rw is_end refl
  line_far (c ∷ cs) = pick (c.byte == 10) refl (line_far cs)
    where
      pick : (b : Bool) → (c.byte == 10) ≡ b → line_rest (far cs) ≡ far (line_rest cs) → line_rest (c ∷ far cs) ≡ far (line_rest (c ∷ cs))
      pick true e h = rw e refl
      pick false e h = rw e h

  abbrev after : Bool × Text → Bool × Text
  after x = (x.0, far x.1)

  literal_far : (s : Bool) (q : ℕ) (cs : Text) → literal_rest s q (far cs) ≡ after (literal_rest s q cs)
  unfolding literal_rest
  literal_far s q [] = rw is_end refl
  literal_far s q (c ∷ cs) = pick (c.byte == 10) refl (literal_far (not s && (c.byte == 92)) q cs)
    where
      inside : (b : Bool) → (not s && (c.byte == q)) ≡ b → (c.byte == 10) ≡ false → literal_rest (not s && (c.byte == 92)) q (far cs) ≡ after (literal_rest (not s && (c.byte == 92)) q cs) → literal_rest s q (c ∷ far cs) ≡ after (literal_rest s q (c ∷ cs))
      inside true e f h = rw (f, e) refl
      inside false e f h = rw (f, e) h

      pick : (b : Bool) → (c.byte == 10) ≡ b → literal_rest (not s && (c.byte == 92)) q (far cs) ≡ after (literal_rest (not s && (c.byte == 92)) q cs) → literal_rest s q (c ∷ far cs) ≡ after (literal_rest s q (c ∷ cs))
      pick true e h = rw e refl
      pick false e h = inside (not s && (c.byte == q)) refl e h

  byte_far : (b : ℕ) (cs : Text) → (10 == b) ≡ false → byte_at b (far cs) ≡ seen far (byte_at b cs)
  unfolding byte_at
  byte_far b [] e = rw (other_byte b e) refl
  byte_far b (c ∷ cs) e = pick (c.byte == b) refl
    where
      pick : (v : Bool) → (c.byte == b) ≡ v → byte_at b (c ∷ far cs) ≡ seen far (byte_at b (c ∷ cs))
      pick true e = rw e refl
      pick false e = rw e refl

  digit_far : (cs : Text) → digit_is_next (far cs) ≡ digit_is_next cs
  unfolding digit_is_next
  digit_far [] = rw end_class refl
  digit_far (c ∷ cs) = refl

  quote_far : (cs : Text) → quote_at (far cs) ≡ seen quoted_further (quote_at cs)
  unfolding quote_at
  quote_far [] = rw end_class refl
  quote_far (c ∷ cs) = pick (class_of c.byte)
    where
      pick : (k : Class) → quote_of k c.byte (far cs) ≡ seen quoted_further (quote_of k c.byte cs)
      pick Quote = refl
      pick _ = refl

  eight_far : (first : ℕ) (cs : Text) → eight_at first (far cs) ≡ seen quoted_further (eight_at first cs)
  eight_far first cs = rw (byte_far 56 cs refl) (pick (byte_at 56 cs))
    where
      last : (v : Bool) (s : Text) → (if v then Some (34, far s) else None) ≡ seen quoted_further (if v then Some (34, s) else None)
      last true s = refl
      last false s = refl

      inner : (o : Option Text) → choose (seen far o) None (λ s. if first == 117 then Some (34, s) else None) ≡ seen quoted_further (choose o None (λ s. if first == 117 then Some (34, s) else None))
      inner None = refl
      inner (Some s) = last (first == 117) s

      pick : (o : Option Text) → choose (seen far o) None (λ r. choose (byte_at 34 r) None (λ s. if first == 117 then Some (34, s) else None))
          ≡ seen quoted_further (choose o None (λ r. choose (byte_at 34 r) None (λ s. if first == 117 then Some (34, s) else None)))
      pick None = refl
      pick (Some r) = rw (byte_far 34 r refl) (inner (byte_at 34 r))

  prefixed_far : (first : ℕ) (cs : Text) → prefixed_at first (far cs) ≡ seen quoted_further (prefixed_at first cs)
  unfolding prefixed_at
  prefixed_far first cs = rw (quote_far cs, eight_far first cs) (pick ((first == 76) || (first == 117) || (first == 85)) (quote_at cs))
    where
      pick : (v : Bool) (o : Option (ℕ × Text)) → (if v then choose (seen quoted_further o) (seen quoted_further (eight_at first cs)) Some else None)
          ≡ seen quoted_further (if v then choose o (eight_at first cs) Some else None)
      pick false o = refl
      pick true None = refl
      pick true (Some x) = refl

  literal_at_far : (q : ℕ) (cs : Text) → literal_at q (far cs) ≡ further (literal_at q cs)
  unfolding literal_at
  literal_at_far q cs = rw (literal_far false q cs) (pick (literal_rest false q cs))
    where
      pick : (x : Bool × Text) → literal_of q (after x) ≡ further (literal_of q x)
      pick (true, r) = refl
      pick (false, r) = refl

  word_at_far : (first : ℕ) (cs : Text) → word_at first (far cs) ≡ further (word_at first cs)
  unfolding word_at
  word_at_far first cs = rw (prefixed_far first cs, word_far cs) (pick (prefixed_at first cs))
    where
      pick : (o : Option (ℕ × Text)) → choose (seen quoted_further o) (Some kind.Name, far (word_rest cs)) (λ q. literal_at q.0 q.1) ≡ further (choose o (Some kind.Name, word_rest cs) (λ q. literal_at q.0 q.1))
      pick None = refl
      pick (Some q) = literal_at_far q.0 q.1

  begins_far : (m : List ℕ) (cs : Text) → no_end m ≡ true → begins m (far cs) ≡ begins m cs
  begins_far [] cs e = refl
  begins_far (m ∷ ms) [] e = rw ends (rw (first_fails (m == 10) (no_end ms) e) refl)
  begins_far (m ∷ ms) (c ∷ cs) e = ap (λ v. (m == c.byte) && v) (begins_far ms cs (else_holds (m == 10) (no_end ms) e))

  longest_far : (marks : List (List ℕ)) (cs : Text) → no_ends marks ≡ true → longest marks (far cs) ≡ longest marks cs
  unfolding longest
  longest_far [] cs e = refl
  longest_far (m ∷ ms) cs e = rw (begins_far m cs (first_holds (no_end m) (no_ends ms) e), longest_far ms cs (then_holds (no_end m) (no_ends ms) e)) refl

  mark_length_far : (cs : Text) → mark_length (far cs) ≡ mark_length cs
  unfolding mark_length
  mark_length_far cs = longest_far punctuators cs refl

  mark_within : (cs : Text) → mark_length cs ≤ length cs
  unfolding mark_length
  mark_within cs = longest_within punctuators cs

  mark_far : (c : Character) (cs : Text) → mark_at (c ∷ far cs) (far cs) ≡ further (mark_at (c ∷ cs) cs)
  unfolding mark_at
  mark_far c cs = rw (mark_length_far (c ∷ cs), drop-append-le (mark_length (c ∷ cs) - 1) cs (nl ∷ more) (omega (arith, mark_within (c ∷ cs)))) refl

  comment_far : (cs rest : Text) → comment_rest cs ≡ Some rest → comment_rest (far cs) ≡ Some (far rest)
  unfolding comment_rest
  comment_far [] rest e = cc
  comment_far (c ∷ cs) rest e = pick (comment_far cs rest) (c.byte == 42) refl e
    where
      chosen : (comment_rest cs ≡ Some rest → comment_rest (far cs) ≡ Some (far rest)) → (o : Option Text) → choose o (comment_rest cs) Some ≡ Some rest → choose (seen far o) (comment_rest (far cs)) Some ≡ Some (far rest)
      chosen later None e = later e
      chosen later (Some r) e = ap (seen far) e

      pick : (comment_rest cs ≡ Some rest → comment_rest (far cs) ≡ Some (far rest)) → (v : Bool) → (c.byte == 42) ≡ v → (if v then choose (byte_at 47 cs) (comment_rest cs) Some else comment_rest cs) ≡ Some rest → comment_rest (c ∷ far cs) ≡ Some (far rest)
      pick later true t e = rw (t, byte_far 47 cs refl) (chosen later (byte_at 47 cs) e)
      pick later false t e = rw t (later e)

  slash_far : (c : Character) (cs : Text) → is_closed (slash_at (c ∷ cs) cs).0 ≡ true → slash_at (c ∷ far cs) (far cs) ≡ further (slash_at (c ∷ cs) cs)
  unfolding slash_at
  slash_far c cs e = rw (byte_far 47 cs refl, byte_far 42 cs refl) (pick (byte_at 47 cs) e)
    where
      ended : (r : Text) (o : Option Text) → comment_rest r ≡ o → is_closed (comment_of o).0 ≡ true → comment_of (comment_rest (far r)) ≡ further (comment_of o)
      ended r None same e = cc
      ended r (Some s) same e = rw (comment_far r s same) refl

      star : (o : Option Text) → is_closed (choose o (mark_at (c ∷ cs) cs) (λ r. comment_of (comment_rest r))).0 ≡ true
          → choose (seen far o) (mark_at (c ∷ far cs) (far cs)) (λ r. comment_of (comment_rest r)) ≡ further (choose o (mark_at (c ∷ cs) cs) (λ r. comment_of (comment_rest r)))
      star None e = mark_far c cs
      star (Some r) e = ended r (comment_rest r) refl e ∙ refl

      pick : (o : Option Text) → is_closed (choose o (choose (byte_at 42 cs) (mark_at (c ∷ cs) cs) (λ r. comment_of (comment_rest r))) (λ r. (None, line_rest r))).0 ≡ true
          → choose (seen far o) (choose (seen far (byte_at 42 cs)) (mark_at (c ∷ far cs) (far cs)) (λ r. comment_of (comment_rest r))) (λ r. (None, line_rest r))
          ≡ further (choose o (choose (byte_at 42 cs) (mark_at (c ∷ cs) cs) (λ r. comment_of (comment_rest r))) (λ r. (None, line_rest r)))
      pick None e = star (byte_at 42 cs) e
      pick (Some r) e = rw (line_far r) refl

  dot_far : (c : Character) (cs : Text) → dot_at (c ∷ far cs) (far cs) ≡ further (dot_at (c ∷ cs) cs)
  unfolding dot_at
  dot_far c cs = rw (digit_far cs, number_far false cs, mark_far c cs) (pick (digit_is_next cs))
    where
      pick : (v : Bool) → (if v then (Some kind.Number, far (number_rest false cs)) else further (mark_at (c ∷ cs) cs)) ≡ further (if v then (Some kind.Number, number_rest false cs) else mark_at (c ∷ cs) cs)
      pick true = refl
      pick false = refl

  of_class_far : (k : Class) (c : Character) (cs : Text) → is_closed (piece_of k c cs).0 ≡ true → piece_of k c (far cs) ≡ further (piece_of k c cs)
  of_class_far Letter c cs e = word_at_far c.byte cs
  of_class_far Digit c cs e = rw (number_far false cs) refl
  of_class_far Blank c cs e = refl
  of_class_far LineEnd c cs e = refl
  of_class_far Quote c cs e = literal_at_far c.byte cs
  of_class_far Slash c cs e = slash_far c cs e
  of_class_far Dot c cs e = dot_far c cs
  of_class_far Mark c cs e = mark_far c cs
  of_class_far Backslash c cs e = refl
  of_class_far Foreign c cs e = refl

  piece_far : (c : Character) (cs : Text) → is_closed (piece_at (c ∷ cs)).0 ≡ true → piece_at (c ∷ far cs) ≡ further (piece_at (c ∷ cs))
  unfolding piece_at
  piece_far c cs e = of_class_far (class_of c.byte) c cs e

  end_piece : piece_at (nl ∷ more) ≡ (Some kind.LineEnd, more)
  unfolding piece_at
  end_piece = rw end_class refl

  -- ---- all pieces

  cut_far : (text rest : Text) (k : Option Kind) → cut_of (far text) (k, far rest) ≡ cut_of text (k, rest)
  cut_far text rest k =
      let left : length (far text) - length (far rest) ≡ length text - length rest = omega (arith, length-append text (nl ∷ more), length-append rest (nl ∷ more)) in
      let same : spelled_by (far text) (far rest) ≡ spelled_by text rest = ap (λ n. take n (far text)) left ∙ take-append-le (length text - length rest) text (nl ∷ more) (omega arith) in
      ap (λ (cs : Text). (k, cs)) same

  abbrev line_end : Cut
  line_end = (Some kind.LineEnd, nl ∷ [])

  end_cut : cut_of (nl ∷ more) (Some kind.LineEnd, more) ≡ line_end
  end_cut = let one : length (nl ∷ more) - length more ≡ 1 = omega arith in ap (λ n. (Some kind.LineEnd, take n (nl ∷ more))) one

  cuts_far : (k i : ℕ) (cs : Text) → length cs ≤ k → length (far cs) ≤ i → all_closed (cuts k cs) ≡ true → cuts i (far cs) ≡ cuts k cs ++ line_end ∷ pieces_of more
  unfolding cuts
  cuts_far k zero [] enough room e = absurd (omega arith)
  cuts_far k (suc i) [] enough room e = rw (end_piece, end_cut) (ap (λ xs. line_end ∷ xs) (same_fuel i (length more) more (omega arith) (omega arith)))
  cuts_far zero i (c ∷ cs) enough room e = absurd (omega arith)
  cuts_far (suc k) zero (c ∷ cs) enough room e = absurd (omega arith)
  cuts_far (suc k) (suc i) (c ∷ cs) enough room e =
      let x : Found = piece_at (c ∷ cs) in
      let here = first_holds (is_closed x.0) (all_closed (cuts k x.1)) e in
      let less = next-shorter (c ∷ cs) x (omega arith) refl in
      let long = length-append x.1 (nl ∷ more) in
      let whole = length-append (c ∷ cs) (nl ∷ more) in
      let later = cuts_far k i x.1 (omega (arith, less, enough)) (omega (arith, less, room, long, whole)) (then_holds (is_closed x.0) (all_closed (cuts k x.1)) e) in
      rw (piece_far c cs here, cut_far (c ∷ cs) x.1 x.0) (ap (λ xs. cut_of (c ∷ cs) x ∷ xs) later)

-- ---- their lexemes

abbrev white_behind : Bool → List Cut → Bool
white_behind w [] = w
white_behind w (x ∷ xs) = white_behind (is_white x.0) xs

lexemes_behind : (w : Bool) (xs ys : List Cut) → lexemes_from w (xs ++ ys) ≡ lexemes_from w xs ++ lexemes_from (white_behind w xs) ys
lexemes_behind w [] ys = refl
lexemes_behind w (x ∷ xs) ys = ap (λ ls. given x.0 w x.1 ++ ls) (lexemes_behind (is_white x.0) xs ys) ∙ sym (append_assoc (given x.0 w x.1) (lexemes_from (is_white x.0) xs) (lexemes_from (white_behind (is_white x.0) xs) ys))

no_pieces : pieces_of [] ≡ []
unfolding cuts
no_pieces = refl

pub lines_apart : LinesAreApart
lines_apart line rest end ends closed =
    let cut : (more : Text) → pieces_of (line ++ end ∷ more) ≡ pieces_of line ++ (Some kind.LineEnd, end ∷ []) ∷ pieces_of more = λ more. cuts_far end ends more (length line) (length (line ++ end ∷ more)) line (omega arith) (omega arith) closed in
    let white : Bool = white_behind false (pieces_of line) in
    let one : List Lexeme = given (Some kind.LineEnd) white (end ∷ []) in
    let all : (more : Text) → lexemes_of (line ++ end ∷ more) ≡ lexemes_of line ++ (one ++ lexemes_of more) = λ more. ap (lexemes_from false) (cut more) ∙ lexemes_behind false (pieces_of line) ((Some kind.LineEnd, end ∷ []) ∷ pieces_of more) in
    let alone : lexemes_of (line ++ end ∷ []) ≡ lexemes_of line ++ one = all [] ∙ ap (λ xs. lexemes_of line ++ (one ++ lexemes_from false xs)) no_pieces ∙ ap (λ ls. lexemes_of line ++ ls) (append-nil one) in
    all rest ∙ sym (append_assoc (lexemes_of line) one (lexemes_of rest)) ∙ ap (λ ls. ls ++ lexemes_of rest) (sym alone)
