-- The characters of a text without trigraphs and splices, where a carriage return before a line feed is dropped.
use Rattle.std.proofs.Common.{◌≡◌, ℕ, zero, suc, ◌+◌, Bool, true, false, cond, eqb, List, [], ◌∷◌, ◌++◌, None, refl, sym, ap, ◌∙◌, subst}
use Rattle.std.proofs.lemmas.Bool.{eqb-true}
use Rattle.c_text.specs.declared.character.Point.{Point}
use Rattle.c_text.specs.Characters.{is_dropped, written, written_at, trigraph_at, characters, is_splice, joined}
use Rattle.c_text.specs.Grammar.{Text}
use Rattle.c_text.specs.Source.{text_of}
use Rattle.first_c_files.proofs.Bits.{Points, next, character, at}

-- `?`, a carriage return and a backslash are left out
abbrev pub is_clean : List ℕ → Bool
is_clean [] = true
is_clean (b ∷ bs) = cond (eqb b 63) false (cond (eqb b 13) false (cond (eqb b 92) false (is_clean bs)))

is_off : (a x : Bool) → cond a false x ≡ true → a ≡ false
is_off true x e = cc
is_off false x e = refl

is_on : (a x : Bool) → cond a false x ≡ true → x ≡ true
is_on true x e = cc
is_on false x e = e

pub clean_append : (xs ys : List ℕ) → is_clean xs ≡ true → is_clean ys ≡ true → is_clean (xs ++ ys) ≡ true
clean_append [] ys e f = f
clean_append (x ∷ xs) ys e f =
    let e1 = is_on (eqb x 63) _ e in
    let e2 = is_on (eqb x 13) _ e1 in
    rw (is_off (eqb x 63) _ e, is_off (eqb x 13) _ e1, is_off (eqb x 92) _ e2) (clean_append xs ys (is_on (eqb x 92) _ e2) f)

-- the bytes without carriage returns before line feeds
abbrev pub unreturned : List ℕ → List ℕ
unreturned [] = []
unreturned (b ∷ bs) = cond (is_dropped b bs) (unreturned bs) (b ∷ unreturned bs)

-- clean bytes stay
pub unreturned_append : (xs ys : List ℕ) → is_clean xs ≡ true → unreturned (xs ++ ys) ≡ xs ++ unreturned ys
unreturned_append [] ys e = refl
unreturned_append (x ∷ xs) ys e =
    let e1 = is_on (eqb x 63) _ e in
    let e2 = is_on (eqb x 13) _ e1 in
    rw (is_off (eqb x 13) _ e1) (ap (λ (l : List ℕ). x ∷ l) (unreturned_append xs ys (is_on (eqb x 92) _ e2)))

-- characters with these bytes
pub record Placed (text : Text) (bytes : List ℕ) : Type 0 where
  pub points : Points
  pub is : text ≡ at points bytes

abbrev first_then : Point → Points → Points
first_then p f zero = p
first_then p f (suc n) = f n

one_placed : (p : Point) (b : ℕ) (text : Text) (bytes : List ℕ) → Placed text bytes → Placed (character b p ∷ text) (b ∷ bytes)
one_placed p b text bytes h = record { points = first_then p h.points; is = ap (λ (t : Text). character b p ∷ t) h.is }

no_trigraph : (b : ℕ) (bs : List ℕ) → eqb b 63 ≡ false → trigraph_at (b ∷ bs) ≡ None
unfolding trigraph_at
no_trigraph b [] e = refl
no_trigraph b (c ∷ []) e = refl
no_trigraph b (c ∷ d ∷ ds) e = rw e refl

are_written : (b : ℕ) (bs : List ℕ) → eqb b 63 ≡ false → written_at b (b ∷ bs) ≡ (b, 0)
unfolding written_at
are_written b bs e = ap (written b) (no_trigraph b bs e)

characters_placed : (bs : List ℕ) (line column : ℕ) → is_clean (unreturned bs) ≡ true → Placed (characters 0 line column bs) (unreturned bs)
unfolding characters
characters_placed [] line column e = record { points = λ n. record { line = 0; column = 0 }; is = refl }
characters_placed (b ∷ bs) line column e =
    by_drop (is_dropped b bs) refl e (characters_placed bs line (column + 1)) (characters_placed bs (line + 1) 1)
  where
    by_line : (v : Bool) → eqb b 10 ≡ v → Placed (characters 0 line (column + 1) bs) (unreturned bs) → Placed (characters 0 (line + 1) 1 bs) (unreturned bs)
        → Placed (cond v (character 10 (record { line = line; column = column }) ∷ characters 0 (line + 1) 1 bs) (character b (record { line = line; column = column }) ∷ characters 0 line (column + 1) bs)) (b ∷ unreturned bs)
    by_line true v p q =
        let P : ℕ → Type 0 = λ n. Placed (character 10 (record { line = line; column = column }) ∷ characters 0 (line + 1) 1 bs) (n ∷ unreturned bs) in
        subst P (sym (eqb-true b 10 v)) (one_placed (record { line = line; column = column }) 10 _ _ q)
    by_line false v p q = one_placed (record { line = line; column = column }) b _ _ p

    by_drop : (d : Bool) → is_dropped b bs ≡ d → is_clean (cond d (unreturned bs) (b ∷ unreturned bs)) ≡ true
        → (is_clean (unreturned bs) ≡ true → Placed (characters 0 line (column + 1) bs) (unreturned bs)) → (is_clean (unreturned bs) ≡ true → Placed (characters 0 (line + 1) 1 bs) (unreturned bs))
        → Placed (characters 0 line column (b ∷ bs)) (unreturned (b ∷ bs))
    by_drop true d e' p q = rw d (p e')
    by_drop false d e' p q =
        let e1 = is_on (eqb b 63) _ e' in
        let e2 = is_on (eqb b 13) _ e1 in
        let e3 = is_on (eqb b 92) _ e2 in
        rw (d, are_written b bs (is_off (eqb b 63) _ e')) (by_line (eqb b 10) refl (p e3) (q e3))

no_splice : (b : ℕ) (p : Point) (text : Text) → eqb b 92 ≡ false → is_splice (character b p) text ≡ false
no_splice b p [] e = refl
no_splice b p (d ∷ ds) e = rw e refl

joined_at : (bs : List ℕ) (f : Points) → is_clean bs ≡ true → joined false (at f bs) ≡ at f bs
unfolding joined
joined_at [] f e = refl
joined_at (b ∷ bs) f e =
    let e1 = is_on (eqb b 63) _ e in
    let e2 = is_on (eqb b 13) _ e1 in
    rw (no_splice b (f 0) (at (next f) bs) (is_off (eqb b 92) _ e2)) (ap (λ (t : Text). character b (f 0) ∷ t) (joined_at bs (next f) (is_on (eqb b 92) _ e2)))

-- the characters of a text that is clean but for its carriage returns before line feeds
pub text_placed : (bytes : List ℕ) → is_clean (unreturned bytes) ≡ true → Placed (text_of bytes) (unreturned bytes)
text_placed bytes e =
    let c = characters_placed bytes 1 1 e in
    record { points = c.points; is = ap (joined false) c.is ∙ joined_at (unreturned bytes) c.points e }
