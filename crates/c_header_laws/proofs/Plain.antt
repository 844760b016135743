-- Texts without trigraphs, splices and carriage returns: their characters are their bytes.
use Rattle.std.proofs.Common.{◌≡◌, ℕ, ◌+◌, Bool, true, false, cond, eqb, List, [], ◌∷◌, None, refl, ap, ◌∙◌}
use Rattle.c_text.specs.Characters.{character, characters, joined, is_splice, trigraph_at, written, written_at}
use Rattle.c_text.specs.Source.{lexemes_in, text_of}
use Rattle.c_text.specs.Lines.{lexemes_of}
use Rattle.c_text.specs.declared.kind.Lexeme.{Lexeme}

-- `?`, a carriage return and a backslash are left out
abbrev pub is_plain : List ℕ → Bool
is_plain [] = true
is_plain (b ∷ bs) = cond (eqb b 63) false (cond (eqb b 13) false (cond (eqb b 92) false (is_plain bs)))

-- what is made of each byte, its line and its column
abbrev pub made : {A : Type 0} → (ℕ → ℕ → ℕ → A) → ℕ → ℕ → List ℕ → List A
made make line column [] = []
made make line column (b ∷ bs) = cond (eqb b 10) (make 10 line column ∷ made make (line + 1) 1 bs) (make b line column ∷ made make line (column + 1) bs)

is_off : (a x : Bool) → cond a false x ≡ true → a ≡ false
is_off true x e = cc
is_off false x e = refl

is_on : (a x : Bool) → cond a false x ≡ true → x ≡ true
is_on true x e = cc
is_on false x e = e

no_trigraph : (b : ℕ) (bs : List ℕ) → eqb b 63 ≡ false → trigraph_at (b ∷ bs) ≡ None
unfolding trigraph_at
no_trigraph b [] e = refl
no_trigraph b (c ∷ []) e = refl
no_trigraph b (c ∷ d ∷ ds) e = rw e refl

are_written : (b : ℕ) (bs : List ℕ) → eqb b 63 ≡ false → written_at b (b ∷ bs) ≡ (b, 0)
unfolding written_at
are_written b bs e = ap (written b) (no_trigraph b bs e)

characters_plain : (bs : List ℕ) (line column : ℕ) → is_plain bs ≡ true → characters 0 line column bs ≡ made character line column bs
unfolding characters
characters_plain [] line column e = refl
characters_plain (b ∷ bs) line column e =
    let e1 = is_on (eqb b 63) _ e in
    let e2 = is_on (eqb b 13) _ e1 in
    let e3 = is_on (eqb b 92) _ e2 in
    let no_return = is_off (eqb b 13) _ e1 in
    let w = are_written b bs (is_off (eqb b 63) _ e) in
    rw (no_return, w) (by_line (eqb b 10) (characters_plain bs (line + 1) 1 e3) (characters_plain bs line (column + 1) e3))
  where
    by_line : (v : Bool) → characters 0 (line + 1) 1 bs ≡ made character (line + 1) 1 bs → characters 0 line (column + 1) bs ≡ made character line (column + 1) bs
        → cond v (character 10 line column ∷ characters 0 (line + 1) 1 bs) (character b line column ∷ characters 0 line (column + 1) bs)
        ≡ cond v (character 10 line column ∷ made character (line + 1) 1 bs) (character b line column ∷ made character line (column + 1) bs)
    by_line true p q = ap (λ cs. character 10 line column ∷ cs) p
    by_line false p q = ap (λ cs. character b line column ∷ cs) q

no_splice : (b line column l k : ℕ) (bs : List ℕ) → eqb b 92 ≡ false → is_splice (character b line column) (made character l k bs) ≡ false
no_splice b line column l k [] e = refl
no_splice b line column l k (d ∷ ds) e = by_line (eqb d 10)
  where
    by_line : (v : Bool) → is_splice (character b line column) (cond v (character 10 l k ∷ made character (l + 1) 1 ds) (character d l k ∷ made character l (k + 1) ds)) ≡ false
    by_line true = rw e refl
    by_line false = rw e refl

joined_one : (b line column l k : ℕ) (bs : List ℕ) → eqb b 92 ≡ false → joined false (made character l k bs) ≡ made character l k bs
    → joined false (character b line column ∷ made character l k bs) ≡ character b line column ∷ made character l k bs
unfolding joined
joined_one b line column l k bs e same = rw (no_splice b line column l k bs e) (ap (λ xs. character b line column ∷ xs) same)

joined_none : (l k : ℕ) → joined false (made character l k []) ≡ made character l k []
unfolding joined
joined_none l k = refl

joined_plain : (bs : List ℕ) (line column : ℕ) → is_plain bs ≡ true → joined false (made character line column bs) ≡ made character line column bs
joined_plain [] line column e = joined_none line column
joined_plain (b ∷ bs) line column e =
    let e1 = is_on (eqb b 63) _ e in
    let e2 = is_on (eqb b 13) _ e1 in
    by_line (eqb b 10) (is_off (eqb b 92) _ e2) (joined_plain bs (line + 1) 1 (is_on (eqb b 92) _ e2)) (joined_plain bs line (column + 1) (is_on (eqb b 92) _ e2))
  where
    by_line : (v : Bool) → eqb b 92 ≡ false → joined false (made character (line + 1) 1 bs) ≡ made character (line + 1) 1 bs → joined false (made character line (column + 1) bs) ≡ made character line (column + 1) bs
        → joined false (cond v (character 10 line column ∷ made character (line + 1) 1 bs) (character b line column ∷ made character line (column + 1) bs))
        ≡ cond v (character 10 line column ∷ made character (line + 1) 1 bs) (character b line column ∷ made character line (column + 1) bs)
    by_line true n p q = joined_one 10 line column (line + 1) 1 bs refl p
    by_line false n p q = joined_one b line column line (column + 1) bs n q

-- the lexemes of bytes from a line on
unfoldable pub lexemes_at : ℕ → List ℕ → List Lexeme
lexemes_at line bytes = lexemes_of (made character line 1 bytes)

abbrev pub plain_lexemes : List ℕ → List Lexeme
plain_lexemes bytes = lexemes_at 1 bytes

pub lexemes_plain : (bytes : List ℕ) → is_plain bytes ≡ true → lexemes_in bytes ≡ plain_lexemes bytes
unfolding lexemes_at
lexemes_plain bytes e = let same : text_of bytes ≡ made character 1 1 bytes = ap (joined false) (characters_plain bytes 1 1 e) ∙ joined_plain bytes 1 1 e in ap lexemes_of same
