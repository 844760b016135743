-- What one byte or character adds to the characters that were read.
use Rattle.std.proofs.Common.{◌≡◌, ◌≢◌, ℕ, zero, suc, ◌+◌, ◌-◌, ◌<◌, ◌≤◌, Bool, true, false, ◌==◌, List, [], ◌∷◌, ◌++◌, length, refl, sym, ap, ◌∙◌, arith, append_assoc}
use Rattle.std.proofs.lemmas.List.{append-nil}
use Rattle.std.proofs.lemmas.Bool.Decides.{nat_tests}
use Rattle.c_text.specs.Characters.{Character, character, written_at, is_dropped, characters, is_splice, joined}

pub one_more : (before after rest : List Character) (x : Character) → after ≡ before ++ x ∷ [] → after ++ rest ≡ before ++ (x ∷ rest)
one_more before after rest x e = ap (λ (l : List Character). l ++ rest) e ∙ append_assoc before (x ∷ []) rest

module _ (line column : ℕ) (b : ℕ) (rest bs : List ℕ) (is : rest ≡ b ∷ bs) where
  pub passes : (s : ℕ) → 0 < s → characters s line column rest ≡ characters (s - 1) line (column + 1) bs
  unfolding characters
  passes zero p = absurd (omega arith)
  passes (suc n) p = let e : suc n - 1 ≡ n = omega arith in rw (is, e) refl

  pub drops : (s : ℕ) → s ≤ 0 → true ≡ is_dropped b bs → characters s line column rest ≡ characters s line (column + 1) bs
  unfolding characters
  drops zero p e = rw (is, ← e) refl
  drops (suc n) p e = absurd (omega arith)

  pub ends : (s : ℕ) → s ≤ 0 → false ≡ is_dropped b bs → b ≡ 10 → characters s line column rest ≡ character 10 line column ∷ characters s (line + 1) 1 bs
  unfolding characters
  ends zero p e at = let test : (b == 10) ≡ true = grind (arith, nat_tests) in rw (is, ← e, test) refl
  ends (suc n) p e at = absurd (omega arith)

  pub gives : (s : ℕ) (x : ℕ × ℕ) → s ≤ 0 → false ≡ is_dropped b bs → b ≢ 10 → x ≡ written_at b rest → characters s line column rest ≡ character x.0 line column ∷ characters x.1 line (column + 1) bs
  unfolding characters
  gives zero x p e at w = let test : (b == 10) ≡ false = grind (arith, nat_tests) in rw (w, is, ← e, test) refl
  gives (suc n) x p e at w = absurd (omega arith)

pub none_left : (s line column : ℕ) (rest : List ℕ) → length rest ≡ 0 → characters s line column rest ≡ []
unfolding characters
none_left s line column [] e = refl
none_left s line column (b ∷ bs) e = absurd (omega arith)

module _ (c : Character) (rest cs : List Character) (is : rest ≡ c ∷ cs) where
  pub passes_end : (s : Bool) → s ≡ true → joined s rest ≡ joined false cs
  unfolding joined
  passes_end s t = rw (t, is) refl

  pub begins_splice : (s : Bool) → s ≡ false → true ≡ is_splice c cs → joined s rest ≡ joined true cs
  unfolding joined
  begins_splice s f e = rw (f, is, ← e) refl

  pub keeps : (s : Bool) → s ≡ false → false ≡ is_splice c cs → joined s rest ≡ c ∷ joined s cs
  unfolding joined
  keeps s f e = rw (f, is, ← e) refl

pub none_joined : (s : Bool) (rest : List Character) → length rest ≡ 0 → joined s rest ≡ []
unfolding joined
none_joined s [] e = refl
none_joined s (c ∷ cs) e = absurd (omega arith)

pub all_done : (done total rest : List Character) → rest ≡ [] → done ++ rest ≡ total → done ≡ total
all_done done total rest e so = sym (append-nil done) ∙ ap (λ (l : List Character). done ++ l) (sym e) ∙ so
