-- Elements that lie one after the other, and dimensions that stay in memory.
use Rattle.std.proofs.Common.{◌≡◌, ℕ, suc, ◌+◌, ◌*◌, ◌<◌, ◌≤◌, List, [], ◌∷◌, length, Bool, true, false, refl, ◌∙◌, subst, arith, inl, inr}
use Rattle.std.specs.Prelude.{nat_le}
use Rattle.std.proofs.lemmas.Bool.Decides.{nat_tests}
use Rattle.std.proofs.Math.Nat.{suc-mul, mul-le-mul_right}
use Rattle.flat_ir.specs.Bytes.{Bytes, Areas, fits}
use Rattle.flat_ir.specs.Ranges.{MayUse, Apart}
use Rattle.flat_ir.proofs.Framing.{loaded_alike}
use Rattle.flat_routines.specs.Dims.{Dim, DimsAt}

-- a whole element lies among the first n
pub inside_row : (k n len : ℕ) → k < n → k * len + len ≤ n * len
inside_row k n len h =
    let le : suc k * len ≤ n * len = mul-le-mul_right len h in
    let e = suc-mul k len in
    omega (arith, e, le)

pub row_apart : (packed j k len : ℕ) → ¬ (j ≡ k) → Apart (packed + j * len) len (packed + k * len) len
row_apart packed j k len differ = go (nat_le j k) refl
  where
    go : (b : Bool) → nat_le j k ≡ b → Apart (packed + j * len) len (packed + k * len) len
    go true e = let le : j ≤ k = grind (arith, nat_tests) in let less : j < k = omega arith in let h = inside_row j k len less in inl (omega (arith, h))
    go false e = let less : k < j = grind (arith, nat_tests) in let h = inside_row k j len less in inr (omega (arith, h))

-- a part of a range
pub part_apart : (a n c k i l : ℕ) → Apart a n c k → i + l ≤ n → Apart (a + i) l c k
part_apart a n c k i l (inl x) p = inl (omega arith)
part_apart a n c k i l (inr x) p = inr (omega arith)

pub part_usable : (s : Areas) (a n i l : ℕ) → MayUse s a n → i + l ≤ n → MayUse s (a + i) l
part_usable s a n i l u p = record {
  each = λ j lj.
      let e : a + (i + j) ≡ a + i + j = omega arith in
      subst (λ a. fits 1 s a ≡ true) e (u.each (i + j) (omega arith));
  narrow = omega (arith, u.narrow);
}

-- a byte of a range
pub byte_of : (a n c k i : ℕ) → Apart a n c k → c ≤ i → i < c + k → Apart a n i 1
byte_of a n c k i (inl x) l r = inl (omega arith)
byte_of a n c k i (inr x) l r = inr (omega arith)

pub dims_kept : (s : Areas) (m m' : Bytes) (a : ℕ) (ds : List Dim) → ((i : ℕ) → a ≤ i → i < a + length ds * 24 → m' i ≡ m i) → DimsAt s m a ds → DimsAt s m' a ds
dims_kept s m m' a [] h t = tt
dims_kept s m m' a (d ∷ ds) h t = (
  loaded_alike 8 s m m' (a + 8) (λ i l r. h i (omega arith) (omega arith)) ∙ t.0,
  loaded_alike 8 s m m' (a + 16) (λ i l r. h i (omega arith) (omega arith)) ∙ t.1,
  dims_kept s m m' (a + 24) ds (λ i l r. h i (omega arith) (omega arith)) t.2,
)
