-- Rows of equal steps after one another, and when they lie side by side.
use Rattle.std.proofs.Common.{◌≡◌, ℕ, ℤ, pos, negsuc, suc, zero, ◌+ℤ◌, ◌-ℤ◌, ◌*ℤ◌, List, [], ◌∷◌, ◌++◌, map, refl, ap, ◌∙◌, arith}
use Rattle.std.specs.List.{flat_map}
use Rattle.std.proofs.Math.IntN.{suc_ℤ, suc_ℤ-*ℤ, zero-*ℤ}
use Rattle.std.proofs.lemmas.Int.{ints}
use Rattle.array_view.specs.declared.axes.AxisDim.{AxisDim}
use Rattle.array_view.specs.Subscripts.{steps_from}
use Rattle.array_view.specs.Contiguous.{IsSideBySide}

-- n steps from each of the numbers on
abbrev pub spread : ℤ → ℕ → List ℤ → List ℤ
spread step n [] = []
spread step n (o ∷ os) = steps_from o step n ++ spread step n os

plus_one : (x : ℤ) → x +ℤ pos 1 ≡ suc_ℤ x
plus_one (pos n) = ap pos (omega arith)
plus_one (negsuc zero) = refl
plus_one (negsuc (suc n)) = omega (arith, ints)

step_on : (o k l m : ℤ) → o +ℤ ((k +ℤ pos 1) -ℤ l) *ℤ m ≡ (o +ℤ (k -ℤ l) *ℤ m) +ℤ m
step_on o k l m =
    let e : (k +ℤ pos 1) -ℤ l ≡ (k -ℤ l) +ℤ pos 1 = omega (arith, ints) in
    let p : ((k +ℤ pos 1) -ℤ l) *ℤ m ≡ (k -ℤ l) *ℤ m +ℤ m = ap (λ (z : ℤ). z *ℤ m) (e ∙ plus_one (k -ℤ l)) ∙ suc_ℤ-*ℤ (k -ℤ l) m in
    omega (arith, ints)

row_steps : (d : AxisDim) (o k : ℤ) (n : ℕ) → map (λ k. o +ℤ (k -ℤ d.lower) *ℤ d.sm) (steps_from k (pos 1) n) ≡ steps_from (o +ℤ (k -ℤ d.lower) *ℤ d.sm) d.sm n
row_steps d o k zero = refl
row_steps d o k (suc n) = ap (λ xs. (o +ℤ (k -ℤ d.lower) *ℤ d.sm) ∷ xs) (row_steps d o (k +ℤ pos 1) n ∙ ap (λ (x : ℤ). steps_from x d.sm n) (step_on o k d.lower d.sm))

at_lower : (o l m : ℤ) → o +ℤ (l -ℤ l) *ℤ m ≡ o
at_lower o l m =
    let e : l -ℤ l ≡ pos 0 = omega (arith, ints) in
    let p : (l -ℤ l) *ℤ m ≡ pos 0 = ap (λ (z : ℤ). z *ℤ m) e ∙ zero-*ℤ m in
    omega (arith, ints)

-- the rows of a dimension are steps of its multiplier
pub rows-steps : (d : AxisDim) (n : ℕ) (os : List ℤ) → flat_map (λ o. map (λ k. o +ℤ (k -ℤ d.lower) *ℤ d.sm) (steps_from d.lower (pos 1) n)) os ≡ spread d.sm n os
rows-steps d n [] = refl
rows-steps d n (o ∷ os) = rw (row_steps d o d.lower n, at_lower o d.lower d.sm, rows-steps d n os) refl

pub spread-one : (s : ℤ) (os : List ℤ) → spread s 1 os ≡ os
spread-one s [] = refl
spread-one s (o ∷ os) = ap (λ xs. o ∷ xs) (spread-one s os)

row_then : (l a x : ℤ) (m : ℕ) (xs : List ℤ) → IsSideBySide l (steps_from a l (suc m) ++ (x ∷ xs)) → (x ≡ a +ℤ l *ℤ pos (suc m)) × IsSideBySide l (x ∷ xs)
row_then l a x zero xs h = let e = h.0 in (omega (arith, ints), h.1)
row_then l a x (suc m) xs h = let r = row_then l (a +ℤ l) x m xs h.1 in let e = r.0 in (omega (arith, ints), r.1)

then_row : (l a x : ℤ) (m : ℕ) (xs : List ℤ) → x ≡ a +ℤ l *ℤ pos (suc m) → IsSideBySide l (x ∷ xs) → IsSideBySide l (steps_from a l (suc m) ++ (x ∷ xs))
then_row l a x zero xs e h = (omega (arith, ints), h)
then_row l a x (suc m) xs e h = (refl, then_row l (a +ℤ l) x m xs (omega (arith, ints)) h)

row_alone : (l a : ℤ) (m : ℕ) → IsSideBySide l (steps_from a l (suc m) ++ [])
row_alone l a zero = tt
row_alone l a (suc m) = (refl, row_alone l (a +ℤ l) m)

pub spread_forth : (l : ℤ) (m : ℕ) (os : List ℤ) → IsSideBySide l (spread l (suc m) os) → IsSideBySide (l *ℤ pos (suc m)) os
spread_forth l m [] h = tt
spread_forth l m (o ∷ []) h = tt
spread_forth l m (o ∷ p ∷ os) h = let r = row_then l o p m (steps_from (p +ℤ l) l m ++ spread l (suc m) os) h in (r.0, spread_forth l m (p ∷ os) r.1)

pub spread_back : (l : ℤ) (m : ℕ) (os : List ℤ) → IsSideBySide (l *ℤ pos (suc m)) os → IsSideBySide l (spread l (suc m) os)
spread_back l m [] h = tt
spread_back l m (o ∷ []) h = row_alone l o m
spread_back l m (o ∷ p ∷ os) h = then_row l o p m (steps_from (p +ℤ l) l m ++ spread l (suc m) os) h.0 (spread_back l m (p ∷ os) h.1)

-- of two steps or more the first tells the step
pub spread_step : (l s o : ℤ) (m : ℕ) (os : List ℤ) → IsSideBySide l (spread s (suc (suc m)) (o ∷ os)) → s ≡ l
spread_step l s o m os h = let e = h.0 in omega (arith, ints)
