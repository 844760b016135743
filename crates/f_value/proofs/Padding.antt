-- The order of texts from a place on.
use Rattle.std.proofs.Common.{◌≡◌, ℕ, suc, zero, ◌+◌, ◌<◌, ◌≤◌, List, [], ◌∷◌, drop, get_or, length, refl, sym, ◌∙◌, arith, add-one}
use Rattle.std.specs.declared.cmp.Ordering.{Ordering}
use Rattle.std.specs.declared.cmp.Ordering.TheVariants.{Less, Equal, Greater}
use Rattle.std.specs.Ordering.{nat_cmp, ordering_then}
use Rattle.std.proofs.Math.ListN.{drop_of_length-le}
use Rattle.f_value.specs.Texts.{padded_order}

step_blanks : (t : List ℕ) (i : ℕ) → padded_order [] (drop i t) ≡ ordering_then (nat_cmp 32 (get_or t i 32)) (padded_order [] (drop (suc i) t))
step_blanks [] zero = refl
step_blanks [] (suc i) = refl
step_blanks (y ∷ ys) zero = refl
step_blanks (y ∷ ys) (suc i) = step_blanks ys i

blanks_step : (s : List ℕ) (i : ℕ) → padded_order (drop i s) [] ≡ ordering_then (nat_cmp (get_or s i 32) 32) (padded_order (drop (suc i) s) [])
blanks_step [] zero = refl
blanks_step [] (suc i) = refl
blanks_step (x ∷ xs) zero = refl
blanks_step (x ∷ xs) (suc i) = blanks_step xs i

step : (s t : List ℕ) (i : ℕ) → padded_order (drop i s) (drop i t) ≡ ordering_then (nat_cmp (get_or s i 32) (get_or t i 32)) (padded_order (drop (suc i) s) (drop (suc i) t))
step [] [] zero = refl
step [] (y ∷ ys) zero = refl
step (x ∷ xs) [] zero = refl
step (x ∷ xs) (y ∷ ys) zero = refl
step [] [] (suc i) = refl
step [] (y ∷ ys) (suc i) = step_blanks ys i
step (x ∷ xs) [] (suc i) = blanks_step xs i
step (x ∷ xs) (y ∷ ys) (suc i) = step xs ys i

below : (x y : ℕ) (r : Ordering) → x < y → ordering_then (nat_cmp x y) r ≡ Less
below x y r h = grind arith

above : (x y : ℕ) (r : Ordering) → y < x → ordering_then (nat_cmp x y) r ≡ Greater
above x y r h = grind arith

same : (x y : ℕ) (r : Ordering) → y ≤ x → x ≤ y → ordering_then (nat_cmp x y) r ≡ r
same x y r h k = grind arith

pub order_less : (s t : List ℕ) (i x y : ℕ) → padded_order (drop i s) (drop i t) ≡ padded_order s t → x ≡ get_or s i 32 → y ≡ get_or t i 32 → x < y → Less ≡ padded_order s t
order_less s t i x y h e f l = sym (rw (← e, ← f) (below x y (padded_order (drop (suc i) s) (drop (suc i) t)) l)) ∙ sym (step s t i) ∙ h

pub order_greater : (s t : List ℕ) (i x y : ℕ) → padded_order (drop i s) (drop i t) ≡ padded_order s t → x ≡ get_or s i 32 → y ≡ get_or t i 32 → y < x → Greater ≡ padded_order s t
order_greater s t i x y h e f l = sym (rw (← e, ← f) (above x y (padded_order (drop (suc i) s) (drop (suc i) t)) l)) ∙ sym (step s t i) ∙ h

pub order_goes_on : (s t : List ℕ) (i x y : ℕ) → padded_order (drop i s) (drop i t) ≡ padded_order s t → x ≡ get_or s i 32 → y ≡ get_or t i 32 → y ≤ x → x ≤ y → padded_order (drop (i + 1) s) (drop (i + 1) t) ≡ padded_order s t
order_goes_on s t i x y h e f l k = rw add-one (sym (rw (← e, ← f) (same x y (padded_order (drop (suc i) s) (drop (suc i) t)) l k)) ∙ sym (step s t i) ∙ h)

pub order_ends : (s t : List ℕ) (i : ℕ) → padded_order (drop i s) (drop i t) ≡ padded_order s t → length s ≤ i → length t ≤ i → Equal ≡ padded_order s t
order_ends s t i h k l = let a = drop_of_length-le s k in let b = drop_of_length-le t l in rw (a, b) at h
