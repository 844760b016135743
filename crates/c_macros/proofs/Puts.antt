-- Lists that grow up to an index.
use Rattle.std.proofs.Common.{◌≡◌, ℕ, zero, suc, ◌<◌, ◌≤◌, List, [], ◌∷◌, ◌++◌, map, length, max, ◌+◌, get_or, refl, ap, arith}
use Rattle.std.proofs.Math.ListN.{set}
use Rattle.c_macros.specs.Keeping.{put}

pub put_longer : {A : Type 0} (xs : List A) (n : ℕ) (x d : A) → length xs ≤ n → put (xs ++ d ∷ []) n x d ≡ put xs n x d
put_longer [] zero x d le = refl
put_longer [] (suc n) x d le = refl
put_longer (y ∷ ys) zero x d le = absurd (omega arith)
put_longer (y ∷ ys) (suc n) x d le = ap (λ l. y ∷ l) (put_longer ys n x d (omega arith))

pub put_set : {A : Type 0} (xs : List A) (n : ℕ) (x d : A) → n < length xs → put xs n x d ≡ set xs n x
put_set [] n x d lt = absurd (omega arith)
put_set (y ∷ ys) zero x d lt = refl
put_set (y ∷ ys) (suc n) x d lt = ap (λ l. y ∷ l) (put_set ys n x d (omega arith))

pub map_set : {A B : Type 0} (f : A → B) (xs : List A) (n : ℕ) (x : A) → map f (set xs n x) ≡ set (map f xs) n (f x)
map_set f [] n x = refl
map_set f (y ∷ ys) zero x = refl
map_set f (y ∷ ys) (suc n) x = ap (λ l. f y ∷ l) (map_set f ys n x)

pub put_length : {A : Type 0} (xs : List A) (n : ℕ) (x d : A) → length (put xs n x d) ≤ max (length xs) (n + 1)
put_length [] zero x d = omega arith
put_length [] (suc n) x d = omega (arith, put_length [] n x d)
put_length (y ∷ ys) zero x d = omega arith
put_length (y ∷ ys) (suc n) x d = omega (arith, put_length ys n x d)

pub one_empty : {A : Type 0} (xs : List (List A)) (n : ℕ) → get_or (xs ++ [] ∷ []) n [] ≡ get_or xs n []
one_empty [] zero = refl
one_empty [] (suc n) = refl
one_empty (x ∷ xs) zero = refl
one_empty (x ∷ xs) (suc n) = one_empty xs n
