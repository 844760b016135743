-- Lists of lists of as many items each, put together.
use Rattle.std.proofs.Common.{◌≡◌, ℕ, zero, suc, ◌+◌, ◌*◌, ◌<◌, List, [], ◌∷◌, ◌++◌, length, Some, refl, ap, ◌∙◌, arith}
use Rattle.std.specs.Prelude.{slice_get, flat_map}
use Rattle.std.proofs.Math.Nat.{mul-suc}
use Rattle.std.proofs.lemmas.List.{length-append}

get_first : {A : Type 0} (l r : List A) (i : ℕ) → i < length l → slice_get (l ++ r) i ≡ slice_get l i
get_first {A} [] r i h = absurd (omega arith)
get_first {A} (x ∷ l) r zero h = refl
get_first {A} (x ∷ l) r (suc i) h = get_first l r i (omega arith)

get_second : {A : Type 0} (l r : List A) (i k : ℕ) → i ≡ length l + k → slice_get (l ++ r) i ≡ slice_get r k
get_second {A} [] r i k h = let e : i ≡ k = omega arith in ap (slice_get r) e
get_second {A} (x ∷ l) r zero k h = absurd (omega arith)
get_second {A} (x ∷ l) r (suc i) k h = get_second l r i k (omega arith)

some_same : {A : Type 0} (x y : A) → Some x ≡ Some y → x ≡ y
some_same {A} x y e = cc

pub get_block : {X A : Type 0} (f : X → List A) (n : ℕ) → ((x : X) → length (f x) ≡ n) → (xs : List X) (p k : ℕ) (x : X) → k < n → slice_get xs p ≡ Some x → slice_get (flat_map f xs) (k + n * p) ≡ slice_get (f x) k
get_block {X} {A} f n size [] p k x less h = absurd (cc)
get_block {X} {A} f n size (y ∷ ys) zero k x less h =
    let at : k + n * 0 ≡ k = omega arith in
    let len = size y in
    ap (slice_get (f y ++ flat_map f ys)) at ∙ (get_first (f y) (flat_map f ys) k (omega (arith, len)) ∙ ap (λ x. slice_get (f x) k) (some_same y x h))
get_block {X} {A} f n size (y ∷ ys) (suc p) k x less h =
    let len = size y in
    let e = mul-suc n p in
    get_second (f y) (flat_map f ys) (k + n * suc p) (k + n * p) (omega (arith, len, e)) ∙ get_block f n size ys p k x less h

pub blocks_length : {X A : Type 0} (f : X → List A) (n : ℕ) → ((x : X) → length (f x) ≡ n) → (xs : List X) → length (flat_map f xs) ≡ n * length xs
blocks_length {X} {A} f n size [] = omega arith
blocks_length {X} {A} f n size (y ∷ ys) =
    let e = length-append (f y) (flat_map f ys) in
    let i = blocks_length f n size ys in
    let s = size y in
    let m = mul-suc n (length ys) in
    omega (arith, e, i, s, m)
