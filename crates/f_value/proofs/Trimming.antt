-- Texts without their trailing blanks, and small products.
use Rattle.std.proofs.Common.{◌≡◌, ℕ, suc, zero, ◌+◌, ◌*◌, ◌^◌, ◌<◌, ◌&&◌, ◌==◌, if◌then◌else◌, Bool, true, false, List, [], ◌∷◌, take, get_or, length, refl, sym, arith, add-one, lit<}
use Rattle.std.proofs.Math.Nat.{mul-le-mul_left, pow-le-pow_right}
use Rattle.f_value.specs.Intrinsics.{len_trim}

first : (b : Bool) (m n : ℕ) → (if b && true then m else n) ≡ (if b then m else n)
first true m n = refl
first false m n = refl

not_zero : (n : ℕ) → (suc n == 0) ≡ false
not_zero n = grind arith

and_false : (a : Bool) → (a && false) ≡ false
and_false true = refl
and_false false = refl

later : (a b : Bool) (l n i : ℕ) → l ≡ (if b then n else suc i) → (if a && (l == 0) then 0 else suc l) ≡ (if b then (if a && (n == 0) then 0 else suc n) else suc (suc i))
later a true l n i e = rw e refl
later a false l n i e = rw (e, not_zero i, and_false a) refl

len_trim-take : (s : List ℕ) (i : ℕ) → i < length s → len_trim (take (suc i) s) ≡ (if get_or s i 0 == 32 then len_trim (take i s) else suc i)
len_trim-take [] i h = absurd (omega arith)
len_trim-take (x ∷ xs) zero h = first (x == 32) 0 1
len_trim-take (x ∷ xs) (suc i) h = later (x == 32) (get_or xs i 0 == 32) (len_trim (take (suc i) xs)) (len_trim (take i xs)) i (len_trim-take xs i (omega arith))

pub len_trim_next : (s : List ℕ) (i n m : ℕ) → i < length s → n ≡ len_trim (take i s) → m ≡ (if get_or s i 0 == 32 then n else suc i) → m ≡ len_trim (take (i + 1) s)
len_trim_next s i n m h e f = rw (f, e, add-one) (sym (len_trim-take s i h))

pub small_product : (n s : ℕ) → n < 2 ^ 64 → s < 64 → n * 2 ^ s < 2 ^ 127
small_product n s h k =
    let p = pow-le-pow_right {n = 2} (lit< tt) {i = s} {j = 63} (omega arith) in
    let m = mul-le-mul_left n p in
    omega (arith, m)
