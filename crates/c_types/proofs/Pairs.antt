-- Lists that are compared pair by pair.
use Rattle.std.proofs.Common.{◌≡◌, ◌≢◌, ℕ, suc, zero, ◌+◌, ◌<◌, ◌≤◌, ◌&&◌, Bool, true, false, List, [], ◌∷◌, length, map, drop, get_or, refl, ap, sym, ◌∙◌, arith, add-one, drop-cons}
use Rattle.c_types.specs.Compatible.{pairs_alike}

pub pairs-lengths : {X Y : Type 0} (same : X → Y → Bool) (xs : List X) (ys : List Y) → length xs ≢ length ys → false ≡ pairs_alike same xs ys
pairs-lengths same [] [] h = absurd (h refl)
pairs-lengths same [] (y ∷ ys) h = refl
pairs-lengths same (x ∷ xs) [] h = refl
pairs-lengths same (x ∷ xs) (y ∷ ys) h = and_false (same x y) (pairs_alike same xs ys) (pairs-lengths same xs ys (λ e. h (ap suc e)))
  where
    and_false : (a b : Bool) → false ≡ b → false ≡ (a && b)
    and_false true b e = e
    and_false false b e = refl

pub pairs-step : {X Y : Type 0} (same : X → Y → Bool) (xs : List X) (ys : List Y) (i : ℕ) (x : X) (y : Y) → i < length xs → length xs ≡ length ys → x ≡ get_or xs i x → y ≡ get_or ys i y →
    pairs_alike same (drop i xs) (drop i ys) ≡ (same x y && pairs_alike same (drop (i + 1) xs) (drop (i + 1) ys))
pairs-step same xs ys i x y h l e f =
    let k : i < length ys = omega arith in
    let ours : drop i xs ≡ x ∷ drop (i + 1) xs = rw add-one (drop-cons xs i x h ∙ ap (λ z. z ∷ drop (suc i) xs) (sym e)) in
    let theirs : drop i ys ≡ y ∷ drop (i + 1) ys = rw add-one (drop-cons ys i y k ∙ ap (λ z. z ∷ drop (suc i) ys) (sym f)) in
    rw (ours, theirs) refl

pub pairs-end : {X Y : Type 0} (same : X → Y → Bool) (xs : List X) (ys : List Y) (i : ℕ) → length xs ≤ i → length xs ≡ length ys → pairs_alike same (drop i xs) (drop i ys) ≡ true
pairs-end same [] [] zero h l = refl
pairs-end same [] [] (suc i) h l = refl
pairs-end same [] (y ∷ ys) i h l = absurd (omega arith)
pairs-end same (x ∷ xs) [] i h l = absurd (omega arith)
pairs-end same (x ∷ xs) (y ∷ ys) zero h l = absurd (omega arith)
pairs-end same (x ∷ xs) (y ∷ ys) (suc i) h l = pairs-end same xs ys i (omega arith) (omega arith)

-- the pair at hand decides, where all before it are the same
pub pairs-differ : {X Y : Type 0} (same : X → Y → Bool) (xs : List X) (ys : List Y) (i : ℕ) (x : X) (y : Y) → i < length xs → length xs ≡ length ys → x ≡ get_or xs i x → y ≡ get_or ys i y →
    pairs_alike same (drop i xs) (drop i ys) ≡ pairs_alike same xs ys → same x y ≡ false → false ≡ pairs_alike same xs ys
pairs-differ same xs ys i x y h l e f so differ = sym (ap (λ b. b && pairs_alike same (drop (i + 1) xs) (drop (i + 1) ys)) differ) ∙ sym (pairs-step same xs ys i x y h l e f) ∙ so

pub pairs-go_on : {X Y : Type 0} (same : X → Y → Bool) (xs : List X) (ys : List Y) (i : ℕ) (x : X) (y : Y) → i < length xs → length xs ≡ length ys → x ≡ get_or xs i x → y ≡ get_or ys i y →
    pairs_alike same (drop i xs) (drop i ys) ≡ pairs_alike same xs ys → same x y ≡ true → pairs_alike same (drop (i + 1) xs) (drop (i + 1) ys) ≡ pairs_alike same xs ys
pairs-go_on same xs ys i x y h l e f so alike = sym (ap (λ b. b && pairs_alike same (drop (i + 1) xs) (drop (i + 1) ys)) alike) ∙ sym (pairs-step same xs ys i x y h l e f) ∙ so

pub pairs-map : {X Y V W : Type 0} (same : V → W → Bool) (f : X → V) (g : Y → W) (xs : List X) (ys : List Y) → pairs_alike same (map f xs) (map g ys) ≡ pairs_alike (λ x y. same (f x) (g y)) xs ys
pairs-map same f g [] [] = refl
pairs-map same f g [] (y ∷ ys) = refl
pairs-map same f g (x ∷ xs) [] = refl
pairs-map same f g (x ∷ xs) (y ∷ ys) = ap (λ b. same (f x) (g y) && b) (pairs-map same f g xs ys)

pub pairs-map_first : {X Y V : Type 0} (same : V → Y → Bool) (f : X → V) (xs : List X) (ys : List Y) → pairs_alike same (map f xs) ys ≡ pairs_alike (λ x y. same (f x) y) xs ys
pairs-map_first same f [] [] = refl
pairs-map_first same f [] (y ∷ ys) = refl
pairs-map_first same f (x ∷ xs) [] = refl
pairs-map_first same f (x ∷ xs) (y ∷ ys) = ap (λ b. same (f x) y && b) (pairs-map_first same f xs ys)
