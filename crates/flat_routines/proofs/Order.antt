-- The elements of an array in their order: each position is that of the subscripts that its digits are.
use Rattle.std.proofs.Common.{◌≡◌, ℕ, zero, suc, ◌+◌, ◌*◌, ◌/◌, ◌%◌, ◌<◌, ◌≤◌, List, [], ◌∷◌, refl, sym, ap, ◌∙◌, arith}
use Rattle.std.proofs.Math.Nat.{mod-lt, mod-add-div, add-mul-mod_self_left, mod-eq_of_lt, mul-le-mul_left, mul-suc, mul-div-le, mul_comm, add_comm}
use Rattle.std.proofs.lemmas.Nat.{div-mul-add}
use Rattle.std.proofs.lemmas.Bool.Decides.{nat_tests}
use Rattle.std.specs.Prelude.{nat_le, Bool, true, false}
use Rattle.flat_routines.specs.Dims.{Dim, count, AreSubscripts, position, IsOrder}

-- the subscripts of the element at a position
abbrev pub digits : ℕ → List Dim → List ℕ
digits k [] = []
digits k (d ∷ ds) = (k % d.extent) ∷ digits (k / d.extent) ds

pub some_extent : (k : ℕ) (d : Dim) (ds : List Dim) → k < count (d ∷ ds) → 0 < d.extent
some_extent k d ds h = go d.extent h
  where
    go : (n : ℕ) → k < n * count ds → 0 < n
    go zero h = absurd (omega arith)
    go (suc n) h = omega arith

pub quotient_less : (k n c : ℕ) → k < n * c → k / n < c
quotient_less k n c h = go (nat_le c (k / n)) refl
  where
    go : (b : Bool) → nat_le c (k / n) ≡ b → k / n < c
    go true e =
        let le : c ≤ k / n = grind (arith, nat_tests) in
        let up = mul-le-mul_left n le in
        let low = mul-div-le k n in
        absurd (omega (arith, up, low, h))
    go false e = grind (arith, nat_tests)

pub digits_are : (dims : List Dim) (k : ℕ) → k < count dims → AreSubscripts dims (digits k dims)
digits_are [] k h = tt
digits_are (d ∷ ds) k h = (mod-lt k (some_extent k d ds h), digits_are ds (k / d.extent) (quotient_less k d.extent (count ds) h))

pub digits_position : (dims : List Dim) (k : ℕ) → k < count dims → position dims (digits k dims) ≡ k
digits_position [] k h = omega arith
digits_position (d ∷ ds) k h =
    ap (λ p. k % d.extent + d.extent * p) (digits_position ds (k / d.extent) (quotient_less k d.extent (count ds) h)) ∙ mod-add-div k d.extent

pub position_digits : (dims : List Dim) (ks : List ℕ) → AreSubscripts dims ks → digits (position dims ks) dims ≡ ks
position_digits [] [] h = refl
position_digits [] (k ∷ ks) h = absurd h
position_digits (d ∷ ds) [] h = absurd h
position_digits (d ∷ ds) (k ∷ ks) h =
    let p = position ds ks in
    let first : (k + d.extent * p) % d.extent ≡ k = add-mul-mod_self_left k d.extent p ∙ mod-eq_of_lt h.0 in
    let swapped : k + d.extent * p ≡ p * d.extent + k = add_comm k (d.extent * p) ∙ ap (λ x. x + k) (mul_comm d.extent p) in
    let rest : (k + d.extent * p) / d.extent ≡ p = ap (λ x. x / d.extent) swapped ∙ div-mul-add p d.extent k h.0 in
    ap (λ x. x ∷ digits ((k + d.extent * p) / d.extent) ds) first ∙ (ap (λ q. k ∷ digits q ds) rest ∙ ap (λ xs. k ∷ xs) (position_digits ds ks h.1))

pub position_less : (dims : List Dim) (ks : List ℕ) → AreSubscripts dims ks → position dims ks < count dims
position_less [] [] h = omega arith
position_less [] (k ∷ ks) h = absurd h
position_less (d ∷ ds) [] h = absurd h
position_less (d ∷ ds) (k ∷ ks) h =
    let p = position ds ks in
    let less : suc p ≤ count ds = position_less ds ks h.1 in
    let e = mul-le-mul_left d.extent less in
    let f = mul-suc d.extent p in
    let g = h.0 in
    omega (arith, e, f, g)

pub is_order : (dims : List Dim) → IsOrder dims
is_order dims = record {
  below = position_less dims;
  each = λ k h. (digits k dims, digits_are dims k h, digits_position dims k h);
  once = λ ks js a b e. sym (position_digits dims ks a) ∙ (ap (λ k. digits k dims) e ∙ position_digits dims js b);
}
