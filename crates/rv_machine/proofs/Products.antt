-- Products of two's complement numbers, by their bits.
use Rattle.std.proofs.Common.{◌≡◌, ◌<◌, ℕ, ◌^◌, ℤ, ap, ◌∙◌, arith, lit<}
use Rattle.std.specs.Prelude.{◌*ℤ◌}
use Rattle.std.specs.Int.{w64, w128}
use Rattle.std.specs.Int.Signed.{mag, nat_abs-le}
use Rattle.std.proofs.lemmas.Int.{to_z-of_z, fits_signed_mul}
use mir.Val.{to_z, of_z, SFits}

-- a product of two signed numbers of 64 bits, computed with 128
pub product_of_bits : (x y : ℤ) (r : ℕ) → mag x < 2 ^ 63 → mag y < 2 ^ 63 → r ≡ of_z w128 (to_z w128 (of_z w128 (to_z w128 (of_z w128 (to_z w64 (of_z w64 x))) *ℤ to_z w128 (of_z w128 (to_z w64 (of_z w64 y)))))) → r ≡ of_z w128 (x *ℤ y)
product_of_bits x y r small_x small_y is =
    let x64 : to_z w64 (of_z w64 x) ≡ x = to_z-of_z w64 x (record { sfits = small_x }) in
    let y64 : to_z w64 (of_z w64 y) ≡ y = to_z-of_z w64 y (record { sfits = small_y }) in
    let x128 : to_z w128 (of_z w128 x) ≡ x = to_z-of_z w128 x (record { sfits = omega arith }) in
    let y128 : to_z w128 (of_z w128 y) ≡ y = to_z-of_z w128 y (record { sfits = omega arith }) in
    let ex : to_z w128 (of_z w128 (to_z w64 (of_z w64 x))) ≡ x = ap (λ u. to_z w128 (of_z w128 u)) x64 ∙ x128 in
    let ey : to_z w128 (of_z w128 (to_z w64 (of_z w64 y))) ≡ y = ap (λ u. to_z w128 (of_z w128 u)) y64 ∙ y128 in
    let fits : SFits w128 (x *ℤ y) = fits_signed_mul w128 x y (2 ^ 63) (2 ^ 63) (nat_abs-le x small_x) (nat_abs-le y small_y) (lit< tt) in
    is
    ∙ ap (λ u. of_z w128 (to_z w128 (of_z w128 (u *ℤ to_z w128 (of_z w128 (to_z w64 (of_z w64 y))))))) ex
    ∙ ap (λ u. of_z w128 (to_z w128 (of_z w128 (x *ℤ u)))) ey
    ∙ ap (of_z w128) (to_z-of_z w128 (x *ℤ y) fits)
