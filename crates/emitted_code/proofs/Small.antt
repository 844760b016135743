-- What operations give is a number of 64 bits.
use Rattle.std.proofs.Common.{◌≡◌, ℕ, suc, ◌+◌, ◌-◌, ◌*◌, ◌/◌, ◌%◌, ◌^◌, ◌<◌, ◌≤◌, Bool, true, false, cond, refl, arith, lit<, ℤ, pos, mul-le-mul}
use Rattle.std.specs.Prelude.{nat_lt, nat_eq, ◌&&◌, ◌*ℤ◌, int_div, int_rem, int_lt}
use Rattle.std.specs.Int.{Width, w8, w16, w32, w64, w128, int_shr}
use Rattle.std.specs.Int.Signed.{mag, nat_abs-le}
use Rattle.std.proofs.lemmas.Int.{fits_signed_mul}
use Rattle.std.proofs.lemmas.Nat.{xor_lt, or_lt, and_le_l}
use Rattle.std.proofs.lemmas.Bool.Decides.{nat_tests}
use Rattle.std.proofs.Math.Nat.{div-le_self, mod-le}
use lib.IntN.{negsuc}
use mir.Val.{to_z, of_z, bits, hbits, SFits, sel}
use Rattle.jf_base.specs.declared.numbers.Width.TheVariants.{W1, W2, W4, W8}
use Rattle.jf_base.specs.declared.numbers.Width as J
use Rattle.jf_base.specs.Numbers.{size_of_width}
use Rattle.rv_machine.specs.Alu as alu
use Rattle.rv_machine.proofs.Divisions.{quotient_bits, remainder_bits}
use Rattle.flat_ir.specs.declared.program.Operation.{Operation}
use Rattle.flat_ir.specs.declared.program.Operation.TheVariants as O
use Rattle.flat_ir.specs.Operations.{result_of, extended}

of_small : (w : Width) (z : ℤ) → 2 ^ hbits w + 2 ^ hbits w ≡ 2 ^ bits w → mag z < 2 ^ hbits w → of_z w z < 2 ^ bits w
of_small w (pos n) e l = omega arith
of_small w (negsuc n) e l = omega arith

to_mag : (w : Width) (a : ℕ) → 2 ^ hbits w + 2 ^ hbits w ≡ 2 ^ bits w → a < 2 ^ bits w → mag (to_z w a) < 2 ^ hbits w
to_mag w a e l = go (nat_lt a (2 ^ hbits w)) refl
  where
    go : (b : Bool) → nat_lt a (2 ^ hbits w) ≡ b → mag (sel b (pos a) (negsuc (2 ^ bits w - suc a))) < 2 ^ hbits w
    go true t = let u : a < 2 ^ hbits w = grind (arith, nat_tests) in u
    go false t = let u : 2 ^ hbits w ≤ a = grind (arith, nat_tests) in omega arith

ext_small : (w : Width) (v : ℕ) → 2 ^ hbits w ≤ 2 ^ 63 → alu.extended w v < 2 ^ 64
ext_small w v h = go (nat_lt v (2 ^ hbits w)) refl
  where
    go : (b : Bool) → nat_lt v (2 ^ hbits w) ≡ b → of_z w64 (sel b (pos v) (negsuc (2 ^ bits w - suc v))) < 2 ^ 64
    go true t = let u : v < 2 ^ hbits w = grind (arith, nat_tests) in omega arith
    go false t = omega arith

word_small : (a : ℕ) → alu.extended_word a < 2 ^ 64
word_small a = ext_small w32 (a % 2 ^ 32) (omega arith)

shr_small : (z : ℤ) (k : ℕ) → mag z < 2 ^ 63 → of_z w64 (int_shr z k) < 2 ^ 64
shr_small (pos n) k l = (let d = div-le_self n (2 ^ k) in omega arith)
shr_small (negsuc n) k l = omega arith

cond_small : (b : Bool) (x y : ℕ) → x < 2 ^ 64 → y < 2 ^ 64 → cond b x y < 2 ^ 64
cond_small true x y h k = h
cond_small false x y h k = k

upper_small : (z : ℤ) → mag z < 2 ^ 127 → alu.upper_half z < 2 ^ 64
upper_small z l = let u : of_z w128 z < 2 ^ 128 = of_small w128 z refl l in omega arith

product_mag : (x y : ℤ) (m n : ℕ) → mag x < m → mag y < n → m * n < 2 ^ 127 → mag (x *ℤ y) < 2 ^ 127
product_mag x y m n hx hy lt =
    let f : SFits w128 (x *ℤ y) = fits_signed_mul w128 x y m n (nat_abs-le x hx) (nat_abs-le y hy) lt in
    f.sfits

mixed_mag : (x : ℤ) (b : ℕ) → mag x < 2 ^ 63 → b < 2 ^ 64 → mag (x *ℤ pos b) < 2 ^ 127
mixed_mag x b hx hb =
    let f : SFits w128 (x *ℤ pos b) = fits_signed_mul w128 x (pos b) (2 ^ 63) (2 ^ 64 - 1) (nat_abs-le x hx) (omega arith) (lit< tt) in
    f.sfits

whole_product : (a b : ℕ) → a < 2 ^ 64 → b < 2 ^ 64 → a * b / 2 ^ 64 < 2 ^ 64
whole_product a b ha hb =
    let la : a ≤ 2 ^ 64 - 1 = omega arith in
    let lb : b ≤ 2 ^ 64 - 1 = omega arith in
    let p : a * b ≤ (2 ^ 64 - 1) * (2 ^ 64 - 1) = mul-le-mul la lb in
    omega arith

signed_mag : (a : ℕ) → a < 2 ^ 64 → mag (to_z w64 a) < 2 ^ 63
signed_mag a h = to_mag w64 a refl h

word_mag : (a : ℕ) → mag (to_z w32 (a % 2 ^ 32)) < 2 ^ 31
word_mag a = to_mag w32 (a % 2 ^ 32) refl (omega arith)

pub result_small : (o : Operation) (a b : ℕ) → a < 2 ^ 64 → b < 2 ^ 64 → result_of o a b < 2 ^ 64
result_small O.Add a b ha hb = omega arith
result_small O.Sub a b ha hb = omega arith
result_small O.Sll a b ha hb = omega arith
result_small O.Slt a b ha hb = cond_small (int_lt (alu.signed a) (alu.signed b)) 1 0 (omega arith) (omega arith)
result_small O.Sltu a b ha hb = cond_small (nat_lt a b) 1 0 (omega arith) (omega arith)
result_small O.Xor a b ha hb = xor_lt 64 a b ha hb
result_small O.Srl a b ha hb = (let d = div-le_self a (2 ^ (b % 64)) in omega arith)
result_small O.Sra a b ha hb = shr_small (to_z w64 a) (b % 64) (signed_mag a ha)
result_small O.Or a b ha hb = or_lt 64 a b ha hb
result_small O.And a b ha hb = (let d = and_le_l a b in omega arith)
result_small O.Mul a b ha hb = omega arith
result_small O.Mulh a b ha hb = upper_small (to_z w64 a *ℤ to_z w64 b) (product_mag (to_z w64 a) (to_z w64 b) (2 ^ 63) (2 ^ 63) (signed_mag a ha) (signed_mag b hb) (lit< tt))
result_small O.Mulhsu a b ha hb = upper_small (to_z w64 a *ℤ pos b) (mixed_mag (to_z w64 a) b (signed_mag a ha) hb)
result_small O.Mulhu a b ha hb = whole_product a b ha hb
result_small O.Div a b ha hb = cond_small (nat_eq b 0) (2 ^ 64 - 1) _ (omega arith) (cond_small (nat_eq a (2 ^ 63) && nat_eq b (2 ^ 64 - 1)) a _ ha (quotient_bits w64 (to_z w64 a) (to_z w64 b) refl (signed_mag a ha)))
result_small O.Divu a b ha hb = cond_small (nat_eq b 0) (2 ^ 64 - 1) (a / b) (omega arith) (let d = div-le_self a b in omega arith)
result_small O.Rem a b ha hb = cond_small (nat_eq b 0) a _ ha (cond_small (nat_eq a (2 ^ 63) && nat_eq b (2 ^ 64 - 1)) 0 _ (omega arith) (remainder_bits w64 (to_z w64 a) (to_z w64 b) refl (signed_mag a ha)))
result_small O.Remu a b ha hb = cond_small (nat_eq b 0) a (a % b) ha (let d = mod-le a b in omega arith)
result_small O.Addw a b ha hb = word_small (a + b)
result_small O.Subw a b ha hb = word_small (a + (2 ^ 64 - b))
result_small O.Sllw a b ha hb = word_small (a % 2 ^ 32 * 2 ^ (b % 32))
result_small O.Srlw a b ha hb = word_small (a % 2 ^ 32 / 2 ^ (b % 32))
result_small O.Sraw a b ha hb = shr_small (to_z w32 (a % 2 ^ 32)) (b % 32) (let m = word_mag a in omega arith)
result_small O.Mulw a b ha hb = word_small (a * b)
result_small O.Divw a b ha hb = cond_small (nat_eq (alu.low_word b) 0) (2 ^ 64 - 1) _ (omega arith) (cond_small (nat_eq (alu.low_word a) (2 ^ 31) && nat_eq (alu.low_word b) (2 ^ 32 - 1)) (alu.extended_word a) _ (word_small a) (ext_small w32 (of_z w32 (int_div (alu.signed_word a) (alu.signed_word b))) (omega arith)))
result_small O.Divuw a b ha hb = cond_small (nat_eq (alu.low_word b) 0) (2 ^ 64 - 1) _ (omega arith) (word_small (alu.low_word a / alu.low_word b))
result_small O.Remw a b ha hb = cond_small (nat_eq (alu.low_word b) 0) (alu.extended_word a) _ (word_small a) (cond_small (nat_eq (alu.low_word a) (2 ^ 31) && nat_eq (alu.low_word b) (2 ^ 32 - 1)) 0 _ (omega arith) (ext_small w32 (of_z w32 (int_rem (alu.signed_word a) (alu.signed_word b))) (omega arith)))
result_small O.Remuw a b ha hb = cond_small (nat_eq (alu.low_word b) 0) (alu.extended_word a) _ (word_small a) (word_small (alu.low_word a % alu.low_word b))

pub extended_small : (w : J.Width) (is_signed : Bool) (v : ℕ) → v < 256 ^ size_of_width w → extended w is_signed v < 2 ^ 64
extended_small W1 true v h = ext_small w8 v (omega arith)
extended_small W2 true v h = ext_small w16 v (omega arith)
extended_small W4 true v h = ext_small w32 v (omega arith)
extended_small W8 true v h = ext_small w64 v (omega arith)
extended_small W1 false v h = omega arith
extended_small W2 false v h = omega arith
extended_small W4 false v h = omega arith
extended_small W8 false v h = omega arith
