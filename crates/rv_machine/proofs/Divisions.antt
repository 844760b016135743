-- Quotients and remainders of two's complement numbers, by their bits.
use Rattle.std.proofs.Common.{◌≡◌, ◌<◌, ℕ, zero, suc, ◌+◌, ◌-◌, ◌/◌, ◌%◌, ◌^◌, Bool, false, cond, ◌&&◌, ℤ, pos, sym, ap, ◌∙◌, subst, inl, inr, arith}
use Rattle.std.proofs.Math.Nat.{div-le_self, mod-le}
use Rattle.std.proofs.lemmas.Bool.{cases_Bool, eqb-true, ne_eqb, and_parts, cond-true, cond-false}
use Rattle.std.proofs.lemmas.Int.{of_z-to_z}
use Rattle.std.specs.Prelude.{nat_eq, int_div, int_rem}
use Rattle.std.specs.Int.{Width, w32, w64}
use lib.IntN.{negsuc, neg_ℤ, nat_abs}
use lib.Signed.{mag}
use mir.Val.{to_z, of_z, bits, hbits}
use Rattle.rv_machine.specs.Alu.{low_word, extended, quotient_signed, word_quotient_signed, word_remainder_signed}

neg_bits : (w : Width) (k : ℕ) → 0 < 2 ^ bits w → of_z w (neg_ℤ (pos k)) < 2 ^ bits w
neg_bits w zero p = p
neg_bits w (suc n) p = omega arith

-- a quotient's bits fit
pub quotient_bits : (w : Width) (x y : ℤ) → 2 ^ hbits w + 2 ^ hbits w ≡ 2 ^ bits w → mag x < 2 ^ hbits w → of_z w (int_div x y) < 2 ^ bits w
quotient_bits w (pos a) (pos b) double low = omega (arith, div-le_self a b)
quotient_bits w (pos a) (negsuc b) double low = neg_bits w (a / suc b) (omega arith)
quotient_bits w (negsuc a) (pos b) double low = neg_bits w (suc a / b) (omega arith)
quotient_bits w (negsuc a) (negsuc b) double low = omega (arith, div-le_self (suc a) (suc b))

-- a remainder's bits fit
pub remainder_bits : (w : Width) (x y : ℤ) → 2 ^ hbits w + 2 ^ hbits w ≡ 2 ^ bits w → mag x < 2 ^ hbits w → of_z w (int_rem x y) < 2 ^ bits w
remainder_bits w (pos a) y double low = omega (arith, mod-le a (nat_abs y))
remainder_bits w (negsuc a) y double low = neg_bits w (suc a % nat_abs y) (omega arith)

-- what a number is as two's complement isn't changed on the way through its bits
through : (w : Width) (a : ℕ) (x : ℤ) → a < 2 ^ bits w → x ≡ to_z w a → to_z w (of_z w x) ≡ to_z w a
through w a x low is = ap (λ z. to_z w (of_z w z)) is ∙ ap (to_z w) (of_z-to_z w a low)

-- the bits of an operation on two numbers that were given by their bits
settles : (w : Width) (op : ℤ → ℤ → ℤ) (a b r : ℕ) (x y q : ℤ) → a < 2 ^ bits w → b < 2 ^ bits w → x ≡ to_z w a → y ≡ to_z w b → of_z w (op (to_z w a) (to_z w b)) < 2 ^ bits w → q ≡ to_z w (of_z w (op (to_z w (of_z w x)) (to_z w (of_z w y)))) → r ≡ of_z w (to_z w (of_z w q)) → r ≡ of_z w (op (to_z w a) (to_z w b))
settles w op a b r x y q la lb is_x is_y low is_q is_r =
    let n : ℕ = of_z w (op (to_z w a) (to_z w b)) in
    let ex = through w a x la is_x in
    let ey = through w b y lb is_y in
    let q_is : q ≡ to_z w n = is_q ∙ ap (λ u. to_z w (of_z w (op u (to_z w (of_z w y))))) ex ∙ ap (λ u. to_z w (of_z w (op (to_z w a) u))) ey in
    let bits_q : of_z w q ≡ n = ap (of_z w) q_is ∙ of_z-to_z w n low in
    is_r ∙ ap (λ u. of_z w (to_z w u)) bits_q ∙ of_z-to_z w n low

-- the least number divided by -1 needs no case of its own where bits are kept
pub wide_quotient : (a b : ℕ) → (b ≡ 0 → ⊥) → of_z w64 (int_div (to_z w64 a) (to_z w64 b)) ≡ quotient_signed a b
wide_quotient a b nonzero =
    let nz : nat_eq b 0 ≡ false = ne_eqb b 0 nonzero in
    let M : ℕ = 2 ^ 64 - 1 in
    let test : Bool = nat_eq a (2 ^ 63) && nat_eq b M in
    let q : ℕ = of_z w64 (int_div (to_z w64 a) (to_z w64 b)) in
    let rest : q ≡ cond test a q = elim (cases_Bool test) [
      | inl met ↦ (let both = and_parts (nat_eq a (2 ^ 63)) (nat_eq b M) met in
          let ea = eqb-true a (2 ^ 63) both.0 in
          let eb = eqb-true b M both.1 in
          let whole : q ≡ a = ap (λ u. of_z w64 (int_div (to_z w64 u) (to_z w64 b))) ea ∙ ap (λ u. of_z w64 (int_div (to_z w64 (2 ^ 63)) (to_z w64 u))) eb ∙ sym ea in
          whole ∙ sym (cond-true test a q met))
      | inr not_met ↦ sym (cond-false test a q not_met)
    ] in
    rest ∙ sym (cond-false (nat_eq b 0) (2 ^ 64 - 1) (cond test a q) nz)

pub word_quotient : (a b : ℕ) → (low_word b ≡ 0 → ⊥) → extended w32 (of_z w32 (int_div (to_z w32 (low_word a)) (to_z w32 (low_word b)))) ≡ word_quotient_signed a b
word_quotient a b nonzero =
    let x : ℕ = low_word a in
    let y : ℕ = low_word b in
    let nz : nat_eq y 0 ≡ false = ne_eqb y 0 nonzero in
    let M : ℕ = 2 ^ 32 - 1 in
    let test : Bool = nat_eq x (2 ^ 31) && nat_eq y M in
    let q : ℕ = extended w32 (of_z w32 (int_div (to_z w32 x) (to_z w32 y))) in
    let rest : q ≡ cond test (extended w32 x) q = elim (cases_Bool test) [
      | inl met ↦ (let both = and_parts (nat_eq x (2 ^ 31)) (nat_eq y M) met in
          let ex = eqb-true x (2 ^ 31) both.0 in
          let ey = eqb-true y M both.1 in
          let whole : q ≡ extended w32 x = ap (λ u. extended w32 (of_z w32 (int_div (to_z w32 u) (to_z w32 y)))) ex ∙ ap (λ u. extended w32 (of_z w32 (int_div (to_z w32 (2 ^ 31)) (to_z w32 u)))) ey ∙ sym (ap (extended w32) ex) in
          whole ∙ sym (cond-true test (extended w32 x) q met))
      | inr not_met ↦ sym (cond-false test (extended w32 x) q not_met)
    ] in
    rest ∙ sym (cond-false (nat_eq y 0) (2 ^ 64 - 1) (cond test (extended w32 x) q) nz)

pub word_remainder : (a b : ℕ) → (low_word b ≡ 0 → ⊥) → extended w32 (of_z w32 (int_rem (to_z w32 (low_word a)) (to_z w32 (low_word b)))) ≡ word_remainder_signed a b
word_remainder a b nonzero =
    let x : ℕ = low_word a in
    let y : ℕ = low_word b in
    let nz : nat_eq y 0 ≡ false = ne_eqb y 0 nonzero in
    let M : ℕ = 2 ^ 32 - 1 in
    let test : Bool = nat_eq x (2 ^ 31) && nat_eq y M in
    let q : ℕ = extended w32 (of_z w32 (int_rem (to_z w32 x) (to_z w32 y))) in
    let rest : q ≡ cond test 0 q = elim (cases_Bool test) [
      | inl met ↦ (let both = and_parts (nat_eq x (2 ^ 31)) (nat_eq y M) met in
          let ex = eqb-true x (2 ^ 31) both.0 in
          let ey = eqb-true y M both.1 in
          let whole : q ≡ 0 = ap (λ u. extended w32 (of_z w32 (int_rem (to_z w32 u) (to_z w32 y)))) ex ∙ ap (λ u. extended w32 (of_z w32 (int_rem (to_z w32 (2 ^ 31)) (to_z w32 u)))) ey in
          whole ∙ sym (cond-true test 0 q met))
      | inr not_met ↦ sym (cond-false test 0 q not_met)
    ] in
    rest ∙ sym (cond-false (nat_eq y 0) (extended w32 x) (cond test 0 q) nz)

-- what the code computes of a quotient
pub quotient_of_bits : (w : Width) (a b r : ℕ) (x y q : ℤ) → 2 ^ hbits w + 2 ^ hbits w ≡ 2 ^ bits w → a < 2 ^ bits w → b < 2 ^ bits w → mag x < 2 ^ hbits w → x ≡ to_z w a → y ≡ to_z w b → q ≡ to_z w (of_z w (int_div (to_z w (of_z w x)) (to_z w (of_z w y)))) → r ≡ of_z w (to_z w (of_z w q)) → r ≡ of_z w (int_div (to_z w a) (to_z w b))
quotient_of_bits w a b r x y q double la lb small is_x is_y is_q is_r =
    let low : of_z w (int_div (to_z w a) (to_z w b)) < 2 ^ bits w = quotient_bits w (to_z w a) (to_z w b) double (subst (λ (u : ℤ). mag u < 2 ^ hbits w) is_x small) in
    settles w int_div a b r x y q la lb is_x is_y low is_q is_r

-- what the code computes of a remainder
pub remainder_of_bits : (w : Width) (a b r : ℕ) (x y q : ℤ) → 2 ^ hbits w + 2 ^ hbits w ≡ 2 ^ bits w → a < 2 ^ bits w → b < 2 ^ bits w → mag x < 2 ^ hbits w → x ≡ to_z w a → y ≡ to_z w b → q ≡ int_rem (to_z w (of_z w x)) (to_z w (of_z w y)) → r ≡ of_z w (to_z w (of_z w q)) → r ≡ of_z w (int_rem (to_z w a) (to_z w b))
remainder_of_bits w a b r x y q double la lb small is_x is_y is_q is_r =
    let low : of_z w (int_rem (to_z w a) (to_z w b)) < 2 ^ bits w = remainder_bits w (to_z w a) (to_z w b) double (subst (λ (u : ℤ). mag u < 2 ^ hbits w) is_x small) in
    let ex = through w a x la is_x in
    let ey = through w b y lb is_y in
    let n : ℕ = of_z w (int_rem (to_z w a) (to_z w b)) in
    let q_is : of_z w q ≡ n = ap (of_z w) (is_q ∙ ap (λ u. int_rem u (to_z w (of_z w y))) ex ∙ ap (λ u. int_rem (to_z w a) u) ey) in
    is_r ∙ ap (λ u. of_z w (to_z w u)) q_is ∙ of_z-to_z w n low
