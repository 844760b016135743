-- Powers by repeated product, and their kinds.
use Rattle.std.proofs.Common.{◌≡◌, ℕ, ℤ, pos, negsuc, suc, zero, ◌*◌, ◌%◌, ◌^◌, ◌<◌, ◌≤◌, ◌*ℤ◌, max, inl, inr, Bool, true, false, if◌then◌else◌, nat_le, unsigned_abs, Some, refl, ap, sym, ◌∙◌, arith, lit<}
use Rattle.std.proofs.lemmas.Bool.{cases_lt}
use Rattle.std.proofs.lemmas.Int.{unsigned_abs-mul}
use Rattle.std.proofs.Math.IntN.{*ℤ_comm}
use Rattle.std.proofs.Math.Nat.{pow-le-pow_left, mul-le-mul_right}
use Rattle.jf_base.specs.declared.numbers.Width.{Width}
use Rattle.jf_base.specs.declared.numbers.Width.TheVariants.{W1, W2, W4, W8}
use Rattle.jf_base.specs.Numbers.{half_of}
use Rattle.f_value.specs.declared.value.Did.TheVariants.{Done}
use Rattle.f_value.specs.declared.value.FOp.TheVariants as op
use Rattle.f_value.specs.declared.value.FValue.TheVariants.{Int}
use Rattle.f_value.specs.Integers.{power, quotient}
use Rattle.f_value.specs.Laws.{raise}
use Rattle.f_value.specs.Operators.{binary_of}
use Rattle.f_value.specs.Values.{by_zero, has, in_kind, out_of_kind, width_of_kind}
use Rattle.f_value.proofs.Patterns.{is_within_pos, not_within}
use Rattle.f_value.proofs.Powers.{abs_power, far, inverse_none, one_power, unit_even, unit_odd, unit_plain}

one_fits : (w : Width) → 1 < half_of w
one_fits W1 = lit< tt
one_fits W2 = lit< tt
one_fits W4 = lit< tt
one_fits W8 = lit< tt

pub in_kind-done : (v : ℤ) (kind : ℕ) → has kind v ≡ true → in_kind v kind ≡ Done (Int v kind)
in_kind-done v kind h = rw h refl

pub has_one : (kind : ℕ) → has kind (pos 1) ≡ true
has_one kind = is_within_pos (half_of (width_of_kind kind)) 1 (one_fits (width_of_kind kind))

has_none : (kind : ℕ) → has kind (pos 0) ≡ true
has_none kind = is_within_pos (half_of (width_of_kind kind)) 0 (omega (arith, one_fits (width_of_kind kind)))

pub begins : (kind : ℕ) → Some (in_kind (pos 1) kind) ≡ Some (Done (Int (pos 1) kind))
begins kind = ap Some (in_kind-done (pos 1) kind (has_one kind))

done_at : (v u : ℤ) (kind : ℕ) (b : Bool) → Some (if b then Done (Int v kind) else out_of_kind) ≡ Some (Done (Int u kind)) → v ≡ u
done_at v u kind true e = cc
done_at v u kind false e = absurd (cc)

out_at : (v : ℤ) (kind : ℕ) (b : Bool) → Some (if b then Done (Int v kind) else out_of_kind) ≡ Some out_of_kind → b ≡ false
out_at v kind true e = absurd (cc)
out_at v kind false e = refl

greater_kind : (j k : ℕ) → max (max j k) j ≡ max j k
greater_kind j k = omega arith

product_at : (a u p : ℤ) (j k : ℕ) → p ≡ u → Some (in_kind (a *ℤ p) (max j k)) ≡ binary_of op.Multiply (Int u (max j k)) (Int a j)
product_at a u p j k e = rw (greater_kind j k, e, *ℤ_comm a u) refl

pub next_product : (a : ℤ) (n j k : ℕ) (u : ℤ) → raise a (pos n) j k ≡ Some (Done (Int u (max j k))) → raise a (pos (suc n)) j k ≡ binary_of op.Multiply (Int u (max j k)) (Int a j)
next_product a n j k u e = product_at a u (power a n) j k (done_at (power a n) u (max j k) (has (max j k) (power a n)) e)

one_at_most : (a n : ℕ) → a ≤ 1 → a ^ n ≤ 1
one_at_most a n h =
    let p = pow-le-pow_left {n = a} {m = 1} h n in
    omega (arith, p, one_power n)

more_than_one : (a : ℤ) (n h : ℕ) → 1 < h → h ≤ unsigned_abs (power a n) → 2 ≤ unsigned_abs a
more_than_one a n h k l =
    elim (cases_lt (unsigned_abs a) 2) [
      | inl s ↦ absurd (omega (arith, one_at_most (unsigned_abs a) n (omega arith), abs_power a n))
      | inr s ↦ s
    ]

twice : (x y h : ℕ) → 1 ≤ h → 2 ≤ x → h ≤ y → h < x * y
twice x y h o p q =
    let m = mul-le-mul_right {m = 2} {n = x} y p in
    omega (arith, m)

pub next_out : (a : ℤ) (n j k : ℕ) → raise a (pos n) j k ≡ Some out_of_kind → raise a (pos (suc n)) j k ≡ Some out_of_kind
next_out a n j k e =
    let h = half_of (width_of_kind (max j k)) in
    let o : 1 < half_of (width_of_kind (max j k)) = one_fits (width_of_kind (max j k)) in
    let l : half_of (width_of_kind (max j k)) ≤ unsigned_abs (power a n) = not_within (half_of (width_of_kind (max j k))) (power a n) (out_at (power a n) (max j k) (has (max j k) (power a n)) e) in
    let t : 2 ≤ unsigned_abs a = more_than_one a n (half_of (width_of_kind (max j k))) o l in
    let g : half_of (width_of_kind (max j k)) < unsigned_abs (a *ℤ power a n) = rw unsigned_abs-mul (twice (unsigned_abs a) (unsigned_abs (power a n)) (half_of (width_of_kind (max j k))) (omega arith) t l) in
    let no : has (max j k) (a *ℤ power a n) ≡ false = far (half_of (width_of_kind (max j k))) (a *ℤ power a n) (omega arith) g in
    rw no refl

not_zero : (n : ℕ) → suc n ≡ 0 → ⊥
not_zero n e = omega arith

pub back_of_zero : (n kind : ℕ) → quotient (pos 1) (power (pos 0) (suc n)) kind ≡ by_zero
back_of_zero n kind = ap (λ (z : ℤ). quotient (pos 1) z kind) (sym (unit_plain (pos 0) (suc n) refl (not_zero n) refl))

pub back_of_one : (n kind : ℕ) → quotient (pos 1) (power (pos 1) (suc n)) kind ≡ Done (Int (pos 1) kind)
back_of_one n kind = ap (λ (z : ℤ). quotient (pos 1) z kind) (sym (unit_plain (pos 1) (suc n) refl (not_zero n) refl)) ∙ in_kind-done (pos 1) kind (has_one kind)

back_at : (m kind r : ℕ) → m % 2 ≡ r → quotient (pos 1) (power (negsuc 0) m) kind ≡ in_kind (power (negsuc 0) m) kind
back_at m kind zero e = let u : pos 1 ≡ power (negsuc 0) m = unit_even (negsuc 0) m refl refl e in rw (← u) refl
back_at m kind (suc r) e = let u : negsuc 0 ≡ power (negsuc 0) m = unit_odd (negsuc 0) m refl refl (λ h. not_zero r (sym e ∙ h)) in rw (← u) refl

pub back_of_minus_one : (m kind : ℕ) → quotient (pos 1) (power (negsuc 0) m) kind ≡ in_kind (power (negsuc 0) m) kind
back_of_minus_one m kind = back_at m kind (m % 2) refl

is_more : (n : ℕ) → 2 ≤ n → nat_le n 1 ≡ false
is_more n h = grind arith

pub back_of_others : (a : ℤ) (n kind : ℕ) → 2 ≤ unsigned_abs a → quotient (pos 1) (power a (suc n)) kind ≡ Done (Int (pos 0) kind)
back_of_others a n kind h = sym (inverse_none a (suc n) kind (is_more (unsigned_abs a) h) (omega arith)) ∙ in_kind-done (pos 0) kind (has_none kind)
