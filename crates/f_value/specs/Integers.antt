-- Operators on INTEGER operands, over numbers without bound (10.1.5.2.1 and 10.1.5.5.1).
use Rattle.std.specs.Prelude.{ℕ, ℤ, pos, negsuc, ◌+ℤ◌, ◌-ℤ◌, ◌*ℤ◌, ◌&&◌, ◌||◌, Bool, Option, Some, None, unsigned_abs, int_div, zero, suc, if◌then◌else◌, nat_eq}
use Rattle.std.specs.Int.Signed.{le_z, lt_z}
use Rattle.f_value.specs.declared.value.Did.{Did}
use Rattle.f_value.specs.declared.value.FOp.{FOp}
use Rattle.f_value.specs.declared.value.FOp.TheVariants as op
use Rattle.f_value.specs.declared.value.FValue.{FValue}
use Rattle.f_value.specs.Values.{by_zero, in_kind, truth}

-- the product of n factors
abbrev pub power : ℤ → ℕ → ℤ
power x zero = pos 1
power x (suc n) = x *ℤ power x n

-- whether a number is 0
abbrev pub is_zero : ℤ → Bool
is_zero v = nat_eq (unsigned_abs v) 0

-- 10.1.5.2.2: a quotient is truncated toward 0
abbrev pub quotient : ℤ → ℤ → ℕ → Did FValue
quotient a b kind = if is_zero b then by_zero else in_kind (int_div a b) kind

-- 10.1.5.2.2: to a negative power is the quotient of 1 and the power
abbrev pub raised : ℤ → ℤ → ℕ → Did FValue
raised a (pos n) kind = in_kind (power a n) kind
raised a (negsuc n) kind = quotient (pos 1) (power a (suc n)) kind

-- two numbers by an operator, in the kind of the result; None where the operator isn't one of numbers
abbrev pub integer_of : FOp → ℤ → ℤ → ℕ → Option (Did FValue)
integer_of op.Power a b kind = Some (raised a b kind)
integer_of op.Multiply a b kind = Some (in_kind (a *ℤ b) kind)
integer_of op.Divide a b kind = Some (quotient a b kind)
integer_of op.Add a b kind = Some (in_kind (a +ℤ b) kind)
integer_of op.Subtract a b kind = Some (in_kind (a -ℤ b) kind)
integer_of op.Equal a b kind = Some (truth (le_z a b && le_z b a))
integer_of op.Unequal a b kind = Some (truth (lt_z a b || lt_z b a))
integer_of op.Less a b kind = Some (truth (lt_z a b))
integer_of op.LessEqual a b kind = Some (truth (le_z a b))
integer_of op.Greater a b kind = Some (truth (lt_z b a))
integer_of op.GreaterEqual a b kind = Some (truth (le_z b a))
integer_of _ a b kind = None
