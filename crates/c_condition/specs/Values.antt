-- The values of controlling expressions: the operators of ISO/IEC 9899:2011, 6.5, over intmax_t and uintmax_t of 64 bits (6.10.1p4).
use Rattle.std.specs.Prelude.{ℕ, ◌+◌, ◌-◌, ◌*◌, ◌/◌, ◌%◌, ◌^◌, ℤ, pos, negsuc, neg_ℤ, ◌+ℤ◌, ◌-ℤ◌, ◌*ℤ◌, int_lt, int_div, int_rem, nat_lt, nat_le, ◌==◌, bit_and, bit_or, bit_xor, Option, Some, None, Bool, true, false, ◌||◌, not, if◌then◌else◌}
use Rattle.std.specs.Ordering.{int_eq}
use Rattle.std.specs.Int.{w64, cast_unsigned, bit_not, int_bit_and, int_bit_or, int_bit_xor, int_bit_not, int_shr}
use Rattle.c_tree.specs.declared.operator.BinaryOperator.{BinaryOperator}
use Rattle.c_tree.specs.declared.operator.BinaryOperator.TheVariants as op
use Rattle.c_literal.specs.declared.integer.IntegerConstant.{IntegerConstant}
use Rattle.c_condition.specs.declared.number.Number.{Number}
use Rattle.c_condition.specs.declared.number.Number.TheVariants as number
use Rattle.c_condition.specs.declared.outcome.Outcome.{Outcome}
use Rattle.c_condition.specs.declared.outcome.Outcome.TheVariants.{Signed, Unsigned, Without}
use Rattle.c_condition.specs.declared.outcome.Operands.{Operands}
use Rattle.c_condition.specs.declared.outcome.Operands.TheVariants as both
use Rattle.c_condition.specs.declared.outcome.UnaryOperator.{UnaryOperator}
use Rattle.c_condition.specs.declared.outcome.UnaryOperator.TheVariants.{Plus, Minus, Complement, Not}

-- ---- numbers

-- a constant is unsigned with an unsigned suffix, or where it isn't in intmax_t
abbrev pub number_of : IntegerConstant → Number
number_of c = if c.is_unsigned || nat_le (2 ^ 63) c.value then number.Unsigned c.value else number.Signed (pos c.value)

abbrev pub is_zero : Number → Bool
is_zero (number.Signed z) = int_eq z (pos 0)
is_zero (number.Unsigned n) = n == 0

abbrev pub outcome_of : Number → Outcome
outcome_of (number.Signed z) = Signed z
outcome_of (number.Unsigned n) = Unsigned n

-- the number that an operand has
abbrev pub value_of : Outcome → Option Number
value_of (Signed z) = Some (number.Signed z)
value_of (Unsigned n) = Some (number.Unsigned n)
value_of (Without u) = None

abbrev pub is_unsigned : Outcome → Bool
is_unsigned (Signed z) = false
is_unsigned (Unsigned n) = true
is_unsigned (Without u) = u

-- whether the number is not 0
abbrev pub truth : Outcome → Option Bool
truth (Signed z) = Some (not (int_eq z (pos 0)))
truth (Unsigned n) = Some (not (n == 0))
truth (Without u) = None

-- 1 or 0, of type int (6.5.8p6)
abbrev pub flag : Option Bool → Outcome
flag None = Without false
flag (Some true) = Signed (pos 1)
flag (Some false) = Signed (pos 0)

-- a signed result that isn't in intmax_t is none (6.5p5)
abbrev pub in_range : ℤ → Outcome
in_range (pos n) = if nat_lt n (2 ^ 63) then Signed (pos n) else Without false
in_range (negsuc n) = if nat_lt n (2 ^ 63) then Signed (negsuc n) else Without false

-- results that may be there
abbrev pub signed : Option ℤ → Outcome
signed None = Without false
signed (Some z) = Signed z

abbrev pub unsigned : Option ℕ → Outcome
unsigned None = Without true
unsigned (Some n) = Unsigned n

-- an unsigned result is reduced modulo 2^64 (6.2.5p9)
abbrev pub reduced : ℕ → Outcome
reduced n = Unsigned (n % 2 ^ 64)

-- ---- the usual arithmetic conversions (6.3.1.8)

-- the operand with this type, which is unsigned if its own is
abbrev pub with_type : Bool → Outcome → Outcome
with_type false x = x
with_type true (Signed z) = Unsigned (cast_unsigned w64 z)
with_type true (Unsigned n) = Unsigned n
with_type true (Without u) = Without true

abbrev pub paired : Outcome → Outcome → Operands
paired (Signed a) (Signed b) = both.Signed a b
paired (Signed a) (Unsigned b) = both.Unsigned (cast_unsigned w64 a) b
paired (Signed a) (Without u) = both.Without u
paired (Unsigned a) (Signed b) = both.Unsigned a (cast_unsigned w64 b)
paired (Unsigned a) (Unsigned b) = both.Unsigned a b
paired (Unsigned a) (Without u) = both.Without true
paired (Without u) y = both.Without (u || is_unsigned y)

-- ---- operators on both operands

-- 6.5.5
abbrev pub product : Operands → Outcome
product (both.Signed a b) = in_range (a *ℤ b)
product (both.Unsigned a b) = reduced (a * b)
product (both.Without u) = Without u

abbrev pub quotient : Operands → Outcome
quotient (both.Signed a b) = if int_eq b (pos 0) then Without false else in_range (int_div a b)
quotient (both.Unsigned a b) = if b == 0 then Without true else Unsigned (a / b)
quotient (both.Without u) = Without u

abbrev pub remainder : Operands → Outcome
remainder (both.Signed a b) = if int_eq b (pos 0) then Without false else Signed (int_rem a b)
remainder (both.Unsigned a b) = if b == 0 then Without true else Unsigned (a % b)
remainder (both.Without u) = Without u

-- 6.5.6
abbrev pub total : Operands → Outcome
total (both.Signed a b) = in_range (a +ℤ b)
total (both.Unsigned a b) = reduced (a + b)
total (both.Without u) = Without u

abbrev pub difference : Operands → Outcome
difference (both.Signed a b) = in_range (a -ℤ b)
difference (both.Unsigned a b) = reduced (a + (2 ^ 64 - b))
difference (both.Without u) = Without u

-- 6.5.10 to 6.5.12
abbrev pub bits_and : Operands → Outcome
bits_and (both.Signed a b) = Signed (int_bit_and w64 a b)
bits_and (both.Unsigned a b) = Unsigned (bit_and a b)
bits_and (both.Without u) = Without u

abbrev pub bits_xor : Operands → Outcome
bits_xor (both.Signed a b) = Signed (int_bit_xor w64 a b)
bits_xor (both.Unsigned a b) = Unsigned (bit_xor a b)
bits_xor (both.Without u) = Without u

abbrev pub bits_or : Operands → Outcome
bits_or (both.Signed a b) = Signed (int_bit_or w64 a b)
bits_or (both.Unsigned a b) = Unsigned (bit_or a b)
bits_or (both.Without u) = Without u

-- 6.5.8 and 6.5.9
abbrev pub less : Operands → Option Bool
less (both.Signed a b) = Some (int_lt a b)
less (both.Unsigned a b) = Some (nat_lt a b)
less (both.Without u) = None

abbrev pub equal : Operands → Option Bool
equal (both.Signed a b) = Some (int_eq a b)
equal (both.Unsigned a b) = Some (a == b)
equal (both.Without u) = None

abbrev pub negated : Option Bool → Option Bool
negated None = None
negated (Some b) = Some (not b)

-- ---- shifts (6.5.7)

-- a count of bits has a value from 0 to 63
abbrev pub count_of : Outcome → Option ℕ
count_of (Signed (pos n)) = if nat_lt n 64 then Some n else None
count_of (Signed (negsuc n)) = None
count_of (Unsigned n) = if nat_lt n 64 then Some n else None
count_of (Without u) = None

-- the left operand times a power of two
abbrev pub raised : Outcome → Option ℕ → Outcome
raised x None = Without (is_unsigned x)
raised (Signed z) (Some k) = in_range (z *ℤ pos (2 ^ k))
raised (Unsigned n) (Some k) = reduced (n * 2 ^ k)
raised (Without u) (Some k) = Without u

-- the left operand over a power of two, rounded down
abbrev pub lowered : Outcome → Option ℕ → Outcome
lowered x None = Without (is_unsigned x)
lowered (Signed z) (Some k) = Signed (int_shr z k)
lowered (Unsigned n) (Some k) = Unsigned (n / 2 ^ k)
lowered (Without u) (Some k) = Without u

-- ---- operators that evaluate one side at most (6.5.13 to 6.5.15)

-- the right operand is evaluated where the left one isn't 0
abbrev pub conjunction : Option Bool → Option Bool → Option Bool
conjunction None right = None
conjunction (Some false) right = Some false
conjunction (Some true) right = right

-- the right operand is evaluated where the left one is 0
abbrev pub disjunction : Option Bool → Option Bool → Option Bool
disjunction None right = None
disjunction (Some true) right = Some true
disjunction (Some false) right = right

abbrev pub chosen : Option Bool → Outcome → Outcome → Outcome
chosen None second third = Without (is_unsigned second || is_unsigned third)
chosen (Some true) second third = second
chosen (Some false) second third = third

-- ---- all operators

abbrev pub binary : BinaryOperator → Outcome → Outcome → Outcome
binary op.Times x y = product (paired x y)
binary op.Over x y = quotient (paired x y)
binary op.Remainder x y = remainder (paired x y)
binary op.Plus x y = total (paired x y)
binary op.Minus x y = difference (paired x y)
binary op.ShiftLeft x y = raised x (count_of y)
binary op.ShiftRight x y = lowered x (count_of y)
binary op.Less x y = flag (less (paired x y))
binary op.Greater x y = flag (less (paired y x))
binary op.LessEqual x y = flag (negated (less (paired y x)))
binary op.GreaterEqual x y = flag (negated (less (paired x y)))
binary op.Equal x y = flag (equal (paired x y))
binary op.NotEqual x y = flag (negated (equal (paired x y)))
binary op.BitAnd x y = bits_and (paired x y)
binary op.BitXor x y = bits_xor (paired x y)
binary op.BitOr x y = bits_or (paired x y)
binary op.And x y = flag (conjunction (truth x) (truth y))
binary op.Or x y = flag (disjunction (truth x) (truth y))

-- 6.5.3.3
abbrev pub unary : UnaryOperator → Outcome → Outcome
unary Plus x = x
unary Minus (Signed z) = in_range (neg_ℤ z)
unary Minus (Unsigned n) = reduced (0 + (2 ^ 64 - n))
unary Complement (Signed z) = Signed (int_bit_not w64 z)
unary Complement (Unsigned n) = Unsigned (bit_not w64 n)
unary Not x = flag (negated (truth x))
unary _ (Without u) = Without u

-- one of the two is evaluated, and has the type of both (6.5.15p5)
abbrev pub conditional : Outcome → Outcome → Outcome → Outcome
conditional first second third = with_type (is_unsigned second || is_unsigned third) (chosen (truth first) second third)

-- a comma has no value where it is evaluated, since a constant expression has none (6.6p3)
abbrev pub comma : Outcome → Outcome → Outcome
comma left right = Without (is_unsigned right)
