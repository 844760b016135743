-- The operators on scalar operands (clause 10.1).
use Rattle.std.specs.Prelude.{◌≡◌, ℕ, neg_ℤ, ◌&&◌, ◌||◌, max, Bool, not, Option, Some, None}
use Rattle.f_value.specs.declared.value.Did.{Did}
use Rattle.f_value.specs.declared.value.Did.TheVariants.{Done, Memory}
use Rattle.f_value.specs.declared.value.FOp.{FOp}
use Rattle.f_value.specs.declared.value.FOp.TheVariants as op
use Rattle.f_value.specs.declared.value.FValue.{FValue}
use Rattle.f_value.specs.declared.value.FValue.TheVariants.{Int, Logical, Text}
use Rattle.f_value.specs.Integers.{integer_of}
use Rattle.f_value.specs.Texts.{text_of}
use Rattle.f_value.specs.Values.{in_kind}

-- 10.1.5.4.1: two truth values by an operator
abbrev pub logical_of : FOp → Bool → Bool → ℕ → Option (Did FValue)
logical_of op.And a b kind = Some (Done (Logical (a && b) kind))
logical_of op.Or a b kind = Some (Done (Logical (a || b) kind))
logical_of op.Eqv a b kind = Some (Done (Logical ((a && b) || (not a && not b)) kind))
logical_of op.Neqv a b kind = Some (Done (Logical ((a && not b) || (not a && b)) kind))
logical_of _ a b kind = None

-- one operand by an operator; None where the operand doesn't fit the operator
abbrev pub unary_of : FOp → FValue → Option (Did FValue)
unary_of op.Add (Int v kind) = Some (Done (Int v kind))
unary_of op.Subtract (Int v kind) = Some (in_kind (neg_ℤ v) kind)
unary_of op.Not (Logical b kind) = Some (Done (Logical (not b) kind))
unary_of _ _ = None

-- two operands by an operator, in the greater kind of the two; None where the operands don't fit the operator
abbrev pub binary_of : FOp → FValue → FValue → Option (Did FValue)
binary_of o (Int a j) (Int b k) = integer_of o a b (max j k)
binary_of o (Logical a j) (Logical b k) = logical_of o a b (max j k)
binary_of o (Text s) (Text t) = text_of o s t
binary_of _ _ _ = None

-- an answer is what the operation gives; want of memory may stand in the place of a text
abbrev pub Answers : Did FValue → Did FValue → Type 0
Answers Memory (Done (Text t)) = Unit {0}
Answers answer given = answer ≡ given
