-- The production of each binary operator (ISO/IEC 9899:2011, 6.5.5 to 6.5.14).
use Rattle.std.specs.Prelude.{ℕ, Option, Some, None}
use Rattle.c_tree.specs.declared.operator.BinaryOperator.{BinaryOperator}
use Rattle.c_tree.specs.declared.operator.BinaryOperator.TheVariants as o
use Rattle.c_tree.specs.declared.operator.Height.{Height}
use Rattle.c_tree.specs.declared.operator.Height.TheVariants as h

abbrev pub height_of : BinaryOperator → Height
height_of o.Times = h.Multiplicative
height_of o.Over = h.Multiplicative
height_of o.Remainder = h.Multiplicative
height_of o.Plus = h.Additive
height_of o.Minus = h.Additive
height_of o.ShiftLeft = h.Shift
height_of o.ShiftRight = h.Shift
height_of o.Less = h.Relational
height_of o.Greater = h.Relational
height_of o.LessEqual = h.Relational
height_of o.GreaterEqual = h.Relational
height_of o.Equal = h.Equality
height_of o.NotEqual = h.Equality
height_of o.BitAnd = h.BitAnd
height_of o.BitXor = h.BitXor
height_of o.BitOr = h.BitOr
height_of o.And = h.And
height_of o.Or = h.Or

-- how many productions bind tighter
abbrev pub rank : Height → ℕ
rank h.Multiplicative = 0
rank h.Additive = 1
rank h.Shift = 2
rank h.Relational = 3
rank h.Equality = 4
rank h.BitAnd = 5
rank h.BitXor = 6
rank h.BitOr = 7
rank h.And = 8
rank h.Or = 9

-- the production whose operators bind next tighter
abbrev pub tighter : Height → Option Height
tighter h.Multiplicative = None
tighter h.Additive = Some h.Multiplicative
tighter h.Shift = Some h.Additive
tighter h.Relational = Some h.Shift
tighter h.Equality = Some h.Relational
tighter h.BitAnd = Some h.Equality
tighter h.BitXor = Some h.BitAnd
tighter h.BitOr = Some h.BitXor
tighter h.And = Some h.BitOr
tighter h.Or = Some h.And
