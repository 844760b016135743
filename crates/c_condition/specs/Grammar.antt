-- The grammar of controlling expressions (ISO/IEC 9899:2011, 6.5, 6.6 and 6.10.1): what an expression is, its spelling and its value.
use Rattle.std.specs.Prelude.{◌≡◌, ℕ, zero, suc, ◌<◌, ◌≤◌, pos, List, [], ◌∷◌, Some}
use Rattle.c_tree.specs.declared.operator.BinaryOperator.{BinaryOperator}
use Rattle.c_tree.specs.declared.operator.BinaryOperator.TheVariants as op
use Rattle.c_token.specs.declared.mark.Mark.{Mark}
use Rattle.c_token.specs.declared.mark.Mark.TheVariants as mark
use Rattle.c_condition.specs.declared.number.Number.{Number}
use Rattle.c_condition.specs.declared.token.Token.{Token}
use Rattle.c_condition.specs.declared.token.Token.TheVariants as token
use Rattle.c_condition.specs.declared.outcome.Outcome.{Outcome}
use Rattle.c_condition.specs.declared.outcome.Outcome.TheVariants.{Signed}
use Rattle.c_condition.specs.declared.outcome.UnaryOperator.{UnaryOperator}
use Rattle.c_condition.specs.declared.outcome.UnaryOperator.TheVariants.{Plus, Minus, Complement, Not}
use Rattle.c_condition.specs.Values.{outcome_of, value_of, unary, binary, conditional, comma}

-- ---- trees

pub data Expr : Type 0 where
  Constant : (n : Number) → Expr
  Name : Expr
  Paren : (e : Expr) → Expr
  Unary : (o : UnaryOperator) (e : Expr) → Expr
  Binary : (o : BinaryOperator) (left right : Expr) → Expr
  Conditional : (first second third : Expr) → Expr
  Comma : (left right : Expr) → Expr

-- ---- spelling

abbrev pub unary_mark : UnaryOperator → Mark
unary_mark Plus = mark.Plus
unary_mark Minus = mark.Minus
unary_mark Complement = mark.Tilde
unary_mark Not = mark.Exclamation

abbrev pub binary_mark : BinaryOperator → Mark
binary_mark op.Times = mark.Star
binary_mark op.Over = mark.Slash
binary_mark op.Remainder = mark.Percent
binary_mark op.Plus = mark.Plus
binary_mark op.Minus = mark.Minus
binary_mark op.ShiftLeft = mark.ShiftLeft
binary_mark op.ShiftRight = mark.ShiftRight
binary_mark op.Less = mark.Less
binary_mark op.Greater = mark.Greater
binary_mark op.LessEqual = mark.LessEqual
binary_mark op.GreaterEqual = mark.GreaterEqual
binary_mark op.Equal = mark.Equal
binary_mark op.NotEqual = mark.NotEqual
binary_mark op.BitAnd = mark.Ampersand
binary_mark op.BitXor = mark.Caret
binary_mark op.BitOr = mark.Bar
binary_mark op.And = mark.AndAnd
binary_mark op.Or = mark.OrOr

-- the tokens of an expression, and then the rest
abbrev pub spell : Expr → List Token → List Token
spell (Constant n) rest = token.Number n ∷ rest
spell Name rest = token.Name ∷ rest
spell (Paren e) rest = token.Mark mark.Open ∷ spell e (token.Mark mark.Close ∷ rest)
spell (Unary o e) rest = token.Mark (unary_mark o) ∷ spell e rest
spell (Binary o left right) rest = spell left (token.Mark (binary_mark o) ∷ spell right rest)
spell (Conditional first second third) rest = spell first (token.Mark mark.Question ∷ spell second (token.Mark mark.Colon ∷ spell third rest))
spell (Comma left right) rest = spell left (token.Mark mark.Comma ∷ spell right rest)

-- ---- precedence: the productions from 6.5.5 on, from the tightest to the comma

abbrev pub binary_height : BinaryOperator → ℕ
binary_height op.Times = 1
binary_height op.Over = 1
binary_height op.Remainder = 1
binary_height op.Plus = 2
binary_height op.Minus = 2
binary_height op.ShiftLeft = 3
binary_height op.ShiftRight = 3
binary_height op.Less = 4
binary_height op.Greater = 4
binary_height op.LessEqual = 4
binary_height op.GreaterEqual = 4
binary_height op.Equal = 5
binary_height op.NotEqual = 5
binary_height op.BitAnd = 6
binary_height op.BitXor = 7
binary_height op.BitOr = 8
binary_height op.And = 9
binary_height op.Or = 10

abbrev pub height : Expr → ℕ
height (Constant n) = 0
height Name = 0
height (Paren e) = 0
height (Unary o e) = 0
height (Binary o left right) = binary_height o
height (Conditional first second third) = 11
height (Comma left right) = 12

-- Each operand is of a production that its operator takes, with at most n nestings: parentheses, operators before their operand, and the middle of a
-- conditional expression. Operators between two operands group from the left (6.5.5 to 6.5.14), and ?: from the right (6.5.15).
abbrev pub Fits : ℕ → Expr → Type 0
Fits n (Constant m) = Unit {0}
Fits n Name = Unit {0}
Fits zero (Paren e) = ⊥
Fits (suc n) (Paren e) = Fits n e
Fits zero (Unary o e) = ⊥
Fits (suc n) (Unary o e) = Fits n e × (height e ≡ 0)
Fits n (Binary o left right) = Fits n left × Fits n right × (height left ≤ binary_height o) × (height right < binary_height o)
Fits zero (Conditional first second third) = ⊥
Fits (suc n) (Conditional first second third) = Fits (suc n) first × Fits n second × Fits (suc n) third × (height first ≤ 10) × (height third ≤ 11)
Fits n (Comma left right) = Fits n left × Fits n right × (height right ≤ 11)

-- ---- value

abbrev pub outcome : Expr → Outcome
outcome (Constant n) = outcome_of n
outcome Name = Signed (pos 0)
outcome (Paren e) = outcome e
outcome (Unary o e) = unary o (outcome e)
outcome (Binary o left right) = binary o (outcome left) (outcome right)
outcome (Conditional first second third) = conditional (outcome first) (outcome second) (outcome third)
outcome (Comma left right) = comma (outcome left) (outcome right)

-- a constant expression (6.6), which is a conditional expression, of at most 64 nestings
pub record IsConstantExpression (tokens : List Token) (e : Expr) : Type 0 where
  pub spelled : tokens ≡ spell e []
  pub fits : Fits 64 e
  pub is_conditional : height e ≤ 11

-- the tokens are an expression that has this value
pub record Controls (tokens : List Token) (value : Number) : Type 0 where
  pub expression : Expr
  pub is_expression : IsConstantExpression tokens expression
  pub has_value : value_of (outcome expression) ≡ Some value

abbrev pub ControlsNothing : List Token → Type 0
ControlsNothing tokens = (value : Number) → Controls tokens value → ⊥
