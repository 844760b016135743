-- Controlling expressions, read from left to right into whatever an algebra makes of them: trees, or their values.
use Rattle.std.specs.Prelude.{ℕ, zero, suc, pos, List, [], ◌∷◌, length, Option, Some, None, Bool, true, false, ◌==◌, if◌then◌else◌}
use Rattle.c_tree.specs.declared.operator.BinaryOperator.{BinaryOperator}
use Rattle.c_tree.specs.declared.operator.BinaryOperator.TheVariants as op
use Rattle.c_token.specs.declared.mark.Mark.{Mark}
use Rattle.c_token.specs.declared.mark.Mark.TheVariants as mark
use Rattle.c_condition.specs.declared.number.Number.{Number}
use Rattle.c_condition.specs.declared.token.Token.{Token}
use Rattle.c_condition.specs.declared.token.Token.TheVariants as token
use Rattle.c_condition.specs.declared.outcome.Outcome.{Outcome}
use Rattle.c_condition.specs.declared.outcome.Outcome.TheVariants.{Signed}
use Rattle.c_condition.specs.declared.outcome.UnaryOperator.{UnaryOperator}
use Rattle.c_condition.specs.declared.outcome.UnaryOperator.TheVariants as sign
use Rattle.c_condition.specs.declared.marks.Opening.{Opening}
use Rattle.c_condition.specs.declared.marks.Opening.TheVariants as opening
use Rattle.c_condition.specs.declared.marks.Joint.{Joint}
use Rattle.c_condition.specs.declared.marks.Joint.TheVariants as joint
use Rattle.c_condition.specs.Values.{outcome_of, unary, binary, conditional, comma}
use Rattle.c_condition.specs.Grammar.{binary_height}

-- what a function found, seen by view
abbrev pub seen : {X Y : Type 0} → (X → Y) → Option X → Option Y
seen view None = None
seen view (Some x) = Some (view x)

-- where there is something, and where there is not
abbrev pub choose : {A B : Type 0} → Option A → B → (A → B) → B
choose None none some = none
choose (Some x) none some = some x

-- a step, and then another
abbrev pub and_then : {A B : Type 0} → Option A → (A → Option B) → Option B
and_then None f = None
and_then (Some x) f = f x

-- ---- marks

abbrev pub opening_of : Mark → Opening
opening_of mark.Open = opening.Parenthesis
opening_of mark.Plus = opening.Sign sign.Plus
opening_of mark.Minus = opening.Sign sign.Minus
opening_of mark.Tilde = opening.Sign sign.Complement
opening_of mark.Exclamation = opening.Sign sign.Not
opening_of _ = opening.Nothing

abbrev pub joint_of : Mark → Joint
joint_of mark.Star = joint.Infix op.Times
joint_of mark.Slash = joint.Infix op.Over
joint_of mark.Percent = joint.Infix op.Remainder
joint_of mark.Plus = joint.Infix op.Plus
joint_of mark.Minus = joint.Infix op.Minus
joint_of mark.ShiftLeft = joint.Infix op.ShiftLeft
joint_of mark.ShiftRight = joint.Infix op.ShiftRight
joint_of mark.Less = joint.Infix op.Less
joint_of mark.Greater = joint.Infix op.Greater
joint_of mark.LessEqual = joint.Infix op.LessEqual
joint_of mark.GreaterEqual = joint.Infix op.GreaterEqual
joint_of mark.Equal = joint.Infix op.Equal
joint_of mark.NotEqual = joint.Infix op.NotEqual
joint_of mark.Ampersand = joint.Infix op.BitAnd
joint_of mark.Caret = joint.Infix op.BitXor
joint_of mark.Bar = joint.Infix op.BitOr
joint_of mark.AndAnd = joint.Infix op.And
joint_of mark.OrOr = joint.Infix op.Or
joint_of mark.Question = joint.Question
joint_of mark.Colon = joint.Colon
joint_of mark.Comma = joint.Comma
joint_of mark.Close = joint.Close
joint_of _ = joint.Nothing

-- what stands first, and what follows it
unfoldable pub joint_at : List Token → Joint × List Token
joint_at [] = (joint.Nothing, [])
joint_at (token.Mark m ∷ ts) = (joint_of m, ts)
joint_at (_ ∷ ts) = (joint.Nothing, ts)

abbrev pub picked : ℕ → Joint × List Token → Option (BinaryOperator × List Token)
picked h (joint.Infix o, ts) = if binary_height o == h then Some (o, ts) else None
picked h _ = None

-- the operator of this height that stands first, and what follows it
unfoldable pub infix_at : ℕ → List Token → Option (BinaryOperator × List Token)
infix_at h ts = picked h (joint_at ts)

abbrev pub is_joint : Joint → Joint → Bool
is_joint joint.Question joint.Question = true
is_joint joint.Colon joint.Colon = true
is_joint joint.Comma joint.Comma = true
is_joint joint.Close joint.Close = true
is_joint _ _ = false

-- what follows the joint, if it stands first
unfoldable pub behind : Joint → List Token → Option (List Token)
behind wanted ts = if is_joint (joint_at ts).0 wanted then Some (joint_at ts).1 else None

-- ---- readers

pub record Algebra (A : Type 0) : Type 0 where
  pub constant : Number → A
  pub name : A
  pub paren : A → A
  pub unary : UnaryOperator → A → A
  pub binary : BinaryOperator → A → A → A
  pub conditional : A → A → A → A
  pub comma : A → A → A

abbrev pub values : Algebra Outcome
values = record { constant = outcome_of; name = Signed (pos 0); paren = λ x. x; unary = unary; binary = binary; conditional = conditional; comma = comma }

abbrev pub Found : Type 0 → Type 0
Found A = Option (A × List Token)

-- what reads the nested parts: whole expressions, and operands
pub record Inner (A : Type 0) : Type 0 where
  pub whole : List Token → Found A
  pub operand : List Token → Found A

unfoldable pub nested_at : {A : Type 0} → Algebra A → Inner A → Opening → List Token → Found A
nested_at g r opening.Parenthesis ts = and_then (r.whole ts) (λ x. and_then (behind joint.Close x.1) (λ rest. Some (g.paren x.0, rest)))
nested_at g r (opening.Sign o) ts = and_then (r.operand ts) (λ x. Some (g.unary o x.0, x.1))
nested_at g r opening.Nothing ts = None

-- an operand of the operators between two operands (6.5.3)
unfoldable pub operand_at : {A : Type 0} → Algebra A → Inner A → List Token → Found A
operand_at g r [] = None
operand_at g r (token.Number n ∷ ts) = Some (g.constant n, ts)
operand_at g r (token.Name ∷ ts) = Some (g.name, ts)
operand_at g r (token.Mark m ∷ ts) = nested_at g r (opening_of m) ts
operand_at g r (token.Other ∷ ts) = None

-- at most so many more operators of a height
unfoldable pub links_at : {A : Type 0} → Algebra A → (List Token → Found A) → ℕ → ℕ → A → List Token → Found A
links_at g lower h zero left ts = Some (left, ts)
links_at g lower h (suc k) left ts = choose (infix_at h ts) (Some (left, ts)) (λ o. and_then (lower o.1) (λ x. links_at g lower h k (g.binary o.0 left x.0) x.1))

-- an expression of at most this height, up to 10 (6.5.5 to 6.5.14)
unfoldable pub level_at : {A : Type 0} → Algebra A → Inner A → ℕ → List Token → Found A
level_at g r zero ts = operand_at g r ts
level_at g r (suc h) ts = and_then (level_at g r h ts) (λ x. links_at g (level_at g r h) (suc h) (length x.1) x.0 x.1)

-- a conditional expression (6.5.15), with at most so many question marks
unfoldable pub conditional_at : {A : Type 0} → Algebra A → Inner A → ℕ → List Token → Found A
conditional_at g r zero ts = None
conditional_at g r (suc k) ts = and_then (level_at g r 10 ts) (λ x. choose (behind joint.Question x.1) (Some x)
    (λ middle. and_then (r.whole middle) (λ y. and_then (behind joint.Colon y.1) (λ last. and_then (conditional_at g r k last) (λ z. Some (g.conditional x.0 y.0 z.0, z.1))))))

-- at most so many more commas
unfoldable pub commas_at : {A : Type 0} → Algebra A → Inner A → ℕ → A → List Token → Found A
commas_at g r zero left ts = Some (left, ts)
commas_at g r (suc k) left ts = choose (behind joint.Comma ts) (Some (left, ts)) (λ next. and_then (conditional_at g r (length next) next) (λ x. commas_at g r k (g.comma left x.0) x.1))

-- a whole expression (6.5.17)
unfoldable pub whole_at : {A : Type 0} → Algebra A → Inner A → List Token → Found A
whole_at g r ts = and_then (conditional_at g r (length ts) ts) (λ x. commas_at g r (length x.1) x.0 x.1)

-- what reads with at most so many nestings
unfoldable pub inner : {A : Type 0} → Algebra A → ℕ → Inner A
inner g zero = record { whole = λ ts. None; operand = λ ts. None }
inner g (suc n) = record { whole = whole_at g (inner g n); operand = operand_at g (inner g n) }

abbrev pub ended : {A : Type 0} → A × List Token → Option A
ended (x, []) = Some x
ended (x, t ∷ ts) = None

-- a constant expression (6.6) of at most 64 nestings, and nothing behind it
unfoldable pub constant_at : {A : Type 0} → Algebra A → List Token → Option A
constant_at g ts = and_then (conditional_at g (inner g 64) (length ts) ts) ended
