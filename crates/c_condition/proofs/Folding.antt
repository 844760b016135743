-- What an algebra makes of a tree, and what stands first in tokens.
use Rattle.std.proofs.Common.{◌≡◌, ℕ, zero, suc, ◌<◌, ◌≤◌, Bool, true, false, cond, eqb, List, [], ◌∷◌, Option, Some, None, refl, ap, ◌∙◌, arith, lit≤}
use Rattle.std.proofs.lemmas.Bool.{eqb-true}
use Rattle.std.specs.Prelude.{IfSome}
use Rattle.c_tree.specs.declared.operator.BinaryOperator.{BinaryOperator}
use Rattle.c_tree.specs.declared.operator.BinaryOperator.TheVariants as op
use Rattle.c_token.specs.declared.mark.Mark.{Mark}
use Rattle.c_token.specs.declared.mark.Mark.TheVariants as mark
use Rattle.c_condition.specs.declared.token.Token.{Token}
use Rattle.c_condition.specs.declared.token.Token.TheVariants as token
use Rattle.c_condition.specs.declared.outcome.UnaryOperator.{UnaryOperator}
use Rattle.c_condition.specs.declared.outcome.UnaryOperator.TheVariants as sign
use Rattle.c_condition.specs.declared.marks.Opening.{Opening}
use Rattle.c_condition.specs.declared.marks.Opening.TheVariants as opening
use Rattle.c_condition.specs.declared.marks.Joint.{Joint}
use Rattle.c_condition.specs.declared.marks.Joint.TheVariants as joint
use Rattle.c_condition.specs.Grammar.{Expr, Constant, Name, Paren, Unary, Binary, Conditional, Comma, binary_mark, unary_mark, binary_height, Fits, outcome}
use Rattle.c_condition.specs.Reading.{choose, and_then, opening_of, joint_of, joint_at, picked, infix_at, is_joint, behind, Algebra, values}

-- what the algebra makes of a tree
abbrev pub fold : {A : Type 0} → Algebra A → Expr → A
fold g (Constant n) = g.constant n
fold g Name = g.name
fold g (Paren e) = g.paren (fold g e)
fold g (Unary o e) = g.unary o (fold g e)
fold g (Binary o left right) = g.binary o (fold g left) (fold g right)
fold g (Conditional first second third) = g.conditional (fold g first) (fold g second) (fold g third)
fold g (Comma left right) = g.comma (fold g left) (fold g right)

-- trees themselves are an algebra
abbrev pub trees : Algebra Expr
trees = record { constant = Constant; name = Name; paren = Paren; unary = Unary; binary = Binary; conditional = Conditional; comma = Comma }

pub fold_trees : (e : Expr) → fold trees e ≡ e
fold_trees (Constant n) = refl
fold_trees Name = refl
fold_trees (Paren e) = ap Paren (fold_trees e)
fold_trees (Unary o e) = ap (Unary o) (fold_trees e)
fold_trees (Binary o left right) = ap (λ l. Binary o l (fold trees right)) (fold_trees left) ∙ ap (Binary o left) (fold_trees right)
fold_trees (Conditional first second third) = ap (λ f. Conditional f (fold trees second) (fold trees third)) (fold_trees first)
    ∙ ap (λ s. Conditional first s (fold trees third)) (fold_trees second) ∙ ap (Conditional first second) (fold_trees third)
fold_trees (Comma left right) = ap (λ l. Comma l (fold trees right)) (fold_trees left) ∙ ap (Comma left) (fold_trees right)

pub fold_values : (e : Expr) → fold values e ≡ outcome e
fold_values (Constant n) = refl
fold_values Name = refl
fold_values (Paren e) = fold_values e
fold_values (Unary o e) = ap (values.unary o) (fold_values e)
fold_values (Binary o left right) = ap (λ l. values.binary o l (fold values right)) (fold_values left) ∙ ap (values.binary o (outcome left)) (fold_values right)
fold_values (Conditional first second third) = ap (λ f. values.conditional f (fold values second) (fold values third)) (fold_values first)
    ∙ ap (λ s. values.conditional (outcome first) s (fold values third)) (fold_values second) ∙ ap (values.conditional (outcome first) (outcome second)) (fold_values third)
fold_values (Comma left right) = ap (λ l. values.comma l (fold values right)) (fold_values left) ∙ ap (values.comma (outcome left)) (fold_values right)

-- ---- nested parts

abbrev pub Within : ℕ → Expr → Type 0
Within zero e = ⊥
Within (suc n) e = Fits n e

-- ---- steps

pub then_some : {A B : Type 0} (o : Option A) (f : A → Option B) (P : A → Type 0) (Q : B → Type 0) → IfSome o P → ((x : A) → P x → IfSome (f x) Q) → IfSome (and_then o f) Q
then_some None f P Q p g = tt
then_some (Some x) f P Q p g = g x p

pub chosen_some : {A B : Type 0} (o : Option A) (none : Option B) (some : A → Option B) (P : A → Type 0) (Q : B → Type 0) → IfSome o P → IfSome none Q → ((x : A) → P x → IfSome (some x) Q) → IfSome (choose o none some) Q
chosen_some None o some P Q p n s = n
chosen_some (Some x) o some P Q p n s = s x p

-- ---- what stands first

abbrev pub mark_of : Joint → Mark
mark_of (joint.Infix o) = binary_mark o
mark_of joint.Question = mark.Question
mark_of joint.Colon = mark.Colon
mark_of joint.Comma = mark.Comma
mark_of joint.Close = mark.Close
mark_of joint.Nothing = mark.Semicolon

abbrev IsMark : Mark → Joint → Type 0
IsMark m joint.Nothing = Unit {0}
IsMark m j = m ≡ mark_of j

mark_sound : (m : Mark) → IsMark m (joint_of m)
mark_sound mark.Star = refl
mark_sound mark.Slash = refl
mark_sound mark.Percent = refl
mark_sound mark.Plus = refl
mark_sound mark.Minus = refl
mark_sound mark.ShiftLeft = refl
mark_sound mark.ShiftRight = refl
mark_sound mark.Less = refl
mark_sound mark.Greater = refl
mark_sound mark.LessEqual = refl
mark_sound mark.GreaterEqual = refl
mark_sound mark.Equal = refl
mark_sound mark.NotEqual = refl
mark_sound mark.Ampersand = refl
mark_sound mark.Caret = refl
mark_sound mark.Bar = refl
mark_sound mark.AndAnd = refl
mark_sound mark.OrOr = refl
mark_sound mark.Question = refl
mark_sound mark.Colon = refl
mark_sound mark.Comma = refl
mark_sound mark.Close = refl
mark_sound _ = tt

abbrev IsFirst : List Token → Joint × List Token → Type 0
IsFirst ts (joint.Nothing, rest) = Unit {0}
IsFirst ts (j, rest) = ts ≡ token.Mark (mark_of j) ∷ rest

first_sound : (ts : List Token) → IsFirst ts (joint_at ts)
unfolding joint_at
first_sound [] = tt
first_sound (token.Number n ∷ ts) = tt
first_sound (token.Name ∷ ts) = tt
first_sound (token.Other ∷ ts) = tt
first_sound (token.Mark m ∷ ts) = go (joint_of m) (mark_sound m)
  where
    go : (j : Joint) → IsMark m j → IsFirst (token.Mark m ∷ ts) (j, ts)
    go (joint.Infix o) e = ap (λ x. token.Mark x ∷ ts) e
    go joint.Question e = ap (λ x. token.Mark x ∷ ts) e
    go joint.Colon e = ap (λ x. token.Mark x ∷ ts) e
    go joint.Comma e = ap (λ x. token.Mark x ∷ ts) e
    go joint.Close e = ap (λ x. token.Mark x ∷ ts) e
    go joint.Nothing e = tt

pub infix_sound : (h : ℕ) (ts : List Token) → IfSome (infix_at h ts) (λ x. (ts ≡ token.Mark (binary_mark x.0) ∷ x.1) × (binary_height x.0 ≡ h))
unfolding infix_at
infix_sound h ts = go (joint_at ts) (first_sound ts)
  where
    P : BinaryOperator × List Token → Type 0
    P x = (ts ≡ token.Mark (binary_mark x.0) ∷ x.1) × (binary_height x.0 ≡ h)

    go : (x : Joint × List Token) → IsFirst ts x → IfSome (picked h x) P
    go (joint.Infix o, rest) e = test (eqb (binary_height o) h) refl
      where
        test : (b : Bool) → eqb (binary_height o) h ≡ b → IfSome (cond b (Some (o, rest)) None) P
        test true f = (e, eqb-true (binary_height o) h f)
        test false f = tt
    go (joint.Question, rest) e = tt
    go (joint.Colon, rest) e = tt
    go (joint.Comma, rest) e = tt
    go (joint.Close, rest) e = tt
    go (joint.Nothing, rest) e = tt

pub behind_sound : (w : Joint) (ts : List Token) → IfSome (behind w ts) (λ rest. ts ≡ token.Mark (mark_of w) ∷ rest)
unfolding behind
behind_sound w ts = go (joint_at ts) (first_sound ts) w
  where
    go : (x : Joint × List Token) → IsFirst ts x → (w : Joint) → IfSome (cond (is_joint x.0 w) (Some x.1) None) (λ rest. ts ≡ token.Mark (mark_of w) ∷ rest)
    go (joint.Question, rest) e joint.Question = e
    go (joint.Colon, rest) e joint.Colon = e
    go (joint.Comma, rest) e joint.Comma = e
    go (joint.Close, rest) e joint.Close = e
    go _ e _ = tt

-- ---- and the other way

pub infix_taken : (o : BinaryOperator) (ts : List Token) → infix_at (binary_height o) (token.Mark (binary_mark o) ∷ ts) ≡ Some (o, ts)
unfolding infix_at joint_at
infix_taken op.Times ts = refl
infix_taken op.Over ts = refl
infix_taken op.Remainder ts = refl
infix_taken op.Plus ts = refl
infix_taken op.Minus ts = refl
infix_taken op.ShiftLeft ts = refl
infix_taken op.ShiftRight ts = refl
infix_taken op.Less ts = refl
infix_taken op.Greater ts = refl
infix_taken op.LessEqual ts = refl
infix_taken op.GreaterEqual ts = refl
infix_taken op.Equal ts = refl
infix_taken op.NotEqual ts = refl
infix_taken op.BitAnd ts = refl
infix_taken op.BitXor ts = refl
infix_taken op.BitOr ts = refl
infix_taken op.And ts = refl
infix_taken op.Or ts = refl

-- no joint up to this height
abbrev pub Quiet : ℕ → Joint → Type 0
Quiet h (joint.Infix o) = h < binary_height o
Quiet h joint.Question = h < 11
Quiet h joint.Comma = h < 12
Quiet h _ = Unit {0}

-- what follows doesn't go on with an expression of this height
abbrev pub Stops : ℕ → List Token → Type 0
Stops h ts = Quiet h (joint_at ts).0

pub stops_lower : (h k : ℕ) (ts : List Token) → k ≤ h → Stops h ts → Stops k ts
stops_lower h k ts l s = go (joint_at ts).0 s
  where
    go : (j : Joint) → Quiet h j → Quiet k j
    go (joint.Infix o) q = omega (arith, q)
    go joint.Question q = omega (arith, q)
    go joint.Comma q = omega (arith, q)
    go joint.Colon q = tt
    go joint.Close q = tt
    go joint.Nothing q = tt

pub infix_none : (h : ℕ) (ts : List Token) → Stops h ts → infix_at h ts ≡ None
unfolding infix_at
infix_none h ts s = go (joint_at ts) s
  where
    unequal : (o : BinaryOperator) → h < binary_height o → eqb (binary_height o) h ≡ false
    unequal o q = grind (arith)

    go : (x : Joint × List Token) → Quiet h x.0 → picked h x ≡ None
    go (joint.Infix o, rest) q = ap (λ b. cond b (Some (o, rest)) None) (unequal o q)
    go (joint.Question, rest) q = refl
    go (joint.Colon, rest) q = refl
    go (joint.Comma, rest) q = refl
    go (joint.Close, rest) q = refl
    go (joint.Nothing, rest) q = refl

pub question_none : (ts : List Token) → Stops 11 ts → behind joint.Question ts ≡ None
unfolding behind
question_none ts s = go (joint_at ts) s
  where
    go : (x : Joint × List Token) → Quiet 11 x.0 → cond (is_joint x.0 joint.Question) (Some x.1) None ≡ None
    go (joint.Question, rest) q = absurd (omega (arith, q))
    go (joint.Infix o, rest) q = refl
    go (joint.Colon, rest) q = refl
    go (joint.Comma, rest) q = refl
    go (joint.Close, rest) q = refl
    go (joint.Nothing, rest) q = refl

pub comma_none : (ts : List Token) → Stops 12 ts → behind joint.Comma ts ≡ None
unfolding behind
comma_none ts s = go (joint_at ts) s
  where
    go : (x : Joint × List Token) → Quiet 12 x.0 → cond (is_joint x.0 joint.Comma) (Some x.1) None ≡ None
    go (joint.Comma, rest) q = absurd (omega (arith, q))
    go (joint.Infix o, rest) q = refl
    go (joint.Colon, rest) q = refl
    go (joint.Question, rest) q = refl
    go (joint.Close, rest) q = refl
    go (joint.Nothing, rest) q = refl

-- an operator stops what is lower
pub stops_infix : (h : ℕ) (o : BinaryOperator) (ts : List Token) → h < binary_height o → Stops h (token.Mark (binary_mark o) ∷ ts)
unfolding joint_at
stops_infix h op.Times ts l = l
stops_infix h op.Over ts l = l
stops_infix h op.Remainder ts l = l
stops_infix h op.Plus ts l = l
stops_infix h op.Minus ts l = l
stops_infix h op.ShiftLeft ts l = l
stops_infix h op.ShiftRight ts l = l
stops_infix h op.Less ts l = l
stops_infix h op.Greater ts l = l
stops_infix h op.LessEqual ts l = l
stops_infix h op.GreaterEqual ts l = l
stops_infix h op.Equal ts l = l
stops_infix h op.NotEqual ts l = l
stops_infix h op.BitAnd ts l = l
stops_infix h op.BitXor ts l = l
stops_infix h op.BitOr ts l = l
stops_infix h op.And ts l = l
stops_infix h op.Or ts l = l

-- ---- what stands before operands

abbrev pub IsOpening : Mark → Opening → Type 0
IsOpening m opening.Parenthesis = m ≡ mark.Open
IsOpening m (opening.Sign o) = m ≡ unary_mark o
IsOpening m opening.Nothing = Unit {0}

pub opening_sound : (m : Mark) → IsOpening m (opening_of m)
opening_sound mark.Open = refl
opening_sound mark.Plus = refl
opening_sound mark.Minus = refl
opening_sound mark.Tilde = refl
opening_sound mark.Exclamation = refl
opening_sound _ = tt

pub opening_taken : (o : UnaryOperator) → opening_of (unary_mark o) ≡ opening.Sign o
opening_taken sign.Plus = refl
opening_taken sign.Minus = refl
opening_taken sign.Complement = refl
opening_taken sign.Not = refl

pub height_positive : (o : BinaryOperator) → 1 ≤ binary_height o
height_positive op.Times = lit≤ tt
height_positive op.Over = lit≤ tt
height_positive op.Remainder = lit≤ tt
height_positive op.Plus = lit≤ tt
height_positive op.Minus = lit≤ tt
height_positive op.ShiftLeft = lit≤ tt
height_positive op.ShiftRight = lit≤ tt
height_positive op.Less = lit≤ tt
height_positive op.Greater = lit≤ tt
height_positive op.LessEqual = lit≤ tt
height_positive op.GreaterEqual = lit≤ tt
height_positive op.Equal = lit≤ tt
height_positive op.NotEqual = lit≤ tt
height_positive op.BitAnd = lit≤ tt
height_positive op.BitXor = lit≤ tt
height_positive op.BitOr = lit≤ tt
height_positive op.And = lit≤ tt
height_positive op.Or = lit≤ tt

pub height_most : (o : BinaryOperator) → binary_height o ≤ 10
height_most op.Times = lit≤ tt
height_most op.Over = lit≤ tt
height_most op.Remainder = lit≤ tt
height_most op.Plus = lit≤ tt
height_most op.Minus = lit≤ tt
height_most op.ShiftLeft = lit≤ tt
height_most op.ShiftRight = lit≤ tt
height_most op.Less = lit≤ tt
height_most op.Greater = lit≤ tt
height_most op.LessEqual = lit≤ tt
height_most op.GreaterEqual = lit≤ tt
height_most op.Equal = lit≤ tt
height_most op.NotEqual = lit≤ tt
height_most op.BitAnd = lit≤ tt
height_most op.BitXor = lit≤ tt
height_most op.BitOr = lit≤ tt
height_most op.And = lit≤ tt
height_most op.Or = lit≤ tt
