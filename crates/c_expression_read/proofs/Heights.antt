-- Which joint a token begins, by its height.
use Rattle.std.proofs.Common.{◌≡◌, ◌≤◌, lit≤, ℕ, zero, suc, Bool, true, false, cond, eqb, List, [], ◌∷◌, Option, Some, None, refl, sym, ap, ◌∙◌, arith}
use Rattle.std.proofs.lemmas.Bool.{eqb-true, eq-eqb}
use Rattle.c_tree.specs.declared.operator.BinaryOperator.{BinaryOperator}
use Rattle.c_tree.specs.declared.operator.BinaryOperator.TheVariants as op
use Rattle.c_tree.specs.declared.operator.AssignOperator.{AssignOperator}
use Rattle.c_tree.specs.declared.operator.Height.{Height}
use Rattle.c_tree.specs.declared.operator.Height.TheVariants as h
use Rattle.c_tree.specs.Heights.{height_of, rank, tighter}
use Rattle.c_grammar.specs.declared.token.Token.{Token}
use Rattle.c_grammar.specs.Grammar.{Expr, Sort, OfInfix, OfChoice, OfAssign, OfComma, sort_of, infix_height, is_unary}
use Rattle.c_grammar.specs.Reading.{link_at, picked}
use Rattle.c_expression_read.specs.Gives.{infix_of, assign_of}

-- the height of an operator is the number of its production
pub infix-rank : (o : BinaryOperator) → infix_height o ≡ suc (rank (height_of o))
infix-rank op.Times = refl
infix-rank op.Over = refl
infix-rank op.Remainder = refl
infix-rank op.Plus = refl
infix-rank op.Minus = refl
infix-rank op.ShiftLeft = refl
infix-rank op.ShiftRight = refl
infix-rank op.Less = refl
infix-rank op.Greater = refl
infix-rank op.LessEqual = refl
infix-rank op.GreaterEqual = refl
infix-rank op.Equal = refl
infix-rank op.NotEqual = refl
infix-rank op.BitAnd = refl
infix-rank op.BitXor = refl
infix-rank op.BitOr = refl
infix-rank op.And = refl
infix-rank op.Or = refl

height_at : ℕ → Height
height_at zero = h.Multiplicative
height_at (suc zero) = h.Additive
height_at (suc (suc zero)) = h.Shift
height_at (suc (suc (suc zero))) = h.Relational
height_at (suc (suc (suc (suc zero)))) = h.Equality
height_at (suc (suc (suc (suc (suc zero))))) = h.BitAnd
height_at (suc (suc (suc (suc (suc (suc zero)))))) = h.BitXor
height_at (suc (suc (suc (suc (suc (suc (suc zero))))))) = h.BitOr
height_at (suc (suc (suc (suc (suc (suc (suc (suc zero)))))))) = h.And
height_at (suc (suc (suc (suc (suc (suc (suc (suc (suc n))))))))) = h.Or

height_at-rank : (k : Height) → height_at (rank k) ≡ k
unfolding height_at
height_at-rank h.Multiplicative = refl
height_at-rank h.Additive = refl
height_at-rank h.Shift = refl
height_at-rank h.Relational = refl
height_at-rank h.Equality = refl
height_at-rank h.BitAnd = refl
height_at-rank h.BitXor = refl
height_at-rank h.BitOr = refl
height_at-rank h.And = refl
height_at-rank h.Or = refl

pub same_rank : (j k : Height) → rank j ≡ rank k → j ≡ k
same_rank j k e = sym (height_at-rank j) ∙ ap height_at e ∙ height_at-rank k

pub rank-low : (k : Height) → rank k ≡ 11 → ⊥
rank-low k e = let le : rank k ≤ 9 = at_most k in omega (arith, e, le)
  where
    at_most : (k : Height) → rank k ≤ 9
    at_most h.Multiplicative = lit≤ tt
    at_most h.Additive = lit≤ tt
    at_most h.Shift = lit≤ tt
    at_most h.Relational = lit≤ tt
    at_most h.Equality = lit≤ tt
    at_most h.BitAnd = lit≤ tt
    at_most h.BitXor = lit≤ tt
    at_most h.BitOr = lit≤ tt
    at_most h.And = lit≤ tt
    at_most h.Or = lit≤ tt

pub not-eleven-10 : ◌≡◌ {A = ℕ} 10 11 → ⊥
not-eleven-10 e = omega (arith, e)

pub not-eleven-12 : ◌≡◌ {A = ℕ} 12 11 → ⊥
not-eleven-12 e = omega (arith, e)

-- ---- the left operand matters to an assignment alone

ne-eqb : (a b : ℕ) → (a ≡ b → ⊥) → eqb a b ≡ false
ne-eqb a b ne = at (eqb a b) refl
  where
    at : (t : Bool) → eqb a b ≡ t → eqb a b ≡ false
    at false e = e
    at true e = absurd (ne (eqb-true a b e))

picked_any : (n : ℕ) (left other : Expr) (ts : List Token) (o : Option Sort) → (n ≡ 11 → ⊥) → picked n left ts o ≡ picked n other ts o
unfolding picked
picked_any n left other ts None ne = refl
picked_any n left other ts (Some (OfInfix o)) ne = refl
picked_any n left other ts (Some OfChoice) ne = refl
picked_any n left other ts (Some OfComma) ne = refl
picked_any n left other ts (Some (OfAssign o)) ne =
    let f : eqb 12 (suc n) ≡ false = ne-eqb 12 (suc n) (λ e. ne (omega (arith, e))) in
    rw f refl

pub link_any : (n : ℕ) (left other : Expr) (ts : List Token) → (n ≡ 11 → ⊥) → link_at n left ts ≡ link_at n other ts
unfolding link_at
link_any n left other [] ne = refl
link_any n left other (t ∷ ts) ne = picked_any n left other ts (sort_of t) ne

-- ---- binary operators

picked-infix : (k : Height) (left : Expr) (ts : List Token) (o : BinaryOperator) (b : Bool) → eqb (infix_height o) (suc (rank k)) ≡ b → picked (rank k) left ts (Some (OfInfix o)) ≡ cond b (Some (OfInfix o, ts)) None
unfolding picked
picked-infix k left ts o true e = rw e refl
picked-infix k left ts o false e = rw e refl

pub binary_found : (k : Height) (left : Expr) (ts : List Token) (t : Token) (o : BinaryOperator) → infix_of (sort_of t) ≡ Some o → height_of o ≡ k → link_at (rank k) left (t ∷ ts) ≡ Some (OfInfix o, ts)
unfolding link_at
binary_found k left ts t o e same = is (sort_of t) e
  where
    level : infix_height o ≡ suc (rank k)
    level = infix-rank o ∙ ap (λ j. suc (rank j)) same

    is : (s : Option Sort) → infix_of s ≡ Some o → picked (rank k) left ts s ≡ Some (OfInfix o, ts)
    is None q = absurd cc
    is (Some OfChoice) q = absurd cc
    is (Some (OfAssign a)) q = absurd cc
    is (Some OfComma) q = absurd cc
    is (Some (OfInfix p)) q =
        let same : p ≡ o = cc in
        ap (λ (x : BinaryOperator). picked (rank k) left ts (Some (OfInfix x))) same ∙ picked-infix k left ts o true (eq-eqb (infix_height o) (suc (rank k)) level)

pub binary_other : (k : Height) (left : Expr) (ts : List Token) (t : Token) (o : BinaryOperator) → infix_of (sort_of t) ≡ Some o → (height_of o ≡ k → ⊥) → link_at (rank k) left (t ∷ ts) ≡ None
unfolding link_at
binary_other k left ts t o e other = is (sort_of t) e
  where
    apart : infix_height o ≡ suc (rank k) → ⊥
    apart q = other (same_rank (height_of o) k (omega (arith, q, infix-rank o)))

    is : (s : Option Sort) → infix_of s ≡ Some o → picked (rank k) left ts s ≡ None
    is None q = absurd cc
    is (Some OfChoice) q = absurd cc
    is (Some (OfAssign a)) q = absurd cc
    is (Some OfComma) q = absurd cc
    is (Some (OfInfix p)) q =
        let same : p ≡ o = cc in
        ap (λ (x : BinaryOperator). picked (rank k) left ts (Some (OfInfix x))) same ∙ picked-infix k left ts o false (ne-eqb (infix_height o) (suc (rank k)) apart)

pub binary_found_by : (k : Height) (left : Expr) (ts : List Token) (t : Token) (o : BinaryOperator) → infix_of (sort_of t) ≡ Some o → eqb (rank (height_of o)) (rank k) ≡ true → link_at (rank k) left (t ∷ ts) ≡ Some (OfInfix o, ts)
binary_found_by k left ts t o e b = binary_found k left ts t o e (same_rank (height_of o) k (eqb-true (rank (height_of o)) (rank k) b))

pub binary_other_by : (k : Height) (left : Expr) (ts : List Token) (t : Token) (o : BinaryOperator) → infix_of (sort_of t) ≡ Some o → eqb (rank (height_of o)) (rank k) ≡ false → link_at (rank k) left (t ∷ ts) ≡ None
binary_other_by k left ts t o e b = binary_other k left ts t o e (λ same. apart same b)
  where
    apart : height_of o ≡ k → eqb (rank (height_of o)) (rank k) ≡ false → ⊥
    apart same b = let t : eqb (rank (height_of o)) (rank k) ≡ true = eq-eqb (rank (height_of o)) (rank k) (ap rank same) in absurd cc

pub binary_none : (k : Height) (left : Expr) (ts : List Token) (t : Token) → infix_of (sort_of t) ≡ None → link_at (rank k) left (t ∷ ts) ≡ None
unfolding link_at picked
binary_none k left ts t e = is k (sort_of t) e
  where
    is : (k : Height) (s : Option Sort) → infix_of s ≡ None → picked (rank k) left ts s ≡ None
    is k None q = refl
    is k (Some (OfInfix o)) q = absurd cc
    is h.Multiplicative (Some OfChoice) q = refl
    is h.Additive (Some OfChoice) q = refl
    is h.Shift (Some OfChoice) q = refl
    is h.Relational (Some OfChoice) q = refl
    is h.Equality (Some OfChoice) q = refl
    is h.BitAnd (Some OfChoice) q = refl
    is h.BitXor (Some OfChoice) q = refl
    is h.BitOr (Some OfChoice) q = refl
    is h.And (Some OfChoice) q = refl
    is h.Or (Some OfChoice) q = refl
    is h.Multiplicative (Some (OfAssign a)) q = refl
    is h.Additive (Some (OfAssign a)) q = refl
    is h.Shift (Some (OfAssign a)) q = refl
    is h.Relational (Some (OfAssign a)) q = refl
    is h.Equality (Some (OfAssign a)) q = refl
    is h.BitAnd (Some (OfAssign a)) q = refl
    is h.BitXor (Some (OfAssign a)) q = refl
    is h.BitOr (Some (OfAssign a)) q = refl
    is h.And (Some (OfAssign a)) q = refl
    is h.Or (Some (OfAssign a)) q = refl
    is h.Multiplicative (Some OfComma) q = refl
    is h.Additive (Some OfComma) q = refl
    is h.Shift (Some OfComma) q = refl
    is h.Relational (Some OfComma) q = refl
    is h.Equality (Some OfComma) q = refl
    is h.BitAnd (Some OfComma) q = refl
    is h.BitXor (Some OfComma) q = refl
    is h.BitOr (Some OfComma) q = refl
    is h.And (Some OfComma) q = refl
    is h.Or (Some OfComma) q = refl

-- ---- assignments

pub assign_found : (left : Expr) (ts : List Token) (t : Token) (o : AssignOperator) → assign_of (sort_of t) ≡ Some o → is_unary left ≡ true → link_at 11 left (t ∷ ts) ≡ Some (OfAssign o, ts)
unfolding link_at picked
assign_found left ts t o e u = is (sort_of t) e
  where
    is : (s : Option Sort) → assign_of s ≡ Some o → picked 11 left ts s ≡ Some (OfAssign o, ts)
    is None q = absurd cc
    is (Some OfChoice) q = absurd cc
    is (Some (OfInfix a)) q = absurd cc
    is (Some OfComma) q = absurd cc
    is (Some (OfAssign p)) q =
        let same : p ≡ o = cc in
        rw u (ap (λ (x : AssignOperator). Some (OfAssign x, ts)) same)

pub assign_other : (left : Expr) (ts : List Token) (t : Token) (o : AssignOperator) → assign_of (sort_of t) ≡ Some o → is_unary left ≡ false → link_at 11 left (t ∷ ts) ≡ None
unfolding link_at picked
assign_other left ts t o e u = is (sort_of t) e
  where
    is : (s : Option Sort) → assign_of s ≡ Some o → picked 11 left ts s ≡ None
    is None q = absurd cc
    is (Some OfChoice) q = absurd cc
    is (Some (OfInfix a)) q = absurd cc
    is (Some OfComma) q = absurd cc
    is (Some (OfAssign p)) q = rw u refl

pub assign_none : (left : Expr) (ts : List Token) (t : Token) → assign_of (sort_of t) ≡ None → link_at 11 left (t ∷ ts) ≡ None
unfolding link_at picked
assign_none left ts t e = is (sort_of t) e
  where
    at_infix : (o : BinaryOperator) → picked 11 left ts (Some (OfInfix o)) ≡ None
    at_infix op.Times = refl
    at_infix op.Over = refl
    at_infix op.Remainder = refl
    at_infix op.Plus = refl
    at_infix op.Minus = refl
    at_infix op.ShiftLeft = refl
    at_infix op.ShiftRight = refl
    at_infix op.Less = refl
    at_infix op.Greater = refl
    at_infix op.LessEqual = refl
    at_infix op.GreaterEqual = refl
    at_infix op.Equal = refl
    at_infix op.NotEqual = refl
    at_infix op.BitAnd = refl
    at_infix op.BitXor = refl
    at_infix op.BitOr = refl
    at_infix op.And = refl
    at_infix op.Or = refl

    is : (s : Option Sort) → assign_of s ≡ None → picked 11 left ts s ≡ None
    is None q = refl
    is (Some OfChoice) q = refl
    is (Some OfComma) q = refl
    is (Some (OfInfix o)) q = at_infix o
    is (Some (OfAssign o)) q = absurd cc

-- ---- the height that binds next tighter

only : (i j : Height) → Some i ≡ Some j → i ≡ j
only i j e = cc

pub rank-tighter : (k j : Height) → tighter k ≡ Some j → rank k ≡ suc (rank j)
rank-tighter h.Multiplicative j e = absurd cc
rank-tighter h.Additive j e = ap (λ (i : Height). suc (rank i)) (only h.Multiplicative j e)
rank-tighter h.Shift j e = ap (λ (i : Height). suc (rank i)) (only h.Additive j e)
rank-tighter h.Relational j e = ap (λ (i : Height). suc (rank i)) (only h.Shift j e)
rank-tighter h.Equality j e = ap (λ (i : Height). suc (rank i)) (only h.Relational j e)
rank-tighter h.BitAnd j e = ap (λ (i : Height). suc (rank i)) (only h.Equality j e)
rank-tighter h.BitXor j e = ap (λ (i : Height). suc (rank i)) (only h.BitAnd j e)
rank-tighter h.BitOr j e = ap (λ (i : Height). suc (rank i)) (only h.BitXor j e)
rank-tighter h.And j e = ap (λ (i : Height). suc (rank i)) (only h.BitOr j e)
rank-tighter h.Or j e = ap (λ (i : Height). suc (rank i)) (only h.And j e)
