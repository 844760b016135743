-- Operators on CHARACTER operands (10.1.5.3.1 and 10.1.5.5.1).
use Rattle.std.specs.Prelude.{ℕ, zero, suc, Option, Some, None, List, [], ◌∷◌, ◌++◌}
use Rattle.std.specs.declared.cmp.Ordering.{Ordering}
use Rattle.std.specs.declared.cmp.Ordering.TheVariants.{Equal}
use Rattle.std.specs.Ordering.{is_eq, is_ge, is_gt, is_le, is_lt, is_ne, nat_cmp, ordering_then}
use Rattle.f_value.specs.declared.value.Did.{Did}
use Rattle.f_value.specs.declared.value.Did.TheVariants.{Done}
use Rattle.f_value.specs.declared.value.FOp.{FOp}
use Rattle.f_value.specs.declared.value.FOp.TheVariants as op
use Rattle.f_value.specs.declared.value.FValue.{FValue}
use Rattle.f_value.specs.declared.value.FValue.TheVariants.{Text}
use Rattle.f_value.specs.Values.{truth}

-- the order of two texts by their bytes from the left, the shorter one with blanks behind it
abbrev pub padded_order : List ℕ → List ℕ → Ordering
padded_order [] [] = Equal
padded_order [] (y ∷ ys) = ordering_then (nat_cmp 32 y) (padded_order [] ys)
padded_order (x ∷ xs) [] = ordering_then (nat_cmp x 32) (padded_order xs [])
padded_order (x ∷ xs) (y ∷ ys) = ordering_then (nat_cmp x y) (padded_order xs ys)

-- a text with blanks behind it, to a length
abbrev pub padded : ℕ → List ℕ → List ℕ
padded zero s = s
padded (suc n) [] = 32 ∷ padded n []
padded (suc n) (x ∷ xs) = x ∷ padded n xs

-- two texts by an operator; None where the operator isn't one of texts
abbrev pub text_of : FOp → List ℕ → List ℕ → Option (Did FValue)
text_of op.Concat s t = Some (Done (Text (s ++ t)))
text_of op.Equal s t = Some (truth (is_eq (padded_order s t)))
text_of op.Unequal s t = Some (truth (is_ne (padded_order s t)))
text_of op.Less s t = Some (truth (is_lt (padded_order s t)))
text_of op.LessEqual s t = Some (truth (is_le (padded_order s t)))
text_of op.Greater s t = Some (truth (is_gt (padded_order s t)))
text_of op.GreaterEqual s t = Some (truth (is_ge (padded_order s t)))
text_of _ s t = None
