-- The order of texts is one way or the other.
use Rattle.std.proofs.Common.{◌≡◌, ℕ, List, [], ◌∷◌, refl, arith}
use Rattle.std.specs.declared.cmp.Ordering.{Ordering}
use Rattle.std.specs.declared.cmp.Ordering.TheVariants.{Less, Equal, Greater}
use Rattle.std.specs.Ordering.{nat_cmp, ordering_then, ordering_reverse}
use Rattle.f_value.specs.Texts.{padded_order}

pub nat_cmp-self : (x : ℕ) → nat_cmp x x ≡ Equal
nat_cmp-self x = grind arith

nat_cmp-flip : (x y : ℕ) → nat_cmp y x ≡ ordering_reverse (nat_cmp x y)
nat_cmp-flip x y = grind arith

then_flip : (a b : Ordering) → ordering_then (ordering_reverse a) (ordering_reverse b) ≡ ordering_reverse (ordering_then a b)
then_flip Less b = refl
then_flip Equal b = refl
then_flip Greater b = refl

both : (x y : ℕ) (r q : Ordering) → q ≡ ordering_reverse r → ordering_then (nat_cmp y x) q ≡ ordering_reverse (ordering_then (nat_cmp x y) r)
both x y r q e = rw (nat_cmp-flip x y, e) (then_flip (nat_cmp x y) r)

pub order_self : (s : List ℕ) → padded_order s s ≡ Equal
order_self [] = refl
order_self (x ∷ xs) = rw (nat_cmp-self x) (order_self xs)

pub order_flip : (s t : List ℕ) → padded_order t s ≡ ordering_reverse (padded_order s t)
order_flip [] [] = refl
order_flip [] (y ∷ ys) = both 32 y (padded_order [] ys) (padded_order ys []) (order_flip [] ys)
order_flip (x ∷ xs) [] = both x 32 (padded_order xs []) (padded_order [] xs) (order_flip xs [])
order_flip (x ∷ xs) (y ∷ ys) = both x y (padded_order xs ys) (padded_order ys xs) (order_flip xs ys)
