-- The order of bytes.
use Rattle.std.proofs.Common.{◌≡◌, ℕ, List, refl, ap, ◌∙◌}
use Rattle.std.specs.Prelude.{Bool, true, false}
use Rattle.std.specs.Cmp.Lexicographic.{slice_cmp}
use Rattle.std.specs.Ordering.{nat_cmp, is_lt, ordering_reverse}
use Rattle.std.specs.declared.cmp.Ordering.{Ordering}
use Rattle.std.specs.declared.cmp.Ordering.TheVariants.{Less, Equal, Greater}
use Rattle.std.proofs.lemmas.Cmp.{nat_list_cmp_total}

abbrev order : List ℕ → List ℕ → Ordering
order = slice_cmp nat_cmp

less_of : (o : Ordering) → is_lt o ≡ true → o ≡ Less
less_of Less h = refl
less_of Equal h = cc
less_of Greater h = cc

itself : (o : Ordering) → o ≡ ordering_reverse o → is_lt o ≡ false
itself Less h = cc
itself Equal h = refl
itself Greater h = refl

pub not_before_itself : (n : List ℕ) → is_lt (slice_cmp nat_cmp n n) ≡ false
not_before_itself n = itself (order n n) (nat_list_cmp_total.antisymm n n)

-- what isn't before f isn't before what is before f
pub not_before_less : (o n f : List ℕ) → is_lt (slice_cmp nat_cmp o f) ≡ false → is_lt (slice_cmp nat_cmp n f) ≡ true → is_lt (slice_cmp nat_cmp o n) ≡ false
not_before_less o n f not less = by (is_lt (order o n)) refl
  where
    by : (b : Bool) → is_lt (order o n) ≡ b → is_lt (order o n) ≡ false
    by false e = e
    by true e =
        let l = nat_list_cmp_total.trans o n f (less_of (order o n) e) (less_of (order n f) less) in
        let yes : is_lt (order o f) ≡ true = ap is_lt l in
        cc

-- what isn't before n isn't before f, which isn't behind n
pub not_before_more : (o n f : List ℕ) → is_lt (slice_cmp nat_cmp o n) ≡ false → is_lt (slice_cmp nat_cmp n f) ≡ false → is_lt (slice_cmp nat_cmp o f) ≡ false
not_before_more o n f not more = by (is_lt (order o f)) refl
  where
    less : is_lt (order o f) ≡ true → (r : Ordering) → order n o ≡ r → ⊥
    less e Less r =
        let l = nat_list_cmp_total.trans n o f r (less_of (order o f) e) in
        let yes : is_lt (order n f) ≡ true = ap is_lt l in
        cc
    less e Equal r =
        let l = nat_list_cmp_total.congr n o f r in
        let yes : is_lt (order n f) ≡ true = ap is_lt l ∙ e in
        cc
    less e Greater r =
        let l : order o n ≡ Less = nat_list_cmp_total.antisymm o n ∙ ap ordering_reverse r in
        let yes : is_lt (order o n) ≡ true = ap is_lt l in
        cc

    by : (b : Bool) → is_lt (order o f) ≡ b → is_lt (order o f) ≡ false
    by false e = e
    by true e = absurd (less e (order n o) refl)
