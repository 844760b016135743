-- The order of texts is that of texts with blanks behind them, and so a total order.
use Rattle.std.proofs.Common.{◌≡◌, ℕ, suc, zero, ◌+◌, ◌≤◌, ◌&&◌, ◌==◌, ◌⊎◌, inl, inr, ◌↔◌, Bool, true, false, if◌then◌else◌, List, [], ◌∷◌, take, length, Some, refl, ap, sym, ◌∙◌, arith}
use Rattle.std.specs.Cmp.{IsTotalOrder}
use Rattle.std.specs.Cmp.Lexicographic.{slice_cmp}
use Rattle.std.specs.declared.cmp.Ordering.{Ordering}
use Rattle.std.specs.declared.cmp.Ordering.TheVariants.{Less, Equal, Greater}
use Rattle.std.specs.Ordering.{is_eq, is_le, is_lt, nat_cmp, ordering_then, ordering_reverse}
use Rattle.std.proofs.lemmas.Cmp.{nat_list_cmp_total, tied_itself}
use Rattle.f_value.specs.declared.value.FOp.TheVariants as op
use Rattle.f_value.specs.declared.value.FValue.TheVariants.{Text}
use Rattle.f_value.specs.Answers.{Holds}
use Rattle.f_value.specs.Intrinsics.{len_trim, trimmed}
use Rattle.f_value.specs.Texts.{padded, padded_order}
use Rattle.f_value.specs.Values.{truth}
use Rattle.f_value.proofs.OrderLaws.{nat_cmp-self, order_flip}

pub order-padded : (n : ℕ) (s t : List ℕ) → length s ≤ n → length t ≤ n → padded_order s t ≡ slice_cmp nat_cmp (padded n s) (padded n t)
order-padded n [] [] h k = sym (tied_itself nat_list_cmp_total (padded n []))
order-padded zero [] (y ∷ ys) h k = absurd (omega arith)
order-padded (suc n) [] (y ∷ ys) h k = ap (ordering_then (nat_cmp 32 y)) (order-padded n [] ys (omega arith) (omega arith))
order-padded zero (x ∷ xs) [] h k = absurd (omega arith)
order-padded (suc n) (x ∷ xs) [] h k = ap (ordering_then (nat_cmp x 32)) (order-padded n xs [] (omega arith) (omega arith))
order-padded zero (x ∷ xs) (y ∷ ys) h k = absurd (omega arith)
order-padded (suc n) (x ∷ xs) (y ∷ ys) h k = ap (ordering_then (nat_cmp x y)) (order-padded n xs ys (omega arith) (omega arith))

order_goes_on : (s t u : List ℕ) → padded_order s t ≡ Less → padded_order t u ≡ Less → padded_order s u ≡ Less
order_goes_on s t u p q =
    let n : ℕ = length s + length t + length u in
    order-padded (length s + length t + length u) s u (omega arith) (omega arith)
    ∙ nat_list_cmp_total.trans (padded (length s + length t + length u) s) (padded (length s + length t + length u) t) (padded (length s + length t + length u) u)
    (sym (order-padded (length s + length t + length u) s t (omega arith) (omega arith)) ∙ p)
    (sym (order-padded (length s + length t + length u) t u (omega arith) (omega arith)) ∙ q)

order_same : (s t u : List ℕ) → padded_order s t ≡ Equal → padded_order s u ≡ padded_order t u
order_same s t u p =
    order-padded (length s + length t + length u) s u (omega arith) (omega arith)
    ∙ nat_list_cmp_total.congr (padded (length s + length t + length u) s) (padded (length s + length t + length u) t) (padded (length s + length t + length u) u)
    (sym (order-padded (length s + length t + length u) s t (omega arith) (omega arith)) ∙ p)
    ∙ sym (order-padded (length s + length t + length u) t u (omega arith) (omega arith))

pub order_total : IsTotalOrder padded_order
order_total = record { antisymm = λ s t. order_flip t s; trans = order_goes_on; congr = order_same }

shown : (b : Bool) → Some (truth b) ≡ Some (truth true) → b ≡ true
shown true e = refl
shown false e = absurd (cc)

show : (b : Bool) → b ≡ true → Some (truth b) ≡ Some (truth true)
show b e = rw e refl

one_or_other : (o : Ordering) → (is_le o ≡ true) ⊎ (is_le (ordering_reverse o) ≡ true)
one_or_other Less = inl refl
one_or_other Equal = inl refl
one_or_other Greater = inr refl

pub one_way : (s t : List ℕ) → Holds op.LessEqual (Text s) (Text t) ⊎ Holds op.LessEqual (Text t) (Text s)
one_way s t = elim (one_or_other (padded_order s t)) [
  | inl p ↦ inl (show (is_le (padded_order s t)) p)
  | inr p ↦ inr (show (is_le (padded_order t s)) (ap is_le (order_flip s t) ∙ p))
]

le_by : (o : Ordering) → is_le o ≡ true → (o ≡ Less) ⊎ (o ≡ Equal)
le_by Less e = inl refl
le_by Equal e = inr refl
le_by Greater e = absurd (cc)

le_of_less : (o : Ordering) → o ≡ Less → is_le o ≡ true
le_of_less o e = rw e refl

le_step : (s t u : List ℕ) → is_le (padded_order s t) ≡ true → is_le (padded_order t u) ≡ true → is_le (padded_order s u) ≡ true
le_step s t u p q = elim (le_by (padded_order s t) p) [
  | inr e ↦ ap is_le (order_same s t u e) ∙ q
  | inl e ↦ elim (le_by (padded_order t u) q) [
    | inl f ↦ le_of_less (padded_order s u) (order_goes_on s t u e f)
    | inr f ↦ le_of_less (padded_order s u) (order_flip u s ∙ ap ordering_reverse (sym (order_same t u s f)) ∙ sym (order_flip t s) ∙ e)
  ]
]

pub goes_on : (s t u : List ℕ) → Holds op.LessEqual (Text s) (Text t) → Holds op.LessEqual (Text t) (Text u) → Holds op.LessEqual (Text s) (Text u)
goes_on s t u p q = show (is_le (padded_order s u)) (le_step s t u (shown (is_le (padded_order s t)) p) (shown (is_le (padded_order t u)) q))

-- texts that are equal have the same length without blanks, and the same bytes in it
same_first : (x y : ℕ) (r : Ordering) → ordering_then (nat_cmp x y) r ≡ Equal → x ≡ y
same_first x y r e = grind arith

same_rest : (x y : ℕ) (r : Ordering) → ordering_then (nat_cmp x y) r ≡ Equal → r ≡ Equal
same_rest x y r e = grind arith

len_same : (s t : List ℕ) → padded_order s t ≡ Equal → len_trim s ≡ len_trim t
len_same [] [] e = refl
len_same [] (y ∷ ys) e =
    let f : 32 ≡ y = same_first 32 y (padded_order [] ys) e in
    let l : 0 ≡ len_trim ys = len_same [] ys (same_rest 32 y (padded_order [] ys) e) in
    rw (← f, ← l) refl
len_same (x ∷ xs) [] e =
    let f : x ≡ 32 = same_first x 32 (padded_order xs []) e in
    let l : len_trim xs ≡ 0 = len_same xs [] (same_rest x 32 (padded_order xs []) e) in
    rw (f, l) refl
len_same (x ∷ xs) (y ∷ ys) e =
    let f : x ≡ y = same_first x y (padded_order xs ys) e in
    let l : len_trim xs ≡ len_trim ys = len_same xs ys (same_rest x y (padded_order xs ys) e) in
    rw (f, l) refl

most_at : (b : Bool) (n m : ℕ) → n ≤ m → (if b then 0 else suc n) ≤ suc m
most_at true n m h = omega arith
most_at false n m h = omega arith

len_most : (s : List ℕ) → len_trim s ≤ length s
len_most [] = omega arith
len_most (x ∷ xs) = most_at ((x == 32) && (len_trim xs == 0)) (len_trim xs) (length xs) (len_most xs)

take_same : (n : ℕ) (s t : List ℕ) → padded_order s t ≡ Equal → n ≤ length s → n ≤ length t → take n s ≡ take n t
take_same zero s t e h k = refl
take_same (suc n) [] t e h k = absurd (omega arith)
take_same (suc n) (x ∷ xs) [] e h k = absurd (omega arith)
take_same (suc n) (x ∷ xs) (y ∷ ys) e h k = rw (same_first x y (padded_order xs ys) e) (ap (λ (zs : List ℕ). y ∷ zs) (take_same n xs ys (same_rest x y (padded_order xs ys) e) (omega arith) (omega arith)))

trimmed_same : (s t : List ℕ) → padded_order s t ≡ Equal → trimmed s ≡ trimmed t
trimmed_same s t e =
    let l : len_trim s ≡ len_trim t = len_same s t e in
    take_same (len_trim s) s t e (len_most s) (rw l (len_most t)) ∙ ap (λ (n : ℕ). take n t) l

both_true : (a b : Bool) → (a && b) ≡ true → (a ≡ true) × (b ≡ true)
both_true true true e = (refl, refl)
both_true true false e = absurd (cc)
both_true false b e = absurd (cc)

is_32 : (x : ℕ) → (x == 32) ≡ true → x ≡ 32
is_32 x e = grind arith

is_0 : (x : ℕ) → (x == 0) ≡ true → x ≡ 0
is_0 x e = grind arith

trim_at : (x : ℕ) (xs : List ℕ) (b : Bool) → ((x == 32) && (len_trim xs == 0)) ≡ b → padded_order xs (take (len_trim xs) xs) ≡ Equal → padded_order (x ∷ xs) (take (if b then 0 else suc (len_trim xs)) (x ∷ xs)) ≡ Equal
trim_at x xs true e h =
    let p = both_true (x == 32) (len_trim xs == 0) e in
    let f : x ≡ 32 = is_32 x p.0 in
    let l : len_trim xs ≡ 0 = is_0 (len_trim xs) p.1 in
    rw f (rw l at h)
trim_at x xs false e h = rw (nat_cmp-self x) h

order_trimmed : (s : List ℕ) → padded_order s (trimmed s) ≡ Equal
order_trimmed [] = refl
order_trimmed (x ∷ xs) = trim_at x xs ((x == 32) && (len_trim xs == 0)) refl (order_trimmed xs)

equal_trimmed : (s t : List ℕ) → trimmed s ≡ trimmed t → padded_order s t ≡ Equal
equal_trimmed s t e =
    order_same s (trimmed s) t (order_trimmed s)
    ∙ ap (λ (z : List ℕ). padded_order z t) e
    ∙ order_flip t (trimmed t)
    ∙ ap ordering_reverse (order_trimmed t)

le_both : (o : Ordering) → is_le o ≡ true → is_le (ordering_reverse o) ≡ true → o ≡ Equal
le_both Less e f = absurd (cc)
le_both Equal e f = refl
le_both Greater e f = absurd (cc)

le_of_equal : (o : Ordering) → o ≡ Equal → is_le o ≡ true
le_of_equal o e = rw e refl

pub both_ways : (s t : List ℕ) → (Holds op.LessEqual (Text s) (Text t) × Holds op.LessEqual (Text t) (Text s)) ↔ (trimmed s ≡ trimmed t)
both_ways s t = (
  (λ h. trimmed_same s t (le_both (padded_order s t) (shown (is_le (padded_order s t)) h.0) (ap is_le (sym (order_flip s t)) ∙ shown (is_le (padded_order t s)) h.1))),
  (λ e. (show (is_le (padded_order s t)) (le_of_equal (padded_order s t) (equal_trimmed s t e)), show (is_le (padded_order t s)) (le_of_equal (padded_order t s) (equal_trimmed t s (sym e))))),
)

eq_by : (o : Ordering) → is_eq o ≡ true → o ≡ Equal
eq_by Less e = absurd (cc)
eq_by Equal e = refl
eq_by Greater e = absurd (cc)

eq_of : (o : Ordering) → o ≡ Equal → is_eq o ≡ true
eq_of o e = rw e refl

pub equal_both_ways : (s t : List ℕ) → Holds op.Equal (Text s) (Text t) ↔ (trimmed s ≡ trimmed t)
equal_both_ways s t = (
  (λ h. trimmed_same s t (eq_by (padded_order s t) (shown (is_eq (padded_order s t)) h))),
  (λ e. show (is_eq (padded_order s t)) (eq_of (padded_order s t) (equal_trimmed s t e))),
)

lt_by : (o : Ordering) → (is_le (ordering_reverse o) ≡ true → ⊥) → is_lt o ≡ true
lt_by Less h = refl
lt_by Equal h = absurd (h refl)
lt_by Greater h = absurd (h refl)

not_le : (o : Ordering) → is_lt o ≡ true → is_le (ordering_reverse o) ≡ true → ⊥
not_le Less e f = absurd (cc)
not_le Equal e f = absurd (cc)
not_le Greater e f = absurd (cc)

pub less_one_way : (s t : List ℕ) → (Holds op.LessEqual (Text t) (Text s) → ⊥) ↔ Holds op.Less (Text s) (Text t)
less_one_way s t = (
  (λ h. show (is_lt (padded_order s t)) (lt_by (padded_order s t) (λ e. h (show (is_le (padded_order t s)) (ap is_le (order_flip s t) ∙ e))))),
  (λ h k. not_le (padded_order s t) (shown (is_lt (padded_order s t)) h) (ap is_le (sym (order_flip s t)) ∙ shown (is_le (padded_order t s)) k)),
)
