-- Strides lead to the elements that subscripts designate.
use Rattle.std.proofs.Common.{◌≡◌, ℕ, ℤ, suc, zero, ◌+◌, ◌*◌, ◌+ℤ◌, ◌-ℤ◌, ◌*ℤ◌, Bool, true, false, ◌&&◌, List, [], ◌∷◌, length, map, refl, ap, ◌∙◌, arith}
use Rattle.std.specs.List.{flat_map, list_all}
use Rattle.std.proofs.lemmas.Int.{ints}
use Rattle.std.proofs.lemmas.List.{map-append}
use borrow.Author.Differences.{up, down}
use Rattle.array_view.specs.declared.axes.AxisDim.{AxisDim}
use Rattle.array_view.specs.declared.subscript.Sub.{Sub}
use Rattle.array_view.specs.declared.subscript.Sub.TheVariants.{One, Triplet, Vector}
use Rattle.array_view.specs.Subscripts.{steps_from, subscripts_of}
use Rattle.array_view.specs.Elements.{choices, element_offset, offsets_at}
use Rattle.array_view.specs.Strides.{spread, has_stride, first_of, extent_of, stride_of, first_offset, strided_offsets}
use Rattle.array_view.proofs.Choosing.{map-choices}

distrib : (x s m : ℤ) → (x +ℤ s) *ℤ m ≡ x *ℤ m +ℤ s *ℤ m
distrib x s m =
    let e : up (x +ℤ s) + (down x + down s) ≡ down (x +ℤ s) + (up x + up s) = omega (arith, ints) in
    let a : (up (x +ℤ s) + (down x + down s)) * up m ≡ (down (x +ℤ s) + (up x + up s)) * up m = ap (λ (q : ℕ). q * up m) e in
    let b : (up (x +ℤ s) + (down x + down s)) * down m ≡ (down (x +ℤ s) + (up x + up s)) * down m = ap (λ (q : ℕ). q * down m) e in
    omega (arith, ints)

step_on : (o k s l m : ℤ) → o +ℤ ((k +ℤ s) -ℤ l) *ℤ m ≡ (o +ℤ (k -ℤ l) *ℤ m) +ℤ s *ℤ m
step_on o k s l m =
    let e : (k +ℤ s) -ℤ l ≡ (k -ℤ l) +ℤ s = omega (arith, ints) in
    let p : ((k +ℤ s) -ℤ l) *ℤ m ≡ (k -ℤ l) *ℤ m +ℤ s *ℤ m = ap (λ (z : ℤ). z *ℤ m) e ∙ distrib (k -ℤ l) s m in
    omega (arith, ints)

row_by_stride : (d : AxisDim) (o k s : ℤ) (n : ℕ) → map (λ k. o +ℤ (k -ℤ d.lower) *ℤ d.sm) (steps_from k s n) ≡ steps_from (o +ℤ (k -ℤ d.lower) *ℤ d.sm) (s *ℤ d.sm) n
row_by_stride d o k s zero = refl
row_by_stride d o k s (suc n) = ap (λ xs. (o +ℤ (k -ℤ d.lower) *ℤ d.sm) ∷ xs) (row_by_stride d o (k +ℤ s) s n ∙ ap (λ (x : ℤ). steps_from x (s *ℤ d.sm) n) (step_on o k s d.lower d.sm))

rows_by_stride : (d : AxisDim) (k s : ℤ) (n : ℕ) (os : List ℤ) → flat_map (λ o. map (λ k. o +ℤ (k -ℤ d.lower) *ℤ d.sm) (steps_from k s n)) os ≡ spread (s *ℤ d.sm) n (map (λ o. o +ℤ (k -ℤ d.lower) *ℤ d.sm) os)
rows_by_stride d k s n [] = refl
rows_by_stride d k s n (o ∷ os) = rw (row_by_stride d o k s n, rows_by_stride d k s n os) refl

swap_shift : (o m c : ℤ) → (o +ℤ m) +ℤ c ≡ (o +ℤ c) +ℤ m
swap_shift o m c = omega (arith, ints)

steps_shift : (c o m : ℤ) (n : ℕ) → map (λ o. o +ℤ c) (steps_from o m n) ≡ steps_from (o +ℤ c) m n
steps_shift c o m zero = refl
steps_shift c o m (suc n) = ap (λ xs. (o +ℤ c) ∷ xs) (steps_shift c (o +ℤ m) m n ∙ ap (λ (x : ℤ). steps_from x m n) (swap_shift o m c))

spread_shift : (c m : ℤ) (n : ℕ) (os : List ℤ) → map (λ o. o +ℤ c) (spread m n os) ≡ spread m n (map (λ o. o +ℤ c) os)
spread_shift c m n [] = refl
spread_shift c m n (o ∷ os) = map-append (λ o. o +ℤ c) (steps_from o m n) (spread m n os) ∙ (rw (steps_shift c o m n, spread_shift c m n os) refl)

strided_shift : (c base : ℤ) (ds : List AxisDim) (ss : List Sub) → map (λ o. o +ℤ c) (strided_offsets base ds ss) ≡ strided_offsets (base +ℤ c) ds ss
strided_shift c base [] ss = refl
strided_shift c base (d ∷ ds) [] = refl
strided_shift c base (d ∷ ds) (s ∷ ss) = spread_shift c (stride_of s *ℤ d.sm) (extent_of s) (strided_offsets base ds ss) ∙ ap (spread (stride_of s *ℤ d.sm) (extent_of s)) (strided_shift c base ds ss)

-- a subscript or a triplet is so many steps from its first
regular_steps : (s : Sub) → has_stride s ≡ true → subscripts_of s ≡ steps_from (first_of s) (stride_of s) (extent_of s)
regular_steps (One k) h = refl
regular_steps (Triplet f l s) h = refl
regular_steps (Vector ks) h = absurd (cc)

and_left : (a b : Bool) → (a && b) ≡ true → a ≡ true
and_left true b h = refl
and_left false b h = absurd (cc)

and_right : (a b : Bool) → (a && b) ≡ true → b ≡ true
and_right true b h = h
and_right false b h = absurd (cc)

pub by_strides : (base : ℤ) (ds : List AxisDim) (ss : List Sub) → length ss ≡ length ds → list_all has_stride ss ≡ true → offsets_at base ds (map subscripts_of ss) ≡ strided_offsets (first_offset base ds ss) ds ss
by_strides base [] [] e h = refl
by_strides base [] (s ∷ ss) e h = absurd (omega arith)
by_strides base (d ∷ ds) [] e h = absurd (omega arith)
by_strides base (d ∷ ds) (s ∷ ss) e h =
    map-choices (element_offset base (d ∷ ds)) (λ o k. o +ℤ (k -ℤ d.lower) *ℤ d.sm) (element_offset base ds) (λ k others. refl) (subscripts_of s) (choices (map subscripts_of ss))
    ∙ ap (λ (ks : List ℤ). flat_map (λ o. map (λ k. o +ℤ (k -ℤ d.lower) *ℤ d.sm) ks) (offsets_at base ds (map subscripts_of ss))) (regular_steps s (and_left (has_stride s) (list_all has_stride ss) h))
    ∙ rows_by_stride d (first_of s) (stride_of s) (extent_of s) (offsets_at base ds (map subscripts_of ss))
    ∙ ap (λ (os : List ℤ). spread (stride_of s *ℤ d.sm) (extent_of s) (map (λ o. o +ℤ (first_of s -ℤ d.lower) *ℤ d.sm) os)) (by_strides base ds ss (omega arith) (and_right (has_stride s) (list_all has_stride ss) h))
    ∙ ap (spread (stride_of s *ℤ d.sm) (extent_of s)) (strided_shift ((first_of s -ℤ d.lower) *ℤ d.sm) (first_offset base ds ss) ds ss)
