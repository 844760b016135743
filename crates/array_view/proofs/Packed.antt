-- Multipliers tell whether all elements lie side by side.
use Rattle.std.proofs.Common.{◌≡◌, ℕ, ℤ, pos, negsuc, suc, zero, ◌+ℤ◌, ◌-ℤ◌, ◌*ℤ◌, Bool, true, false, ◌&&◌, ◌||◌, length, take, drop, get_or, ◌-◌, ◌≤◌, List, [], ◌∷◌, ◌++◌, map, refl, ap, sym, ◌∙◌, arith}
use Rattle.std.specs.Int.Signed.{le_z}
use Rattle.std.specs.Ordering.{int_eq}
use Rattle.std.proofs.lemmas.Int.{ints}
use Rattle.std.proofs.lemmas.List.{take_all}
use Rattle.array_view.specs.declared.axes.AxisDim.{AxisDim}
use Rattle.array_view.specs.Subscripts.{steps_from}
use Rattle.array_view.specs.Elements.{choices, element_offset, offsets_at, axis_subscripts, count_of}
use Rattle.array_view.specs.Contiguous.{IsSideBySide, has_no_element, is_packed}
use Rattle.array_view.proofs.Choosing.{map-choices}
use Rattle.array_view.proofs.Spreads.{spread, rows-steps, spread-one, spread_forth, spread_back, spread_step}

abbrev whole : ℤ → List AxisDim → List ℤ
whole base ds = offsets_at base ds (map axis_subscripts ds)

-- the whole array, a dimension more
pub whole-cons : (base : ℤ) (d : AxisDim) (ds : List AxisDim) → whole base (d ∷ ds) ≡ spread d.sm (count_of d.extent) (whole base ds)
whole-cons base d ds =
    map-choices (element_offset base (d ∷ ds)) (λ o k. o +ℤ (k -ℤ d.lower) *ℤ d.sm) (element_offset base ds) (λ k others. refl) (axis_subscripts d) (choices (map axis_subscripts ds))
    ∙ rows-steps d (count_of d.extent) (whole base ds)

whole_at : (base : ℤ) (d : AxisDim) (ds : List AxisDim) (n : ℕ) → d.extent ≡ pos n → whole base (d ∷ ds) ≡ spread d.sm n (whole base ds)
whole_at base d ds n e = whole-cons base d ds ∙ ap (λ (z : ℤ). spread d.sm (count_of z) (whole base ds)) e

positive : (z : ℤ) → le_z z (pos 0) ≡ false → (m : ℕ) × (z ≡ pos (suc m))
positive (pos zero) h = absurd (cc)
positive (pos (suc m)) h = (m, refl)
positive (negsuc m) h = absurd (cc)

or_left : (a b : Bool) → (a || b) ≡ false → a ≡ false
or_left false b h = refl
or_left true b h = absurd (cc)

or_right : (a b : Bool) → (a || b) ≡ false → b ≡ false
or_right false b h = h
or_right true b h = absurd (cc)

and_left : (a b : Bool) → (a && b) ≡ true → a ≡ true
and_left true b h = refl
and_left false b h = absurd (cc)

and_right : (a b : Bool) → (a && b) ≡ true → b ≡ true
and_right true b h = h
and_right false b h = absurd (cc)

same_ints : (a b : ℤ) → int_eq a b ≡ true → a ≡ b
same_ints a b h = grind (arith, ints)

self_int : (a : ℤ) → int_eq a a ≡ true
self_int a = grind (arith, ints)

not_one : (m : ℕ) → int_eq (pos (suc (suc m))) (pos 1) ≡ false
not_one m = grind (arith, ints)

one : int_eq (pos 1) (pos 1) ≡ true
one = refl

-- some element there is
first_of_whole : (base : ℤ) (ds : List AxisDim) → has_no_element ds ≡ false → (o : ℤ) × ((os : List ℤ) × (whole base ds ≡ o ∷ os))
first_of_whole base [] h = (base, ([], refl))
first_of_whole base (d ∷ ds) h =
    let p = positive d.extent (or_left (le_z d.extent (pos 0)) (has_no_element ds) h) in
    let r = first_of_whole base ds (or_right (le_z d.extent (pos 0)) (has_no_element ds) h) in
    (r.0, (steps_from (r.0 +ℤ d.sm) d.sm p.0 ++ spread d.sm (suc p.0) r.1.0, whole_at base d ds (suc p.0) p.1 ∙ ap (spread d.sm (suc p.0)) r.1.1))

side_same : (l : ℤ) (xs ys : List ℤ) → xs ≡ ys → IsSideBySide l ys → IsSideBySide l xs
side_same l xs ys e h = rw e h

forth_at : (base l : ℤ) (d : AxisDim) (ds : List AxisDim) (m : ℕ) → d.extent ≡ pos (suc m) → has_no_element ds ≡ false → is_packed (d ∷ ds) l ≡ true → ((k : ℤ) → is_packed ds k ≡ true → IsSideBySide k (whole base ds)) → IsSideBySide l (spread d.sm (suc m) (whole base ds))
forth_at base l d ds zero e n h f = rw (spread-one d.sm (whole base ds)) (f l (rw (e) at h))
forth_at base l d ds (suc m) e n h f =
    let g : (int_eq d.sm l && is_packed ds (d.sm *ℤ pos (suc (suc m)))) ≡ true = rw (e, not_one m) at h in
    let s : d.sm ≡ l = same_ints d.sm l (and_left (int_eq d.sm l) (is_packed ds (d.sm *ℤ pos (suc (suc m)))) g) in
    rw (← s) (spread_back d.sm (suc m) (whole base ds) (f (d.sm *ℤ pos (suc (suc m))) (and_right (int_eq d.sm l) (is_packed ds (d.sm *ℤ pos (suc (suc m)))) g)))

pub packed_forth : (base : ℤ) (ds : List AxisDim) (l : ℤ) → has_no_element ds ≡ false → is_packed ds l ≡ true → IsSideBySide l (whole base ds)
packed_forth base [] l n h = tt
packed_forth base (d ∷ ds) l n h =
    let p = positive d.extent (or_left (le_z d.extent (pos 0)) (has_no_element ds) n) in
    let q : has_no_element ds ≡ false = or_right (le_z d.extent (pos 0)) (has_no_element ds) n in
    side_same l (whole base (d ∷ ds)) (spread d.sm (suc p.0) (whole base ds)) (whole_at base d ds (suc p.0) p.1) (forth_at base l d ds p.0 p.1 q h (λ k. packed_forth base ds k q))

back_at : (base l : ℤ) (d : AxisDim) (ds : List AxisDim) (m : ℕ) → d.extent ≡ pos (suc m) → has_no_element ds ≡ false → IsSideBySide l (spread d.sm (suc m) (whole base ds)) → ((k : ℤ) → IsSideBySide k (whole base ds) → is_packed ds k ≡ true) → is_packed (d ∷ ds) l ≡ true
back_at base l d ds zero e n h f = rw e (f l (side_same l (whole base ds) (spread d.sm 1 (whole base ds)) (sym (spread-one d.sm (whole base ds))) h))
back_at base l d ds (suc m) e n h f =
    let r = first_of_whole base ds n in
    let s : d.sm ≡ l = spread_step l d.sm r.0 m r.1.0 (side_same l (spread d.sm (suc (suc m)) (r.0 ∷ r.1.0)) (spread d.sm (suc (suc m)) (whole base ds)) (ap (spread d.sm (suc (suc m))) (sym r.1.1)) h) in
    rw (e, not_one m, ← s, self_int d.sm) (f (d.sm *ℤ pos (suc (suc m))) (spread_forth d.sm (suc m) (whole base ds) (rw (← s) at h)))

pub packed_back : (base : ℤ) (ds : List AxisDim) (l : ℤ) → has_no_element ds ≡ false → IsSideBySide l (whole base ds) → is_packed ds l ≡ true
packed_back base [] l n h = refl
packed_back base (d ∷ ds) l n h =
    let p = positive d.extent (or_left (le_z d.extent (pos 0)) (has_no_element ds) n) in
    let q : has_no_element ds ≡ false = or_right (le_z d.extent (pos 0)) (has_no_element ds) n in
    back_at base l d ds p.0 p.1 q (side_same l (spread d.sm (suc p.0) (whole base ds)) (whole base (d ∷ ds)) (sym (whole_at base d ds (suc p.0) p.1)) h) (λ k. packed_back base ds k q)

-- a negative or zero extent leaves no subscript
no_count : (z : ℤ) → le_z z (pos 0) ≡ true → count_of z ≡ 0
no_count (pos zero) h = refl
no_count (pos (suc m)) h = absurd (omega (arith, ints))
no_count (negsuc m) h = refl

spread_none : (s : ℤ) (os : List ℤ) → spread s 0 os ≡ []
spread_none s [] = refl
spread_none s (o ∷ os) = spread_none s os

none_at : (base : ℤ) (d : AxisDim) (ds : List AxisDim) (b : Bool) → le_z d.extent (pos 0) ≡ b → (b || has_no_element ds) ≡ true → (has_no_element ds ≡ true → whole base ds ≡ []) → whole base (d ∷ ds) ≡ []
none_at base d ds true e h f = whole-cons base d ds ∙ ap (λ n. spread d.sm n (whole base ds)) (no_count d.extent e) ∙ spread_none d.sm (whole base ds)
none_at base d ds false e h f = whole-cons base d ds ∙ ap (spread d.sm (count_of d.extent)) (f h)

pub no_element : (base : ℤ) (ds : List AxisDim) → has_no_element ds ≡ true → whole base ds ≡ []
no_element base [] h = absurd (cc)
no_element base (d ∷ ds) h = none_at base d ds (le_z d.extent (pos 0)) refl h (no_element base ds)

pub none_side : (base l : ℤ) (ds : List AxisDim) → has_no_element ds ≡ true → IsSideBySide l (whole base ds)
none_side base l ds h = rw (no_element base ds h) tt

unequal : (a b : ℤ) → (a ≡ b → ⊥) → int_eq a b ≡ false
unequal a b h = grind (arith, ints)

rest_of : {A : Type 0} (x : A) (xs : List A) → take (length (x ∷ xs) - 1) (drop 1 (x ∷ xs)) ≡ xs
rest_of x xs = take_all (length (x ∷ xs) - 1) xs (omega arith)

-- the test goes on with the rest of the dimensions
pub packed_at : (dims : List AxisDim) (z : AxisDim) (l k : ℤ) → 1 ≤ length dims → ((get_or dims 0 z).extent ≡ pos 1 → ⊥) → (get_or dims 0 z).sm ≡ l → k ≡ (get_or dims 0 z).sm *ℤ (get_or dims 0 z).extent → is_packed (take (length dims - 1) (drop 1 dims)) k ≡ is_packed dims l
packed_at [] z l k n e s p = absurd (omega arith)
packed_at (d ∷ ds) z l k n e s p = rw (rest_of d ds, p, unequal d.extent (pos 1) e, ← s, self_int d.sm) refl
