-- The elements that subscripts designate, the first dimension varying fastest.
use Rattle.std.specs.Prelude.{ℕ, ℤ, pos, negsuc, ◌+ℤ◌, ◌-ℤ◌, ◌*ℤ◌, List, [], ◌∷◌, map}
use Rattle.std.specs.Int.{int_wrap, w64}
use Rattle.std.specs.List.{flat_map}
use Rattle.array_view.specs.declared.axes.AxisDim.{AxisDim}
use Rattle.array_view.specs.declared.subscript.Sub.{Sub}
use Rattle.array_view.specs.declared.view.ArrayView.{ArrayView}
use Rattle.array_view.specs.Subscripts.{subscripts_of, steps_from}

-- each choice of one subscript from each list, in the order of array elements: the first varies fastest (ISO/IEC 1539-1:2018, 9.5.3.2)
abbrev pub choices : List (List ℤ) → List (List ℤ)
choices [] = [] ∷ []
choices (ks ∷ rest) = flat_map (λ others. map (λ k. k ∷ others) ks) (choices rest)

-- where the element with these subscripts begins
abbrev pub element_offset : ℤ → List AxisDim → List ℤ → ℤ
element_offset base (d ∷ ds) (k ∷ ks) = element_offset base ds ks +ℤ (k -ℤ d.lower) *ℤ d.sm
element_offset base _ _ = base

-- the offset of an element moved to subscript k of a dimension, in 64 bits
unfoldable pub moved_in_64_bits : AxisDim → ℤ → ℤ → ℤ
moved_in_64_bits d offset k = int_wrap w64 (offset +ℤ (k -ℤ d.lower) *ℤ d.sm)

-- for each offset those at the subscripts of a dimension
abbrev pub rows_in_64_bits : AxisDim → List ℤ → List ℤ → List ℤ
rows_in_64_bits d ks offsets = flat_map (λ o. map (moved_in_64_bits d o) ks) offsets

-- where the elements at these subscripts begin
abbrev pub offsets_at : ℤ → List AxisDim → List (List ℤ) → List ℤ
offsets_at base dims subscripts = map (element_offset base dims) (choices subscripts)

-- where the elements of a section begin (ISO/IEC 1539-1:2018, 9.5.3.3)
abbrev pub section_offsets : ArrayView → List Sub → List ℤ
section_offsets v subs = offsets_at v.base v.dims (map subscripts_of subs)

-- an extent as a count, which a negative one hasn't
abbrev pub count_of : ℤ → ℕ
count_of (pos n) = n
count_of (negsuc n) = 0

-- every subscript of a dimension
abbrev pub axis_subscripts : AxisDim → List ℤ
axis_subscripts d = steps_from d.lower (pos 1) (count_of d.extent)

-- where the elements of the whole array begin
abbrev pub whole_offsets : ArrayView → List ℤ
whole_offsets v = offsets_at v.base v.dims (map axis_subscripts v.dims)
