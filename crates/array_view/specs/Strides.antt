-- Sections by strides, as descriptors tell them: how many elements a dimension has, and how far one lies from the next.
use Rattle.std.specs.Prelude.{ℕ, ℤ, pos, ◌+ℤ◌, ◌-ℤ◌, ◌*ℤ◌, Bool, true, false, List, [], ◌∷◌, ◌++◌}
use Rattle.array_view.specs.declared.axes.AxisDim.{AxisDim}
use Rattle.array_view.specs.declared.subscript.Sub.{Sub}
use Rattle.array_view.specs.declared.subscript.Sub.TheVariants.{One, Triplet, Vector}
use Rattle.array_view.specs.Subscripts.{triplet_count, steps_from}

-- n steps from each of the numbers on
abbrev pub spread : ℤ → ℕ → List ℤ → List ℤ
spread step n [] = []
spread step n (o ∷ os) = steps_from o step n ++ spread step n os

-- a vector subscript has no stride
abbrev pub has_stride : Sub → Bool
has_stride (Vector ks) = false
has_stride _ = true

abbrev pub first_of : Sub → ℤ
first_of (One k) = k
first_of (Triplet first last stride) = first
first_of (Vector ks) = pos 0

-- how many subscripts there are
abbrev pub extent_of : Sub → ℕ
extent_of (One k) = 1
extent_of (Triplet first last stride) = triplet_count first last stride
extent_of (Vector ks) = 0

-- how far one subscript is from the next
abbrev pub stride_of : Sub → ℤ
stride_of (Triplet first last stride) = stride
stride_of _ = pos 1

-- where the element at the first subscripts begins
abbrev pub first_offset : ℤ → List AxisDim → List Sub → ℤ
first_offset base (d ∷ ds) (s ∷ ss) = first_offset base ds ss +ℤ (first_of s -ℤ d.lower) *ℤ d.sm
first_offset base _ _ = base

-- the offsets from that of the first element on by the multipliers, the first dimension fastest
abbrev pub strided_offsets : ℤ → List AxisDim → List Sub → List ℤ
strided_offsets first (d ∷ ds) (s ∷ ss) = spread (stride_of s *ℤ d.sm) (extent_of s) (strided_offsets first ds ss)
strided_offsets first _ _ = first ∷ []
