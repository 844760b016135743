-- The subscripts that a subscript, a triplet or a vector subscript stands for.
use Rattle.std.specs.Prelude.{ℕ, zero, suc, ℤ, pos, negsuc, ◌+ℤ◌, ◌-ℤ◌, ◌+◌, ◌/◌, Bool, true, false, ◌&&◌, ◌||◌, List, [], ◌∷◌, length, nat_eq, unsigned_abs, if◌then◌else◌}
use Rattle.std.specs.Int.Signed.{le_z, lt_z}
use Rattle.std.specs.List.{list_all}
use Rattle.array_view.specs.declared.axes.AxisDim.{AxisDim}
use Rattle.array_view.specs.declared.subscript.Sub.{Sub}
use Rattle.array_view.specs.declared.subscript.Sub.TheVariants.{One, Triplet, Vector}

-- k lies beyond the last value of a triplet, in the direction of its stride
abbrev pub is_past : ℤ → ℤ → ℤ → Bool
is_past last (pos s) k = lt_z last k
is_past last (negsuc s) k = lt_z k last

-- how many subscripts a triplet has: the first, and one for each whole stride up to the last (ISO/IEC 1539-1:2018, 9.5.3.3.1)
unfoldable pub triplet_count : ℤ → ℤ → ℤ → ℕ
triplet_count first last stride = if is_past last stride first then 0 else unsigned_abs (last -ℤ first) / unsigned_abs stride + 1

-- n numbers from k on, each a step after the one before
abbrev pub steps_from : ℤ → ℤ → ℕ → List ℤ
steps_from k step zero = []
steps_from k step (suc n) = k ∷ steps_from (k +ℤ step) step n

-- the subscripts that occur, in their order (ISO/IEC 1539-1:2018, 9.5.3.3)
abbrev pub subscripts_of : Sub → List ℤ
subscripts_of (One k) = k ∷ []
subscripts_of (Triplet first last stride) = steps_from first stride (triplet_count first last stride)
subscripts_of (Vector ks) = ks

-- no subscript occurs
abbrev pub has_no_subscript : Sub → Bool
has_no_subscript (One k) = false
has_no_subscript (Triplet first last stride) = is_past last stride first
has_no_subscript (Vector ks) = nat_eq (length ks) 0

-- a stride isn't 0
abbrev pub has_direction : Sub → Bool
has_direction (Triplet first last (pos zero)) = false
has_direction _ = true

-- a dimension of an assumed-size array that has no upper bound: the last, whose extent is -1 (ISO/IEC 1539-1:2018, 8.5.8.5)
abbrev pub is_open_ended : AxisDim → List AxisDim → Bool
is_open_ended d (e ∷ rest) = false
is_open_ended d [] = le_z (negsuc 0) d.extent && le_z d.extent (negsuc 0)

-- k is a subscript of the dimension
abbrev pub is_in_axis : AxisDim → Bool → ℤ → Bool
is_in_axis d open_ended k = le_z d.lower k && (open_ended || lt_z k (d.lower +ℤ d.extent))

-- each subscript that occurs is one of its dimension, and each stride has a direction
abbrev pub are_designated : List AxisDim → List Sub → Bool
are_designated (d ∷ ds) (s ∷ ss) = has_direction s && list_all (is_in_axis d (is_open_ended d ds)) (subscripts_of s) && are_designated ds ss
are_designated [] _ = true
are_designated (d ∷ ds) [] = true
