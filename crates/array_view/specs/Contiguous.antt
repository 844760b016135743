-- Elements that lie side by side.
use Rattle.std.specs.Prelude.{◌≡◌, ℤ, pos, ◌+ℤ◌, ◌*ℤ◌, Bool, true, ◌&&◌, if◌then◌else◌, List, [], ◌∷◌}
use Rattle.std.specs.Ordering.{int_eq}
use Rattle.std.specs.Int.Signed.{le_z}
use Rattle.std.specs.List.{list_any}
use Rattle.array_view.specs.declared.axes.AxisDim.{AxisDim}

-- each element of this length begins where the one before it ends; one element or none does (ISO/IEC 1539-1:2018, 8.5.7)
abbrev pub IsSideBySide : ℤ → List ℤ → Type 0
IsSideBySide len [] = Unit {0}
IsSideBySide len (a ∷ []) = Unit {0}
IsSideBySide len (a ∷ b ∷ rest) = (b ≡ a +ℤ len) × IsSideBySide len (b ∷ rest)

-- some dimension has no subscript
abbrev pub has_no_element : List AxisDim → Bool
has_no_element dims = list_any (λ d. le_z d.extent (pos 0)) dims

-- the multipliers of dimensions that each have a subscript lead from an element to the next
abbrev pub is_packed : List AxisDim → ℤ → Bool
is_packed [] len = true
is_packed (d ∷ ds) len = if int_eq d.extent (pos 1) then is_packed ds len else int_eq d.sm len && is_packed ds (d.sm *ℤ d.extent)
