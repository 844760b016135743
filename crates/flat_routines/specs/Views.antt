-- What elements by their dimensions have to do with the views of arrays: they are the same ones, in the same order.
use Rattle.std.specs.Prelude.{◌≡◌, ℕ, pos, ◌^◌, ◌<◌, List, [], ◌∷◌, map, length, Some, slice_get}
use Rattle.std.specs.Int.{w64, cast_unsigned}
use Rattle.std.specs.Int.RustNames.{FitsSigned}
use Rattle.std.specs.List.{All}
use Rattle.array_view.specs.declared.axes.AxisDim.{AxisDim}
use Rattle.array_view.specs.Elements.{offsets_at, count_of, axis_subscripts}
use Rattle.flat_routines.specs.Dims.{Dim, count, AreSubscripts, position, element}

-- the dimensions of a view in 64 bits
abbrev pub dims_of : List AxisDim → List Dim
dims_of [] = []
dims_of (d ∷ ds) = record { extent = count_of d.extent; stride = cast_unsigned w64 d.sm } ∷ dims_of ds

-- the strides are numbers of 64 bits
abbrev pub AreStrides : List AxisDim → Type 0
AreStrides ds = All (λ d. FitsSigned w64 d.sm) ds

-- a whole view whose first element lies at an address has as many elements, and the one at each position lies where the view's list of offsets says, if that is an address
pub record IsView (base : ℕ) (ds : List AxisDim) : Type 0 where
  pub counts : length (offsets_at (pos base) ds (map axis_subscripts ds)) ≡ count (dims_of ds)
  pub each : (ks : List ℕ) (a : ℕ) → AreSubscripts (dims_of ds) ks → a < 2 ^ 64
      → slice_get (offsets_at (pos base) ds (map axis_subscripts ds)) (position (dims_of ds) ks) ≡ Some (pos a) → element base (dims_of ds) ks ≡ a
