-- What a section of an array is told by.
use Rattle.std.specs.Prelude.{◌≡◌, ℤ, true, List, map, Vec}
use Rattle.std.specs.Global.{Global}
use Rattle.std.specs.Int.{int_wrap, w64}
use Rattle.std.specs.Int.RustNames.{FitsSigned}
use Rattle.std.specs.List.{All}
use Rattle.array_view.specs.declared.subscript.Sub.{Sub}
use Rattle.array_view.specs.declared.view.ArrayView.{ArrayView}
use Rattle.array_view.specs.Subscripts.{are_designated}
use Rattle.array_view.specs.Elements.{section_offsets}

-- the subscripts designate elements, and these are their offsets, in their order; those that leave 64 bits are wrapped to them
pub record IsSection (v : ArrayView) (subs : List Sub) (offsets : Vec ℤ Global) : Type 0 where
  pub designated : are_designated v.dims subs ≡ true
  pub exact : All (FitsSigned w64) (section_offsets v subs) → offsets.items ≡ section_offsets v subs
  pub wrapped : offsets.items ≡ map (int_wrap w64) (section_offsets v subs)
