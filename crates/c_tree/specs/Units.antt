-- What a unit tells of its tokens.
use Rattle.std.specs.Prelude.{ℕ, Option, slice_get}
use Rattle.jf_base.specs.declared.place.Place.{Place}
use Rattle.c_tree.specs.declared.unit.CUnit.{CUnit}

-- the place of the token with this number
abbrev pub place_in : CUnit → ℕ → Option Place
place_in unit at = slice_get unit.places at
