-- Types, members, names and tokens that are there.
use Rattle.std.specs.Prelude.{ℕ, Bool, true, false, ◌&&◌, Option, Some, None, length, nat_le, nat_lt}
use Rattle.c_types.specs.declared.ctype.CType.{CType, CType-F, fold-CType}
use Rattle.c_types.specs.declared.ctype.CType.TheFolds.{fold-Proto}
use Rattle.c_types.specs.declared.ctype.CType.TheOpen as c
use Rattle.c_types.specs.declared.ctype.CType.TheOpen.{Proto-F}
use Rattle.c_types.specs.declared.ctype.Layout.{Layout}
use Rattle.c_types.specs.declared.ctype.Proto.{Proto}
use Rattle.c_types.specs.Sizes.{Bodies, layout_at}
use Rattle.c_resolved.specs.declared.check_type.Counts.{Counts}
use Rattle.c_resolved.specs.Lists.{all_of}

-- a token of the unit
abbrev pub token_fits : Counts → ℕ → Bool
token_fits n at = nat_lt at n.places

-- a name of the unit
abbrev pub name_fits : Counts → ℕ → Bool
name_fits n name = nat_lt name n.names

-- each struct and enumerated type is one of the unit, and a descriptor's rank is at most 15 (ISO/IEC 1539-1:2018, 18.5.4)
abbrev pub type_step : Counts → CType-F Bool Bool → Bool
type_step n (c.Enum e) = nat_lt e n.enums
type_step n (c.Struct s) = nat_lt s n.structs
type_step n (c.Pointer x) = x
type_step n (c.Array x length) = x
type_step n (c.Function p) = p
type_step n (c.Cdesc r) = nat_le r 15
type_step n (c.Const x) = x
type_step n _ = true

abbrev pub proto_step : Proto-F Bool Bool → Bool
proto_step p = p.result && all_of p.params

abbrev pub type_fits : Counts → CType → Bool
type_fits n = fold-CType Bool Bool (type_step n) proto_step

abbrev pub proto_fits : Counts → Proto → Bool
proto_fits n = fold-Proto Bool Bool (type_step n) proto_step

abbrev pub is_member_of : Option Layout → ℕ → Bool
is_member_of None m = false
is_member_of (Some l) m = nat_lt m (length l.members)

-- a member of a struct that is complete (ISO/IEC 9899:2011, 6.5.2.3)
abbrev pub member_fits : Bodies → ℕ → ℕ → Bool
member_fits types s m = is_member_of (layout_at types s) m
