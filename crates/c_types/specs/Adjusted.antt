-- The adjusted type of a parameter, without a type made for it.
use Rattle.std.specs.Prelude.{◌≡◌, ◌≤◌, Bool, true, false}
use Rattle.c_types.specs.declared.ctype.CType.{CType, CType-F, out-CType, size-CType}
use Rattle.c_types.specs.declared.ctype.CType.TheVariants.{Pointer}
use Rattle.c_types.specs.declared.ctype.CType.TheOpen as c
use Rattle.c_types.specs.declared.ctype.Proto.{Proto}
use Rattle.c_types.specs.declared.compatibility.Adjusted.{Adjusted}
use Rattle.c_types.specs.declared.compatibility.Adjusted.TheVariants.{PointerTo, Itself}
use Rattle.c_types.specs.Compatible.{adjusted, settled}

-- types that no adjustment and no qualifier changes
abbrev pub stays_layer : CType-F CType Proto → Bool
stays_layer (c.Pointer x) = false
stays_layer (c.Array x n) = false
stays_layer (c.Function p) = false
stays_layer (c.Const x) = false
stays_layer _ = true

abbrev pub stays : CType → Bool
stays kind = stays_layer (out-CType kind)

-- what the adjusted type of a parameter is, its type having const before it or not
abbrev pub IsAdjusted : CType → Bool → Adjusted → Type 0
IsAdjusted kind is_const (PointerTo x x_const) = adjusted (settled kind is_const) ≡ Pointer (settled x.now x_const)
IsAdjusted kind is_const (Itself x) = (adjusted (settled kind is_const) ≡ settled x.now false) × (stays x.now ≡ true)

-- its parts aren't larger than the type
abbrev pub IsNoLarger : CType → Adjusted → Type 0
IsNoLarger kind (PointerTo x x_const) = size-CType x.now ≤ size-CType kind
IsNoLarger kind (Itself x) = size-CType x.now ≤ size-CType kind
