-- The alignment and the size of a type, where it has them (C11 6.2.5, 6.2.8, 6.5.3.4; the RISC-V ELF psABI, LP64).
use Rattle.std.specs.Prelude.{ℕ, ◌+◌, ◌*◌, ◌^◌, Option, Some, None, List, slice_get, nat_le, if◌then◌else◌}
use Rattle.std.specs.Option.{option_and_then, option_map}
use Rattle.jf_base.specs.Numbers.{size_of_width}
use Rattle.c_types.specs.declared.ctype.CType.{CType, fold-CType}
use Rattle.c_types.specs.declared.ctype.CType.TheOpen as c
use Rattle.c_types.specs.declared.ctype.CType.TheOpen.{CType-F, Proto-F}
use Rattle.c_types.specs.declared.ctype.Layout.{Layout}
use Rattle.c_types.specs.declared.ctype.StructBody.{StructBody}
use Rattle.c_types.specs.declared.ctype.StructBody.TheVariants.{Incomplete, Complete}

-- the bodies of a file's structs, by their numbers
abbrev pub Bodies : Type 0
Bodies = List StructBody

abbrev pub layout_in : StructBody → Option Layout
layout_in Incomplete = None
layout_in (Complete l) = Some l

-- how a struct is laid out, where it is complete
abbrev pub layout_at : Bodies → ℕ → Option Layout
layout_at bodies s = option_and_then layout_in (slice_get bodies s)

-- 6.2.8: an array is aligned as its elements, a struct as its most strictly aligned member; 6.2.5p26: a qualified type as the type itself
abbrev pub align_step : Bodies → CType-F (Option ℕ) (Unit {0}) → Option ℕ
align_step bodies c.Void = None
align_step bodies c.Bool = Some 1
align_step bodies (c.Int w s r) = Some (size_of_width w)
align_step bodies c.Char = Some 1
align_step bodies (c.Enum n) = Some 4
align_step bodies (c.Struct s) = option_map (λ l. l.align) (layout_at bodies s)
align_step bodies (c.Pointer x) = Some 8
align_step bodies (c.Array x n) = x
align_step bodies (c.Function p) = None
align_step bodies c.Descriptor = Some 8
align_step bodies (c.Cdesc r) = Some 8
align_step bodies (c.Const x) = x

-- the alignment of an object of the type; void, functions and incomplete types have none
abbrev pub alignment : Bodies → CType → Option ℕ
alignment bodies = fold-CType (Option ℕ) (Unit {0}) (align_step bodies) (λ p. tt)

-- 6.2.5p20: an array's elements lie one behind another
abbrev pub size_step : Bodies → CType-F (Option ℕ) (Unit {0}) → Option ℕ
size_step bodies c.Void = None
size_step bodies c.Bool = Some 1
size_step bodies (c.Int w s r) = Some (size_of_width w)
size_step bodies c.Char = Some 1
size_step bodies (c.Enum n) = Some 4
size_step bodies (c.Struct s) = option_map (λ l. l.size) (layout_at bodies s)
size_step bodies (c.Pointer x) = Some 8
size_step bodies (c.Array x n) = option_map (λ size. size * n) x
size_step bodies (c.Function p) = None
size_step bodies c.Descriptor = Some 24
size_step bodies (c.Cdesc r) = Some (24 + 24 * r)
size_step bodies (c.Const x) = x

-- the bytes of an object of the type, however many
abbrev pub whole_size : Bodies → CType → Option ℕ
whole_size bodies = fold-CType (Option ℕ) (Unit {0}) (size_step bodies) (λ p. tt)

abbrev pub at_most_limit : ℕ → Option ℕ
at_most_limit size = if nat_le size (2 ^ 62) then Some size else None

-- the size, where it is no more than 2^62 bytes
abbrev pub size_in : Bodies → CType → Option ℕ
size_in bodies kind = option_and_then at_most_limit (whole_size bodies kind)
