-- How the members of a struct lie (C11 6.7.2.1p14, p15, p17; the RISC-V ELF psABI): in their order, each at the next multiple of its alignment.
use Rattle.std.specs.Prelude.{ℕ, ◌+◌, ◌-◌, ◌*◌, ◌/◌, ◌==◌, find, max, unwrap_or, Option, List, [], ◌∷◌}
use Rattle.std.specs.Option.{option_and_then}
use Rattle.c_types.specs.declared.ctype.CType.{CType}
use Rattle.c_types.specs.declared.ctype.Layout.{Layout}
use Rattle.c_types.specs.declared.ctype.Member.{Member}
use Rattle.c_types.specs.Sizes.{Bodies, alignment, layout_at, whole_size}

-- members as they are declared: their names and types
abbrev pub Declared : Type 0
Declared = List (ℕ × CType)

-- the least multiple of the alignment at or after the end
abbrev pub rounded : ℕ → ℕ → ℕ
rounded end align = (end + (align - 1)) / align * align

abbrev pub align_or_one : Bodies → CType → ℕ
align_or_one bodies kind = unwrap_or (alignment bodies kind) 1

abbrev pub size_or_none : Bodies → CType → ℕ
size_or_none bodies kind = unwrap_or (whole_size bodies kind) 0

-- p15: each member begins at or after the end of the one before it, at the first place that its alignment allows
abbrev pub placed : Bodies → ℕ → Declared → List Member
placed bodies end [] = []
placed bodies end (m ∷ ms) =
    let offset : ℕ = rounded end (align_or_one bodies m.1) in
    record { name = m.0; kind = m.1; offset = offset } ∷ placed bodies (offset + size_or_none bodies m.1) ms

-- where the last member ends
abbrev pub end_of_last : Bodies → ℕ → Declared → ℕ
end_of_last bodies end [] = end
end_of_last bodies end (m ∷ ms) = end_of_last bodies (rounded end (align_or_one bodies m.1) + size_or_none bodies m.1) ms

-- the strictest of an alignment and those of the members
abbrev pub strictest : Bodies → ℕ → Declared → ℕ
strictest bodies align [] = align
strictest bodies align (m ∷ ms) = strictest bodies (max align (align_or_one bodies m.1)) ms

-- p14 and p17: a struct is aligned as its most strictly aligned member, and padded at its end to a multiple of that
abbrev pub layout_of : Bodies → Declared → Layout
layout_of bodies members =
    let align : ℕ = strictest bodies 1 members in
    record { members = placed bodies 0 members; size = rounded (end_of_last bodies 0 members) align; align = align }

-- the first of the members that has the name
abbrev pub member_among : ℕ → List Member → Option Member
member_among name members = find (λ m. m.name == name) members

-- the member of a struct that has the name, where the struct is complete and has one
abbrev pub member_at : Bodies → ℕ → ℕ → Option Member
member_at bodies s name = option_and_then (λ l. member_among name l.members) (layout_at bodies s)
