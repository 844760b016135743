-- What is true of each table of structs, and what a table keeps when it grows.
use Rattle.std.specs.Prelude.{◌≡◌, ℕ, suc, ◌+◌, ◌%◌, ◌<◌, ◌≤◌, ◌^◌, All, Option, Some, None, IfSome, IsSome, List, [], ◌∷◌}
use Rattle.c_types.specs.declared.ctype.CType.{CType, CType-F, fold-CType}
use Rattle.c_types.specs.declared.ctype.CType.TheOpen as c
use Rattle.c_types.specs.declared.ctype.Layout.{Layout}
use Rattle.c_types.specs.declared.ctype.Member.{Member}
use Rattle.c_types.specs.declared.ctype.StructBody.TheVariants.{Incomplete, Complete}
use Rattle.c_types.specs.Layouts.{align_or_one, size_or_none}
use Rattle.c_types.specs.Sizes.{Bodies, alignment, layout_at, whole_size}

-- Each member has a size, begins at a multiple of its alignment and at or after the end of the one before it, and the last ends within the struct: so no two have a byte in common, and each lies inside.
abbrev pub InOrder : Bodies → ℕ → List Member → ℕ → Type 0
InOrder bodies end [] size = end ≤ size
InOrder bodies end (m ∷ ms) size =
    (end ≤ m.offset) × (m.offset % align_or_one bodies m.kind ≡ 0) × IsSome (whole_size bodies m.kind) × InOrder bodies (m.offset + size_or_none bodies m.kind) ms size

-- how a complete struct of the table lies
pub record IsSound (bodies : Bodies) (l : Layout) : Type 0 where
  pub some_align : 1 ≤ l.align
  pub most_align : l.align ≤ 8
  pub most_size : l.size ≤ 2 ^ 62
  pub padded : l.size % l.align ≡ 0
  pub in_order : InOrder bodies 0 l.members l.size

abbrev pub AreSound : Bodies → Type 0
AreSound bodies = (s : ℕ) (l : Layout) → layout_at bodies s ≡ Some l → IsSound bodies l

abbrev pub held_step : CType-F (Option ℕ) (Unit {0}) → Option ℕ
held_step (c.Struct s) = Some s
held_step (c.Array x n) = x
held_step (c.Const x) = x
held_step _ = None

-- the struct that an object of the type consists of, one or several of it in a row; none behind a pointer
abbrev pub held : CType → Option ℕ
held = fold-CType (Option ℕ) (Unit {0}) held_step (λ p. tt)

-- how many structs are complete
abbrev pub completed : Bodies → ℕ
completed [] = 0
completed (Incomplete ∷ bodies) = completed bodies
completed (Complete l ∷ bodies) = suc (completed bodies)

-- 6.7.2.1p3: a struct has no member of incomplete type, so the structs that its members hold were completed before it. The times count the complete structs from 0.
pub record CompletedInTurn (bodies : Bodies) (time : ℕ → ℕ) : Type 0 where
  pub counted : (s : ℕ) (l : Layout) → layout_at bodies s ≡ Some l → time s < completed bodies
  pub earlier : (s : ℕ) (l : Layout) → layout_at bodies s ≡ Some l → All (λ m. IfSome (held m.kind) (λ u. time u < time s)) l.members

-- each complete struct is sound, and was completed at some time after those that it holds
pub record IsTable (bodies : Bodies) : Type 0 where
  pub sound : AreSound bodies
  pub times : (time : ℕ → ℕ) × CompletedInTurn bodies time

-- what is laid out, and what has a size and an alignment, stays so for good
pub record Keeps (old new : Bodies) : Type 0 where
  pub layouts : (s : ℕ) (l : Layout) → layout_at old s ≡ Some l → layout_at new s ≡ Some l
  pub sizes : (kind : CType) (n : ℕ) → whole_size old kind ≡ Some n → whole_size new kind ≡ Some n
  pub alignments : (kind : CType) (n : ℕ) → alignment old kind ≡ Some n → alignment new kind ≡ Some n
