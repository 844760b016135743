-- Arithmetic and comparison of pointers (ISO/IEC 9899:2011 6.5.6, 6.5.8 and 6.5.9).
use Rattle.std.specs.Prelude.{ℕ, Bool, true, false, not, ◌==◌, ◌&&◌, if◌then◌else◌, Option, Some, None, leb, ℤ, pos, negsuc, ◌+ℤ◌, ◌-ℤ◌}
use Rattle.jf_base.specs.declared.tag.Tag.{Tag}
use Rattle.storage_model.specs.declared.cell.View.{View}
use Rattle.storage_model.specs.declared.cell.View.TheVariants.{Home, Loan}
use Rattle.storage_model.specs.declared.cell.Pointer.{Pointer}
use Rattle.storage_model.specs.declared.cell.Pointer.TheVariants.{Null, At, Proc}
use Rattle.storage_model.specs.declared.cell.Did.{Did}
use Rattle.storage_model.specs.declared.cell.Did.TheVariants.{Done, Violation}
use Rattle.storage_model.specs.Tags.{V01, V02, V04, V11}
use Rattle.storage_model.specs.Storage.{Storage, at, by_view, is_live, size_of}
use Rattle.storage_model.specs.Chain.{same_view, home_of}
use Rattle.storage_model.specs.Access.{by_offset}

-- the violation where the test fails, and else what stands behind it
abbrev pub guard : {A : Type 0} → Bool → Tag → Did A → Did A
guard true t answer = answer
guard false t answer = Violation t

-- the offset is from 0 to the view's size, so that a pointer may have it
abbrev pub in_view : Storage → View → ℤ → Bool
in_view s v z = by_offset (λ k. leb k (size_of s v)) false z

abbrev pub is_null : Pointer → Bool
is_null Null = true
is_null (At v z) = false
is_null (Proc number proto) = false

-- a pointer to an object points into a live view
abbrev pub points_live : Storage → Pointer → Bool
points_live s Null = true
points_live s (At v z) = is_live s v
points_live s (Proc number proto) = true

-- and its offset may be that of a pointer
abbrev pub points_within : Storage → Pointer → Bool
points_within s Null = true
points_within s (At v z) = in_view s v z
points_within s (Proc number proto) = true

-- a pointer and a number of bytes (6.5.6 paragraph 8): the result stays in the view
abbrev pub moved_by : Storage → Pointer → ℤ → Did Pointer
moved_by s Null by = Violation V04
moved_by s (At v z) by = guard (is_live s v) V02 (guard (in_view s v z && in_view s v (z +ℤ by)) V01 (Done (At v (z +ℤ by))))
moved_by s (Proc number proto) by = Violation V01

-- the number of the object under a view; a loan without bytes is over none, and counts as a view of every object
abbrev pub object_under : Storage → View → Option ℕ
object_under s (Home o) = Some o
object_under s (Loan l) = if (s.loan l).bytes == 0 then None else Some (by_view (λ o. o) (λ m. m) (home_of s (at (Loan l) 0)).view)

abbrev pub may_share : Option ℕ → Option ℕ → Bool
may_share None b = true
may_share (Some o) None = true
may_share (Some o) (Some p) = o == p

abbrev pub same_offset : ℤ → ℤ → Bool
same_offset (pos j) (pos k) = j == k
same_offset (pos j) (negsuc k) = false
same_offset (negsuc j) (pos k) = false
same_offset (negsuc j) (negsuc k) = j == k

-- whether two pointers that may be compared are equal (6.5.9 paragraph 6): different views of one object can't be compared
abbrev pub same_pointer : Storage → Pointer → Pointer → Did Bool
same_pointer s Null Null = Done true
same_pointer s Null (At w k) = Done false
same_pointer s Null (Proc m u) = Done false
same_pointer s (At v j) Null = Done false
same_pointer s (At v j) (At w k) =
    if same_view v w then Done (same_offset j k) else guard (not (may_share (object_under s v) (object_under s w))) V11 (Done false)
same_pointer s (At v j) (Proc m u) = Done false
same_pointer s (Proc n t) Null = Done false
same_pointer s (Proc n t) (At w k) = Done false
same_pointer s (Proc n t) (Proc m u) = Done (n == m)

-- each points into a live view, and where it may
abbrev pub equality : Storage → Pointer → Pointer → Did Bool
equality s a b =
    guard (points_live s a && points_live s b) V02
    (guard (points_within s a && points_within s b) V01
    (same_pointer s a b))

-- the difference of two pointers into one view (6.5.6 paragraph 9), which is their order too (6.5.8 paragraph 5)
abbrev pub difference : Pointer → Pointer → Did ℤ
difference Null b = Violation V04
difference (At v j) Null = Violation V04
difference (At v j) (At w k) = guard (same_view v w) V11 (Done (j -ℤ k))
difference (At v j) (Proc m u) = Violation V01
difference (Proc n t) Null = Violation V04
difference (Proc n t) (At w k) = Violation V01
difference (Proc n t) (Proc m u) = Violation V01

-- neither is null, each points into a live view, and where it may
abbrev pub distance_of : Storage → Pointer → Pointer → Did ℤ
distance_of s a b =
    guard (not (is_null a) && not (is_null b)) V04
    (guard (points_live s a && points_live s b) V02
    (guard (points_within s a && points_within s b) V01
    (difference a b)))
