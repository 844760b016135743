-- Reading and writing bytes: the points that are asked in order, and what is done.
-- While an array dummy is associated with its actual argument, action on the actual's bytes is through the dummy alone (ISO/IEC 1539-1:2018 15.5.2.13):
-- a write beside an open loan is refused; a read beside it is refused once the byte was written through the loan; and a write through the loan
-- is refused once the byte was read beside it.
use Rattle.std.specs.Prelude.{ℕ, zero, suc, ◌+◌, Bool, true, false, ◌&&◌, ◌||◌, if◌then◌else◌, List, [], ◌∷◌, Option, Some, None, ℤ, pos, negsuc}
use Rattle.std.specs.List.{list_all}
use Rattle.jf_base.specs.declared.tag.Tag.{Tag}
use Rattle.storage_model.specs.declared.cell.View.{View}
use Rattle.storage_model.specs.declared.cell.View.TheVariants.{Home}
use Rattle.storage_model.specs.declared.cell.Place.{Place}
use Rattle.storage_model.specs.declared.cell.Spot.{Spot}
use Rattle.storage_model.specs.declared.cell.Cell.{Cell}
use Rattle.storage_model.specs.declared.cell.Pointer.{Pointer}
use Rattle.storage_model.specs.declared.cell.Pointer.TheVariants.{Null, At, Proc}
use Rattle.storage_model.specs.Tags.{V01, V02, V04, V05, V06, V07, V21}
use Rattle.storage_model.specs.Storage.{Storage, at, is_live, is_memory, with_written, with_read}
use Rattle.storage_model.specs.Chain.{same_place, chain_of, home_of, cell_under, in_range, each_below, each_byte, aligned_to, may_write, not_read, passes, is_beside, none_beside, written_marks, any_mark}

-- the tag where the test fails, and else what stands behind it
abbrev pub first : Bool → Tag → Option Tag → Option Tag
first true t rest = rest
first false t rest = Some t

-- what is asked of n bytes from a pointer on: it is neither null nor a procedure, each view of each byte's chain is live, each byte is in range in each of these
-- views (nothing at a negative offset is), and then further points; of 0 bytes it is asked alone that the pointer's own view is live
-- (ISO/IEC 9899:2011 6.2.4 on lifetimes, 6.5.3.2 on what may be pointed to)
abbrev pub check_access : Storage → (View → ℕ → ℕ → Option Tag) → Pointer → ℕ → Option Tag
check_access s points Null n = Some V04
check_access s points (Proc number proto) n = Some V01
check_access s points (At v k) zero = first (is_live s v) V02 None
check_access s points (At v (pos k)) (suc m) =
    first (each_byte s v k (suc m) (λ q. is_live s q.view)) V02
    (first (each_byte s v k (suc m) (in_range s)) V01
    (points v k (suc m)))
check_access s points (At v (negsuc k)) (suc m) = first (is_live s v) V02 (Some V01)

-- the further points of a read: aligned in each view of the first byte's chain, no descriptor's, and beside no loan through which the byte was written
abbrev pub read_points : Storage → ℕ → View → ℕ → ℕ → Option Tag
read_points s a v k n =
    first (list_all (aligned_to a) (chain_of s (at v k))) V05
    (first (each_byte s v k n (is_memory s)) V21
    (first (each_below (λ x. none_beside s (written_marks s) (at v (k + x))) n) V07
    None))

-- and of a write: aligned, through no view that is read-only, no descriptor's, beside no loan, and through no loan beside which the byte was read
abbrev pub write_points : Storage → ℕ → View → ℕ → ℕ → Option Tag
write_points s a v k n =
    first (list_all (aligned_to a) (chain_of s (at v k))) V05
    (first (each_byte s v k n (may_write s)) V06
    (first (each_byte s v k n (is_memory s)) V21
    (first (each_below (λ x. none_beside s any_mark (at v (k + x))) n && each_byte s v k n (not_read s)) V07
    None)))

-- the first broken point of a read, and of a write, of n bytes at alignment a
abbrev pub check_read : Storage → Pointer → ℕ → ℕ → Option Tag
check_read s p n a = check_access s (read_points s a) p n

abbrev pub check_write : Storage → Pointer → ℕ → ℕ → Option Tag
check_write s p n a = check_access s (write_points s a) p n

-- a cell is put at the home byte, and each loan in the chain is marked as written
abbrev pub write_one : Storage → Place → Cell → Storage
write_one s p c = with_written s
    (λ o i. if same_place (home_of s p) (at (Home o) i) then c else (s.object o).cells i)
    (λ l k. passes s p l k || (s.loan l).written k)

-- cells are put at the bytes of a view from offset k on
abbrev pub write_all : Storage → View → ℕ → List Cell → Storage
write_all s v k [] = s
write_all s v k (c ∷ cs) = write_all (write_one s (at v k) c) v (k + 1) cs

-- a byte is read: the bytes of loans beside it are marked as read
abbrev pub read_one : Storage → Place → Storage
read_one s p = with_read s (λ l k. is_beside s p l k || (s.loan l).read k)

abbrev pub read_all : Storage → View → ℕ → ℕ → Storage
read_all s v k zero = s
read_all s v k (suc n) = read_all (read_one s (at v k)) v (k + 1) n

-- the cells of n bytes of a view from offset k on
abbrev pub cells_from : Storage → View → ℕ → ℕ → List Cell
cells_from s v k zero = []
cells_from s v k (suc n) = cell_under s (at v k) ∷ cells_from s v (k + 1) n

-- what a read that is allowed gives, and what it and a write leave
abbrev pub cells_at : Storage → Pointer → ℕ → List Cell
cells_at s (At v (pos k)) n = cells_from s v k n
cells_at s p n = []

abbrev pub after_read : Storage → Pointer → ℕ → Storage
after_read s (At v (pos k)) n = read_all s v k n
after_read s p n = s

abbrev pub after_write : Storage → Pointer → List Cell → Storage
after_write s (At v (pos k)) cells = write_all s v k cells
after_write s p cells = s

-- the cell at a place: none where a view of the chain isn't live, or the offset is out of range
abbrev pub peek_at : Storage → View → ℕ → Option Cell
peek_at s v k = if list_all (λ q. is_live s q.view) (chain_of s (at v k)) && list_all (in_range s) (chain_of s (at v k)) then Some (cell_under s (at v k)) else None

abbrev pub by_offset : {A : Type 0} → (ℕ → A) → A → ℤ → A
by_offset within below (pos k) = within k
by_offset within below (negsuc k) = below

abbrev pub peeked : Storage → Spot → Option Cell
peeked s p = by_offset (λ k. peek_at s p.view k) None p.offset

-- the offset as a number from 0 on
abbrev pub offset_of : ℤ → Option ℕ
offset_of (pos k) = Some k
offset_of (negsuc k) = None
