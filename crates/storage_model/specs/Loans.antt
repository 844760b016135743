-- Opening and closing a loan: an array dummy becomes associated with the bytes of its actual argument, and the association ends at the return
-- (ISO/IEC 1539-1:2018 15.5.2.4, 15.5.2.11 and 15.5.2.13).
use Rattle.std.specs.Prelude.{ℕ, zero, Bool, true, false, ◌==◌, if◌then◌else◌, List, length, Option, None, get_or, ltb}
use Rattle.std.specs.List.{list_all}
use Rattle.jf_base.specs.declared.tag.Tag.{Tag}
use Rattle.storage_model.specs.declared.cell.Place.{Place}
use Rattle.storage_model.specs.declared.cell.Spot.{Spot}
use Rattle.storage_model.specs.Tags.{V01, V02, V21}
use Rattle.storage_model.specs.Storage.{Storage, Lending, at, outside, is_live, is_memory, size_of, with_loan, with_open}
use Rattle.storage_model.specs.Access.{first, by_offset}

-- the offset is that of a byte of the view
abbrev pub spot_in_range : Storage → Spot → Bool
spot_in_range s p = by_offset (λ k. ltb k (size_of s p.view)) false p.offset

-- the byte that it names, where it is in range
abbrev pub place_of : Spot → Place
place_of p = at p.view (by_offset (λ k. k) zero p.offset)

-- what stands against opening a loan over these places: one is in no live view, one is out of range, or one is a descriptor's; each is asked of all places before the next
abbrev pub check_open : Storage → List Spot → Option Tag
check_open s spots =
    first (list_all (λ p. is_live s p.view) spots) V02
    (first (list_all (spot_in_range s) spots) V01
    (first (list_all (λ p. is_memory s (place_of p)) spots) V21
    None))

-- a new loan is open and has no marks
abbrev pub new_loan : List Place → Bool → Lending
new_loan places writable = record {
  bytes = length places;
  place = λ k. get_or places k outside;
  is_open = true;
  writable = writable;
  written = λ k. false;
  read = λ k. false;
}

-- it gets the next number
abbrev pub open_one : Storage → Lending → Storage
open_one s new = with_loan s (λ l. if l == s.opened then new else s.loan l)

abbrev pub close_one : Storage → ℕ → Storage
close_one s n = with_open s (λ l. if l == n then false else (s.loan l).is_open)

-- what stands against closing a loan: it isn't open
abbrev pub check_close : Storage → ℕ → Option Tag
check_close s n = first ((s.loan n).is_open) V02 None
