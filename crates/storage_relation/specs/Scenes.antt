-- Small runs that compute.
use Rattle.std.specs.Prelude.{ℕ, ◌+◌, ◌-◌, ◌*◌, true, ◌==◌, if◌then◌else◌, [], ◌∷◌, map, pos}
use Rattle.storage_model.specs.declared.cell.View.TheVariants.{Home, Loan}
use Rattle.storage_model.specs.declared.cell.Spot.{Spot}
use Rattle.storage_model.specs.declared.cell.View.{View}
use Rattle.storage_model.specs.declared.cell.Kind.TheVariants.{Plain}
use Rattle.storage_model.specs.declared.cell.Cell.TheVariants.{Byte}
use Rattle.storage_model.specs.Storage.{Storage, empty, by_view}
use Rattle.storage_model.specs.Access.{write_all}
use Rattle.storage_model.specs.Ends.{make_one, new_object}
use Rattle.storage_model.specs.Loans.{open_one, close_one, new_loan, place_of}
use Rattle.storage_relation.specs.Flat.{Placement, closing, copy, store_all}

abbrev pub spot : View → ℕ → Spot
spot v k = record { view = v; offset = pos k }

-- one byte, a loan over it, and a writable loan whose two bytes are the first loan's byte and the home byte
abbrev pub twice_lent : Storage
twice_lent = open_one (open_one (make_one empty (new_object 1 Plain (Byte 5 ∷ []))) (new_loan (map place_of (spot (Home 0) 0 ∷ [])) true))
    (new_loan (map place_of (spot (Loan 0) 0 ∷ spot (Home 0) 0 ∷ [])) true)

-- nine bytes, every second of them lent, every second of those lent, both loans copied
abbrev pub nested : Storage
nested = open_one (open_one
    (make_one empty (new_object 9 Plain (Byte 1 ∷ Byte 2 ∷ Byte 3 ∷ Byte 4 ∷ Byte 5 ∷ Byte 6 ∷ Byte 7 ∷ Byte 8 ∷ Byte 9 ∷ [])))
    (new_loan (map place_of (spot (Home 0) 0 ∷ spot (Home 0) 2 ∷ spot (Home 0) 4 ∷ spot (Home 0) 6 ∷ spot (Home 0) 8 ∷ [])) true))
    (new_loan (map place_of (spot (Loan 0) 0 ∷ spot (Loan 0) 2 ∷ spot (Loan 0) 4 ∷ [])) true)

abbrev pub nested_placed : Placement
nested_placed = record { start = by_view (λ o. 16) (λ l. if l == 0 then 32 else 48); copied = λ l. true; code = λ n. 0; fields = λ o i. 0 }

abbrev pub nested_start : ℕ → ℕ
nested_start a = a + 1 - 16

-- the memory after both gathers
abbrev pub nested_gathered : ℕ → ℕ
nested_gathered = copy (λ k. 32 + 2 * k) (λ k. 48 + k) 3 (copy (λ k. 16 + 2 * k) (λ k. 32 + k) 5 nested_start)

-- the inner loan's bytes are set to 0, and both loans are closed
abbrev pub nested_written : Storage
nested_written = write_all nested (Loan 1) 0 (Byte 0 ∷ Byte 0 ∷ Byte 0 ∷ [])

abbrev pub nested_memory : ℕ → ℕ
nested_memory = closing (close_one nested_written 1) nested_placed 0
    (closing nested_written nested_placed 1 (store_all nested_gathered 48 (0 ∷ 0 ∷ 0 ∷ [])))
