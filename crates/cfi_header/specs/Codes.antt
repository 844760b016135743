-- The codes of types in descriptors (ISO/IEC 1539-1:2018, 18.5.4, table 18.4), and how long descriptors are (18.5.3).
use Rattle.std.specs.Prelude.{ℕ, ℤ, pos, negsuc, ◌+◌, ◌*◌, List, [], ◌∷◌, Option, Some, None, if◌then◌else◌}
use Rattle.std.specs.Ordering.{int_eq}
use Rattle.cfi_header.specs.declared.codes.CodeRow.{CodeRow}

abbrev pub row : ℤ → Option ℕ → CodeRow
row code own = record { code = code; length = own }

-- each code once, with its own length in bytes, if it has one
abbrev pub codes_of_types : List CodeRow
codes_of_types =
    -- signed char, int8_t
    row (pos 1) (Some 1)
    -- short, int16_t
    ∷ row (pos 2) (Some 2)
    -- int, int32_t
    ∷ row (pos 3) (Some 4)
    -- long, long long, int64_t, size_t, intmax_t, intptr_t, ptrdiff_t
    ∷ row (pos 4) (Some 8)
    -- _Bool
    ∷ row (pos 5) (Some 1)
    -- char
    ∷ row (pos 6) None
    -- pointers to objects, and to functions
    ∷ row (pos 7) (Some 8)
    ∷ row (pos 8) (Some 8)
    -- structs
    ∷ row (pos 9) None
    -- other types
    ∷ row (negsuc 0) None ∷ []

-- the row of a code, if one has it
unfoldable pub row_of : List CodeRow → ℤ → Option CodeRow
row_of [] code = None
row_of (r ∷ rs) code = if int_eq r.code code then Some r else row_of rs code

abbrev pub code_row : ℤ → Option CodeRow
code_row code = row_of codes_of_types code

-- base_addr, elem_len and the four short members, and then three members for each dimension
abbrev pub descriptor_size : ℕ → ℕ
descriptor_size rank = 24 + 24 * rank
