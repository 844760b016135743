-- What a subscript triplet stands for, as the standard tells it.
use Rattle.std.specs.Prelude.{◌≡◌, ◌≢◌, ℕ, ℤ, pos, true, false, ◌<◌, ◌+ℤ◌, ◌-ℤ◌, ◌*ℤ◌, length, slice_index_or, int_div}
use Rattle.std.specs.Int.{int_max}
use Rattle.std.specs.List.{All}
use Rattle.array_view.specs.declared.subscript.Sub.TheVariants.{Triplet}
use Rattle.array_view.specs.Subscripts.{is_past, subscripts_of}

-- as many subscripts as the quotient of last - first + stride and stride says, truncated toward 0, and none where it is negative (9.5.3.3.1)
abbrev pub IsCountedByQuotient : Type 0
IsCountedByQuotient = (first last stride : ℤ) → stride ≢ pos 0 → pos (length (subscripts_of (Triplet first last stride))) ≡ int_max (int_div (last -ℤ first +ℤ stride) stride) (pos 0)

-- the n-th, from 0 on, is n strides from the first
abbrev pub GoesByStrides : Type 0
GoesByStrides = (first last stride d : ℤ) (n : ℕ) → n < length (subscripts_of (Triplet first last stride)) → slice_index_or (subscripts_of (Triplet first last stride)) n d ≡ first +ℤ pos n *ℤ stride

-- none lies beyond the last value, and the next one would
abbrev pub GoesToTheLast : Type 0
GoesToTheLast = (first last stride : ℤ) → stride ≢ pos 0
    → All (λ k. is_past last stride k ≡ false) (subscripts_of (Triplet first last stride))
    × (is_past last stride (first +ℤ pos (length (subscripts_of (Triplet first last stride))) *ℤ stride) ≡ true)
