-- The elemental intrinsic functions on scalar arguments (16.9).
use Rattle.std.specs.Prelude.{ℕ, ℤ, pos, negsuc, neg_ℤ, ◌+ℤ◌, ◌-ℤ◌, ◌*◌, ◌/◌, ◌^◌, ◌==◌, ◌&&◌, ◌||◌, bit_and, bit_or, bit_xor, nat_eq, nat_le, Bool, true, false, Option, Some, None, List, [], ◌∷◌, length, take, unsigned_abs, int_rem, suc, if◌then◌else◌}
use Rattle.std.specs.Int.Signed.{lt_z}
use Rattle.std.specs.Int.{int_max, int_min}
use Rattle.std.specs.Option.{option_map}
use Rattle.jf_base.specs.Numbers.{residue, wrapped, size_of_width}
use Rattle.f_value.specs.declared.value.Did.{Did}
use Rattle.f_value.specs.declared.value.Did.TheVariants.{Done, Violation}
use Rattle.f_value.specs.declared.value.FIntrinsic.{FIntrinsic}
use Rattle.f_value.specs.declared.value.FIntrinsic.TheVariants as f
use Rattle.f_value.specs.declared.value.FValue.{FValue}
use Rattle.f_value.specs.declared.value.FValue.TheVariants.{Int, Logical, Text}
use Rattle.f_value.specs.Integers.{is_zero}
use Rattle.f_value.specs.Values.{by_zero, in_kind, width_of_kind}

-- V10: ISHFT by more than the width; V16: texts of unequal lengths; V27: CHAR of a number outside 0 to 255
abbrev pub shift_too_far : Did FValue
shift_too_far = Violation (record { 0 = 910 })

abbrev pub lengths_differ : Did FValue
lengths_differ = Violation (record { 0 = 916 })

abbrev pub no_character : Did FValue
no_character = Violation (record { 0 = 927 })

-- 16.9.135: MOD has the sign of A
abbrev pub remainder : ℤ → ℤ → ℕ → Did FValue
remainder a p kind = if is_zero p then by_zero else in_kind (int_rem a p) kind

-- 16.9.136: MODULO is the remainder that has the sign of P
abbrev pub differs_in_sign : ℤ → ℤ → Bool
differs_in_sign r p = (lt_z r (pos 0) && lt_z (pos 0) p) || (lt_z (pos 0) r && lt_z p (pos 0))

-- a remainder of a division by p with the sign of p
abbrev pub with_sign_of : ℤ → ℤ → ℤ
with_sign_of r p = if differs_in_sign r p then r +ℤ p else r

abbrev pub modulo : ℤ → ℤ → ℕ → Did FValue
modulo a p kind = if is_zero p then by_zero else in_kind (with_sign_of (int_rem a p) p) kind

-- 16.3.1: the bits of a number, as one without sign below 2 to their number
abbrev pub bits_of : ℤ → ℕ → ℕ
bits_of v kind = residue v (width_of_kind kind)

-- the number of the kind with these bits
abbrev pub of_bits : ℕ → ℕ → Did FValue
of_bits n kind = Done (Int (wrapped (pos n) (width_of_kind kind) true) kind)

-- 16.9.103: ISHFT shifts to the left where SHIFT is positive, else to the right, and fills with zeros
abbrev pub shifted : ℤ → ℤ → ℕ → Did FValue
shifted v (pos s) kind = if nat_le s (8 * size_of_width (width_of_kind kind)) then of_bits (bits_of v kind * 2 ^ s) kind else shift_too_far
shifted v (negsuc s) kind = if nat_le (suc s) (8 * size_of_width (width_of_kind kind)) then of_bits (bits_of v kind / 2 ^ suc s) kind else shift_too_far

-- 16.9.44: the character of a number
abbrev pub character : ℤ → Did FValue
character (pos n) = if nat_le n 255 then Done (Text (n ∷ [])) else no_character
character (negsuc n) = no_character

-- 16.9.113: the length without trailing blanks
abbrev pub len_trim : List ℕ → ℕ
len_trim [] = 0
len_trim (x ∷ xs) = if (x == 32) && (len_trim xs == 0) then 0 else suc (len_trim xs)

-- 16.9.195: a text without trailing blanks, as TRIM gives it
abbrev pub trimmed : List ℕ → List ℕ
trimmed s = take (len_trim s) s

abbrev pub is_kind : ℕ → Bool
is_kind kind = (kind == 1) || (kind == 2) || (kind == 4) || (kind == 8)

-- INT to a kind that is a number of bytes
abbrev pub converted : ℤ → ℤ → Option (Did FValue)
converted v (pos kind) = if is_kind kind then Some (in_kind v kind) else None
converted v (negsuc n) = None

-- functions of one INTEGER
abbrev pub of_integer : FIntrinsic → ℤ → ℕ → Option (Did FValue)
of_integer f.Abs v kind = Some (in_kind (pos (unsigned_abs v)) kind)
of_integer f.Int v kind = Some (in_kind v 4)
of_integer f.Char v kind = Some (character v)
of_integer f.Achar v kind = Some (character v)
of_integer f.Not v kind = Some (in_kind (neg_ℤ v -ℤ pos 1) kind)
of_integer _ v kind = None

-- functions of two INTEGERs, of which the first has the kind of the result
abbrev pub of_integers : FIntrinsic → ℤ → ℤ → ℕ → Option (Did FValue)
of_integers f.Mod a b kind = Some (remainder a b kind)
of_integers f.Modulo a b kind = Some (modulo a b kind)
of_integers f.Int a b kind = converted a b
of_integers f.Iand a b kind = Some (of_bits (bit_and (bits_of a kind) (bits_of b kind)) kind)
of_integers f.Ior a b kind = Some (of_bits (bit_or (bits_of a kind) (bits_of b kind)) kind)
of_integers f.Ieor a b kind = Some (of_bits (bit_xor (bits_of a kind) (bits_of b kind)) kind)
of_integers f.Ishft a b kind = Some (shifted a b kind)
of_integers _ a b kind = None

-- functions of one CHARACTER; ICHAR and IACHAR of one of length 1 give its byte
abbrev pub of_text : FIntrinsic → List ℕ → Option (Did FValue)
of_text f.LenTrim s = Some (in_kind (pos (len_trim s)) 4)
of_text f.Ichar (x ∷ []) = Some (Done (Int (pos x) 4))
of_text f.Iachar (x ∷ []) = Some (Done (Int (pos x) 4))
of_text _ s = None

-- the greatest or the least of numbers
abbrev pub extreme : Bool → ℤ → List FValue → Option ℤ
extreme greatest v [] = Some v
extreme greatest v (Int w kind ∷ rest) = extreme greatest (if greatest then int_max v w else int_min v w) rest
extreme greatest v (Logical b kind ∷ rest) = None
extreme greatest v (Text s ∷ rest) = None

-- MERGE of two values of one type
abbrev pub merged : FValue → FValue → Bool → Option (Did FValue)
merged (Int a j) (Int b k) mask = Some (Done (if mask then Int a j else Int b k))
merged (Logical a j) (Logical b k) mask = Some (Done (if mask then Logical a j else Logical b k))
merged (Text s) (Text t) mask = Some (if nat_eq (length s) (length t) then Done (Text (if mask then s else t)) else lengths_differ)
merged _ _ mask = None

abbrev pub by_arguments : FIntrinsic → List FValue → Option (Did FValue)
by_arguments name (Int v kind ∷ []) = of_integer name v kind
by_arguments name (Text s ∷ []) = of_text name s
by_arguments name (Int a j ∷ Int b k ∷ []) = of_integers name a b j
by_arguments f.Merge (x ∷ y ∷ Logical mask kind ∷ []) = merged x y mask
by_arguments _ _ = None

abbrev pub extreme_of : Bool → List FValue → Option (Did FValue)
extreme_of greatest (Int v kind ∷ rest) = option_map (λ w. Done (Int w kind)) (extreme greatest v rest)
extreme_of greatest _ = None

-- an intrinsic function of its arguments; None where they don't fit it
abbrev pub intrinsic_of : FIntrinsic → List FValue → Option (Did FValue)
intrinsic_of f.Max args = extreme_of true args
intrinsic_of f.Min args = extreme_of false args
intrinsic_of name args = by_arguments name args
