-- What the laws of operators and intrinsic functions say, over all values of a kind.
use Rattle.std.specs.Prelude.{◌≡◌, ◌≢◌, ◌↔◌, ◌⊎◌, ℕ, suc, ℤ, pos, negsuc, neg_ℤ, ◌+◌, ◌-◌, ◌*◌, ◌/◌, ◌%◌, ◌^◌, ◌<◌, ◌≤◌, ◌+ℤ◌, ◌-ℤ◌, ◌*ℤ◌, ◌<ℤ◌, ◌≤ℤ◌, nat_le, nat_lt, max, Bool, not, true, ◌&&◌, Option, Some, List, [], ◌∷◌, length, unsigned_abs, int_div}
use Rattle.std.specs.Cmp.Lexicographic.{slice_cmp}
use Rattle.std.specs.Ordering.{nat_cmp}
use Rattle.f_value.specs.declared.value.Did.{Did}
use Rattle.f_value.specs.declared.value.Did.TheVariants.{Done}
use Rattle.f_value.specs.declared.value.FIntrinsic.{FIntrinsic}
use Rattle.f_value.specs.declared.value.FIntrinsic.TheVariants as f
use Rattle.f_value.specs.declared.value.FOp.TheVariants as op
use Rattle.f_value.specs.declared.value.FValue.{FValue}
use Rattle.f_value.specs.declared.value.FValue.TheVariants.{Int, Text}
use Rattle.f_value.specs.Answers.{Gives, Holds}
use Rattle.f_value.specs.Bits.{bit_size, pattern, has_bit}
use Rattle.f_value.specs.Intrinsics.{intrinsic_of, shift_too_far, trimmed}
use Rattle.f_value.specs.Operators.{binary_of}
use Rattle.f_value.specs.Texts.{padded, padded_order}
use Rattle.f_value.specs.Values.{by_zero, has, in_kind, out_of_kind}

-- a / p is truncated toward 0, and MOD is what it leaves: smaller than p, with the sign of a (10.1.5.2.2, 16.9.135)
abbrev pub LeavesRemainder : Type 0
LeavesRemainder = (a p : ℤ) (kind : ℕ) → has kind a ≡ true → has kind p ≡ true → p ≢ pos 0
    → (binary_of op.Divide (Int a kind) (Int p kind) ≡ Some (in_kind (int_div a p) kind))
    × Gives (intrinsic_of f.Mod (Int a kind ∷ Int p kind ∷ [])) kind
    (λ r. (int_div a p *ℤ p +ℤ r ≡ a) × (unsigned_abs r < unsigned_abs p) × (pos 0 ≤ℤ a → pos 0 ≤ℤ r) × (a ≤ℤ pos 0 → r ≤ℤ pos 0))

-- MODULO is what a whole quotient leaves, from 0 to p without p itself (16.9.136)
abbrev pub LeavesModulo : Type 0
LeavesModulo = (a p : ℤ) (kind : ℕ) → has kind a ≡ true → has kind p ≡ true → p ≢ pos 0
    → Gives (intrinsic_of f.Modulo (Int a kind ∷ Int p kind ∷ [])) kind
    (λ r. ((q : ℤ) × (q *ℤ p +ℤ r ≡ a)) × (pos 0 <ℤ p → (pos 0 ≤ℤ r) × (r <ℤ p)) × (p <ℤ pos 0 → (p <ℤ r) × (r ≤ℤ pos 0)))

-- each bit of the result is made of the same bit of the two arguments
abbrev pub JoinsBits : FIntrinsic → (Bool → Bool → Bool) → Type 0
JoinsBits name join = (a b : ℤ) (kind : ℕ) → has kind a ≡ true → has kind b ≡ true
    → Gives (intrinsic_of name (Int a kind ∷ Int b kind ∷ [])) kind
    (λ r. (k : ℕ) → k < bit_size kind → has_bit r (bit_size kind) k ≡ join (has_bit a (bit_size kind) k) (has_bit b (bit_size kind) k))

-- NOT turns each bit round, and gives -1 - a (16.9.143)
abbrev pub TurnsBits : Type 0
TurnsBits = (a : ℤ) (kind : ℕ) → has kind a ≡ true
    → Gives (intrinsic_of f.Not (Int a kind ∷ [])) kind
    (λ r. (r ≡ negsuc 0 -ℤ a) × ((k : ℕ) → k < bit_size kind → has_bit r (bit_size kind) k ≡ not (has_bit a (bit_size kind) k)))

-- ISHFT of a number of the kind, by a number of any kind
abbrev pub ishft : ℤ → ℤ → ℕ → ℕ → Option (Did FValue)
ishft a s kind count_kind = intrinsic_of f.Ishft (Int a kind ∷ Int s count_kind ∷ [])

-- to the left by s: the product by 2 to the s, without what leaves the bits; bit k is bit k - s, and the lowest are 0 (16.9.103)
abbrev pub ShiftsLeft : Type 0
ShiftsLeft = (a : ℤ) (s kind j : ℕ) → has kind a ≡ true → s ≤ bit_size kind
    → Gives (ishft a (pos s) kind j) kind
    (λ r. (pattern r (bit_size kind) ≡ pattern a (bit_size kind) * 2 ^ s % 2 ^ bit_size kind)
    × ((k : ℕ) → k < bit_size kind → has_bit r (bit_size kind) k ≡ (nat_le s k && has_bit a (bit_size kind) (k - s))))

-- to the right by s: the bits, as a number without sign, divided by 2 to the s; bit k is bit k + s, and the highest are 0 (16.9.103)
abbrev pub ShiftsRight : Type 0
ShiftsRight = (a : ℤ) (s kind j : ℕ) → has kind a ≡ true → s ≤ bit_size kind
    → Gives (ishft a (neg_ℤ (pos s)) kind j) kind
    (λ r. (pattern r (bit_size kind) ≡ pattern a (bit_size kind) / 2 ^ s)
    × ((k : ℕ) → k < bit_size kind → has_bit r (bit_size kind) k ≡ (nat_lt (k + s) (bit_size kind) && has_bit a (bit_size kind) (k + s))))

-- where no 1 is lost on the left, the shift back gives the number again
abbrev pub ComesBackFromLeft : Type 0
ComesBackFromLeft = (a : ℤ) (s kind j : ℕ) → has kind a ≡ true → s ≤ bit_size kind → pattern a (bit_size kind) * 2 ^ s < 2 ^ bit_size kind
    → Gives (ishft a (pos s) kind j) kind (λ r. ishft r (neg_ℤ (pos s)) kind j ≡ Some (Done (Int a kind)))

-- where no 1 is lost on the right, the shift back gives the number again
abbrev pub ComesBackFromRight : Type 0
ComesBackFromRight = (a : ℤ) (s kind j : ℕ) → has kind a ≡ true → s ≤ bit_size kind → pattern a (bit_size kind) % 2 ^ s ≡ 0
    → Gives (ishft a (neg_ℤ (pos s)) kind j) kind (λ r. ishft r (pos s) kind j ≡ Some (Done (Int a kind)))

-- by the number of bits, to either side, nothing is left
abbrev pub EmptiesByWidth : Type 0
EmptiesByWidth = (a : ℤ) (kind j : ℕ) → has kind a ≡ true
    → (ishft a (pos (bit_size kind)) kind j ≡ Some (Done (Int (pos 0) kind)))
    × (ishft a (neg_ℤ (pos (bit_size kind))) kind j ≡ Some (Done (Int (pos 0) kind)))

-- by more than the number of bits, to either side, is the violation
abbrev pub RefusesMore : Type 0
RefusesMore = (a : ℤ) (s kind j : ℕ) → bit_size kind < s
    → (ishft a (pos s) kind j ≡ Some shift_too_far) × (ishft a (neg_ℤ (pos s)) kind j ≡ Some shift_too_far)

-- a ** b, in the greater kind of the two
abbrev pub raise : ℤ → ℤ → ℕ → ℕ → Option (Did FValue)
raise a b j k = binary_of op.Power (Int a j) (Int b k)

-- a ** 0 is 1, of 0 too
abbrev pub BeginsWithOne : Type 0
BeginsWithOne = (a : ℤ) (j k : ℕ) → raise a (pos 0) j k ≡ Some (Done (Int (pos 1) (max j k)))

-- a ** (n + 1) is the product of a ** n and a, or the violation of that product; and once a power has left its kind, so has the next
abbrev pub GoesOnByProducts : Type 0
GoesOnByProducts = (a : ℤ) (n j k : ℕ)
    → ((u : ℤ) → raise a (pos n) j k ≡ Some (Done (Int u (max j k))) → raise a (pos (suc n)) j k ≡ binary_of op.Multiply (Int u (max j k)) (Int a j))
    × (raise a (pos n) j k ≡ Some out_of_kind → raise a (pos (suc n)) j k ≡ Some out_of_kind)

-- to a negative power: 0 is the violation, 1 gives 1, -1 gives what the positive power gives, and all others give 0 (10.1.5.2.2)
abbrev pub GoesBackByQuotients : Type 0
GoesBackByQuotients = (n j k : ℕ)
    → (raise (pos 0) (negsuc n) j k ≡ Some by_zero)
    × (raise (pos 1) (negsuc n) j k ≡ Some (Done (Int (pos 1) (max j k))))
    × (raise (negsuc 0) (negsuc n) j k ≡ raise (negsuc 0) (pos (suc n)) j k)
    × ((a : ℤ) → 2 ≤ unsigned_abs a → raise a (negsuc n) j k ≡ Some (Done (Int (pos 0) (max j k))))

-- the order of two texts is that of their bytes with blanks behind both, to any length that holds both (10.1.5.5.1)
abbrev pub ComparesPadded : Type 0
ComparesPadded = (s t : List ℕ) (n : ℕ) → length s ≤ n → length t ≤ n → padded_order s t ≡ slice_cmp nat_cmp (padded n s) (padded n t)

-- <= between texts is an order: of any two, of three in turn, and both ways exactly where only trailing blanks differ
abbrev pub IsOneWay : Type 0
IsOneWay = (s t : List ℕ) → Holds op.LessEqual (Text s) (Text t) ⊎ Holds op.LessEqual (Text t) (Text s)

abbrev pub GoesOn : Type 0
GoesOn = (s t u : List ℕ) → Holds op.LessEqual (Text s) (Text t) → Holds op.LessEqual (Text t) (Text u) → Holds op.LessEqual (Text s) (Text u)

abbrev pub IsBothWays : Type 0
IsBothWays = (s t : List ℕ) → (Holds op.LessEqual (Text s) (Text t) × Holds op.LessEqual (Text t) (Text s)) ↔ (trimmed s ≡ trimmed t)

-- == and < between texts go by <=
abbrev pub IsEqualBothWays : Type 0
IsEqualBothWays = (s t : List ℕ) → Holds op.Equal (Text s) (Text t) ↔ (trimmed s ≡ trimmed t)

abbrev pub IsLessOneWay : Type 0
IsLessOneWay = (s t : List ℕ) → (Holds op.LessEqual (Text t) (Text s) → ⊥) ↔ Holds op.Less (Text s) (Text t)
