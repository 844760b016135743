-- Numerals without a sign or a leading zero are what `decimal` writes.
use Rattle.std.proofs.Common.{◌≡◌, ◌≢◌, ℕ, zero, suc, ◌<◌, List, [], ◌∷◌, length, get_or, refl, sym, ap, subst, arith, ◌∙◌, ◌⊎◌, inl, inr, Result, Ok, Err, Option, Some, None}
use Rattle.std.specs.List.{All}
use Rattle.std.specs.Fmt.{decimal}
use Rattle.std.specs.Char.{IsAsciiDigit, IsAsciiLowercase}
use Rattle.std.specs.Str.{IsAscii, IsUtf8}
use Rattle.std.specs.Str.Parse.{AllDigits, digits_value, ParsesUnsigned}
use Rattle.std.specs.Option.{MatchOption, SomeIff}
use Rattle.std.proofs.lemmas.List.Elements.{All-from_get_or, All-head, All-tail}
use Rattle.std.proofs.lemmas.Str.Parse.{IsNumeralModel, numerals_by_value, tells_digits, tells_by_index, parse_gives}
use Rattle.std.proofs.lemmas.Fmt.{decimal_is_IsNumeral, decimal_digit, first_decimal, decimal-digits_value, IsAscii-from_digits}
use Rattle.std.proofs.lemmas.Str.{IsUtf8-from_ascii}
use Rattle.first_form.specs.Words.{IsInt, IsName, IsPlainNumeral}

pub own : IsNumeralModel (AllDigits 10) (digits_value 10)
own = numerals_by_value (AllDigits 10) tells_digits

pub all_digits : (ds : List ℕ) → All IsAsciiDigit ds → AllDigits 10 ds
all_digits ds h = (numerals_by_value _ tells_by_index).to ds (λ i l. h i 0 l)

pub each_digit : (ds : List ℕ) → AllDigits 10 ds → All IsAsciiDigit ds
each_digit ds h = All-from_get_or IsAsciiDigit ds 0 ((numerals_by_value _ tells_by_index).from ds h)

pub plain_utf8 : (ds : List ℕ) → IsPlainNumeral ds → IsUtf8 ds
plain_utf8 ds h = IsUtf8-from_ascii ds (IsAscii-from_digits ds (all_digits ds h.digits))

zero_or : (m : ℕ) → (m ≡ 0) ⊎ (0 < m)
zero_or zero = inl refl
zero_or (suc m) = inr (omega arith)

plain_start : (n : ℕ) → IsInt n → get_or (decimal n) 0 0 ≡ 48 → length (decimal n) ≡ 1
plain_start n h e = elim (zero_or n) [
  | inl z ↦ ap (λ (m : ℕ). length (decimal m)) z ∙ ap length (decimal_digit 0 (omega arith))
  | inr p ↦ absurd (omega (arith, first_decimal n p (omega arith)))
]

-- what is written of a number is such a numeral
pub decimal_plain : (n : ℕ) → IsInt n → IsPlainNumeral (decimal n)
decimal_plain n h = record {
  some = (decimal_is_IsNumeral n (omega arith)).0.0;
  digits = each_digit _ (decimal_is_IsNumeral n (omega arith)).0.1;
  plain = plain_start n h;
}

pub value_of_decimal : (n : ℕ) → IsInt n → digits_value 10 (decimal n) ≡ n
value_of_decimal n h = (decimal_is_IsNumeral n (omega arith)).1

-- such a numeral is what is written of its value
pub plain_decimal : (ds : List ℕ) → IsPlainNumeral ds → IsInt (digits_value 10 ds) → ds ≡ decimal (digits_value 10 ds)
plain_decimal ds h small = sym (decimal-digits_value own ds (all_digits ds h.digits) h.some h.plain (omega arith))

-- what `parse` refuses is no such numeral of an `int`
pub refused : {E : Type 0} (text ds : List ℕ) (r : Result ℕ E) (e : E) → text ≡ ds → ParsesUnsigned 32 10 text r → r ≡ Err e → IsPlainNumeral ds → IsInt (digits_value 10 ds) → ⊥
refused {E} text ds r e same parsed err plain small =
    let gives : r ≡ Ok (digits_value 10 ds) = parse_gives own 32 ds r (subst (λ (x : List ℕ). ParsesUnsigned 32 10 x r) same parsed) (all_digits ds plain.digits) plain.some (omega arith) in
    cc

-- the value is what is read, and nothing else
pub value_is_read : (ds : List ℕ) (r : Option ℕ) → IsPlainNumeral ds → SomeIff r (IsInt (digits_value 10 ds)) (digits_value 10 ds)
    → MatchOption r ((n : ℕ) → IsInt n → ds ≢ decimal n) (λ n. IsInt n × (ds ≡ decimal n))
value_is_read ds None plain none = λ n small e. none (omega (arith, ap (digits_value 10) e ∙ value_of_decimal n small))
value_is_read ds (Some n) plain (small, e) = (omega arith, plain_decimal ds plain small ∙ ap decimal (sym e))

pub not_plain : (ds : List ℕ) (n : ℕ) → (IsPlainNumeral ds → ⊥) → IsInt n → ds ≢ decimal n
not_plain ds n none small e = none (subst IsPlainNumeral (sym e) (decimal_plain n small))

letters_ascii : (word : List ℕ) → All IsAsciiLowercase word → IsAscii word
letters_ascii [] h i = omega arith
letters_ascii (letter ∷ word) h zero = let low : IsAsciiLowercase letter = All-head IsAsciiLowercase letter word h in omega arith
letters_ascii (letter ∷ word) h (suc i) = letters_ascii word (All-tail IsAsciiLowercase letter word h) i

pub name_utf8 : (word : List ℕ) → IsName word → IsUtf8 word
name_utf8 word h = IsUtf8-from_ascii word (letters_ascii word h.letters)
