-- Integer constants (ISO/IEC 9899:2011, 6.4.4.1).
use Rattle.std.specs.Prelude.{◌≡◌, ◌≢◌, ℕ, ◌<◌, ◌^◌, ◌++◌, List, [], ◌∷◌, Bool, true, false, nat_lt, if◌then◌else◌, slice_index, codes}
use Rattle.std.specs.Str.Parse.{IsNumeral, digits_value}
use Rattle.c_tree.specs.declared.operator.ConstantType.{ConstantType}
use Rattle.c_tree.specs.declared.operator.ConstantType.TheVariants as type
use Rattle.c_literal.specs.declared.integer.Radix.{Radix}
use Rattle.c_literal.specs.declared.integer.Radix.TheVariants.{Decimal, Octal, Hexadecimal}
use Rattle.c_literal.specs.declared.integer.LongSuffix.{LongSuffix}
use Rattle.c_literal.specs.declared.integer.LongSuffix.TheVariants.{Absent, Long, LongLong}
use Rattle.c_literal.specs.declared.integer.IntegerConstant.{IntegerConstant}

-- ---- spelling and value

-- what stands before the digits: nothing, or 0x or 0X; the 0 of an octal constant is one of its digits
pub data Form : Type 0 where
  DecimalForm : Form
  OctalForm : Form
  SmallX : Form
  CapitalX : Form

abbrev pub radix_of : Form → Radix
radix_of DecimalForm = Decimal
radix_of OctalForm = Octal
radix_of SmallX = Hexadecimal
radix_of CapitalX = Hexadecimal

abbrev pub spell_prefix : Form → List ℕ
spell_prefix DecimalForm = []
spell_prefix OctalForm = []
spell_prefix SmallX = codes "0x"
spell_prefix CapitalX = codes "0X"

-- the number of a radix' different digits
abbrev pub base_of : Radix → ℕ
base_of Decimal = 10
base_of Octal = 8
base_of Hexadecimal = 16

-- one digit or more; whether the first one is 0 tells octal from decimal
abbrev pub AreDigits : Radix → List ℕ → Type 0
AreDigits Decimal ds = IsNumeral 10 ds × (slice_index ds 0 ≢ 48)
AreDigits Octal ds = IsNumeral 8 ds × (slice_index ds 0 ≡ 48)
AreDigits Hexadecimal ds = IsNumeral 16 ds

pub data UnsignedForm : Type 0 where
  NoUnsigned : UnsignedForm
  SmallU : UnsignedForm
  CapitalU : UnsignedForm

abbrev pub spell_unsigned : UnsignedForm → List ℕ
spell_unsigned NoUnsigned = []
spell_unsigned SmallU = codes "u"
spell_unsigned CapitalU = codes "U"

abbrev pub asks_unsigned : UnsignedForm → Bool
asks_unsigned NoUnsigned = false
asks_unsigned SmallU = true
asks_unsigned CapitalU = true

pub data LongForm : Type 0 where
  NoLong : LongForm
  SmallL : LongForm
  CapitalL : LongForm
  SmallLL : LongForm
  CapitalLL : LongForm

abbrev pub spell_long : LongForm → List ℕ
spell_long NoLong = []
spell_long SmallL = codes "l"
spell_long CapitalL = codes "L"
spell_long SmallLL = codes "ll"
spell_long CapitalLL = codes "LL"

abbrev pub long_of : LongForm → LongSuffix
long_of NoLong = Absent
long_of SmallL = Long
long_of CapitalL = Long
long_of SmallLL = LongLong
long_of CapitalLL = LongLong

-- both suffixes, in one order or the other
abbrev pub spell_suffix : Bool → UnsignedForm → LongForm → List ℕ
spell_suffix true u l = spell_unsigned u ++ spell_long l
spell_suffix false u l = spell_long l ++ spell_unsigned u

-- the spelling is that of an integer constant, whose value is in unsigned long
pub record IsConstant (spelling : List ℕ) (c : IntegerConstant) : Type 0 where
  pub form : Form
  pub digits : List ℕ
  pub unsigned_is_first : Bool
  pub unsigned_form : UnsignedForm
  pub long_form : LongForm
  pub spelled : spelling ≡ spell_prefix form ++ (digits ++ spell_suffix unsigned_is_first unsigned_form long_form)
  pub are_digits : AreDigits (radix_of form) digits
  pub in_range : digits_value (base_of (radix_of form)) digits < 2 ^ 64
  pub read : c ≡ record { value = digits_value (base_of (radix_of form)) digits; radix = radix_of form; is_unsigned = asks_unsigned unsigned_form; long = long_of long_form }

abbrev pub IsNoConstant : List ℕ → Type 0
IsNoConstant spelling = (c : IntegerConstant) → IsConstant spelling c → ⊥

-- ---- type

abbrev pub is_decimal : Radix → Bool
is_decimal Decimal = true
is_decimal Octal = false
is_decimal Hexadecimal = false

-- The types that a constant may have, in the order of the table of 6.4.4.1p5: with an unsigned suffix or without, with each long suffix, and of a decimal
-- constant or another. A decimal constant without an unsigned suffix that is in none of its types has the unsigned type that stands last here.
abbrev pub candidates : Bool → LongSuffix → Bool → List ConstantType
candidates false Absent true = type.Int ∷ type.Long ∷ type.LongLong ∷ type.UnsignedLong ∷ []
candidates false Absent false = type.Int ∷ type.UnsignedInt ∷ type.Long ∷ type.UnsignedLong ∷ type.LongLong ∷ type.UnsignedLongLong ∷ []
candidates false Long true = type.Long ∷ type.LongLong ∷ type.UnsignedLong ∷ []
candidates false Long false = type.Long ∷ type.UnsignedLong ∷ type.LongLong ∷ type.UnsignedLongLong ∷ []
candidates false LongLong decimal = type.LongLong ∷ type.UnsignedLongLong ∷ []
candidates true Absent decimal = type.UnsignedInt ∷ type.UnsignedLong ∷ type.UnsignedLongLong ∷ []
candidates true Long decimal = type.UnsignedLong ∷ type.UnsignedLongLong ∷ []
candidates true LongLong decimal = type.UnsignedLongLong ∷ []

-- the number is in the type: int has 32 bits, and long and long long have 64 (LP64)
abbrev pub holds : ConstantType → ℕ → Bool
holds type.Int n = nat_lt n (2 ^ 31)
holds type.UnsignedInt n = nat_lt n (2 ^ 32)
holds type.Long n = nat_lt n (2 ^ 63)
holds type.UnsignedLong n = nat_lt n (2 ^ 64)
holds type.LongLong n = nat_lt n (2 ^ 63)
holds type.UnsignedLongLong n = nat_lt n (2 ^ 64)

-- the first of the types that the number is in, and unsigned long long where it is in none; each list of candidates ends with an unsigned type of 64 bits, which has every number of a constant
abbrev pub first_type : List ConstantType → ℕ → ConstantType
first_type [] n = type.UnsignedLongLong
first_type (t ∷ ts) n = if holds t n then t else first_type ts n

abbrev pub type_of : IntegerConstant → ConstantType
type_of c = first_type (candidates c.is_unsigned c.long (is_decimal c.radix)) c.value
