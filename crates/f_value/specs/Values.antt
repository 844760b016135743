-- INTEGER values of a kind, and the violations.
use Rattle.std.specs.Prelude.{ℕ, ℤ, pos, neg_ℤ, ◌&&◌, ◌==◌, Bool, if◌then◌else◌}
use Rattle.std.specs.Int.Signed.{le_z, lt_z}
use Rattle.jf_base.specs.declared.numbers.Width.{Width}
use Rattle.jf_base.specs.declared.numbers.Width.TheVariants.{W1, W2, W4, W8}
use Rattle.jf_base.specs.Numbers.{half_of}
use Rattle.f_value.specs.declared.value.Did.{Did}
use Rattle.f_value.specs.declared.value.Did.TheVariants.{Done, Violation}
use Rattle.f_value.specs.declared.value.FValue.{FValue}
use Rattle.f_value.specs.declared.value.FValue.TheVariants.{Int, Logical}

-- a kind is the number of its bytes
abbrev pub width_of_kind : ℕ → Width
width_of_kind kind = if kind == 1 then W1 else if kind == 2 then W2 else if kind == 4 then W4 else W8

-- whether the kind has the value (7.4.3.1: from -r to r with one number more below, as two's complement)
abbrev pub has : ℕ → ℤ → Bool
has kind v = le_z (neg_ℤ (pos (half_of (width_of_kind kind)))) v && lt_z v (pos (half_of (width_of_kind kind)))

-- V08: an INTEGER result isn't in its kind
abbrev pub out_of_kind : Did FValue
out_of_kind = Violation (record { 0 = 908 })

-- V09: division by zero, or 0 to a negative power
abbrev pub by_zero : Did FValue
by_zero = Violation (record { 0 = 909 })

-- the exact number, where its kind has it
abbrev pub in_kind : ℤ → ℕ → Did FValue
in_kind v kind = if has kind v then Done (Int v kind) else out_of_kind

-- a comparison gives a default LOGICAL
abbrev pub truth : Bool → Did FValue
truth b = Done (Logical b 4)
