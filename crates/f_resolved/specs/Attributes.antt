-- Attributes of declarations.
use Rattle.std.specs.Prelude.{ℕ, Bool, ◌==◌}
use Rattle.std.specs.Int.RustNames.{bit_and}
use Rattle.f_resolved.specs.declared.attributes.Attributes.{Attributes}

-- each attribute of the second set is in the first
abbrev pub has : Attributes → ℕ → Bool
has a others = bit_and a.0 others == others
