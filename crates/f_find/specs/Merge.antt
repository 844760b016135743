-- Entities of an own declaration and of use association together.
use Rattle.std.specs.Prelude.{ℕ, Option, Some, None, ◌==◌, if◌then◌else◌}
use Rattle.f_use.specs.declared.origins.Origins.{Origins}

abbrev pub other_of : ℕ → Option Origins → Option ℕ
other_of own None = None
other_of own (Some u) = if u.first == own then u.other else Some u.first

abbrev pub merge : Option ℕ → Option Origins → Option Origins
merge None used = used
merge (Some own) used = Some (record { first = own; other = other_of own used })
