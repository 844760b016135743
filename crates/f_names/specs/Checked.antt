-- What the rules on names say of a program.
use Rattle.std.specs.Prelude.{◌≡◌, List}
use Rattle.f_items.specs.Places.{Located}
use Rattle.f_items.specs.Scoped.{BreaksFirst, IsKept}
use Rattle.f_order.specs.Resolved.{IsResolved}
use Rattle.f_rules.specs.RuleOf.{number_of}
use Rattle.f_names.specs.declared.check.Checked.{Checked as Answer}
use Rattle.f_names.specs.declared.check.Checked.TheVariants.{Broken, Kept}

-- the first broken rule, or that all are kept
abbrev pub IsChecked : List Located → Answer → Type 0
IsChecked p (Broken b) = BreaksFirst p b.place (number_of b.rule)
IsChecked p (Kept r) = (r.program.items ≡ p) × IsResolved r.program r × IsKept p
