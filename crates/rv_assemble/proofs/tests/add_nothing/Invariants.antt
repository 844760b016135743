use Rattle.std.proofs.Common.{◌≡◌}
use Rattle.std.specs.Prelude.{slice_get, Some}
use Rattle.rv_assemble.specs.declared.unit.AsmLine.TheVariants.{Label}
use Rattle.rv_assemble.specs.Lines.{AreProperLines}
use Rattle.rv_assemble.proofs.tests.add_nothing.Given as goal

abbrev pub invariant-loop : goal.invariant-loop
invariant-loop l = record { proper : AreProperLines l.lines.items; label : slice_get l.lines.items 0 ≡ Some (Label 1) }
