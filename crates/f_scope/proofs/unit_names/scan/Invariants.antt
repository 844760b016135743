use Rattle.std.proofs.Common.{◌≡◌, ◌+◌, length}
use Rattle.f_scope.specs.UnitNames.{scan_units}
use Rattle.f_scope.proofs.unit_names.scan.Given as goal

abbrev pub invariant-items : goal.invariant-items
invariant-items l = record {
  so_far : scan_units l.table l.place l.rest ≡ scan_units l.initial.table 0 l.items;
  counted : l.place + length l.rest ≡ length l.items;
}

abbrev pub decreases-items : goal.decreases-items
decreases-items l = length l.rest
