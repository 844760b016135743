use Rattle.std.proofs.Common.{◌≡◌, ◌≤◌, ◌-◌, length}
use Rattle.f_use.specs.Origins.{Grew}
use Rattle.f_use.specs.Uses.{RowsGive}
use Rattle.f_use.proofs.statements.grant_rows.Given as goal

abbrev pub invariant-numbers : goal.invariant-numbers
invariant-numbers l = record {
  within : l.number ≤ l.count;
  grew : Grew l.initial.table l.table (RowsGive l.stated.items l.scope l.module_name l.source l.names l.number) (RowsGive l.stated.items l.scope l.module_name l.source l.names l.number);
}

abbrev pub decreases-numbers : goal.decreases-numbers
decreases-numbers l = l.count - l.number
