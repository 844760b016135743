use Rattle.std.proofs.Common.{◌≡◌, length}
use Rattle.f_use.proofs.Scopes.{Going}
use Rattle.f_use.proofs.associated.used_tables.Given as goal

abbrev pub invariant-order : goal.invariant-order
invariant-order l = record {
  count : length l.used.items ≡ l.stated.scopes;
  going : Going l.stated l.order l.used.items l.rest;
}

abbrev pub decreases-order : goal.decreases-order
decreases-order l = length l.rest
