use Rattle.std.proofs.Common.{◌≡◌, ◌<◌, Option}
use Rattle.f_items.specs.Accessible.{Visible}
use Rattle.f_scope.specs.Rows.{chain_of}
use Rattle.f_use.specs.declared.origins.Origins.{Origins}
use Rattle.f_use.specs.Associated.{Found}
use Rattle.f_find.proofs.scopes_around.visible_from.Given as goal

abbrev pub invariant-scopes : goal.invariant-scopes
invariant-scopes l = record {
  within : l.at < l.program.scopes;
  goes : (r : Option Origins) → Found (Visible l.program.items (chain_of l.scopes l.at) l.name) r → Found (Visible l.program.items (chain_of l.scopes l.initial.at) l.name) r;
}

abbrev pub decreases-scopes : goal.decreases-scopes
decreases-scopes l = l.at
