use Rattle.std.proofs.Common.{◌≡◌, ◌+◌, length}
use Rattle.f_scope.specs.Tables.{noted_all}
use Rattle.f_scope.proofs.own.note_all.Given as goal

abbrev pub invariant-items : goal.invariant-items
invariant-items l = record {
  so_far : noted_all l.scopes l.tables.items l.place l.rest ≡ noted_all l.scopes l.initial.tables.items 0 l.items;
  counted : l.place + length l.rest ≡ length l.items;
}

abbrev pub decreases-items : goal.decreases-items
decreases-items l = length l.rest
