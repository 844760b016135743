use Rattle.std.proofs.Common.{◌≡◌, ◌+◌, length}
use Rattle.f_stated.specs.Said.{noted_keys}
use Rattle.f_stated.proofs.tables.note_all.Given as goal

abbrev pub invariant-items : goal.invariant-items
invariant-items l = record {
  so_far : noted_keys l.saying l.scopes l.tables.items l.place l.rest ≡ noted_keys l.saying l.scopes l.initial.tables.items 0 l.items;
  counted : l.place + length l.rest ≡ length l.items;
}

abbrev pub decreases-items : goal.decreases-items
decreases-items l = length l.rest
