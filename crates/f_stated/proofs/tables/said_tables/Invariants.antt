use Rattle.std.proofs.Common.{◌≡◌, ◌≤◌, ◌-◌, length, vec_len, replicate, []}
use Rattle.f_stated.proofs.tables.said_tables.Given as goal

abbrev pub invariant-scopes : goal.invariant-scopes
invariant-scopes l = record {
  within : vec_len l.tables ≤ length l.scopes;
  empty : l.tables.items ≡ replicate (vec_len l.tables) [];
}

abbrev pub decreases-scopes : goal.decreases-scopes
decreases-scopes l = length l.scopes - vec_len l.tables
