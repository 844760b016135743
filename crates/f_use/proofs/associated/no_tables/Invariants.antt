use Rattle.std.proofs.Common.{◌≡◌, ◌≤◌, ◌-◌, length, vec_len}
use Rattle.f_use.proofs.associated.no_tables.Given as goal

abbrev pub invariant-scopes : goal.invariant-scopes
invariant-scopes l = vec_len l.tables ≤ l.count

abbrev pub decreases-scopes : goal.decreases-scopes
decreases-scopes l = l.count - vec_len l.tables
