use Rattle.std.proofs.Common.{◌≡◌, ◌<◌, ℕ, length, List, sym, ap, ◌∙◌, subst, arith}
use Rattle.std.proofs.Math.ListN.{set}
use Rattle.f_scope.specs.Tables.{Row, table_at}
use Rattle.f_use.specs.Associated.{ScopeUses}
use Rattle.f_use.specs.Uses.{IsExact}
use Rattle.f_use.proofs.Scopes.{filled}
use Rattle.f_use.proofs.associated.fill.Goals as goal

pub table_of-requires-clause-known : goal.table_of-requires-clause-known
table_of-requires-clause-known c =
    let P : List (List Row) → Type 0 = λ t. (m : ℕ) → ScopeUses c.args.stated.now.items c.args.scope m → IsExact c.args.stated.now.items m (table_at t m) in
    subst P (sym c.as_slice.ensures.value) c.requires.known

pub put_table-requires : goal.put_table-requires
put_table-requires c = let a = c.requires.scope in let b = c.requires.count in omega (arith, a, b)

pub returns : goal.returns
returns c =
    let a = c.requires.scope in
    let b = c.requires.count in
    filled c.args.stated.now.items c.args.used.now.items c.put_table.new.used.items c.args.scope c.in_ok-table.table (omega (arith, a, b)) c.put_table.ensures c.in_ok-table.ensures
