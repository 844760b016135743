use Rattle.std.proofs.Common.{◌≡◌, ◌<◌, ℕ, List, map, length, sym, subst, arith}
use Rattle.f_items.specs.Places.{Located}
use Rattle.f_scope.specs.Own.{IsLooked}
use Rattle.f_scope.specs.Program.{Outline, AreParts}
use Rattle.f_scope.specs.Tables.{entry_at, table_at}
use Rattle.f_use.proofs.Grants.{all_rows}
use Rattle.f_use.proofs.statements.grant_all.Goals as goal

pub returns : goal.returns
returns c =
    let p = c.args.stated.now.items in
    let m = c.args.source in
    let parts = c.parts.result in
    let P : Outline → Type 0 = λ v. AreParts v parts.scopes.now parts.items.now parts.own.now in
    let are : AreParts c.args.stated.now parts.scopes.now parts.items.now parts.own.now = subst P c.program.ensures c.parts.ensures in
    let count = are.scopes_are in
    let within = c.requires.source in
    let lt : m < length parts.scopes.now = omega (arith, count, within) in
    let Q : List Located → Type 0 = λ q. (n : List ℕ) → IsLooked q m n (entry_at n (table_at parts.own.now m)) in
    let looked = subst Q are.items_are (are.own_are m lt) in
    all_rows p c.args.scope c.args.module_name.now m c.args.table.now c.grant_table.new.table c.grant_table-2.new.table (table_at parts.own.now m) (table_at c.args.tables.now m) looked c.requires.known c.in_ok-grant_table.ensures c.in_ok-grant_table-2.ensures
