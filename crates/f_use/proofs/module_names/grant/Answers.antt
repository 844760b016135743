use Rattle.std.proofs.Common.{◌≡◌, true, false, sym, ap, ◌∙◌, subst}
use Rattle.f_scope.specs.Program.{Outline}
use Rattle.f_scope.specs.Tables.{table_at}
use Rattle.f_use.specs.Origins.{added_entry}
use Rattle.f_use.specs.Uses.{OwnEntity}
use Rattle.f_use.proofs.Grants.{grew_public, grew_private}
use Rattle.f_use.proofs.module_names.grant.Goals as goal

pub returns-in_ok-add_entry : goal.returns-in_ok-add_entry
returns-in_ok-add_entry c =
    let p = c.args.stated.now.items in
    let m = c.args.source in
    let used = c.args.used.now in
    let local = c.args.local.now in
    let P : Outline → Type 0 = λ v. OwnEntity v.items m used c.entity_of-own.result in
    let own = subst P c.program.ensures c.entity_of-own.ensures in
    grew_public p m used local (table_at c.args.tables.now m) c.requires.known c.entity_of-own.result own c.args.table.now c.add_some.new.table c.add_entry.new.table
    (sym c.is_public.ensures ∙ c.if-is_public.true) c.in_ok-add_some.ensures (c.in_ok-add_entry.ensures ∙ ap (added_entry c.add_some.new.table local) c.entry_in-entry.ensures)

pub returns-else-is_public : goal.returns-else-is_public
returns-else-is_public c = grew_private c.args.stated.now.items c.args.source c.args.used.now c.args.local.now c.args.table.now (sym c.is_public.ensures ∙ c.if-is_public.false)
