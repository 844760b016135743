use Rattle.std.proofs.Common.{◌≡◌, true, false, sym, ap, ◌∙◌, subst}
use Rattle.std.specs.Prelude.{Decides}
use Rattle.f_items.specs.declared.item.Item.TheVariants.{ImportsAll}
use Rattle.f_items.specs.Accessible.{Stands}
use Rattle.f_scope.specs.Program.{Outline}
use Rattle.f_stated.specs.Stated.{NamesImport}
use Rattle.f_find.proofs.Outward.{imported_all, imported_name}
use Rattle.f_find.proofs.scopes_around.is_imported.Goals as goal

pub returns-then-imports_all : goal.returns-then-imports_all
returns-then-imports_all c =
    let P : Outline → Type 0 = λ v. Decides c.imports_all.result (Stands v.items c.args.scope ImportsAll) in
    imported_all c.args.program.now.items c.args.scope c.args.name.now ((subst P c.stated.ensures c.imports_all.ensures).0 c.if-imports_all.true)

pub returns-else-imports_all : goal.returns-else-imports_all
returns-else-imports_all c =
    let P : Outline → Type 0 = λ v. Decides c.imports_all.result (Stands v.items c.args.scope ImportsAll) in
    let Q : Outline → Type 0 = λ v. Decides c.imports_name.result (NamesImport v.items c.args.scope c.args.name.now) in
    imported_name c.args.program.now.items c.args.scope c.args.name.now c.imports_name.result
    (λ i. let bad : true ≡ false = sym ((subst P c.stated.ensures c.imports_all.ensures).1 i) ∙ c.if-imports_all.false in absurd (cc))
    (subst Q c.stated-else-imports_all.ensures c.imports_name.ensures)
