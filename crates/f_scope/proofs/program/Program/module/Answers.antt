use Rattle.std.proofs.Common.{◌≡◌, List, Option, ℕ, map, sym, ap, ◌∙◌, subst}
use Rattle.f_items.specs.Places.{Located}
use Rattle.f_scope.specs.Rows.{seen}
use Rattle.f_scope.specs.Tables.{entry_at}
use Rattle.f_scope.specs.Program.{module_at, ModuleFound}
use Rattle.f_scope.proofs.Modules.{module_found}
use Rattle.f_scope.proofs.program.Program.module.Goals as goal

pub returns : goal.returns
returns c =
    let rows = c.self.inside.scopes.items in
    let xs = c.self.inside.items.items in
    let p = map (seen rows) xs in
    let name = c.args.name.now in
    let units = c.self.inside.units in
    let items_are : p ≡ c.args.self.now.items = ap (λ v. v.items) c.self.view_is in
    let found = module_found rows c.self.invariant.hosts xs name c.self.invariant.units_are.once (entry_at name units) (c.self.invariant.units_are.entries name) in
    let is : module_at rows xs (entry_at name units) ≡ c.module_at.result = sym (c.module_at.ensures ∙ ap (λ r. module_at r c.as_slice-2.result.now c.find.result) c.as_slice.ensures.value ∙ ap (λ l. module_at rows l c.find.result) c.as_slice-2.ensures.value ∙ ap (module_at rows xs) c.find.ensures) in
    let P : List Located → Type 0 = λ q. ModuleFound q name c.module_at.result in
    let Q : Option ℕ → Type 0 = λ r. ModuleFound p name r in
    subst P items_are (subst Q is found)
