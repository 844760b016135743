use Rattle.std.proofs.Common.{◌≡◌, ◌<◌, Option, sym, ◌∙◌, subst}
use Rattle.f_items.specs.Accessible.{Denotes}
use Rattle.f_scope.specs.Own.{IsTold}
use Rattle.f_scope.specs.Program.{Outline}
use Rattle.f_use.specs.declared.origins.Origins.{Origins}
use Rattle.f_use.specs.Associated.{Found}
use Rattle.f_find.proofs.Entities.{merged}
use Rattle.f_find.proofs.scope_names.denoted.Goals as goal

pub returns : goal.returns
returns c =
    let p = c.args.program.now.items in
    let s = c.args.scope in
    let name = c.args.name.now in
    let P : Outline → Type 0 = λ v. IsTold v.items s name c.declared-own.result in
    let told = subst P (c.program.ensures ∙ c.stated.ensures) c.declared-own.ensures in
    let R : Option Origins → Type 0 = λ r. Found (Denotes p s name) r in
    subst R (sym c.merge.ensures) (merged p s name c.declared-own.result told c.used-used.result c.used-used.ensures)
