use Rattle.std.proofs.Common.{List, refl, sym, subst}
use Rattle.f_scope.specs.declared.placement.ScopeRow.{ScopeRow}
use Rattle.f_scope.specs.declared.placement.Placed.{Placed}
use Rattle.f_scope.specs.Tables.{Row}
use Rattle.f_scope.specs.Program.{Outline, outline_of, AreParts}
use Rattle.f_scope.proofs.program.Program.parts.Goals as goal

pub returns : goal.returns
returns c =
    let rows = c.self.inside.scopes.items in
    let xs = c.self.inside.items.items in
    let own = c.self.inside.own.items in
    let i = c.self.invariant in
    let are : AreParts (outline_of rows xs) rows xs own = record { items_are = refl; scopes_are = refl; hosts = i.hosts; within = i.within; own_are = i.own_are; once = i.units_are.once } in
    let P : Outline → Type 0 = λ o. AreParts o rows xs own in
    let Q : List ScopeRow → Type 0 = λ r. AreParts c.args.self.now r xs own in
    let R : List Placed → Type 0 = λ x. AreParts c.args.self.now c.as_slice.result.now x own in
    let S : List (List Row) → Type 0 = λ t. AreParts c.args.self.now c.as_slice.result.now c.as_slice-2.result.now t in
    subst S (sym c.as_slice-3.ensures.value) (subst R (sym c.as_slice-2.ensures.value) (subst Q (sym c.as_slice.ensures.value) (subst P c.self.view_is are)))
