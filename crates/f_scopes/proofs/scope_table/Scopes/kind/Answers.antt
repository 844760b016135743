use Rattle.std.proofs.Common.{List, Some, None, sym, subst, arith}
use Rattle.f_items.specs.declared.item.ScopeKind.{ScopeKind}
use Rattle.f_items.specs.Places.{Located}
use Rattle.f_scope.specs.Program.{Outline, AreParts}
use Rattle.f_scopes.specs.Numbers.{KindFound}
use Rattle.f_scopes.proofs.Scoping.{kind_found, no_kind}
use Rattle.f_scopes.proofs.scope_table.Scopes.kind.Goals as goal

pub returns-then-scope-self : goal.returns-then-scope-self
returns-then-scope-self c =
    let i = c.self.invariant in
    let o = c.self.inside.resolved.program in
    let parts = c.parts.result in
    let A : Outline → Type 0 = λ v. AreParts v parts.scopes.now parts.items.now parts.own.now in
    let K : ScopeKind → Type 0 = λ k. KindFound o.items c.args.scope (Some k) in
    let P : List Located → Type 0 = λ p. KindFound p c.args.scope (Some c.kind_in.result) in
    subst P c.self.view_is (subst K (sym c.kind_in.ensures) (kind_found o parts.scopes.now parts.items.now parts.own.now (subst A c.program_of.ensures c.parts.ensures) c.self.inside.count i.numbered c.args.scope c.if-scope-self.true))

pub returns-else-scope-self : goal.returns-else-scope-self
returns-else-scope-self c =
    let i = c.self.invariant in
    let test = c.if-scope-self.false in
    let P : List Located → Type 0 = λ p. KindFound p c.args.scope None in
    subst P c.self.view_is (no_kind c.self.inside.resolved.program.items c.self.inside.count i.numbered c.args.scope (λ lt. (omega (arith, test, lt))))
