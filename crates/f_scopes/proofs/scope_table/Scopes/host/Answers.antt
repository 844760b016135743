use Rattle.std.proofs.Common.{◌<◌, ℕ, List, Some, None, sym, subst, arith}
use Rattle.f_items.specs.Places.{Located}
use Rattle.f_scope.specs.Program.{Outline, AreParts}
use Rattle.f_scopes.specs.Numbers.{HostFound}
use Rattle.f_scopes.proofs.Scoping.{host_found, no_outer, no_host}
use Rattle.f_scopes.proofs.scope_table.Scopes.host.Goals as goal

pub returns-then-scope-eq0 : goal.returns-then-scope-eq0
returns-then-scope-eq0 c =
    let o = c.self.inside.resolved.program in
    let parts = c.parts.result in
    let A : Outline → Type 0 = λ v. AreParts v parts.scopes.now parts.items.now parts.own.now in
    let H : ℕ → Type 0 = λ s. HostFound o.items s None in
    let P : List Located → Type 0 = λ p. HostFound p c.args.scope None in
    subst P c.self.view_is (subst H (sym c.if-scope-eq0.true) (no_outer o parts.scopes.now parts.items.now parts.own.now (subst A c.program_of.ensures c.parts.ensures)))

pub returns-then-scope-self : goal.returns-then-scope-self
returns-then-scope-self c =
    let i = c.self.invariant in
    let o = c.self.inside.resolved.program in
    let parts = c.parts.result in
    let A : Outline → Type 0 = λ v. AreParts v parts.scopes.now parts.items.now parts.own.now in
    let H : ℕ → Type 0 = λ h. HostFound o.items c.args.scope (Some h) in
    let P : List Located → Type 0 = λ p. HostFound p c.args.scope (Some c.host_in.result) in
    let some : 0 < c.args.scope = (let other = c.if-scope-eq0.false in omega (arith, other)) in
    subst P c.self.view_is (subst H (sym c.host_in.ensures) (host_found o parts.scopes.now parts.items.now parts.own.now (subst A c.program_of.ensures c.parts.ensures) c.self.inside.count i.numbered c.args.scope some c.if-scope-self.true))

pub returns-else-scope-self : goal.returns-else-scope-self
returns-else-scope-self c =
    let i = c.self.invariant in
    let test = c.if-scope-self.false in
    let P : List Located → Type 0 = λ p. HostFound p c.args.scope None in
    subst P c.self.view_is (no_host c.self.inside.resolved.program.items c.self.inside.count i.numbered c.args.scope (λ lt. (omega (arith, test, lt))))
