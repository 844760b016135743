use Rattle.std.proofs.Common.{List, None, subst, arith}
use Rattle.f_use.specs.Associated.{Found}
use Rattle.f_items.specs.Places.{Located}
use Rattle.f_scopes.specs.Names.{VisibleIn}
use Rattle.f_scopes.proofs.Scoping.{found_in, none_in}
use Rattle.f_scopes.proofs.scope_table.Scopes.find.Goals as goal

pub visible-requires : goal.visible-requires
visible-requires c =
    let test = c.if-scope-self.true in
    let below = c.self.invariant.below in
    omega (arith, test, below)

pub returns-then-scope-self : goal.returns-then-scope-self
returns-then-scope-self c =
    let i = c.self.invariant in
    let P : List Located → Type 0 = λ p. Found (VisibleIn p c.args.scope c.args.name.now) c.visible.result in
    subst P (c.self.view_is) (found_in c.self.inside.resolved.program.items c.self.inside.count i.numbered c.args.scope c.if-scope-self.true c.args.name.now c.visible.result c.visible.ensures)

pub returns-else-scope-self : goal.returns-else-scope-self
returns-else-scope-self c =
    let i = c.self.invariant in
    let test = c.if-scope-self.false in
    let P : List Located → Type 0 = λ p. Found (VisibleIn p c.args.scope c.args.name.now) None in
    subst P (c.self.view_is) (none_in c.self.inside.resolved.program.items c.self.inside.count i.numbered c.args.scope (λ lt. (omega (arith, test, lt))) c.args.name.now)
