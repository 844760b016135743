use Rattle.std.proofs.Common.{◌≡◌, ◌+◌, subst, arith}
use Rattle.f_scopes.specs.Held.{AreNumbered}
use Rattle.f_scopes.specs.Numbers.{scope_count}
use Rattle.f_scopes.proofs.Counting.{numbered, below, count_rows}
use Rattle.f_scopes.proofs.count.count_scopes.Goals as goal

pub overflow_add-result : goal.overflow_add-result
overflow_add-result c =
    let o = c.args.program.now in
    let parts = c.parts-parts.result in
    let le = below o parts.scopes.now parts.items.now parts.own.now c.parts-parts.ensures c.requires in
    let count = count_rows o parts.scopes.now parts.items.now parts.own.now c.parts-parts.ensures in
    let rows = c.parts-parts.ensures.scopes_are in
    let most = c.scope_count-most.ensures in
    let is = c.count_begun.ensures in
    let fits = c.scope_count-most.type_inv in
    omega (arith, le, count, rows, most, is, fits)

pub returns-clause-count : goal.returns-clause-count
returns-clause-count c =
    let o = c.args.program.now in
    let parts = c.parts-parts.result in
    let count = count_rows o parts.scopes.now parts.items.now parts.own.now c.parts-parts.ensures in
    let is = c.count_begun.ensures in
    omega (arith, count, is)

pub returns-clause-numbered : goal.returns-clause-numbered
returns-clause-numbered c =
    let o = c.args.program.now in
    let parts = c.parts-parts.result in
    let count = count_rows o parts.scopes.now parts.items.now parts.own.now c.parts-parts.ensures in
    let is = c.count_begun.ensures in
    let same : scope_count o.items ≡ c.count_begun.result + 1 = omega (arith, count, is) in
    subst (AreNumbered o.items) same (numbered o.items c.requires)

pub returns-clause-below : goal.returns-clause-below
returns-clause-below c =
    let o = c.args.program.now in
    let parts = c.parts-parts.result in
    let le = below o parts.scopes.now parts.items.now parts.own.now c.parts-parts.ensures c.requires in
    let count = count_rows o parts.scopes.now parts.items.now parts.own.now c.parts-parts.ensures in
    let rows = c.parts-parts.ensures.scopes_are in
    let is = c.count_begun.ensures in
    omega (arith, le, count, rows, is)
