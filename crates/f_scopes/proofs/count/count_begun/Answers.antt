use Rattle.std.proofs.Common.{◌≡◌, map, length, sym, ap, ◌∙◌, arith}
use Rattle.std.proofs.lemmas.List.{nil_from_length}
use Rattle.f_scopes.specs.Numbers.{begun, placed_item}
use Rattle.f_scopes.proofs.Counting.{begun_one, begun_other, begun_none}
use Rattle.f_scopes.proofs.count.count_begun.Goals as goal

pub items-preserved-then-is_enter : goal.items-preserved-then-is_enter
items-preserved-then-is_enter c =
    let rest = c.in-Some.ensures.cases.0 in
    let more = begun_one c.items.rest.now c.in-Some.behind.now c.in-Some.item.now rest (sym c.is_enter.ensures ∙ c.if-is_enter.true) in
    let counted = c.items.invariant.counted in
    let within = c.items.invariant.within in
    let long = ap length rest in
    record { counted = omega (arith, more, counted); within = omega (arith, within, long) }

pub items-preserved : goal.items-preserved
items-preserved c =
    let rest = c.in-Some.ensures.cases.0 in
    let same = begun_other c.items.rest.now c.in-Some.behind.now c.in-Some.item.now rest (sym c.is_enter.ensures ∙ c.if-is_enter.false) in
    let counted = c.items.invariant.counted in
    let within = c.items.invariant.within in
    let long = ap length rest in
    record { counted = omega (arith, same, counted); within = omega (arith, within, long) }

pub returns : goal.returns
returns c =
    let counted = c.items.invariant.counted in
    let none : begun (map placed_item c.items.rest.now) ≡ 0 = ap (λ xs. begun (map placed_item xs)) (nil_from_length c.items.rest.now c.in_default.ensures.cases) ∙ begun_none in
    omega (arith, counted, none)
