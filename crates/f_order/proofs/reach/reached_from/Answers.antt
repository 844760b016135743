use Rattle.std.proofs.Common.{◌≡◌, ◌+◌, ◌-◌, ◌<◌, ℕ, suc, [], Some, None, length, replicate, false, slice_get, sym, ap, ◌∙◌, subst, arith}
use Rattle.f_use.specs.Places.{list_at}
use Rattle.f_order.specs.Marks.{unmarked}
use Rattle.f_order.specs.Reach.{State, extended_one, extended}
use Rattle.f_order.proofs.Search.{Searched, search_first, search_next, search_less, search_last}
use Rattle.f_order.proofs.reach.reached_from.Goals as goal

pub found-init : goal.found-init
found-init c =
    let empty : c.in_ok-marks.marks.items ≡ replicate c.args.program.now.scopes false = c.in_ok-marks.ensures ∙ ap (λ n. replicate n false) c.scope_count.ensures in
    let is : (c.extend_one.new.found.items, c.extend_one.new.marks.items) ≡ extended_one c.args.from ([], replicate c.args.program.now.scopes false) =
    c.in_ok-extend_one.ensures ∙ ap (λ f. extended_one c.args.from (f, c.in_ok-marks.marks.items)) c.new-found.ensures.items ∙ ap (λ m. extended_one c.args.from ([], m)) empty in
    search_first c.args.program.now c.args.edges.now c.requires.edges c.requires.inside c.args.from c.requires.from (c.extend_one.new.found.items, c.extend_one.new.marks.items) is

pub found-smaller : goal.found-smaller
found-smaller c =
    let s : State = (c.found.found.items, c.found.marks.items) in
    let t : State = (c.extend.new.found.items, c.extend.new.marks.items) in
    let here : slice_get c.found.found.items c.found.at ≡ Some c.in-Some.unit = ap (λ l. slice_get l c.found.at) (sym c.as_slice.ensures.value) ∙ sym c.number_in.ensures ∙ c.in-Some.is in
    let is : t ≡ extended (list_at c.args.edges.now c.in-Some.unit) s = c.in_ok-extend.ensures ∙ ap (λ l. extended l s) c.places_in.ensures in
    let less = search_less c.args.program.now c.args.edges.now c.requires.edges c.requires.inside c.args.from s t c.found.at c.in-Some.unit c.found.invariant here is in
    let next : suc c.found.at ≡ c.found.at + 1 = omega arith in
    let P : ℕ → Type 0 = λ j. unmarked c.extend.new.marks.items + (length c.extend.new.found.items - j) < unmarked c.found.marks.items + (length c.found.found.items - c.found.at) in
    subst P next less

pub found-preserved : goal.found-preserved
found-preserved c =
    let s : State = (c.found.found.items, c.found.marks.items) in
    let t : State = (c.extend.new.found.items, c.extend.new.marks.items) in
    let here : slice_get c.found.found.items c.found.at ≡ Some c.in-Some.unit = ap (λ l. slice_get l c.found.at) (sym c.as_slice.ensures.value) ∙ sym c.number_in.ensures ∙ c.in-Some.is in
    let is : t ≡ extended (list_at c.args.edges.now c.in-Some.unit) s = c.in_ok-extend.ensures ∙ ap (λ l. extended l s) c.places_in.ensures in
    let next : suc c.found.at ≡ c.found.at + 1 = omega arith in
    let P : ℕ → Type 0 = λ j. Searched c.args.program.now c.args.from (c.extend.new.found.items, c.extend.new.marks.items) j in
    subst P next (search_next c.args.program.now c.args.edges.now c.requires.edges c.requires.inside c.args.from s t c.found.at c.in-Some.unit c.found.invariant here is)

pub returns : goal.returns
returns c =
    let none : slice_get c.found.found.items c.found.at ≡ None = ap (λ l. slice_get l c.found.at) (sym c.as_slice.ensures.value) ∙ sym c.number_in.ensures ∙ c.in_default.is in
    search_last c.args.program.now c.args.edges.now c.requires.edges c.requires.inside c.args.from (c.found.found.items, c.found.marks.items) c.found.at none c.found.invariant
