use Rattle.std.proofs.Common.{◌∙◌, sym, ap, ◌+◌, ◌<◌, ℕ, List, subst, arith, rules}
use Rattle.block_homes.specs.declared.homes.Home.{Home}
use Rattle.block_homes.specs.Held.{places_of}
use Rattle.reg_alloc.specs.Rows.{Places, width}
use Rattle.reg_alloc.proofs.Exact.{homes_places, homes_width}
use Rattle.reg_alloc.proofs.Paths.{verdict_by}
use Rattle.reg_alloc.proofs.verdict.validate.Goals as goal

pub verdict_of-requires-clause-places : goal.verdict_of-requires-clause-places
verdict_of-requires-clause-places c = subst (λ (l : List ℕ). Places c.args.p.now.values (width l) l) (sym (c.as_slice-2.ensures.value ∙ c.in_ok-places.ensures ∙ ap (λ (l : List Home). places_of l) c.as_slice.ensures)) (homes_places c.args.p.now.values c.args.a.now.homes c.requires.homes)

pub verdict_of-requires-clause-width : goal.verdict_of-requires-clause-width
verdict_of-requires-clause-width c =
    let w = homes_width c.args.p.now.values c.args.a.now.homes c.requires.homes in
    let e = ap (λ (l : List ℕ). width l) (c.as_slice-2.ensures.value ∙ c.in_ok-places.ensures ∙ ap (λ (l : List Home). places_of l) c.as_slice.ensures) in
    let few : c.args.p.now.values < 4294967296 = search rules in
    omega (arith, w, e, few)

pub returns : goal.returns
returns c = verdict_by c.as_slice-2.result.now c.args.a.now.homes c.args.p.now c.in_ok-verdict.verdict (c.as_slice-2.ensures.value ∙ c.in_ok-places.ensures ∙ ap (λ (l : List Home). places_of l) c.as_slice.ensures) c.in_ok-verdict.ensures
