use Rattle.std.proofs.Common.{◌≡◌, ◌<◌, ◌+◌, ◌∙◌, ◌++◌, ◌∷◌, [], ℕ, List, refl, sym, ap, subst, arith, rules, length, length-append}
use Rattle.std.specs.Prelude.{slice_index}
use Rattle.std.proofs.lemmas.List.{get_or_default}
use Rattle.reg_alloc.specs.declared.occurrences.Occurrence.{Occurrence}
use Rattle.reg_alloc.specs.Occurs.{Each, unmarked}
use Rattle.reg_alloc.specs.Trace.{Trace, EndTo, SteppedAll}
use Rattle.reg_alloc.proofs.Tracing.{known_good, begin_as, from_sources, start_lost, all_stale, top_under, ends_are, ends_within, taken, stepped_all, good, all_claims}
use Rattle.reg_alloc.proofs.trace.is_held.Goals as goal

pub index-requires : goal.index-requires
index-requires c = omega (arith, c.requires.block, c.requires.claims.count)

pub returns-then-index-v-clause-held : goal.returns-then-index-v-clause-held
returns-then-index-v-clause-held c =
    let lt : c.args.b < length c.args.claims.now.items = omega (arith, c.requires.block, c.requires.claims.count) in
    known_good c.args.facts.now.places.now c.args.facts.now.proc.now c.args.v c.args.b c.requires.value c.requires.block c.args.claims.now.items c.requires.claims (sym (c.index.ensures ∙ get_or_default c.args.claims.now.items c.args.b c.index.result.now 0 lt) ∙ c.if-index-v.true)

pub claim-requires : goal.claim-requires
claim-requires c = omega (arith, c.requires.block, c.requires.claims.count)

pub loop-t-init : goal.loop-t-init
loop-t-init c =
    let lt : c.args.b < length c.args.claims.now.items = omega (arith, c.requires.block, c.requires.claims.count) in
    (c.args.b, begin_as c.args.facts.now.places.now c.args.facts.now.proc.now c.args.v c.args.b c.requires.value c.requires.block c.args.claims.now.items c.claim.new.claims.items c.push.new.self.items c.claim.ensures (c.in_ok-push.ensures.items ∙ ap (λ (l : List ℕ). l ++ c.args.b ∷ []) c.new-stack.ensures.items) c.requires.claims (λ q. c.if-index-v.false (c.index.ensures ∙ get_or_default c.args.claims.now.items c.args.b c.index.result.now 0 lt ∙ q)))

pub returns-then-starts_otherwise-clause-held : goal.returns-then-starts_otherwise-clause-held
returns-then-starts_otherwise-clause-held c =
    let places = c.args.facts.now.places.now in
    let p = c.args.facts.now.proc.now in
    let i = c.loop-t.invariant in
    let s = subst (λ (l : List ℕ). Trace places p c.args.v c.args.b c.loop-t.claims.items l i.0 []) c.in-Some.ensures.items i.1 in
    start_lost places p c.args.v c.args.b c.requires.value c.requires.block c.loop-t.claims.items c.pop.new.self.items c.in-Some.t i.0 s c.if-starts_otherwise.ensures.0 c.if-starts_otherwise.ensures.1

pub returns-then-starts_otherwise-clause-claims : goal.returns-then-starts_otherwise-clause-claims
returns-then-starts_otherwise-clause-claims c =
    let places = c.args.facts.now.places.now in
    let p = c.args.facts.now.proc.now in
    all_stale places p c.args.v c.args.b c.requires.value c.requires.block c.loop-t.claims.items c.loop-t.stack.items c.loop-t.invariant.0 [] c.loop-t.invariant.1

pub sources_to-requires-clause-block : goal.sources_to-requires-clause-block
sources_to-requires-clause-block c =
    let places = c.args.facts.now.places.now in
    let p = c.args.facts.now.proc.now in
    let i = c.loop-t.invariant in
    let s = subst (λ (l : List ℕ). Trace places p c.args.v c.args.b c.loop-t.claims.items l i.0 []) c.in-Some.ensures.items i.1 in
    top_under places p c.args.v c.args.b c.requires.value c.requires.block c.loop-t.claims.items c.pop.new.self.items c.in-Some.t i.0 s

pub step_back_all-requires-clause-blocks : goal.step_back_all-requires-clause-blocks
step_back_all-requires-clause-blocks c =
    let places = c.args.facts.now.places.now in
    let p = c.args.facts.now.proc.now in
    subst (λ (l : List Occurrence). Each (λ o. o.block < length p.blocks) l) (sym c.sources_to.ensures) (ends_within places p c.in-Some.t)

pub step_back_all-requires-clause-count : goal.step_back_all-requires-clause-count
step_back_all-requires-clause-count c = c.loop-t.invariant.1.count

pub returns-then-not-went-clause-held : goal.returns-then-not-went-clause-held
returns-then-not-went-clause-held c =
    let places = c.args.facts.now.places.now in
    let p = c.args.facts.now.proc.now in
    let i = c.loop-t.invariant in
    let s = subst (λ (l : List ℕ). Trace places p c.args.v c.args.b c.loop-t.claims.items l i.0 []) c.in-Some.ensures.items i.1 in
    let t = taken places p c.args.v c.args.b c.requires.value c.requires.block c.loop-t.claims.items c.pop.new.self.items c.in-Some.t i.0 c.sources_to.result.now s c.if-starts_otherwise.ensures (from_sources p c.in-Some.t c.sources_to.result.now c.sources_to.ensures) in
    ((stepped_all places p c.args.v c.args.b c.requires.value c.requires.block c.in-Some.t c.sources_to.result.now c.loop-t.claims.items c.pop.new.self.items c.step_back_all.new.claims.items c.step_back_all.new.stack.items c.in_ok-went.went (subst (λ (l : List Occurrence). Each (EndTo places p c.in-Some.t) l) (sym c.sources_to.ensures) (ends_are places p c.in-Some.t)) c.in_ok-went.ensures.stepped t).1 c.if-not-went.true).0

pub returns-then-not-went-clause-claims : goal.returns-then-not-went-clause-claims
returns-then-not-went-clause-claims c =
    let places = c.args.facts.now.places.now in
    let p = c.args.facts.now.proc.now in
    let i = c.loop-t.invariant in
    let s = subst (λ (l : List ℕ). Trace places p c.args.v c.args.b c.loop-t.claims.items l i.0 []) c.in-Some.ensures.items i.1 in
    let t = taken places p c.args.v c.args.b c.requires.value c.requires.block c.loop-t.claims.items c.pop.new.self.items c.in-Some.t i.0 c.sources_to.result.now s c.if-starts_otherwise.ensures (from_sources p c.in-Some.t c.sources_to.result.now c.sources_to.ensures) in
    ((stepped_all places p c.args.v c.args.b c.requires.value c.requires.block c.in-Some.t c.sources_to.result.now c.loop-t.claims.items c.pop.new.self.items c.step_back_all.new.claims.items c.step_back_all.new.stack.items c.in_ok-went.went (subst (λ (l : List Occurrence). Each (EndTo places p c.in-Some.t) l) (sym c.sources_to.ensures) (ends_are places p c.in-Some.t)) c.in_ok-went.ensures.stepped t).1 c.if-not-went.true).1

pub loop-t-preserved : goal.loop-t-preserved
loop-t-preserved c =
    let places = c.args.facts.now.places.now in
    let p = c.args.facts.now.proc.now in
    let i = c.loop-t.invariant in
    let s = subst (λ (l : List ℕ). Trace places p c.args.v c.args.b c.loop-t.claims.items l i.0 []) c.in-Some.ensures.items i.1 in
    let t = taken places p c.args.v c.args.b c.requires.value c.requires.block c.loop-t.claims.items c.pop.new.self.items c.in-Some.t i.0 c.sources_to.result.now s c.if-starts_otherwise.ensures (from_sources p c.in-Some.t c.sources_to.result.now c.sources_to.ensures) in
    (c.in-Some.t, (stepped_all places p c.args.v c.args.b c.requires.value c.requires.block c.in-Some.t c.sources_to.result.now c.loop-t.claims.items c.pop.new.self.items c.step_back_all.new.claims.items c.step_back_all.new.stack.items c.in_ok-went.went (subst (λ (l : List Occurrence). Each (EndTo places p c.in-Some.t) l) (sym c.sources_to.ensures) (ends_are places p c.in-Some.t)) c.in_ok-went.ensures.stepped t).0 c.if-not-went.false)

pub loop-t-smaller : goal.loop-t-smaller
loop-t-smaller c =
    let f = c.in_ok-went.ensures.falls in
    let n = ap (λ (l : List ℕ). length l) c.in-Some.ensures.items in
    let k = length-append c.pop.new.self.items (c.in-Some.t ∷ []) in
    omega (arith, f, n, k)

pub returns-clause-held : goal.returns-clause-held
returns-clause-held c =
    let places = c.args.facts.now.places.now in
    let p = c.args.facts.now.proc.now in
    let e : c.loop-t.stack.items ≡ [] = search rules in
    let i = c.loop-t.invariant in
    let s = subst (λ (l : List ℕ). Trace places p c.args.v c.args.b c.loop-t.claims.items l i.0 []) e i.1 in
    good places p c.args.v c.args.b c.requires.value c.requires.block c.loop-t.claims.items i.0 s

pub returns-clause-claims : goal.returns-clause-claims
returns-clause-claims c =
    let places = c.args.facts.now.places.now in
    let p = c.args.facts.now.proc.now in
    let e : c.loop-t.stack.items ≡ [] = search rules in
    let i = c.loop-t.invariant in
    let s = subst (λ (l : List ℕ). Trace places p c.args.v c.args.b c.loop-t.claims.items l i.0 []) e i.1 in
    all_claims places p c.args.v c.args.b c.requires.value c.requires.block c.loop-t.claims.items i.0 s
