use Rattle.std.proofs.Common.{◌≡◌, ◌<◌, ◌∙◌, sym, arith, length}
use Rattle.std.specs.Prelude.{slice_index}
use Rattle.std.proofs.lemmas.List.{get_or_default}
use Rattle.reg_alloc.specs.Trace.Stepped.{Unreached, Known}
use Rattle.reg_alloc.proofs.Tracing.{made_or_lost, passed_as}
use Rattle.reg_alloc.proofs.trace.step_back.Goals as goal

pub returns-then-not-is_reached : goal.returns-then-not-is_reached
returns-then-not-is_reached c = Unreached c.if-not-is_reached.ensures

pub returns-in-Some : goal.returns-in-Some
returns-in-Some c = made_or_lost c.args.facts.now.places.now c.args.facts.now.proc.now c.args.v c.args.c c.in-Some.w c.args.claims.now.items c.args.stack.now.items c.if-not-is_reached.ensures c.in-Some.ensures

pub returns-then-index-v : goal.returns-then-index-v
returns-then-index-v c =
    let lt : c.args.c < length c.args.claims.now.items = omega (arith, c.requires.block, c.requires.count) in
    Known c.in_default.ensures (sym (c.index.ensures ∙ get_or_default c.args.claims.now.items c.args.c c.index.result.now 0 lt) ∙ c.if-index-v.true)

pub returns : goal.returns
returns c =
    let lt : c.args.c < length c.args.claims.now.items = omega (arith, c.requires.block, c.requires.count) in
    passed_as c.args.facts.now.places.now c.args.facts.now.proc.now c.args.v c.args.c c.args.claims.now.items c.args.stack.now.items c.claim.new.claims.items c.push.new.self.items c.claim.ensures c.in_ok-push.ensures.items c.in_default.ensures (λ q. c.if-index-v.false (c.index.ensures ∙ get_or_default c.args.claims.now.items c.args.c c.index.result.now 0 lt ∙ q))
