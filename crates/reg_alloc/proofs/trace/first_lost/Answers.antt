use Rattle.std.proofs.Common.{◌≡◌, ◌+◌, ◌∙◌, ℕ, List, sym, ap, subst, Some, None}
use Rattle.std.specs.Prelude.{slice_index}
use Rattle.reg_alloc.specs.Trace.{AllStale, Claims, Ends}
use Rattle.reg_alloc.proofs.Tracing.{first_of, own_place, scans_lost, scans_on, scans_done, claims_stale, true_side, false_side}
use Rattle.reg_alloc.proofs.trace.first_lost.Goals as goal

pub look-requires-clause-occurrence : goal.look-requires-clause-occurrence
look-requires-clause-occurrence c =
    let places = c.args.facts.now.places.now in
    let p = c.args.facts.now.proc.now in
    own_place places p c.in-Some.o.now c.args._h (first_of places p c.in-Some.o.now c.args._h c.loop-o.rest.now c.in-Some.tail.now c.in-Some.ensures.cases.0 c.loop-o.invariant.occurrences).0

pub look-requires-clause-ends : goal.look-requires-clause-ends
look-requires-clause-ends c =
    let places = c.args.facts.now.places.now in
    let p = c.args.facts.now.proc.now in
    let k = (first_of places p c.in-Some.o.now c.args._h c.loop-o.rest.now c.in-Some.tail.now c.in-Some.ensures.cases.0 c.loop-o.invariant.occurrences).0 in
    subst (λ h. Ends places p h c.args.last.now) (sym k.1.1) c.requires.ends

pub look-requires-clause-claims : goal.look-requires-clause-claims
look-requires-clause-claims c =
    let places = c.args.facts.now.places.now in
    let p = c.args.facts.now.proc.now in
    let k = (first_of places p c.in-Some.o.now c.args._h c.loop-o.rest.now c.in-Some.tail.now c.in-Some.ensures.cases.0 c.loop-o.invariant.occurrences).0 in
    subst (λ h. Claims places p h c.loop-o.claims.items) (sym k.1.1) c.loop-o.invariant.claims

pub returns-then-not-kept-clause-lost : goal.returns-then-not-kept-clause-lost
returns-then-not-kept-clause-lost c =
    let places = c.args.facts.now.places.now in
    let p = c.args.facts.now.proc.now in
    c.loop-o.invariant.scans (Some c.in-Some.o.now.insn) (scans_lost places p c.in-Some.o.now c.in-Some.tail.now c.loop-o.rest.now c.loop-o.written.block c.loop-o.written.value c.look.new.written.block c.look.new.written.value c.in_ok-kept.kept c.in-Some.ensures.cases.0 c.if-not-kept.true c.in_ok-kept.ensures.look)

pub returns-then-not-kept-clause-claims : goal.returns-then-not-kept-clause-claims
returns-then-not-kept-clause-claims c =
    let places = c.args.facts.now.places.now in
    let p = c.args.facts.now.proc.now in
    let o = c.in-Some.o.now in
    let k = (first_of places p o c.args._h c.loop-o.rest.now c.in-Some.tail.now c.in-Some.ensures.cases.0 c.loop-o.invariant.occurrences).0 in
    subst (λ h. AllStale places p (h + 1) c.look.new.claims.items) k.1.1 (false_side (Claims places p (slice_index places o.named) c.look.new.claims.items) (AllStale places p (slice_index places o.named + 1) c.look.new.claims.items) c.in_ok-kept.kept c.if-not-kept.true c.in_ok-kept.ensures.claims)

pub loop-o-preserved : goal.loop-o-preserved
loop-o-preserved c =
    let places = c.args.facts.now.places.now in
    let p = c.args.facts.now.proc.now in
    let o = c.in-Some.o.now in
    let f = first_of places p o c.args._h c.loop-o.rest.now c.in-Some.tail.now c.in-Some.ensures.cases.0 c.loop-o.invariant.occurrences in
    record {
      occurrences = f.1;
      claims = subst (λ h. Claims places p h c.look.new.claims.items) f.0.1.1 (true_side (Claims places p (slice_index places o.named) c.look.new.claims.items) (AllStale places p (slice_index places o.named + 1) c.look.new.claims.items) c.in_ok-kept.kept c.if-not-kept.false c.in_ok-kept.ensures.claims);
      scans = λ a x. c.loop-o.invariant.scans a (scans_on places p o c.in-Some.tail.now c.loop-o.rest.now c.loop-o.written.block c.loop-o.written.value c.look.new.written.block c.look.new.written.value c.in_ok-kept.kept a c.in-Some.ensures.cases.0 c.if-not-kept.false c.in_ok-kept.ensures.look x);
    }

pub returns-clause-lost : goal.returns-clause-lost
returns-clause-lost c = c.loop-o.invariant.scans None (scans_done c.args.facts.now.places.now c.args.facts.now.proc.now c.loop-o.rest.now c.loop-o.written.block c.loop-o.written.value c.in_default.ensures.cases)

pub returns-clause-claims : goal.returns-clause-claims
returns-clause-claims c = claims_stale c.args.facts.now.places.now c.args.facts.now.proc.now c.args._h c.loop-o.claims.items c.loop-o.invariant.claims
