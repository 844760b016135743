use Rattle.std.proofs.Common.{◌≡◌, ◌<◌, ◌∙◌, ◌+◌, ℕ, List, [], sym, ap, subst, arith, length, Option}
use Rattle.std.proofs.lemmas.List.{get_or_read}
use Rattle.reg_alloc.specs.Trace.{Answer}
use Rattle.reg_alloc.proofs.Tracing.{all_none}
use Rattle.reg_alloc.proofs.Judging.{nothing_yet, join, fewer}
use Rattle.reg_alloc.proofs.trace.first_of_all.Goals as goal

pub loop-h-init : goal.loop-h-init
loop-h-init c =
    let places = c.args.facts.now.places.now in
    let p = c.args.facts.now.proc.now in
    record {
      last = all_none places p c.in_ok-last.last.items (c.in_ok-last.ensures.len ∙ c.len.ensures) (λ u lt. c.in_ok-last.ensures.all u (omega (arith, lt, c.len.ensures)));
      claims = all_none places p c.in_ok-claims.claims.items (c.in_ok-claims.ensures.len ∙ c.len-2.ensures) (λ u lt. c.in_ok-claims.ensures.all u (omega (arith, lt, c.len-2.ensures)));
      answer = nothing_yet places p c.requires.named;
    }

pub lost_at-requires-clause-occurrences : goal.lost_at-requires-clause-occurrences
lost_at-requires-clause-occurrences c =
    let lt : c.loop-h.h < length c.args.rows.now = c.loop-h-test.true in
    c.as_slice.ensures ∙ get_or_read c.args.rows.now c.loop-h.h c.index-rows-h.result lt c.index-rows-h.is [] ∙ c.requires.rows.each c.loop-h.h (omega (arith, lt, c.requires.rows.counted))

pub loop-h-preserved : goal.loop-h-preserved
loop-h-preserved c =
    let places = c.args.facts.now.places.now in
    let p = c.args.facts.now.proc.now in
    record {
      last = c.in_ok-lost.ensures.last;
      claims = c.in_ok-lost.ensures.claims;
      answer = subst (λ (o : Option ℕ). Answer places p (λ g. g < c.loop-h.h + 1) o) (sym c.earlier-first.ensures) (join places p c.requires.named c.loop-h.h c.loop-h.first c.in_ok-lost.lost c.loop-h.invariant.answer c.in_ok-lost.ensures.lost);
    }

pub returns : goal.returns
returns c = fewer c.args.facts.now.places.now c.args.facts.now.proc.now c.requires.named c.loop-h.h (length c.args.facts.now.start.now) c.loop-h.first (omega (arith, c.loop-h-test.false, c.requires.rows.counted)) c.loop-h.invariant.answer
