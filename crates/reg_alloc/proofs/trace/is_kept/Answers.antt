use Rattle.std.proofs.Common.{ℕ, ◌∙◌, ◌+◌, sym, subst}
use Rattle.std.specs.Prelude.{◌==◌, slice_index, MatchBool}
use Rattle.reg_alloc.specs.Trace.{UseKept, UseLost, cur}
use Rattle.reg_alloc.proofs.Tracing.{none_leads, by_written, by_start, both_claims}
use Rattle.reg_alloc.proofs.trace.is_kept.Goals as goal

pub is_reached-requires-clause-block : goal.is_reached-requires-clause-block
is_reached-requires-clause-block c = c.requires.use_of.0

pub returns-then-not-is_reached-clause-kept : goal.returns-then-not-is_reached-clause-kept
returns-then-not-is_reached-clause-kept c = none_leads c.args.facts.now.places.now c.args.facts.now.proc.now c.args.o.now.block c.args.o.now.named (cur c.args.facts.now.places.now c.args.facts.now.proc.now c.args.written.now.block c.args.written.now.value c.args.o.now.block) c.if-not-is_reached.ensures

pub is_held-requires-clause-value : goal.is_held-requires-clause-value
is_held-requires-clause-value c = c.requires.use_of.1.0

pub is_held-requires-clause-block : goal.is_held-requires-clause-block
is_held-requires-clause-block c = c.requires.use_of.0

pub returns-then-here-facts-clause-kept : goal.returns-then-here-facts-clause-kept
returns-then-here-facts-clause-kept c = by_start c.args.facts.now.places.now c.args.facts.now.proc.now c.args.o.now.block c.args.o.now.named (cur c.args.facts.now.places.now c.args.facts.now.proc.now c.args.written.now.block c.args.written.now.value c.args.o.now.block) c.in_ok-held.held (sym c.written_in-here.ensures ∙ c.if-here-facts.true) c.in_ok-held.ensures.held

pub returns-clause-kept : goal.returns-clause-kept
returns-clause-kept c = subst (λ x. MatchBool (c.written_in-here.result == c.args.o.now.named) (UseKept c.args.facts.now.places.now c.args.facts.now.proc.now x c.args.o.now.block c.args.o.now.named) (UseLost c.args.facts.now.places.now c.args.facts.now.proc.now x c.args.o.now.block c.args.o.now.named)) c.written_in-here.ensures (by_written c.args.facts.now.places.now c.args.facts.now.proc.now c.args.o.now.block c.args.o.now.named c.written_in-here.result c.if-here-facts.false c.if-not-is_reached.ensures)

pub returns-clause-claims : goal.returns-clause-claims
returns-clause-claims c = both_claims c.args.facts.now.places.now c.args.facts.now.proc.now (slice_index c.args.facts.now.places.now c.args.o.now.named) c.args.claims.now.items (c.written_in-here.result == c.args.o.now.named) c.requires.claims
