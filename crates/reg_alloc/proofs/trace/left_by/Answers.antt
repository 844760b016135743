use Rattle.std.proofs.Common.{◌∙◌, sym}
use Rattle.std.specs.Prelude.{slice_index}
use Rattle.reg_alloc.proofs.Tracing.{none_left, other_left, one_left, left_value}
use Rattle.reg_alloc.proofs.trace.left_by.Goals as goal

pub returns-then-w-facts : goal.returns-then-w-facts
returns-then-w-facts c = none_left c.args.facts.now.places.now c.args.facts.now.proc.now (slice_index c.args.facts.now.places.now c.args.v) c.args.last.now c.args.c c.requires.ends c.requires.block c.if-w-facts.true

pub place_of-requires-clause-value : goal.place_of-requires-clause-value
place_of-requires-clause-value c = left_value c.args.facts.now.places.now c.args.facts.now.proc.now (slice_index c.args.facts.now.places.now c.args.v) c.args.last.now c.args.c c.requires.ends c.requires.block c.if-w-facts.false

pub returns-then-not-is_its : goal.returns-then-not-is_its
returns-then-not-is_its c = other_left c.args.facts.now.places.now c.args.facts.now.proc.now (slice_index c.args.facts.now.places.now c.args.v) c.args.last.now c.args.c c.requires.ends c.requires.block (λ q. c.if-not-is_its.true (c.place_of.ensures ∙ q ∙ sym c.place_of-2.ensures))

pub returns : goal.returns
returns c = one_left c.args.facts.now.places.now c.args.facts.now.proc.now (slice_index c.args.facts.now.places.now c.args.v) c.args.last.now c.args.c c.requires.ends c.requires.block c.if-w-facts.false (sym c.place_of.ensures ∙ c.if-not-is_its.false ∙ c.place_of-2.ensures)
