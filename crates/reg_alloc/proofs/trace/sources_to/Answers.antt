use Rattle.std.proofs.Common.{◌<◌, ◌∙◌, [], arith, length}
use Rattle.std.proofs.lemmas.List.{get_or_read}
use Rattle.reg_alloc.proofs.trace.sources_to.Goals as goal

pub bounds-sources-t : goal.bounds-sources-t
bounds-sources-t c = omega (arith, c.requires.block, c.requires.facts.sources_are.count)

pub returns : goal.returns
returns c =
    let lt : c.args.t < length c.args.facts.now.sources.now = omega (arith, c.requires.block, c.requires.facts.sources_are.count) in
    c.as_slice.ensures ∙ get_or_read c.args.facts.now.sources.now c.args.t c.index-sources-t.result lt c.index-sources-t.is [] ∙ c.requires.facts.sources_are.each c.args.t c.requires.block
