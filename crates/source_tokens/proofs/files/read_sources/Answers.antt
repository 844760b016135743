use Rattle.std.proofs.Common.{rules, ◌≡◌, ◌+◌, [], ◌∷◌, ◌++◌, map, length, length-append, refl, arith, ap, ◌∙◌}
use Rattle.std.proofs.lemmas.List.{map-append}
use Rattle.source_tokens.specs.Reading.{seen}
use Rattle.source_tokens.proofs.One.{untroubled_then}
use Rattle.source_tokens.proofs.Many.{goes_on, stops, ends}
use Rattle.source_tokens.proofs.files.read_sources.Goals as goal

pub returns-in-Err-clause-read : goal.returns-in-Err-clause-read
returns-in-Err-clause-read g c =
    let i = c.loop-name.invariant in
    stops c.args.names.now c.loop-name.rest.now c.in-Some.others.now c.in-Some.name.now c.loop-name.file c.loop-name.before (map seen c.loop-name.sources.items) _ _ _
    i.listing i.untroubled i.goes c.in-Some.ensures.cases.0 c.in-Err.fault c.in-Err.ensures.read

pub loop-name-preserved : goal.loop-name-preserved
loop-name-preserved g c =
    let i = c.loop-name.invariant in
    let read = c.in-Ok.ensures.read in
    let first = c.in-Some.ensures.cases.0 in
    let pushed : c.push.new.self.items ≡ c.loop-name.sources.items ++ c.in-Ok.source ∷ [] = search rules in
    record {
      listing = c.in-Ok.ensures.listing ∙ i.listing;
      untroubled = untroubled_then _ _ _ i.listing i.untroubled read.0;
      numbered = (let long = ap length first in omega (arith, i.numbered, long));
      counted = (let long = ap length pushed ∙ length-append c.loop-name.sources.items (c.in-Ok.source ∷ []) in omega (arith, i.counted, long));
      room = (let count = c.count.ensures in omega (arith, read.1, count));
      goes = λ files told.
          goes_on files c.args.names.now c.loop-name.rest.now c.in-Some.others.now c.in-Some.name.now c.loop-name.file _ c.loop-name.before _ (map seen c.loop-name.sources.items) _ (seen c.in-Ok.source)
          (i.goes files told) first (read.2 files (i.listing ∙ told)) refl (ap (λ n. c.loop-name.before + n) c.count.ensures)
          (ap (map seen) pushed ∙ map-append seen c.loop-name.sources.items (c.in-Ok.source ∷ []));
    }

pub returns-clause-read : goal.returns-clause-read
returns-clause-read g c =
    let i = c.loop-name.invariant in
    let none = c.in_default.ensures.cases in (
      i.untroubled,
      omega (arith, i.numbered, i.counted, none),
      λ files told. ends files c.args.names.now c.loop-name.rest.now c.loop-name.file c.loop-name.before (map seen c.loop-name.sources.items) (i.goes files told) none,
    )
