use Rattle.std.proofs.Common.{◌≡◌, ◌<◌, sym, arith, length, get_or, below_more}
use Rattle.std.specs.Prelude.{Bool, ◌&&◌, true, false}
use Rattle.storage_model.specs.declared.held.Cover.{Cover}
use Rattle.storage_model.specs.Chain.{marks_against, is_beside}
use Rattle.storage_model.specs.Model.{model}
use Rattle.storage_model.proofs.Listed.{none_listed, one_listed, asked, at_default}
use Rattle.storage_model.proofs.storage.Storage.none_beside.Goals as goal

pub returns-then-both : goal.returns-then-both
returns-then-both c =
    let none : Cover = record { loan = 0; byte = 0 } in
    let x = get_or c.stack-cover-items.result.now c.loop-cover.cover-index none in
    sym (one_listed c.args.self.now c.args.from c.args.home c.requires.home (marks_against (model c.args.self.now) c.args.read) x.loan x.byte
    (asked _ _ c.is_marked-marked.result c.is_beside-beside.result c.both.result true c.is_marked-marked.ensures c.is_beside-beside.ensures c.both.ensures c.if-both.true))

pub loop-cover-preserved : goal.loop-cover-preserved
loop-cover-preserved c =
    let m = model c.args.self.now in
    let test : Cover → Bool = λ x. marks_against m c.args.read x.loan x.byte && is_beside m c.args.from x.loan x.byte in
    let none : Cover = record { loan = 0; byte = 0 } in
    let lt : c.loop-cover.cover-index < length c.stack-cover-items.result.now = omega arith in
    below_more (λ j. (d : Cover) → test (get_or c.stack-cover-items.result.now j d) ≡ false) _ c.loop-cover.invariant
    (λ d. at_default test c.stack-cover-items.result.now c.loop-cover.cover-index none d false lt
    (asked _ _ c.is_marked-marked.result c.is_beside-beside.result c.both.result false c.is_marked-marked.ensures c.is_beside-beside.ensures c.both.ensures c.if-both.false))

pub returns : goal.returns
returns c = sym (none_listed c.args.self.now c.args.from c.args.home c.requires.home (marks_against (model c.args.self.now) c.args.read)
    c.stack-cover-items.result.now c.stack-cover-items.ensures (λ j d h. c.loop-cover.invariant j (omega (arith, h)) d))
