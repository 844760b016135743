use Rattle.std.proofs.Common.{ℕ, ◌+◌, sym, ◌∙◌, arith}
use Rattle.std.specs.Prelude.{Bool}
use Rattle.storage_model.specs.Storage.{at}
use Rattle.storage_model.specs.Chain.{none_beside, marks_against}
use Rattle.storage_model.specs.Model.{model}
use Rattle.storage_model.proofs.Meanings.{each_from, each_fails}
use Rattle.storage_model.proofs.storage.Storage.all_alone.Goals as goal

pub returns-then-not-none_beside : goal.returns-then-not-none_beside
returns-then-not-none_beside c =
    let m = model c.args.self.now in
    let test : ℕ → Bool = λ x. none_beside m (marks_against m c.args.read) (at c.args.from.view (c.args.from.offset + x)) in
    sym (each_fails test c.args.n c.loop-x.x (omega arith) (sym c.none_beside.ensures ∙ c.if-not-none_beside.true))

pub returns : goal.returns
returns c =
    let m = model c.args.self.now in
    let test : ℕ → Bool = λ x. none_beside m (marks_against m c.args.read) (at c.args.from.view (c.args.from.offset + x)) in
    sym (each_from test c.args.n (λ j h. c.loop-x.invariant j (omega (arith, h))))
