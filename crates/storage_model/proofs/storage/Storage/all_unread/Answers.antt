use Rattle.std.proofs.Common.{ℕ, ◌+◌, sym, ◌∙◌, arith}
use Rattle.std.specs.Prelude.{Bool}
use Rattle.std.proofs.lemmas.Bool.{not-true}
use Rattle.std.specs.List.{list_all}
use Rattle.storage_model.specs.Storage.{at}
use Rattle.storage_model.specs.Chain.{chain_of, not_read}
use Rattle.storage_model.specs.Model.{model}
use Rattle.storage_model.proofs.Meanings.{each_from, each_fails}
use Rattle.storage_model.proofs.storage.Storage.all_unread.Goals as goal

pub returns-then-not-walk : goal.returns-then-not-walk
returns-then-not-walk c =
    let m = model c.args.self.now in
    let test : ℕ → Bool = λ x. list_all (not_read m) (chain_of m (at c.args.from.view (c.args.from.offset + x))) in
    sym (each_fails test c.args.n c.loop-x.x (omega arith) (sym c.walk.ensures.unread ∙ not-true _ c.if-not-walk.true))

pub returns : goal.returns
returns c =
    let m = model c.args.self.now in
    let test : ℕ → Bool = λ x. list_all (not_read m) (chain_of m (at c.args.from.view (c.args.from.offset + x))) in
    sym (each_from test c.args.n (λ j h. c.loop-x.invariant j (omega (arith, h))))
