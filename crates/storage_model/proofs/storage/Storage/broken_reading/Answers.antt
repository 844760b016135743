use Rattle.std.proofs.Common.{sym, ◌∙◌}
use Rattle.std.specs.Prelude.{true, false}
use Rattle.std.proofs.lemmas.Bool.{not-false}
use Rattle.storage_model.specs.Model.{model}
use Rattle.storage_model.proofs.Points.{read_rest, read_described}
use Rattle.storage_model.proofs.storage.Storage.broken_reading.Goals as goal

pub returns-then-not-is_memory : goal.returns-then-not-is_memory
returns-then-not-is_memory c = sym (read_described (model c.args.self.now) c.args.self.now.held.sound c.args.align c.args.from.view c.args.from.offset c.args.n c.requires.some
    (sym c.walk.ensures.aligned ∙ not-false _ c.if-not-walk.false) (sym c.is_memory.ensures ∙ c.if-not-is_memory.true))

pub returns-then-not-all_alone : goal.returns-then-not-all_alone
returns-then-not-all_alone c = sym (read_rest (model c.args.self.now) c.args.self.now.held.sound c.args.align c.args.from.view c.args.from.offset c.args.n false c.requires
    (sym c.walk.ensures.aligned ∙ not-false _ c.if-not-walk.false) (sym c.is_memory.ensures ∙ c.if-not-is_memory.false) (sym c.all_alone.ensures ∙ c.if-not-all_alone.true))

pub returns : goal.returns
returns c = sym (read_rest (model c.args.self.now) c.args.self.now.held.sound c.args.align c.args.from.view c.args.from.offset c.args.n true c.requires
    (sym c.walk.ensures.aligned ∙ not-false _ c.if-not-walk.false) (sym c.is_memory.ensures ∙ c.if-not-is_memory.false) (sym c.all_alone.ensures ∙ c.if-not-all_alone.false))
