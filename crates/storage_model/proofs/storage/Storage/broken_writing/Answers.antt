use Rattle.std.proofs.Common.{sym, ◌∙◌, ap}
use Rattle.std.specs.Prelude.{None}
use Rattle.std.proofs.lemmas.Bool.{not-false}
use Rattle.storage_model.specs.Tags.{V07}
use Rattle.storage_model.specs.Access.{first}
use Rattle.storage_model.specs.Model.{model}
use Rattle.storage_model.proofs.Points.{write_rest, write_described}
use Rattle.storage_model.proofs.storage.Storage.broken_writing.Goals as goal

pub returns-then-not-is_memory-clause-answer : goal.returns-then-not-is_memory-clause-answer
returns-then-not-is_memory-clause-answer c = sym (write_described (model c.args.self.now) c.args.self.now.held.sound c.args.align c.args.from.view c.args.from.offset c.args.n c.requires.some
    (sym c.walk.ensures.aligned ∙ not-false _ c.if-not-walk.false) (sym c.all_writable.ensures ∙ c.if-not-all_writable.false) (sym c.is_memory.ensures ∙ c.if-not-is_memory.true))

pub returns-then-not-both-clause-answer : goal.returns-then-not-both-clause-answer
returns-then-not-both-clause-answer c = sym (write_rest (model c.args.self.now) c.args.self.now.held.sound c.args.align c.args.from.view c.args.from.offset c.args.n
    c.all_alone-alone.result c.all_unread-unread.result c.requires
    (sym c.walk.ensures.aligned ∙ not-false _ c.if-not-walk.false) (sym c.all_writable.ensures ∙ c.if-not-all_writable.false) (sym c.is_memory.ensures ∙ c.if-not-is_memory.false)
    (sym c.all_alone-alone.ensures) (sym c.all_unread-unread.ensures)
    ∙ ap (λ b. first b V07 None) (sym c.both.ensures ∙ c.if-not-both.true))

pub returns-clause-answer : goal.returns-clause-answer
returns-clause-answer c = sym (write_rest (model c.args.self.now) c.args.self.now.held.sound c.args.align c.args.from.view c.args.from.offset c.args.n
    c.all_alone-alone.result c.all_unread-unread.result c.requires
    (sym c.walk.ensures.aligned ∙ not-false _ c.if-not-walk.false) (sym c.all_writable.ensures ∙ c.if-not-all_writable.false) (sym c.is_memory.ensures ∙ c.if-not-is_memory.false)
    (sym c.all_alone-alone.ensures) (sym c.all_unread-unread.ensures)
    ∙ ap (λ b. first b V07 None) (sym c.both.ensures ∙ c.if-not-both.false))
