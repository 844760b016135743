use Rattle.std.proofs.Common.{sym, ◌∙◌, ap, [], ◌∷◌, ◌++◌}
use Rattle.storage_model.specs.Access.{cells_from}
use Rattle.storage_model.specs.Model.{model}
use Rattle.storage_model.proofs.Reading.{cells_next}
use Rattle.storage_model.proofs.storage.Storage.cells_of.Goals as goal

pub loop-x-preserved : goal.loop-x-preserved
loop-x-preserved c =
    c.in_ok-push.ensures.items
    ∙ ap (λ t. t ++ c.cell_under.result ∷ []) c.loop-x.invariant
    ∙ ap (λ y. cells_from (model c.args.self.now) c.args.from.view c.args.from.offset c.loop-x.x ++ y ∷ []) c.cell_under.ensures
    ∙ sym (cells_next (model c.args.self.now) c.args.from.view c.args.from.offset c.loop-x.x)
