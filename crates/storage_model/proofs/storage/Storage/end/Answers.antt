use Rattle.std.proofs.Common.{sym, ◌∙◌}
use Rattle.storage_model.specs.Model.{model}
use Rattle.storage_model.proofs.Ending.{uncovered_from}
use Rattle.storage_model.proofs.storage.Storage.end.Goals as goal

pub set_ended-requires-clause-alone : goal.set_ended-requires-clause-alone
set_ended-requires-clause-alone c = uncovered_from (model c.args.self.now) c.args.self.now.held.sound c.args.object (sym c.is_alone.ensures ∙ c.if-not-is_alone.false)
