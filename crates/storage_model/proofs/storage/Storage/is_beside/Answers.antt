use Rattle.std.proofs.Common.{sym, ◌∙◌}
use Rattle.storage_model.specs.Model.{model}
use Rattle.storage_model.proofs.Listed.{good_open_byte}
use Rattle.storage_model.proofs.storage.Storage.is_beside.Goals as goal

pub walk-requires : goal.walk-requires
walk-requires c = good_open_byte (model c.args.self.now) c.args.cover.loan c.args.cover.byte (sym c.is_open_byte.ensures ∙ c.if-not-is_open_byte.false)
