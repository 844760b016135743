use Rattle.std.proofs.Common.{◌∙◌, ap}
use Rattle.f_scope.specs.Tables.{entry_at}
use Rattle.f_scope.proofs.Lookups.{lookup-is}
use Rattle.f_scope.proofs.table.Table.find.Goals as goal

pub returns : goal.returns
returns c = c.copied.ensures ∙ c.get.ensures.value ∙ lookup-is c.args.name.now c.self.inside.entries.entries ∙ ap (entry_at c.args.name.now) c.self.view_is
