use Rattle.std.proofs.Common.{◌∙◌, ap, map}
use Rattle.f_scope.specs.Tables.{put}
use Rattle.f_scope.proofs.Lookups.{row_of, insert-is}
use Rattle.f_scope.proofs.table.Table.put.Goals as goal

pub returns : goal.returns
returns c = ap (map row_of) c.in_ok-insert.ensures.entries ∙ insert-is c.args.name c.args.entry c.self.inside.entries.entries ∙ ap (λ rows. put rows c.args.name.items c.args.entry) c.self.view_is
