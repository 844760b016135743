use Rattle.std.proofs.Common.{◌∙◌, ap}
use Rattle.linker.specs.Names.{definition_at}
use Rattle.linker.proofs.Lookups.{lookup-is}
use Rattle.linker.proofs.names.Names.find.Goals as goal

pub returns : goal.returns
returns c = c.copied.ensures ∙ c.get.ensures.value ∙ lookup-is c.args.name.now c.self.inside.definitions.entries ∙ ap (definition_at c.args.name.now) c.self.view_is
