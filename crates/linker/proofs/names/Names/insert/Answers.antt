use Rattle.std.proofs.Common.{◌∙◌, ap, map, ◌++◌, [], ◌∷◌, string_bytes}
use Rattle.std.specs.Prelude.{string_eq, String}
use Rattle.std.specs.declared.alloc.Global.{Global}
use Rattle.std.proofs.lemmas.List.{map-append}
use Rattle.linker.specs.declared.names.Definition.{Definition}
use Rattle.linker.specs.Names.{definition_at, entry_of}
use Rattle.linker.proofs.Lookups.{lookup-is}
use Rattle.indexmap.proofs.CallerLemmas.{insert_entry-new}
use Rattle.linker.proofs.names.Names.insert.Goals as goal

pub returns-clause-ok : goal.returns-clause-ok
returns-clause-ok c =
    let old = c.self.inside.definitions in
    let new : String Global × Definition = (c.args.name, c.args.definition) in
    let absent = lookup-is (string_bytes c.args.name) old.entries ∙ ap (definition_at (string_bytes c.args.name)) c.self.view_is ∙ c.requires in
    ap (map entry_of) (c.in_ok-insert.ensures.entries ∙ insert_entry-new string_eq old c.args.name c.args.definition absent)
    ∙ map-append entry_of old.entries (new ∷ [])
    ∙ ap (λ es. es ++ entry_of new ∷ []) c.self.view_is
