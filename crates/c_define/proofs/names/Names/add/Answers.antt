use Rattle.std.proofs.Common.{◌∙◌, ap, map, ◌++◌, [], ◌∷◌, cond}
use Rattle.std.proofs.lemmas.List.{map-append}
use Rattle.c_define.specs.Numbers.{number_of}
use Rattle.c_define.proofs.Named.{not_among}
use Rattle.c_define.proofs.names.Names.add.Goals as goal

pub returns-clause-ok : goal.returns-clause-ok
returns-clause-ok c =
    let keys = c.self.inside.names.keys in
    let none = not_among keys c.args.name.items (ap (λ names. number_of names c.args.name.items) c.self.view_is ∙ c.requires) in
    ap (map (λ v. v.items)) (c.in_ok-insert_full.ensures.keys ∙ ap (λ b. cond b keys (keys ++ c.args.name ∷ [])) none)
    ∙ map-append (λ v. v.items) keys (c.args.name ∷ [])
    ∙ ap (λ names. names ++ c.args.name.items ∷ []) c.self.view_is
