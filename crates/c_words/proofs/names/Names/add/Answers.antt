use Rattle.std.proofs.Common.{rules, ◌≡◌, false, map, cond, [], ◌∷◌, ◌++◌, sym, ap, ◌∙◌}
use Rattle.std.proofs.lemmas.List.{map-append}
use Rattle.c_words.specs.Making.{is_among}
use Rattle.c_words.proofs.Named.{spelled, not_any}
use Rattle.c_words.proofs.names.Names.add.Goals as goal

pub returns-clause-names : goal.returns-clause-names
returns-clause-names c =
    let keys = c.self.inside.names.keys in
    let name = c.in_ok-spelling.spelling in
    let items : name.items ≡ c.args.name.now = search rules in
    let absent : is_among (spelled keys) name.items ≡ false =
    ap (λ s. is_among (spelled keys) s) items ∙ ap (λ names. is_among names c.args.name.now) c.self.view_is ∙ c.requires.absent in
    let none = not_any keys name.items absent in
    ap (map (λ v. v.items)) (c.in_ok-insert_full.ensures.keys ∙ ap (λ b. cond b keys (keys ++ name ∷ [])) none)
    ∙ map-append (λ v. v.items) keys (name ∷ [])
    ∙ ap (λ names. names ++ name.items ∷ []) c.self.view_is
    ∙ ap (λ s. c.args.self.now ++ s ∷ []) items
