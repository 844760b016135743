use Rattle.std.proofs.Common.{◌≡◌, false, sym, ap, ◌∙◌}
use Rattle.c_words.specs.Words.{index_of}
use Rattle.c_words.specs.Making.{is_among}
use Rattle.c_words.proofs.Named.{found_at, not_found, met_old, names_more, number_more}
use Rattle.c_words.proofs.names.Names.number.Goals as goal

pub add-requires-clause-absent : goal.add-requires-clause-absent
add-requires-clause-absent c =
    ap (λ names. is_among names c.args.name.now) (sym c.self.view_is) ∙ not_found c.self.inside.names.keys c.args.name.now (sym c.in-None.ensures.index)

pub returns-in-Some-clause-names : goal.returns-in-Some-clause-names
returns-in-Some-clause-names c =
    met_old c.args.self.now c.args.name.now
    (ap (λ names. is_among names c.args.name.now) (sym c.self.view_is) ∙ (found_at c.self.inside.names.keys c.args.name.now c.in-Some.number (sym c.in-Some.ensures.index)).0)

pub returns-in-Some-clause-number : goal.returns-in-Some-clause-number
returns-in-Some-clause-number c =
    (found_at c.self.inside.names.keys c.args.name.now c.in-Some.number (sym c.in-Some.ensures.index)).1 ∙ ap (λ names. index_of names c.args.name.now) c.self.view_is

pub returns-in-None-clause-names : goal.returns-in-None-clause-names
returns-in-None-clause-names c =
    let absent : is_among c.args.self.now c.args.name.now ≡ false =
    ap (λ names. is_among names c.args.name.now) (sym c.self.view_is) ∙ not_found c.self.inside.names.keys c.args.name.now (sym c.in-None.ensures.index) in
    names_more c.add.result c.add.new.self c.args.self.now c.args.name.now absent c.add.ensures.names

pub returns-in-None-clause-number : goal.returns-in-None-clause-number
returns-in-None-clause-number c =
    let absent : is_among c.args.self.now c.args.name.now ≡ false =
    ap (λ names. is_among names c.args.name.now) (sym c.self.view_is) ∙ not_found c.self.inside.names.keys c.args.name.now (sym c.in-None.ensures.index) in
    number_more c.add.result c.add.new.self c.args.self.now c.args.name.now absent c.add.ensures.names c.add.ensures.number
