use Rattle.std.proofs.Common.{◌≡◌, ◌++◌, ◌∷◌, [], rules, sym, ◌∙◌, ap}
use Rattle.c_define.proofs.Wide.{one_name, new_name}
use Rattle.c_define.proofs.numbers.number_of.Goals as goal

pub returns-in_ok-number-in-None-clause-wider : goal.returns-in_ok-number-in-None-clause-wider
returns-in_ok-number-in-None-clause-wider c =
    let items : c.in_ok-spelling-in-None.spelling.items ≡ c.args.name.now = search rules in
    one_name c.args.names.now c.add.new.self [] c.args.name.now (sym c.in-None.ensures) (c.in_ok-number-in-None.ensures.ok ∙ ap (λ l. c.args.names.now ++ l ∷ []) items)

pub returns-in_ok-number-in-None-clause-number : goal.returns-in_ok-number-in-None-clause-number
returns-in_ok-number-in-None-clause-number c =
    let items : c.in_ok-spelling-in-None.spelling.items ≡ c.args.name.now = search rules in
    new_name c.args.names.now c.add.new.self c.args.name.now c.in_ok-number-in-None.number (sym c.in-None.ensures) (c.in_ok-number-in-None.ensures.ok ∙ ap (λ l. c.args.names.now ++ l ∷ []) items) c.in_ok-number-in-None.ensures.number
