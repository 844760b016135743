use Rattle.std.proofs.Common.{rules, ◌≡◌, ◌∷◌, List, refl, ap, ◌∙◌}
use Rattle.std.proofs.lemmas.Result.{on_ok_weaker}
use Rattle.f_tree.specs.declared.declaration.Component.{Component}
use Rattle.f_statement_grammar.specs.Statements as grammar
use Rattle.f_unit_parts.specs.Units.{component_line, component_lines, components_of}
use Rattle.f_unit_parts.proofs.Lists.{each_last}
use Rattle.f_unit_parts.proofs.made.push_component.Goals as goal

pub returns : goal.returns
returns c =
    let last : (rest : List grammar.Statement) → component_lines c.args.component rest ≡ component_line c.args.component ∷ rest = λ rest. refl in
    on_ok_weaker c.push.result (λ e rest. ap (λ (xs : List Component). components_of xs rest) e ∙ each_last component_lines c.args.components.now c.args.component rest ∙ ap (components_of c.args.components.now) (last rest)) c.push.ensures.ok
