use Rattle.std.proofs.Common.{rules, ◌≡◌, ◌∷◌, List, refl, ap, ◌∙◌}
use Rattle.std.proofs.lemmas.Result.{on_ok_weaker}
use Rattle.f_tree.specs.declared.declaration.InterfaceBody.{InterfaceBody}
use Rattle.f_statement_grammar.specs.Statements as grammar
use Rattle.f_unit_parts.specs.Units.{bodies_of, body_lines}
use Rattle.f_unit_parts.proofs.Lists.{each_last}
use Rattle.f_unit_parts.proofs.made.push_body.Goals as goal

pub returns : goal.returns
returns c =
    let last : (rest : List grammar.Statement) → body_lines c.args.body rest ≡ body_lines c.args.body rest = λ rest. refl in
    on_ok_weaker c.push.result (λ e rest. ap (λ (xs : List InterfaceBody). bodies_of xs rest) e ∙ each_last body_lines c.args.bodies.now c.args.body rest ∙ ap (bodies_of c.args.bodies.now) (last rest)) c.push.ensures.ok
