use Rattle.std.proofs.Common.{rules, ◌≡◌, ◌∷◌, List, refl, ap, ◌∙◌}
use Rattle.std.proofs.lemmas.Result.{on_ok_weaker}
use Rattle.f_tree.specs.declared.declaration.Use.{Use}
use Rattle.f_statement_grammar.specs.Statements as grammar
use Rattle.f_unit_parts.specs.Units.{use_line, use_lines, uses_of}
use Rattle.f_unit_parts.proofs.Lists.{each_last}
use Rattle.f_unit_parts.proofs.made.push_use.Goals as goal

pub returns : goal.returns
returns c =
    let last : (rest : List grammar.Statement) → use_lines c.args.used rest ≡ use_line c.args.used ∷ rest = λ rest. refl in
    on_ok_weaker c.push.result (λ e rest. ap (λ (xs : List Use). uses_of xs rest) e ∙ each_last use_lines c.args.uses.now c.args.used rest ∙ ap (uses_of c.args.uses.now) (last rest)) c.push.ensures.ok
