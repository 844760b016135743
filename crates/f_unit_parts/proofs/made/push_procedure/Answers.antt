use Rattle.std.proofs.Common.{rules, ◌≡◌, ◌∷◌, List, refl, ap, ◌∙◌}
use Rattle.std.proofs.lemmas.Result.{on_ok_weaker}
use Rattle.f_tree.specs.declared.unit.Procedure.{Procedure}
use Rattle.f_statement_grammar.specs.Statements as grammar
use Rattle.f_unit_parts.specs.Units.{procedure_lines, procedures_of}
use Rattle.f_unit_parts.proofs.Lists.{each_last}
use Rattle.f_unit_parts.proofs.made.push_procedure.Goals as goal

pub returns : goal.returns
returns c =
    let last : (rest : List grammar.Statement) → procedure_lines c.args.procedure rest ≡ procedure_lines c.args.procedure rest = λ rest. refl in
    on_ok_weaker c.push.result (λ e rest. ap (λ (xs : List Procedure). procedures_of xs rest) e ∙ each_last procedure_lines c.args.procedures.now c.args.procedure rest ∙ ap (procedures_of c.args.procedures.now) (last rest)) c.push.ensures.ok
