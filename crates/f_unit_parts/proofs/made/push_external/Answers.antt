use Rattle.std.proofs.Common.{rules, ◌≡◌, ◌∷◌, List, refl, ap, ◌∙◌}
use Rattle.std.proofs.lemmas.Result.{on_ok_weaker}
use Rattle.f_tree.specs.declared.unit.Unit.{Unit as ProgramUnit}
use Rattle.f_tree.specs.declared.unit.Unit.TheVariants as unit
use Rattle.f_statement_grammar.specs.Statements as grammar
use Rattle.f_unit_parts.specs.Units.{procedure_lines, unit_lines, units_of}
use Rattle.f_unit_parts.proofs.Lists.{each_last}
use Rattle.f_unit_parts.proofs.made.push_external.Goals as goal

pub returns : goal.returns
unfolding unit_lines
returns c =
    let last : (rest : List grammar.Statement) → unit_lines (unit.Procedure c.args.procedure) rest ≡ procedure_lines c.args.procedure rest = λ rest. refl in
    on_ok_weaker c.push.result (λ e rest. ap (λ (xs : List ProgramUnit). units_of xs rest) e ∙ each_last unit_lines c.args.units.now (unit.Procedure c.args.procedure) rest ∙ ap (units_of c.args.units.now) (last rest)) c.push.ensures.ok
