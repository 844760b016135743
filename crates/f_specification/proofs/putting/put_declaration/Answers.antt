use Rattle.std.proofs.Common.{◌≡◌, ◌∷◌, ◌∙◌, List}
use Rattle.std.proofs.lemmas.Result.{IfOk-weaker}
use Rattle.f_statement_grammar.specs.Statements.{Statement, Declaring}
use Rattle.f_declared.specs.Views.{view_declared}
use Rattle.f_unit_parts.specs.Units.{specification_lines}
use Rattle.f_specification.specs.declared.stage.Stage.{Stage}
use Rattle.f_specification.specs.Stages.{stage_lines}
use Rattle.f_specification.proofs.putting.put_declaration.Goals as goal

pub returns-clause-lines : goal.returns-clause-lines
returns-clause-lines c =
    let P : Stage → Type 0 = λ s. (rest : List Statement) → stage_lines s rest ≡ specification_lines c.in_ok-declare.field-0 rest in
    let Q : Stage → Type 0 = λ s. (rest : List Statement) → stage_lines s rest ≡ specification_lines c.args.specification (Declaring (view_declared c.args.declared) ∷ rest) in
    IfOk-weaker c.behind_implicit.result P Q (λ s lines rest. lines rest ∙ c.in_ok-declare.ensures rest) c.behind_implicit.ensures.lines
