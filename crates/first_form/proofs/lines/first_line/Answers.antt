use Rattle.std.proofs.Common.{arith, ap, ◌∙◌}
use Rattle.first_form.specs.Lines.{trimmed}
use Rattle.first_form.proofs.TextLines.{text_lines-empty, text_lines-last, text_lines-first}
use Rattle.first_form.proofs.lines.first_line.Goals as goal

pub returns-then-is_empty-clause-lines : goal.returns-then-is_empty-clause-lines
returns-then-is_empty-clause-lines c = text_lines-empty _ (grind arith)

pub returns-in-None-clause-lines : goal.returns-in-None-clause-lines
returns-in-None-clause-lines c = text_lines-last c.args.text.now c.trimmed.result.now (grind arith) c.in-None.ensures c.trimmed.ensures

pub returns-in-Some-clause-lines : goal.returns-in-Some-clause-lines
returns-in-Some-clause-lines c =
    text_lines-first c.args.text.now c.in-Some.line.now c.in-Some.rest.now c.trimmed-in-Some.result.now c.in-Some.ensures.0 c.in-Some.ensures.1
    (c.trimmed-in-Some.ensures ∙ ap trimmed c.without_carriage_return.ensures)
