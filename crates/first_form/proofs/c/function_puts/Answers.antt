use Rattle.std.proofs.Common.{arith}
use Rattle.first_form.specs.Lines.{text_lines}
use Rattle.first_form.proofs.CTexts.{on_lines}
use Rattle.first_form.proofs.Fronts.{is_nothing}
use Rattle.first_form.proofs.c.function_puts.Goals as goal

pub returns-then-is_empty : goal.returns-then-is_empty
returns-then-is_empty c = on_lines c.args.body.now (text_lines c.args.rest.now) c.puts_on_lines.result (is_nothing c.args.body.now (grind arith)) c.puts_on_lines.ensures
