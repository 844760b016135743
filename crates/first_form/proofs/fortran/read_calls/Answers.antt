use Rattle.first_form.specs.Lines.{text_lines}
use Rattle.first_form.specs.Words.{IsInt}
use Rattle.first_form.specs.Runs.{call_before}
use Rattle.first_form.proofs.LongestRuns.{one_more}
use Rattle.first_form.proofs.fortran.read_calls.Goals as goal

pub loop-number-preserved : goal.loop-number-preserved
loop-number-preserved c =
    one_more (call_before c.args.label.now) IsInt (text_lines c.args.text.now) c.loop-number.calls.items c.in-Some.number (text_lines c.loop-number.rest.now) (text_lines c.in-Some.behind.now)
    c.push.new.self.items c.loop-number.invariant.0 c.loop-number.invariant.1 c.in-Some.ensures.lines.0 c.in-Some.ensures.lines.1 c.in_ok-push.ensures.items
