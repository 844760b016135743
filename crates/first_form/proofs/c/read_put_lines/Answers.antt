use Rattle.first_form.specs.Lines.{text_lines}
use Rattle.first_form.specs.Forms.{IsArgument}
use Rattle.first_form.specs.Runs.{put_line_before}
use Rattle.first_form.proofs.LongestRuns.{one_more}
use Rattle.first_form.proofs.c.read_put_lines.Goals as goal

pub loop-argument-preserved : goal.loop-argument-preserved
loop-argument-preserved c =
    one_more put_line_before IsArgument (text_lines c.args.text.now) c.loop-argument.puts.items c.in-Some.argument (text_lines c.loop-argument.rest.now) (text_lines c.in-Some.behind.now)
    c.push.new.self.items c.loop-argument.invariant.0 c.loop-argument.invariant.1 c.in-Some.ensures.lines.0 c.in-Some.ensures.lines.1 c.in_ok-push.ensures.items
