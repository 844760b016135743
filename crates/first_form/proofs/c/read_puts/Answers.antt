use Rattle.first_form.specs.Forms.{IsArgument}
use Rattle.first_form.specs.Runs.{put_before}
use Rattle.first_form.proofs.LongestRuns.{one_more}
use Rattle.first_form.proofs.c.read_puts.Goals as goal

pub loop-argument-preserved : goal.loop-argument-preserved
loop-argument-preserved c =
    one_more put_before IsArgument c.args.text.now c.loop-argument.puts.items c.in-Some.argument c.loop-argument.rest.now c.in-Some.behind.now
    c.push.new.self.items c.loop-argument.invariant.0 c.loop-argument.invariant.1 c.in-Some.ensures.statement.0 c.in-Some.ensures.statement.1 c.in_ok-push.ensures.items
