use Rattle.command.proofs.words.read_run.Goals as goal

pub returns-in_default : goal.returns-in_default
returns-in_default c run says = c.in_default.ensures.none run.limits.steps says.steps
