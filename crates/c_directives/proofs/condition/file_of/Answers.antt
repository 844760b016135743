use Rattle.c_directives.proofs.Steps.{file_says_refused, file_says_taken}
use Rattle.c_directives.proofs.condition.file_of.Goals as goal

pub returns-in-Err : goal.returns-in-Err
returns-in-Err c = file_says_refused c.args.place c.args.name.now c.in-Err.ensures.cases.0 c.breaks.result c.breaks.ensures

pub returns-in_ok-from_text-in-Ok : goal.returns-in_ok-from_text-in-Ok
returns-in_ok-from_text-in-Ok c = file_says_taken c.args.place c.args.name.now c.in-Ok.name.now c.in_ok-from_text-in-Ok.field-0 c.in-Ok.ensures.cases.1 c.in-Ok.ensures.cases.0 c.in_ok-from_text-in-Ok.ensures
