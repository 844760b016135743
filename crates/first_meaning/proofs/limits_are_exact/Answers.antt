use Rattle.first_meaning.proofs.Course.{course_seen}
use Rattle.first_meaning.proofs.limits_are_exact.Goals as goal

pub returns : goal.returns
returns c = course_seen
