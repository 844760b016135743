use Rattle.first_flat.proofs.Course.{course_seen}
use Rattle.first_flat.proofs.laws.structured_code_does_its_units.Goals as goal

pub returns : goal.returns
returns c = course_seen
