use Rattle.std.proofs.Common.{ap, Some}
use Rattle.f_value.proofs.ShiftLaws.{emptied_left, emptied_right, too_far_left, too_far_right}
use Rattle.f_value.proofs.laws.bits.shifts_end.Goals as goal

pub returns-clause-by_width : goal.returns-clause-by_width
returns-clause-by_width c = λ a kind j h. (ap Some (emptied_left a kind h), ap Some (emptied_right a kind h))

pub returns-clause-by_more : goal.returns-clause-by_more
returns-clause-by_more c = λ a s kind j l. (ap Some (too_far_left a s kind l), ap Some (too_far_right a s kind l))
