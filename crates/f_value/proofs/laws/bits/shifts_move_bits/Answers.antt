use Rattle.f_value.proofs.ShiftLaws.{shifts_left, shifts_right}
use Rattle.f_value.proofs.laws.bits.shifts_move_bits.Goals as goal

pub returns-clause-left : goal.returns-clause-left
returns-clause-left c = λ a s kind j h l. shifts_left a s kind h l

pub returns-clause-right : goal.returns-clause-right
returns-clause-right c = λ a s kind j h l. shifts_right a s kind h l
