use Rattle.f_value.proofs.ShiftLaws.{comes_back_from_left, comes_back_from_right}
use Rattle.f_value.proofs.laws.bits.shifts_come_back.Goals as goal

pub returns-clause-from_left : goal.returns-clause-from_left
returns-clause-from_left c = λ a s kind j h l w. comes_back_from_left a s kind h l w

pub returns-clause-from_right : goal.returns-clause-from_right
returns-clause-from_right c = λ a s kind j h l w. comes_back_from_right a s kind h l w
