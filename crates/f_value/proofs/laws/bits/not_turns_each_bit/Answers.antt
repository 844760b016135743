use Rattle.f_value.proofs.BitLaws.{not_turns}
use Rattle.f_value.proofs.laws.bits.not_turns_each_bit.Goals as goal

pub returns : goal.returns
returns c = λ a kind h. not_turns a kind h
