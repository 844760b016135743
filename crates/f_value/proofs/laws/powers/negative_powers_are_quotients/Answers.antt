use Rattle.std.proofs.Common.{ap, max, suc, Some}
use Rattle.f_value.proofs.PowerLaws.{back_of_zero, back_of_one, back_of_minus_one, back_of_others}
use Rattle.f_value.proofs.laws.powers.negative_powers_are_quotients.Goals as goal

pub returns : goal.returns
returns c = λ n j k. (ap Some (back_of_zero n (max j k)), ap Some (back_of_one n (max j k)), ap Some (back_of_minus_one (suc n) (max j k)), λ a h. ap Some (back_of_others a n (max j k) h))
