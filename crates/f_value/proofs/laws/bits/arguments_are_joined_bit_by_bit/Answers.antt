use Rattle.f_value.proofs.BitLaws.{iand_joins, ior_joins, ieor_joins}
use Rattle.f_value.proofs.laws.bits.arguments_are_joined_bit_by_bit.Goals as goal

pub returns-clause-iand : goal.returns-clause-iand
returns-clause-iand c = λ a b kind p q. iand_joins a b kind p q

pub returns-clause-ior : goal.returns-clause-ior
returns-clause-ior c = λ a b kind p q. ior_joins a b kind p q

pub returns-clause-ieor : goal.returns-clause-ieor
returns-clause-ieor c = λ a b kind p q. ieor_joins a b kind p q
