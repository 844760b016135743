use Rattle.std.proofs.Common.{max}
use Rattle.f_value.proofs.PowerLaws.{begins, next_product, next_out}
use Rattle.f_value.proofs.laws.powers.powers_are_repeated_products.Goals as goal

pub returns-clause-zero : goal.returns-clause-zero
returns-clause-zero c = λ a j k. begins (max j k)

pub returns-clause-next : goal.returns-clause-next
returns-clause-next c = λ a n j k. (next_product a n j k, next_out a n j k)
