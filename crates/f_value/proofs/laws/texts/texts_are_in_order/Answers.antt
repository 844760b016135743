use Rattle.f_value.proofs.TextLaws.{order_total, one_way, goes_on, both_ways, equal_both_ways, less_one_way}
use Rattle.f_value.proofs.laws.texts.texts_are_in_order.Goals as goal

pub returns-clause-total : goal.returns-clause-total
returns-clause-total c = order_total

pub returns-clause-one_way : goal.returns-clause-one_way
returns-clause-one_way c = one_way

pub returns-clause-goes_on : goal.returns-clause-goes_on
returns-clause-goes_on c = goes_on

pub returns-clause-both_ways : goal.returns-clause-both_ways
returns-clause-both_ways c = both_ways

pub returns-clause-equal : goal.returns-clause-equal
returns-clause-equal c = equal_both_ways

pub returns-clause-less : goal.returns-clause-less
returns-clause-less c = less_one_way
