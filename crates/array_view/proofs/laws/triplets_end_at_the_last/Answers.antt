use Rattle.array_view.proofs.Quotients.{counted, by_strides, to_the_last}
use Rattle.array_view.proofs.laws.triplets_end_at_the_last.Goals as goal

pub returns-clause-count : goal.returns-clause-count
returns-clause-count c = counted

pub returns-clause-each : goal.returns-clause-each
returns-clause-each c = by_strides

pub returns-clause-last : goal.returns-clause-last
returns-clause-last c = to_the_last
