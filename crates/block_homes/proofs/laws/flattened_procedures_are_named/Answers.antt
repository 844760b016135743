use Rattle.block_homes.proofs.Naming.{all_named, all_set}
use Rattle.block_homes.proofs.laws.flattened_procedures_are_named.Goals as goal

pub returns-clause-named : goal.returns-clause-named
returns-clause-named c n m qs h = all_named n m qs h

pub returns-clause-set_first : goal.returns-clause-set_first
returns-clause-set_first c qs h = all_set qs h
