use Rattle.block_homes.proofs.Lockstep.{runs_same}
use Rattle.block_homes.proofs.laws.valid_homes_keep_values.Goals as goal

pub returns : goal.returns
returns c q assignments valid entered g input m = runs_same q assignments valid entered g input m
