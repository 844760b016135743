use Rattle.storage_relation.proofs.Made.{allowed_make}
use Rattle.storage_relation.proofs.making_fills_a_region.Goals as goal

pub returns : goal.returns
returns c = allowed_make
