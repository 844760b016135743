use Rattle.storage_relation.proofs.Pointers.{pointers_differ}
use Rattle.storage_relation.proofs.pointers_stay_apart.Goals as goal

pub returns : goal.returns
returns c = pointers_differ
