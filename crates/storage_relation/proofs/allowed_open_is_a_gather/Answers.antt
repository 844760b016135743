use Rattle.storage_relation.proofs.Made.{allowed_open_passed, allowed_open_copied}
use Rattle.storage_relation.proofs.allowed_open_is_a_gather.Goals as goal

pub returns : goal.returns
returns c = record { passed = allowed_open_passed; copied = allowed_open_copied }
