use Rattle.storage_model.proofs.Lawful.{ended_read, ended_write}
use Rattle.storage_model.proofs.laws.ended_objects_are_gone.Goals as goal

pub returns : goal.returns
returns c = record { read = ended_read; write = ended_write }
