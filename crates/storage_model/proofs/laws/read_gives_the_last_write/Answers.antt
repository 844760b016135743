use Rattle.storage_model.proofs.Lawful.{cell_here, cell_elsewhere}
use Rattle.storage_model.proofs.laws.read_gives_the_last_write.Goals as goal

pub returns : goal.returns
returns c = record { here = cell_here; elsewhere = cell_elsewhere }
