use Rattle.storage_model.proofs.Lawful.{write_then_read, read_then_write}
use Rattle.storage_model.proofs.laws.ways_exclude_one_another.Goals as goal

pub returns : goal.returns
returns c = record { write_first = write_then_read; read_first = read_then_write }
