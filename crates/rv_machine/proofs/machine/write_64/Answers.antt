use Rattle.byteorder.specs.Endian.{little_bytes}
use Rattle.rv_machine.proofs.Stores.{written}
use Rattle.rv_machine.proofs.machine.write_64.Goals as goal

pub returns : goal.returns
returns c = written 8 c.args.memory.now c.write_u64.new.buf (little_bytes 8 c.args.value) c.args.at c.requires c.write_u64.ensures
