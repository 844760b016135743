use Rattle.std.proofs.Common.{ap, ◌∙◌, ◌++◌, ◌+◌, take, drop, ◌%◌}
use Rattle.byteorder.specs.Endian.{little_bytes}
use Rattle.rv_machine.proofs.Stores.{written, half_bytes}
use Rattle.rv_machine.proofs.machine.write_16.Goals as goal

pub returns : goal.returns
returns c =
    let memory = c.args.memory.now in
    let at = c.args.at in
    written 2 memory c.write_u16.new.buf (little_bytes 2 (c.args.value % 65536)) at c.requires c.write_u16.ensures
    ∙ ap (λ bytes. take at memory ++ (bytes ++ drop (at + 2) memory)) (half_bytes c.args.value)
