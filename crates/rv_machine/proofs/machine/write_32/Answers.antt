use Rattle.std.proofs.Common.{ap, ◌∙◌, ◌++◌, ◌+◌, take, drop, ◌%◌}
use Rattle.byteorder.specs.Endian.{little_bytes}
use Rattle.rv_machine.proofs.Stores.{written, word_bytes}
use Rattle.rv_machine.proofs.machine.write_32.Goals as goal

pub returns : goal.returns
returns c =
    let memory = c.args.memory.now in
    let at = c.args.at in
    written 4 memory c.write_u32.new.buf (little_bytes 4 (c.args.value % 4294967296)) at c.requires c.write_u32.ensures
    ∙ ap (λ bytes. take at memory ++ (bytes ++ drop (at + 4) memory)) (word_bytes c.args.value)
