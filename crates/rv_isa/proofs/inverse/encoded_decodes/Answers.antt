use Rattle.rv_isa.proofs.Laws.{encode-decode, encode-small}
use Rattle.rv_isa.proofs.inverse.encoded_decodes.Goals as goal

pub returns : goal.returns
returns c = record { bits = encode-small c.args.i.now c.requires; same = encode-decode c.args.i.now c.requires }
