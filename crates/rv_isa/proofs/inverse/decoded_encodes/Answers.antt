use Rattle.std.proofs.Common.{◌<◌, ◌^◌, arith}
use Rattle.rv_isa.proofs.Laws.{decode-encode, HasWord-decode}
use Rattle.rv_isa.proofs.inverse.decoded_encodes.Goals as goal

pub returns : goal.returns
returns c =
    let range : c.args.w < 2 ^ 32 = omega arith in
    record { only = λ i e. decode-encode c.args.w i range e; each = λ i h. HasWord-decode c.args.w i h }
