use Rattle.std.proofs.Common.{arith}
use Rattle.flat_ir.proofs.Depth.{deeper}
use Rattle.flat_ir.proofs.laws.depth_is_free.Goals as goal

pub returns : goal.returns
returns c p g n d input le = deeper p g n d n input le (omega arith)
