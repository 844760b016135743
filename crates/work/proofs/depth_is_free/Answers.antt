use Rattle.std.proofs.Common.{arith}
use Rattle.work.proofs.Depth.{depth_free}
use Rattle.work.proofs.depth_is_free.Goals as goal

pub returns : goal.returns
returns g c = λ r ps main m input n d le. depth_free r ps main m input n d n le (omega arith)
