use Rattle.emitted_size.proofs.Bytes.{linear}
use Rattle.emitted_size.proofs.code_is_linear.Goals as goal

pub returns : goal.returns
returns c = linear
