use Rattle.c_define.proofs.Rescanned.{expands}
use Rattle.c_define.proofs.expansion_is_there.Goals as goal

pub returns : goal.returns
returns c = λ ms tokens made. expands ms made tokens
