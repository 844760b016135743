use Rattle.c_define.proofs.Rescanned.{only_expansion}
use Rattle.c_define.proofs.expansion_is_one.Goals as goal

pub returns : goal.returns
returns c = λ ms tokens out made x. only_expansion ms made tokens out x
