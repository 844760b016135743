use Rattle.flat_routines.proofs.Copy.{copies}
use Rattle.flat_routines.proofs.laws.copy_bytes_copies.Goals as goal

pub returns : goal.returns
returns c = copies
