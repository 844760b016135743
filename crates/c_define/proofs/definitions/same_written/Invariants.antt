use Rattle.std.proofs.Common.{◌≡◌, length}
use Rattle.c_define.specs.Definitions.{same_written}
use Rattle.c_define.proofs.definitions.same_written.Given as goal

abbrev pub invariant-tokens : goal.invariant-tokens
invariant-tokens l = same_written l.ones l.others ≡ same_written l.a l.b

abbrev pub decreases-tokens : goal.decreases-tokens
decreases-tokens l = length l.ones
