use Rattle.std.proofs.Common.{◌≡◌, ◌++◌, length}
use Rattle.f_stated.specs.Said.{renaming_key}
use Rattle.f_stated.proofs.said.renaming_key.Given as goal

abbrev pub invariant-bytes : goal.invariant-bytes
invariant-bytes l = l.key.items ++ renaming_key l.rest l.used ≡ renaming_key l.module_name l.used

abbrev pub decreases-bytes : goal.decreases-bytes
decreases-bytes l = length l.rest
