use Rattle.std.proofs.Common.{◌≡◌, take}
use Rattle.c_types.proofs.copy.+copying.Given as goal

abbrev pub invariant-copy_all-loop-x : goal.invariant-copy_all-loop-x
invariant-copy_all-loop-x l = l.copies ≡ take l.x-index l.all
