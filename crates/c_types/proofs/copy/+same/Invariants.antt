use Rattle.std.proofs.Common.{◌≡◌, take, length}
use Rattle.c_types.proofs.copy.+same.Given as goal

abbrev pub invariant-same_all-loop-i : goal.invariant-same_all-loop-i
invariant-same_all-loop-i l = record { lengths : length l.a ≡ length l.b; front : take l.i l.a ≡ take l.i l.b }
