use Rattle.std.proofs.Common.{◌≡◌, take}
use Rattle.f_value.specs.Intrinsics.{len_trim}
use Rattle.f_value.proofs.intrinsics.len_trim.Given as goal

abbrev pub invariant-loop-i : goal.invariant-loop-i
invariant-loop-i l = l.n ≡ len_trim (take l.i l.s)
