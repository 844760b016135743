use Rattle.std.proofs.Common.{◌≡◌, drop}
use Rattle.f_value.specs.Intrinsics.{extreme}
use Rattle.f_value.proofs.intrinsics.extreme.Given as goal

abbrev pub invariant-loop-i : goal.invariant-loop-i
invariant-loop-i l = extreme l.greatest l.best (drop l.i l.more) ≡ extreme l.greatest l.initial.best l.more
