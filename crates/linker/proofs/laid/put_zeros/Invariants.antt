use Rattle.std.proofs.Common.{◌≡◌, ◌++◌}
use Rattle.linker.specs.Layout.{zeros}
use Rattle.linker.proofs.laid.put_zeros.Given as goal

abbrev pub invariant-loop : goal.invariant-loop
invariant-loop l = l.bytes.items ≡ l.initial.bytes.items ++ zeros l.counter
