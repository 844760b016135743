use Rattle.std.proofs.Common.{◌≡◌, take, map}
use Rattle.emitted_code.specs.Units.{named_fix}
use Rattle.rv_emit.proofs.units.fixes_to.Given as goal

abbrev pub invariant-loop-fix : goal.invariant-loop-fix
invariant-loop-fix l = l.named.items ≡ map named_fix (take l.fix-index l.fixes)
