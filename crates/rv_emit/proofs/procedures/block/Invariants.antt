use Rattle.std.proofs.Common.{◌≡◌, drop}
use Rattle.emitted_code.specs.Code.{rest_code}
use Rattle.rv_emit.proofs.procedures.block.Given as goal

abbrev pub invariant-loop-i : goal.invariant-loop-i
invariant-loop-i l = l.out ≡ rest_code l.f (drop l.i l.insns) l.b.end l.fn.out
