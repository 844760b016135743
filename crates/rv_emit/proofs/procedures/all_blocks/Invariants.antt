use Rattle.std.proofs.Common.{◌≡◌, drop}
use Rattle.emitted_code.specs.Code.{blocks_code}
use Rattle.rv_emit.proofs.procedures.all_blocks.Given as goal

abbrev pub invariant-loop-i : goal.invariant-loop-i
invariant-loop-i l = l.out ≡ blocks_code l.f l.i (drop l.i l.bs) l.initial.out
