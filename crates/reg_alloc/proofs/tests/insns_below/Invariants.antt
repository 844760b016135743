use Rattle.std.proofs.Common.{◌≡◌, length}
use Rattle.reg_alloc.specs.Below.{insns_below}
use Rattle.reg_alloc.proofs.tests.insns_below.Given as goal

abbrev pub invariant-loop-insn : goal.invariant-loop-insn
invariant-loop-insn l = insns_below l.n l.rest ≡ insns_below l.n l.insns

abbrev pub decreases-loop-insn : goal.decreases-loop-insn
decreases-loop-insn l = length l.rest
