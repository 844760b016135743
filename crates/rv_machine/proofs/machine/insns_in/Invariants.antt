use Rattle.std.proofs.Common.{◌≡◌}
use Rattle.rv_machine.specs.Insns.{insns_of, AreEncodable}
use Rattle.rv_machine.proofs.machine.insns_in.Given as goal

abbrev pub invariant-loop-k : goal.invariant-loop-k
invariant-loop-k l = (l.insns.items ≡ insns_of l.k l.memory) × AreEncodable l.insns.items
