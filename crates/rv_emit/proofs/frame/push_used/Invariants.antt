use Rattle.std.proofs.Common.{◌≡◌, ◌++◌, drop}
use Rattle.emitted_code.specs.Frames.{used_of}
use Rattle.rv_emit.proofs.frame.push_used.Given as goal

abbrev pub invariant-loop-i : goal.invariant-loop-i
invariant-loop-i l = l.registers.items ++ used_of (drop l.i l.kept) l._homes ≡ l.initial.registers.items ++ used_of l.kept l._homes
