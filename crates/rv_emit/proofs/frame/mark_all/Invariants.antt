use Rattle.std.proofs.Common.{◌≡◌, ◌<◌, ℕ, length, drop, slice_index_or, false}
use Rattle.emitted_code.specs.Frames.{is_used}
use Rattle.rv_emit.proofs.frame.mark_all.Given as goal

abbrev pub invariant-loop-i : goal.invariant-loop-i
invariant-loop-i l = (length l.used ≡ 256) × ((r : ℕ) → r < 256 → slice_index_or l.used r false ≡ is_used r (drop l.i l.homes))
