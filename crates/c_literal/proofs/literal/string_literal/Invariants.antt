use Rattle.std.proofs.Common.{◌≡◌, ◌≤◌, ℕ, [], length}
use Rattle.c_literal.specs.LiteralReading.{bytes_at}
use Rattle.c_literal.proofs.literal.string_literal.Given as goal

-- what is left has the bytes that the content has, behind those that were read
abbrev pub invariant-loop-rest : goal.invariant-loop-rest
invariant-loop-rest l = (k : ℕ) × (length l.rest ≤ k) × (bytes_at k l.bytes.items l.rest ≡ bytes_at (length l.fn.content) [] l.fn.content)

abbrev pub decreases-loop-rest : goal.decreases-loop-rest
decreases-loop-rest l = length l.rest
