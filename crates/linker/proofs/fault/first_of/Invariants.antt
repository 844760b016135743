use Rattle.std.proofs.Common.{◌≡◌, ℕ, ◌<◌, List, length}
use Rattle.std.specs.Prelude.{slice_get, Some, false}
use Rattle.std.specs.Cmp.Lexicographic.{slice_cmp}
use Rattle.std.specs.Ordering.{nat_cmp, is_lt}
use Rattle.linker.proofs.fault.first_of.Given as goal

abbrev pub invariant-loop-i : goal.invariant-loop-i
invariant-loop-i l = (l.first < length l.names)
    × ((f n : List ℕ) (m : ℕ) → slice_get l.names l.first ≡ Some f → slice_get l.names m ≡ Some n → m < l.i → is_lt (slice_cmp nat_cmp n f) ≡ false)
