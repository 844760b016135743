use Rattle.std.proofs.Common.{◌≡◌, ℕ, ◌<◌, length}
use Rattle.std.specs.Prelude.{nat_eq, slice_get, slice_index, Some}
use Rattle.std.specs.HashMap.{get}
use Rattle.rv_assemble.specs.declared.unit.AsmLine.{AsmLine}
use Rattle.rv_assemble.specs.Places.{target_by}
use Rattle.rv_assemble.proofs.labels.targets.Given as goal

abbrev pub invariant-loop-line : goal.invariant-loop-line
invariant-loop-line l = record {
  count : length l.targets.items ≡ l.line-index;
  each : (k : ℕ) (line : AsmLine) → k < l.line-index → slice_get l.lines k ≡ Some line → slice_index l.targets.items k ≡ target_by (λ q. get nat_eq l.found q) line;
}
