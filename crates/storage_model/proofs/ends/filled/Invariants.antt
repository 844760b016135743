use Rattle.std.proofs.Common.{◌≡◌, ℕ, ◌≤◌, ◌-◌, get_or, vec_len}
use Rattle.storage_model.specs.declared.cell.Cell.TheVariants.{Undefined}
use Rattle.storage_model.proofs.ends.filled.Given as goal

abbrev pub invariant-loop-cells : goal.invariant-loop-cells
invariant-loop-cells l = record {
  within : vec_len l.cells ≤ l.size;
  same : (i : ℕ) → get_or l.cells.items i Undefined ≡ get_or l.first i Undefined;
}

abbrev pub decreases-loop-cells : goal.decreases-loop-cells
decreases-loop-cells l = l.size - vec_len l.cells
