use Rattle.std.proofs.Common.{◌≡◌, ◌≢◌, ℕ, ◌<◌, ◌≤◌, length}
use Rattle.std.specs.Prelude.{slice_index, slice_index_or}
use Rattle.reg_alloc.specs.declared.scan.Start.{Start}
use Rattle.reg_alloc.specs.Scan.{Scan, codes, AllProper}
use Rattle.reg_alloc.proofs.scan.scan.Given as goal

abbrev pub invariant-loop-i : goal.invariant-loop-i
invariant-loop-i l = record {
  scan : Scan l.p l.ranges (codes l.choices.items) l.users.items l.at;
  proper : AllProper l.choices.items;
  order : (j : ℕ) (d : Start) → l.i ≤ j → j < length l.starts.items → l.at ≤ (slice_index_or l.starts.items j d).first;
  done : (j : ℕ) (d : Start) → j < l.i → (slice_index_or l.starts.items j d).first < 4294967295 → slice_index (codes l.choices.items) (slice_index_or l.starts.items j d).value ≢ 13;
}
