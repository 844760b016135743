use Rattle.std.proofs.Common.{◌≡◌, ◌≤◌, ◌-◌, vec_len, replicate, false}
use Rattle.f_order.proofs.marks.no_marks.Given as goal

abbrev pub invariant-numbers : goal.invariant-numbers
invariant-numbers l = record {
  within : vec_len l.marks ≤ l.count;
  empty : l.marks.items ≡ replicate (vec_len l.marks) false;
}

abbrev pub decreases-numbers : goal.decreases-numbers
decreases-numbers l = l.count - vec_len l.marks
