use Rattle.std.proofs.Common.{◌≡◌, ◌≤◌, ◌-◌, vec_len, replicate, []}
use Rattle.f_use.proofs.places.no_lists.Given as goal

abbrev pub invariant-numbers : goal.invariant-numbers
invariant-numbers l = record {
  within : vec_len l.lists ≤ l.count;
  empty : l.lists.items ≡ replicate (vec_len l.lists) [];
}

abbrev pub decreases-numbers : goal.decreases-numbers
decreases-numbers l = l.count - vec_len l.lists
