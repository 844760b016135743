use Rattle.std.proofs.Common.{rules}
use Rattle.std.proofs.lemmas.List.Sorted.{IsNonDecreasingBy-from_sort_by_key}
use Rattle.reg_alloc.specs.declared.scan.Start.{Start}
use Rattle.reg_alloc.proofs.Starting.{in_order}
use Rattle.reg_alloc.proofs.scan.starts_in_order.Goals as goal

pub returns-clause-starts : goal.returns-clause-starts
returns-clause-starts c = in_order c.args.ranges.now c.in_ok-starts.starts.items c.sort_by_key.new.self.items c.in_ok-sort_by_key.ensures.permutation c.in_ok-starts.ensures

pub returns-clause-order : goal.returns-clause-order
returns-clause-order c = IsNonDecreasingBy-from_sort_by_key (λ (s : Start). s.first) c.sort_by_key.new.self.items c.in_ok-sort_by_key.ensures.sorted (λ a r f h. search rules)
