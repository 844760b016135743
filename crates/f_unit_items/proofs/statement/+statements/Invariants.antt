use Rattle.std.proofs.Common.{◌≡◌, ◌≤◌, map, take, length}
use Rattle.f_unit_items.specs.Fronts.{each}
use Rattle.f_unit_items.specs.Statements.{statement, else_if, case_block, rank_block}
use Rattle.f_unit_items.proofs.statement.+statements.Given as goal

abbrev pub invariant-put_statements-loop-left : goal.invariant-put_statements-loop-left
invariant-put_statements-loop-left l = record { within : l.left ≤ length l.body; so_far : each (map statement (take l.left l.body)) l.out ≡ each (map statement l.body) l.initial.out }

abbrev pub decreases-put_statements-loop-left : goal.decreases-put_statements-loop-left
decreases-put_statements-loop-left l = l.left

abbrev pub invariant-put_else_ifs-loop-left : goal.invariant-put_else_ifs-loop-left
invariant-put_else_ifs-loop-left l = record { within : l.left ≤ length l.parts; so_far : each (map else_if (take l.left l.parts)) l.out ≡ each (map else_if l.parts) l.initial.out }

abbrev pub decreases-put_else_ifs-loop-left : goal.decreases-put_else_ifs-loop-left
decreases-put_else_ifs-loop-left l = l.left

abbrev pub invariant-put_cases-loop-left : goal.invariant-put_cases-loop-left
invariant-put_cases-loop-left l = record { within : l.left ≤ length l.cases; so_far : each (map case_block (take l.left l.cases)) l.out ≡ each (map case_block l.cases) l.initial.out }

abbrev pub decreases-put_cases-loop-left : goal.decreases-put_cases-loop-left
decreases-put_cases-loop-left l = l.left

abbrev pub invariant-put_ranks-loop-left : goal.invariant-put_ranks-loop-left
invariant-put_ranks-loop-left l = record { within : l.left ≤ length l.ranks; so_far : each (map rank_block (take l.left l.ranks)) l.out ≡ each (map rank_block l.ranks) l.initial.out }

abbrev pub decreases-put_ranks-loop-left : goal.decreases-put_ranks-loop-left
decreases-put_ranks-loop-left l = l.left
