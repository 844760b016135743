use Rattle.std.proofs.Common.{◌≡◌, ◌≤◌, ◌++◌, length}
use Rattle.c_define.specs.Numbers.{macros_of}
use Rattle.c_define.specs.Expansion.{all_at}
use Rattle.c_directives.specs.Conditions.{all_expanded, most_tokens}
use Rattle.c_directives.proofs.condition.expand_all.Given as goal

abbrev pub invariant-tokens : goal.invariant-tokens
invariant-tokens l = record {
  same : l.macros ≡ l.fn.macros;
  room : length l.out.items ≤ most_tokens;
  so_far : l.out.items ++ all_at l.place (all_expanded (macros_of l.fn.macros) l.rest) ≡ all_at l.place (all_expanded (macros_of l.fn.macros) l.tokens);
}

abbrev pub decreases-tokens : goal.decreases-tokens
decreases-tokens l = length l.rest
