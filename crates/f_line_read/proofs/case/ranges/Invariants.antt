use Rattle.std.proofs.Common.{◌≡◌, ◌-◌, length, map}
use Rattle.f_line_grammar.specs.Lines.{span}
use Rattle.f_line_grammar.specs.LineReading.{spans_at}
use Rattle.f_expr_read.specs.Gives.{behind}
use Rattle.f_expr_read.specs.Views.{tokens_of}
use Rattle.f_line_read.specs.Lines.{view_range}
use Rattle.f_line_read.proofs.case.ranges.Given as goal

abbrev pub invariant-loop : goal.invariant-loop
invariant-loop l = behind span (map view_range l.items.items) (spans_at 65 (l.end - l.counter) (tokens_of l.rest)) ≡ spans_at 65 (length l.tokens) (tokens_of l.tokens)
