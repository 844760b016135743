-- The statements of an executable part without their places, and parts of their readers by what they are called for.
use Rattle.std.specs.Prelude.{List, [], ◌∷◌, Bool, map}
use Rattle.f_tree.specs.declared.statement.LoopControl.{LoopControl}
use Rattle.f_tree.specs.declared.statement.LoopControl.TheVariants as control
use Rattle.f_tree.specs.declared.statement.CaseRange.{CaseRange}
use Rattle.f_tree.specs.declared.statement.CaseRange.TheVariants as case_range
use Rattle.f_tree.specs.declared.statement.CaseChoice.{CaseChoice}
use Rattle.f_tree.specs.declared.statement.CaseChoice.TheVariants as choice
use Rattle.f_tree.specs.declared.statement.RankChoice.{RankChoice}
use Rattle.f_tree.specs.declared.statement.RankChoice.TheVariants as rank
use Rattle.f_line_read.specs.declared.line.Construct.{Construct}
use Rattle.f_line_read.specs.declared.line.Construct.TheVariants as construct
use Rattle.f_line_read.specs.declared.line.Line.{Line}
use Rattle.f_line_read.specs.declared.line.Line.TheVariants as line
use Rattle.f_grammar.specs.Grammar.{Expr, Array, no_args}
use Rattle.f_line_grammar.specs.Lines as form
use Rattle.f_line_grammar.specs.Lines.{Span, One, From, UpTo, Spans, no_spans, span, Control, Endless, Count, While}
use Rattle.f_expr_read.specs.Gives.{onto}
use Rattle.f_expr_read.specs.Views.{view, view_maybe, keyword_of}
use Rattle.f_action_read.specs.Actions.{view_action}

abbrev pub view_control : LoopControl → Control
view_control control.Endless = Endless
view_control (control.Count has_comma variable first last step) = Count has_comma variable.bytes (view first) (view last) (view_maybe step)
view_control (control.While has_comma condition) = While has_comma (view condition)

abbrev pub view_range : CaseRange → Span
view_range (case_range.Value e) = One (view e)
view_range (case_range.From lower upper) = From (view lower) (view_maybe upper)
view_range (case_range.UpTo p upper) = UpTo (view upper)

abbrev pub spans_of : List Span → Spans
spans_of ss = onto span ss no_spans

-- The first of some ranges and the others. Where there is none, the first is one that no tokens spell: an empty constructor without a type.
abbrev pub cases_of : List Span → form.Line
cases_of [] = form.Cases (One (Array no_args)) no_spans
cases_of (s ∷ ss) = form.Cases s (spans_of ss)

abbrev pub view_choice : CaseChoice → form.Line
view_choice choice.Default = form.CaseDefault
view_choice (choice.Ranges rs) = cases_of (map view_range rs)

abbrev pub view_rank : RankChoice → form.Line
view_rank rank.Default = form.RankDefault
view_rank (rank.Rank e) = form.Rank (view e)
view_rank (rank.AssumedSize p) = form.RankStar

abbrev pub view_construct : Construct → form.Construct
view_construct construct.If = form.If
view_construct construct.Do = form.Do
view_construct construct.Select = form.Select

abbrev pub view_line : Line → form.Line
view_line (line.Action a) = form.Simple (view_action a)
view_line (line.IfAction p condition a) = form.Guarded (view condition) (view_action a)
view_line (line.IfThen p condition) = form.IfThen (view condition)
view_line (line.ElseIf p is_one_word condition) = form.ElseIf is_one_word (view condition)
view_line (line.Else p) = form.Else
view_line (line.Do p c) = form.Loop (view_control c)
view_line (line.SelectCase p is_one_word selector) = form.SelectCase is_one_word (view selector)
view_line (line.Case p c) = view_choice c
view_line (line.SelectRank p renamed selector) = form.SelectRank (keyword_of renamed) selector.bytes
view_line (line.Rank p c) = view_rank c
view_line (line.End p c is_one_word) = form.End (view_construct c) is_one_word

abbrev pub while_line : Bool → Expr → form.Line
while_line has_comma test = form.Loop (While has_comma test)
