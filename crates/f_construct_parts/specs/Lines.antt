-- The statements of trees of action statements and constructs, in the order of the text, each tree in front of a rest (ISO/IEC 1539-1:2018, 11.1).
use Rattle.std.specs.Prelude.{List, [], ◌∷◌, Option, Some, None, Bool, true, false, map}
use Rattle.f_tree.specs.declared.name.Name.{Name}
use Rattle.f_tree.specs.declared.expression.Expression.{Expression}
use Rattle.f_tree.specs.declared.declaration.Ending.{Ending}
use Rattle.f_tree.specs.declared.declaration.EndingForm.{EndingForm}
use Rattle.f_tree.specs.declared.declaration.EndingForm.TheVariants.{Bare, TwoWords, OneWord}
use Rattle.f_tree.specs.declared.statement.Action.{Action}
use Rattle.f_tree.specs.declared.statement.LoopControl.{LoopControl}
use Rattle.f_tree.specs.declared.statement.CaseChoice.{CaseChoice}
use Rattle.f_tree.specs.declared.statement.RankChoice.{RankChoice}
use Rattle.f_tree.specs.declared.statement.Statement.{Statement as Tree, fold-Statement}
use Rattle.f_tree.specs.declared.statement.Statement.TheOpen as open_
use Rattle.f_tree.specs.declared.statement.Statement.TheOpen.{Statement-F, Case-F, DoConstruct-F, Else-F, ElseIf-F, IfConstruct-F, RankCase-F, SelectCase-F, SelectRank-F}
use Rattle.f_tree.specs.declared.statement.Statement.TheFolds.{fold-Case, fold-DoConstruct, fold-Else, fold-ElseIf, fold-IfConstruct, fold-RankCase, fold-SelectCase, fold-SelectRank}
use Rattle.f_tree.specs.declared.statement.Case.{Case}
use Rattle.f_tree.specs.declared.statement.DoConstruct.{DoConstruct}
use Rattle.f_tree.specs.declared.statement.Else.{Else}
use Rattle.f_tree.specs.declared.statement.ElseIf.{ElseIf}
use Rattle.f_tree.specs.declared.statement.IfConstruct.{IfConstruct}
use Rattle.f_tree.specs.declared.statement.RankCase.{RankCase}
use Rattle.f_tree.specs.declared.statement.SelectCase.{SelectCase}
use Rattle.f_tree.specs.declared.statement.SelectRank.{SelectRank}
use Rattle.f_line_grammar.specs.Lines as line
use Rattle.f_line_grammar.specs.Lines.{Construct}
use Rattle.f_declaration_grammar.specs.Declarations.{End}
use Rattle.f_statement_grammar.specs.Statements.{Statement, Executable, Declaring}
use Rattle.f_expr_read.specs.Views.{view, keyword_of}
use Rattle.f_action_read.specs.Actions.{view_action}
use Rattle.f_line_read.specs.Lines.{view_control, view_choice, view_rank}

-- what stands in front of what follows
abbrev pub Front : Type 0
Front = List Statement → List Statement

-- one behind the other
abbrev pub each : List Front → Front
each [] rest = rest
each (f ∷ fs) rest = f (each fs rest)

-- where it is there
abbrev pub optional : Option Front → Front
optional None rest = rest
optional (Some f) rest = f rest

-- ---- single statements

unfoldable pub action_line : Action → Statement
action_line a = Executable (line.Simple (view_action a))

unfoldable pub guarded_line : Expression → Action → Statement
guarded_line condition a = Executable (line.Guarded (view condition) (view_action a))

unfoldable pub if_line : Expression → Statement
if_line condition = Executable (line.IfThen (view condition))

unfoldable pub else_if_line : Bool → Expression → Statement
else_if_line is_one_word condition = Executable (line.ElseIf is_one_word (view condition))

abbrev pub else_line : Statement
else_line = Executable line.Else

unfoldable pub loop_line : LoopControl → Statement
loop_line control = Executable (line.Loop (view_control control))

unfoldable pub select_case_line : Bool → Expression → Statement
select_case_line is_one_word selector = Executable (line.SelectCase is_one_word (view selector))

unfoldable pub case_line : CaseChoice → Statement
case_line choice = Executable (view_choice choice)

unfoldable pub select_rank_line : Option Name → Name → Statement
select_rank_line renamed selector = Executable (line.SelectRank (keyword_of renamed) selector.bytes)

unfoldable pub rank_line : RankChoice → Statement
rank_line choice = Executable (view_rank choice)

-- the words that end a construct; END alone and a name behind the words end none
abbrev pub ended : Construct → EndingForm → Option Name → Statement
ended c OneWord None = Executable (line.End c true)
ended c TwoWords None = Executable (line.End c false)
ended c _ _ = Declaring End

unfoldable pub end_line : Construct → Ending → Statement
end_line c e = ended c e.form e.name

-- ---- constructs: each step has the statements of its parts

abbrev pub statement_step : Statement-F Front Front Front Front Front Front Front Front Front → Front
statement_step (open_.Action a) rest = action_line a ∷ rest
statement_step (open_.IfAction p condition a) rest = guarded_line condition a ∷ rest
statement_step (open_.If c) rest = c rest
statement_step (open_.Do c) rest = c rest
statement_step (open_.SelectCase c) rest = c rest
statement_step (open_.SelectRank c) rest = c rest

abbrev pub if_step : IfConstruct-F Front Front Front Front Front Front Front Front Front → Front
if_step c rest = if_line c.condition ∷ each c.body (each c.else_ifs (optional c.otherwise (end_line line.If c.ending ∷ rest)))

abbrev pub else_if_step : ElseIf-F Front Front Front Front Front Front Front Front Front → Front
else_if_step c rest = else_if_line c.is_one_word c.condition ∷ each c.body rest

abbrev pub else_step : Else-F Front Front Front Front Front Front Front Front Front → Front
else_step c rest = else_line ∷ each c.body rest

abbrev pub do_step : DoConstruct-F Front Front Front Front Front Front Front Front Front → Front
do_step c rest = loop_line c.control ∷ each c.body (end_line line.Do c.ending ∷ rest)

abbrev pub select_step : SelectCase-F Front Front Front Front Front Front Front Front Front → Front
select_step c rest = select_case_line c.is_one_word c.selector ∷ each c.cases (end_line line.Select c.ending ∷ rest)

abbrev pub case_step : Case-F Front Front Front Front Front Front Front Front Front → Front
case_step c rest = case_line c.choice ∷ each c.body rest

abbrev pub select_rank_step : SelectRank-F Front Front Front Front Front Front Front Front Front → Front
select_rank_step c rest = select_rank_line c.renamed c.selector ∷ each c.ranks (end_line line.Select c.ending ∷ rest)

abbrev pub rank_step : RankCase-F Front Front Front Front Front Front Front Front Front → Front
rank_step c rest = rank_line c.choice ∷ each c.body rest

-- ---- the statements of each tree, in front of a rest

abbrev pub lines_of : Tree → Front
lines_of = fold-Statement Front Front Front Front Front Front Front Front Front statement_step case_step do_step else_step else_if_step if_step rank_step select_step select_rank_step

abbrev pub case_lines : Case → Front
case_lines = fold-Case Front Front Front Front Front Front Front Front Front statement_step case_step do_step else_step else_if_step if_step rank_step select_step select_rank_step

abbrev pub do_lines : DoConstruct → Front
do_lines = fold-DoConstruct Front Front Front Front Front Front Front Front Front statement_step case_step do_step else_step else_if_step if_step rank_step select_step select_rank_step

abbrev pub else_lines : Else → Front
else_lines = fold-Else Front Front Front Front Front Front Front Front Front statement_step case_step do_step else_step else_if_step if_step rank_step select_step select_rank_step

abbrev pub else_if_lines : ElseIf → Front
else_if_lines = fold-ElseIf Front Front Front Front Front Front Front Front Front statement_step case_step do_step else_step else_if_step if_step rank_step select_step select_rank_step

abbrev pub if_lines : IfConstruct → Front
if_lines = fold-IfConstruct Front Front Front Front Front Front Front Front Front statement_step case_step do_step else_step else_if_step if_step rank_step select_step select_rank_step

abbrev pub rank_lines : RankCase → Front
rank_lines = fold-RankCase Front Front Front Front Front Front Front Front Front statement_step case_step do_step else_step else_if_step if_step rank_step select_step select_rank_step

abbrev pub select_lines : SelectCase → Front
select_lines = fold-SelectCase Front Front Front Front Front Front Front Front Front statement_step case_step do_step else_step else_if_step if_step rank_step select_step select_rank_step

abbrev pub select_rank_lines : SelectRank → Front
select_rank_lines = fold-SelectRank Front Front Front Front Front Front Front Front Front statement_step case_step do_step else_step else_if_step if_step rank_step select_step select_rank_step

-- the statements of a block, in front of a rest
abbrev pub blocks_of : List Tree → Front
blocks_of trees = each (map lines_of trees)
