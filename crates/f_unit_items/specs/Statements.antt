-- The names in executable statements and constructs (ISO/IEC 1539-1:2018, 9.7, 10.2, 11 and 12.6), each in front of a rest.
use Rattle.std.specs.Prelude.{List, ◌∷◌, Option, Some, None, map}
use Rattle.f_tree.specs.declared.name.Name.{Name as TreeName}
use Rattle.f_tree.specs.declared.expression.Argument.{Argument}
use Rattle.f_tree.specs.declared.expression.Expression.{Expression}
use Rattle.f_tree.specs.declared.expression.Reference.{Reference}
use Rattle.f_tree.specs.declared.statement.Action.{Action}
use Rattle.f_tree.specs.declared.statement.Action.TheVariants as action_form
use Rattle.f_tree.specs.declared.statement.LoopControl.{LoopControl}
use Rattle.f_tree.specs.declared.statement.LoopControl.TheVariants.{Endless, Count, While}
use Rattle.f_tree.specs.declared.statement.CaseRange.{CaseRange}
use Rattle.f_tree.specs.declared.statement.CaseRange.TheVariants.{Value, From, UpTo}
use Rattle.f_tree.specs.declared.statement.CaseChoice.{CaseChoice}
use Rattle.f_tree.specs.declared.statement.CaseChoice.TheVariants as choice
use Rattle.f_tree.specs.declared.statement.RankChoice.{RankChoice}
use Rattle.f_tree.specs.declared.statement.RankChoice.TheVariants as rank
use Rattle.f_tree.specs.declared.statement.Statement.{Statement, fold-Statement}
use Rattle.f_tree.specs.declared.statement.Statement.TheOpen as open_
use Rattle.f_tree.specs.declared.statement.Statement.TheOpen.{Statement-F, Case-F, DoConstruct-F, Else-F, ElseIf-F, IfConstruct-F, RankCase-F, SelectCase-F, SelectRank-F}
use Rattle.f_tree.specs.declared.statement.Statement.TheFolds.{fold-Case, fold-DoConstruct, fold-Else, fold-ElseIf, fold-IfConstruct, fold-RankCase, fold-SelectCase, fold-SelectRank}
use Rattle.f_tree.specs.declared.statement.Case.{Case}
use Rattle.f_tree.specs.declared.statement.DoConstruct.{DoConstruct}
use Rattle.f_tree.specs.declared.statement.Else.{Else}
use Rattle.f_tree.specs.declared.statement.ElseIf.{ElseIf}
use Rattle.f_tree.specs.declared.statement.IfConstruct.{IfConstruct}
use Rattle.f_tree.specs.declared.statement.RankCase.{RankCase}
use Rattle.f_tree.specs.declared.statement.SelectCase.{SelectCase}
use Rattle.f_tree.specs.declared.statement.SelectRank.{SelectRank}
use Rattle.f_items.specs.declared.item.Class.TheVariants as class
use Rattle.f_items.specs.declared.item.DeclaredType.TheVariants.{OfSelector}
use Rattle.f_items.specs.declared.item.Need.TheVariants as need
use Rattle.f_items.specs.declared.item.ScopeKind.TheVariants as kind
use Rattle.f_items.specs.declared.item.Share.TheVariants.{Whole}
use Rattle.f_items.specs.declared.item.Item.TheVariants.{Enter, Leave}
use Rattle.f_unit_items.specs.Fronts.{Front, refers, declares, inside, optional, each, if_there}
use Rattle.f_unit_items.specs.Expressions.{expression, reference, argument}

abbrev pub call_arguments : List Argument → Front
call_arguments args rest = inside (each (map argument args)) rest

abbrev pub assigned : Reference → Expression → Front
assigned target value rest = reference target (expression value rest)

-- what ALLOCATE and DEALLOCATE name
abbrev pub objects : List Reference → Option Reference → Front
objects rs status rest = each (map reference rs) (if_there reference status rest)

abbrev pub action : Action → Front
action (action_form.Assign target value) rest = assigned target value rest
action (action_form.Associate target value) rest = assigned target value rest
action (action_form.Call p name arguments) rest = refers name need.Called (if_there call_arguments arguments rest)
action (action_form.Exit p) rest = rest
action (action_form.Cycle p) rest = rest
action (action_form.Return p) rest = rest
action (action_form.Stop p is_error code) rest = if_there expression code rest
action (action_form.Allocate p rs status) rest = objects rs status rest
action (action_form.Deallocate p rs status) rest = objects rs status rest
action (action_form.Nullify p rs) rest = each (map reference rs) rest
action (action_form.Print p items) rest = each (map expression items) rest
action (action_form.Read p targets) rest = each (map reference targets) rest
action (action_form.ReadUnit p status targets) rest = if_there reference status (each (map reference targets) rest)

abbrev pub loop_control : LoopControl → Front
loop_control Endless rest = rest
loop_control (Count comma v first last step) rest = refers v need.Variable (expression first (expression last (if_there expression step rest)))
loop_control (While comma e) rest = expression e rest

abbrev pub case_range : CaseRange → Front
case_range (Value e) rest = expression e rest
case_range (From lower upper) rest = expression lower (if_there expression upper rest)
case_range (UpTo p upper) rest = expression upper rest

abbrev pub case_choice : CaseChoice → Front
case_choice choice.Default rest = rest
case_choice (choice.Ranges rs) rest = each (map case_range rs) rest

abbrev pub rank_choice : RankChoice → Front
rank_choice rank.Default rest = rest
rank_choice (rank.Rank e) rest = expression e rest
rank_choice (rank.AssumedSize p) rest = rest

-- ---- constructs: each step has the items of its parts

abbrev pub statement_step : Statement-F Front Front Front Front Front Front Front Front Front → Front
statement_step (open_.Action a) rest = action a rest
statement_step (open_.IfAction p condition a) rest = expression condition (action a rest)
statement_step (open_.If c) rest = c rest
statement_step (open_.Do c) rest = c rest
statement_step (open_.SelectCase c) rest = c rest
statement_step (open_.SelectRank c) rest = c rest

abbrev pub if_step : IfConstruct-F Front Front Front Front Front Front Front Front Front → Front
if_step c rest = expression c.condition (each c.body (each c.else_ifs (optional c.otherwise rest)))

abbrev pub else_if_step : ElseIf-F Front Front Front Front Front Front Front Front Front → Front
else_if_step c rest = expression c.condition (each c.body rest)

abbrev pub else_step : Else-F Front Front Front Front Front Front Front Front Front → Front
else_step c rest = each c.body rest

abbrev pub do_step : DoConstruct-F Front Front Front Front Front Front Front Front Front → Front
do_step c rest = loop_control c.control (each c.body rest)

abbrev pub select_step : SelectCase-F Front Front Front Front Front Front Front Front Front → Front
select_step c rest = expression c.selector (each c.cases rest)

abbrev pub case_step : Case-F Front Front Front Front Front Front Front Front Front → Front
case_step c rest = case_choice c.choice (each c.body rest)

-- the name that a selector has inside (11.1.10.2)
abbrev pub associate_name : Option TreeName → TreeName → TreeName
associate_name None n = n
associate_name (Some renamed) n = renamed

-- the selector is named outside the construct, and its associate name is declared inside (11.1.10.3)
abbrev pub select_rank_step : SelectRank-F Front Front Front Front Front Front Front Front Front → Front
select_rank_step c rest = refers c.selector need.Variable (Enter kind.SelectRank c.place ∷ declares (associate_name c.renamed c.selector) class.Data Whole (OfSelector c.selector.bytes) None (each c.ranks (Leave ∷ rest)))

abbrev pub rank_step : RankCase-F Front Front Front Front Front Front Front Front Front → Front
rank_step c rest = rank_choice c.choice (each c.body rest)

-- ---- the items of each tree, in front of a rest

abbrev pub statement : Statement → Front
statement = fold-Statement Front Front Front Front Front Front Front Front Front statement_step case_step do_step else_step else_if_step if_step rank_step select_step select_rank_step

abbrev pub case_block : Case → Front
case_block = fold-Case Front Front Front Front Front Front Front Front Front statement_step case_step do_step else_step else_if_step if_step rank_step select_step select_rank_step

abbrev pub do_construct : DoConstruct → Front
do_construct = fold-DoConstruct Front Front Front Front Front Front Front Front Front statement_step case_step do_step else_step else_if_step if_step rank_step select_step select_rank_step

abbrev pub else_block : Else → Front
else_block = fold-Else Front Front Front Front Front Front Front Front Front statement_step case_step do_step else_step else_if_step if_step rank_step select_step select_rank_step

abbrev pub else_if : ElseIf → Front
else_if = fold-ElseIf Front Front Front Front Front Front Front Front Front statement_step case_step do_step else_step else_if_step if_step rank_step select_step select_rank_step

abbrev pub if_construct : IfConstruct → Front
if_construct = fold-IfConstruct Front Front Front Front Front Front Front Front Front statement_step case_step do_step else_step else_if_step if_step rank_step select_step select_rank_step

abbrev pub rank_block : RankCase → Front
rank_block = fold-RankCase Front Front Front Front Front Front Front Front Front statement_step case_step do_step else_step else_if_step if_step rank_step select_step select_rank_step

abbrev pub select_case : SelectCase → Front
select_case = fold-SelectCase Front Front Front Front Front Front Front Front Front statement_step case_step do_step else_step else_if_step if_step rank_step select_step select_rank_step

abbrev pub select_rank : SelectRank → Front
select_rank = fold-SelectRank Front Front Front Front Front Front Front Front Front statement_step case_step do_step else_step else_if_step if_step rank_step select_step select_rank_step
