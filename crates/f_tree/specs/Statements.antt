-- The tokens of executable statements and constructs (ISO/IEC 1539-1:2018, 9.7, 10.2, 11 and 12.6), each in front of a rest.
use Rattle.std.specs.Prelude.{ℕ, List, Option, Bool, true, false, codes, map}
use Rattle.jf_base.specs.declared.place.Place.{Place}
use Rattle.f_lex.specs.declared.token.Mark.TheVariants.{Open, Close, Comma, Colon, Star, Assign, Arrow}
use Rattle.f_tree.specs.declared.name.Name.{Name}
use Rattle.f_tree.specs.declared.expression.Argument.{Argument}
use Rattle.f_tree.specs.declared.expression.Expression.{Expression}
use Rattle.f_tree.specs.declared.expression.Reference.{Reference}
use Rattle.f_tree.specs.declared.statement.Action.{Action}
use Rattle.f_tree.specs.declared.statement.Action.TheVariants as action_form
use Rattle.f_tree.specs.declared.statement.LoopControl.{LoopControl}
use Rattle.f_tree.specs.declared.statement.LoopControl.TheVariants.{Endless, Count, While}
use Rattle.f_tree.specs.declared.statement.CaseRange.{CaseRange}
use Rattle.f_tree.specs.declared.statement.CaseRange.TheVariants.{Value, From, UpTo}
use Rattle.f_tree.specs.declared.statement.CaseChoice.{CaseChoice}
use Rattle.f_tree.specs.declared.statement.CaseChoice.TheVariants as choice
use Rattle.f_tree.specs.declared.statement.RankChoice.{RankChoice}
use Rattle.f_tree.specs.declared.statement.RankChoice.TheVariants as rank
use Rattle.f_tree.specs.declared.statement.Statement.{Statement, fold-Statement}
use Rattle.f_tree.specs.declared.statement.Statement.TheOpen as open_
use Rattle.f_tree.specs.declared.statement.Statement.TheOpen.{Statement-F, Case-F, DoConstruct-F, Else-F, ElseIf-F, IfConstruct-F, RankCase-F, SelectCase-F, SelectRank-F}
use Rattle.f_tree.specs.declared.statement.Statement.TheFolds.{fold-Case, fold-DoConstruct, fold-Else, fold-ElseIf, fold-IfConstruct, fold-RankCase, fold-SelectCase, fold-SelectRank}
use Rattle.f_tree.specs.declared.statement.Case.{Case}
use Rattle.f_tree.specs.declared.statement.DoConstruct.{DoConstruct}
use Rattle.f_tree.specs.declared.statement.Else.{Else}
use Rattle.f_tree.specs.declared.statement.ElseIf.{ElseIf}
use Rattle.f_tree.specs.declared.statement.IfConstruct.{IfConstruct}
use Rattle.f_tree.specs.declared.statement.RankCase.{RankCase}
use Rattle.f_tree.specs.declared.statement.SelectCase.{SelectCase}
use Rattle.f_tree.specs.declared.statement.SelectRank.{SelectRank}
use Rattle.f_tree.specs.Lexemes.{Front, mark_of, placed_mark, word_of, placed_word, name_of, when, optional, each, behind_commas, listed, in_parentheses, key_of, if_there, statement_end}
use Rattle.f_tree.specs.Expressions.{expression, reference, argument}
use Rattle.f_tree.specs.Declarations.{ending}

abbrev pub call_arguments : List Argument → Front
call_arguments xs rest = in_parentheses (listed (map argument xs)) rest

abbrev pub status : List ℕ → Reference → Front
status word r rest = mark_of Comma (key_of word (reference r rest))

abbrev pub objects : List Reference → Option Reference → Front
objects rs stat rest = mark_of Open (listed (map reference rs) (if_there (status (codes "stat")) stat (mark_of Close rest)))

-- STOP or ERROR STOP
abbrev pub stop_words : Bool → Place → Front
stop_words true p rest = placed_word (codes "error") p (word_of (codes "stop") rest)
stop_words false p rest = placed_word (codes "stop") p rest

abbrev pub action : Action → Front
action (action_form.Assign target value) rest = reference target (mark_of Assign (expression value rest))
action (action_form.Associate target value) rest = reference target (mark_of Arrow (expression value rest))
action (action_form.Call p name arguments) rest = placed_word (codes "call") p (name_of name (if_there call_arguments arguments rest))
action (action_form.Exit p) rest = placed_word (codes "exit") p rest
action (action_form.Cycle p) rest = placed_word (codes "cycle") p rest
action (action_form.Return p) rest = placed_word (codes "return") p rest
action (action_form.Stop p is_error code) rest = stop_words is_error p (if_there expression code rest)
action (action_form.Allocate p rs stat) rest = placed_word (codes "allocate") p (objects rs stat rest)
action (action_form.Deallocate p rs stat) rest = placed_word (codes "deallocate") p (objects rs stat rest)
action (action_form.Nullify p rs) rest = placed_word (codes "nullify") p (in_parentheses (listed (map reference rs)) rest)
action (action_form.Print p items) rest = placed_word (codes "print") p (mark_of Star (behind_commas (map expression items) rest))
action (action_form.Read p targets) rest = placed_word (codes "read") p (mark_of Star (mark_of Comma (listed (map reference targets) rest)))
action (action_form.ReadUnit p stat targets) rest = placed_word (codes "read") p (mark_of Open (mark_of Star (mark_of Comma (mark_of Star
    (if_there (status (codes "iostat")) stat (mark_of Close (listed (map reference targets) rest)))))))

abbrev pub behind_comma : Expression → Front
behind_comma e rest = mark_of Comma (expression e rest)

abbrev pub loop_control : LoopControl → Front
loop_control Endless rest = rest
loop_control (Count comma v first last step) rest = when comma (mark_of Comma) (name_of v (mark_of Assign (expression first (mark_of Comma (expression last (if_there behind_comma step rest))))))
loop_control (While comma e) rest = when comma (mark_of Comma) (word_of (codes "while") (in_parentheses (expression e) rest))

abbrev pub case_range : CaseRange → Front
case_range (Value e) rest = expression e rest
case_range (From lower upper) rest = expression lower (mark_of Colon (if_there expression upper rest))
case_range (UpTo p upper) rest = placed_mark Colon p (expression upper rest)

abbrev pub case_choice : CaseChoice → Front
case_choice choice.Default rest = word_of (codes "default") rest
case_choice (choice.Ranges rs) rest = in_parentheses (listed (map case_range rs)) rest

abbrev pub rank_choice : RankChoice → Front
rank_choice rank.Default rest = word_of (codes "default") rest
rank_choice (rank.Rank e) rest = in_parentheses (expression e) rest
rank_choice (rank.AssumedSize p) rest = in_parentheses (placed_mark Star p) rest

-- ---- constructs: each step has the tokens of its parts

-- `if (condition)`
abbrev pub condition_of : Expression → Front
condition_of e rest = in_parentheses (expression e) rest

abbrev pub statement_step : Statement-F Front Front Front Front Front Front Front Front Front → Front
statement_step (open_.Action a) rest = action a (statement_end rest)
statement_step (open_.IfAction p condition a) rest = placed_word (codes "if") p (condition_of condition (action a (statement_end rest)))
statement_step (open_.If c) rest = c rest
statement_step (open_.Do c) rest = c rest
statement_step (open_.SelectCase c) rest = c rest
statement_step (open_.SelectRank c) rest = c rest

-- THEN and the end of its statement
abbrev pub then_line : Front
then_line rest = word_of (codes "then") (statement_end rest)

abbrev pub if_step : IfConstruct-F Front Front Front Front Front Front Front Front Front → Front
if_step c rest = placed_word (codes "if") c.place (condition_of c.condition (then_line (each c.body (each c.else_ifs (optional c.otherwise
    (ending (codes "if") (codes "endif") c.ending rest))))))

-- ELSE IF in one word or in two
abbrev pub else_if_words : Bool → Place → Front
else_if_words true p rest = placed_word (codes "elseif") p rest
else_if_words false p rest = placed_word (codes "else") p (word_of (codes "if") rest)

abbrev pub else_if_step : ElseIf-F Front Front Front Front Front Front Front Front Front → Front
else_if_step c rest = else_if_words c.is_one_word c.place (condition_of c.condition (then_line (each c.body rest)))

abbrev pub else_step : Else-F Front Front Front Front Front Front Front Front Front → Front
else_step c rest = placed_word (codes "else") c.place (statement_end (each c.body rest))

abbrev pub do_step : DoConstruct-F Front Front Front Front Front Front Front Front Front → Front
do_step c rest = placed_word (codes "do") c.place (loop_control c.control (statement_end (each c.body (ending (codes "do") (codes "enddo") c.ending rest))))

-- SELECT CASE in one word or in two
abbrev pub select_words : Bool → Place → Front
select_words true p rest = placed_word (codes "selectcase") p rest
select_words false p rest = placed_word (codes "select") p (word_of (codes "case") rest)

abbrev pub select_step : SelectCase-F Front Front Front Front Front Front Front Front Front → Front
select_step c rest = select_words c.is_one_word c.place (condition_of c.selector (statement_end (each c.cases (ending (codes "select") (codes "endselect") c.ending rest))))

abbrev pub case_step : Case-F Front Front Front Front Front Front Front Front Front → Front
case_step c rest = placed_word (codes "case") c.place (case_choice c.choice (statement_end (each c.body rest)))

-- the name that a selector has inside, and `=>`
abbrev pub renamed_to : Name → Front
renamed_to n rest = name_of n (mark_of Arrow rest)

abbrev pub rank_selector : Option Name → Name → Front
rank_selector renamed n rest = if_there renamed_to renamed (name_of n rest)

abbrev pub select_rank_step : SelectRank-F Front Front Front Front Front Front Front Front Front → Front
select_rank_step c rest = placed_word (codes "select") c.place (word_of (codes "rank") (in_parentheses (rank_selector c.renamed c.selector)
    (statement_end (each c.ranks (ending (codes "select") (codes "endselect") c.ending rest)))))

abbrev pub rank_step : RankCase-F Front Front Front Front Front Front Front Front Front → Front
rank_step c rest = placed_word (codes "rank") c.place (rank_choice c.choice (statement_end (each c.body rest)))

-- ---- the tokens of each tree, in front of a rest

abbrev pub statement : Statement → Front
statement = fold-Statement Front Front Front Front Front Front Front Front Front statement_step case_step do_step else_step else_if_step if_step rank_step select_step select_rank_step

abbrev pub case_block : Case → Front
case_block = fold-Case Front Front Front Front Front Front Front Front Front statement_step case_step do_step else_step else_if_step if_step rank_step select_step select_rank_step

abbrev pub do_construct : DoConstruct → Front
do_construct = fold-DoConstruct Front Front Front Front Front Front Front Front Front statement_step case_step do_step else_step else_if_step if_step rank_step select_step select_rank_step

abbrev pub else_block : Else → Front
else_block = fold-Else Front Front Front Front Front Front Front Front Front statement_step case_step do_step else_step else_if_step if_step rank_step select_step select_rank_step

abbrev pub else_if : ElseIf → Front
else_if = fold-ElseIf Front Front Front Front Front Front Front Front Front statement_step case_step do_step else_step else_if_step if_step rank_step select_step select_rank_step

abbrev pub if_construct : IfConstruct → Front
if_construct = fold-IfConstruct Front Front Front Front Front Front Front Front Front statement_step case_step do_step else_step else_if_step if_step rank_step select_step select_rank_step

abbrev pub rank_block : RankCase → Front
rank_block = fold-RankCase Front Front Front Front Front Front Front Front Front statement_step case_step do_step else_step else_if_step if_step rank_step select_step select_rank_step

abbrev pub select_case : SelectCase → Front
select_case = fold-SelectCase Front Front Front Front Front Front Front Front Front statement_step case_step do_step else_step else_if_step if_step rank_step select_step select_rank_step

abbrev pub select_rank : SelectRank → Front
select_rank = fold-SelectRank Front Front Front Front Front Front Front Front Front statement_step case_step do_step else_step else_if_step if_step rank_step select_step select_rank_step
