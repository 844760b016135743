-- What is open behind each statement of a construct.
use Rattle.std.proofs.Common.{◌≡◌, ℕ, List, [], ◌∷◌, Option, Some, None, Bool, true, false, refl, sym, ap, ◌∙◌}
use Rattle.f_tree.specs.declared.name.Name.{Name}
use Rattle.f_tree.specs.declared.expression.Expression.{Expression}
use Rattle.f_tree.specs.declared.statement.Action.{Action}
use Rattle.f_tree.specs.declared.statement.LoopControl.{LoopControl}
use Rattle.f_tree.specs.declared.statement.CaseChoice.{CaseChoice}
use Rattle.f_tree.specs.declared.statement.CaseChoice.TheVariants as choice
use Rattle.f_tree.specs.declared.statement.RankChoice.{RankChoice}
use Rattle.f_tree.specs.declared.statement.RankChoice.TheVariants as rank
use Rattle.f_line_grammar.specs.Lines as form
use Rattle.f_line_grammar.specs.Lines.{Line}
use Rattle.f_statement_grammar.specs.Statements.{Statement, Executable, Declaring}
use Rattle.f_unit_grammar.specs.Units.{State, File, InIf, InElse, InDo, InSelectCase, InCase, InSelectRank, InRank, InUnit, InProgram, InProcedure, Executing, Role, stays, enters, leaves, none, role, begun}
use Rattle.f_expr_read.specs.Views.{view, keyword_of}
use Rattle.f_action_read.specs.Actions.{view_action}
use Rattle.f_line_read.specs.declared.line.Construct.TheVariants as construct
use Rattle.f_line_read.specs.declared.line.Line.TheVariants as line
use Rattle.f_line_read.specs.Lines.{view_control}
use Rattle.f_statement_read.specs.declared.statement.Statement.{Statement as Read}
use Rattle.f_statement_read.specs.declared.statement.Statement.TheVariants as read
use Rattle.f_statement_read.specs.Views.{view_statement}
use Rattle.f_construct_parts.specs.Walking.{moved, goes_on, walk, begins, begins_next, IsBlock, FailsIn}
use Rattle.f_construct_parts.specs.Lines.{action_line, guarded_line, if_line, else_if_line, else_line, loop_line, select_case_line, case_line, select_rank_line, rank_line}
use Rattle.f_construct_parts.specs.Views.{seen, next_statement, next_of, starts, divides_if, is_else, divides_case, divides_rank, ends_if, ends_do, ends_select}

one_on : (k : State) (ks : List State) (s : Statement) (ss : List Statement) (r : Role) → role k s ≡ r → walk (k ∷ ks) (s ∷ ss) ≡ goes_on (moved r ks) (λ next. walk next ss)
unfolding walk
one_on k ks s ss r e = ap (λ (q : Role). goes_on (moved q ks) (λ next. walk next ss)) e

-- ---- where a block stands

pub if_is_block : (l : Line) → begins l ≡ true → role InIf (Executable l) ≡ begun InIf l
unfolding role
if_is_block (form.Simple a) b = refl
if_is_block (form.Guarded test a) b = refl
if_is_block (form.IfThen test) b = refl
if_is_block (form.Loop control) b = refl
if_is_block (form.SelectCase w e) b = refl
if_is_block (form.SelectRank renamed selector) b = refl
if_is_block (form.ElseIf w test) b = absurd cc
if_is_block form.Else b = absurd cc
if_is_block (form.Cases s ss) b = absurd cc
if_is_block form.CaseDefault b = absurd cc
if_is_block (form.Rank e) b = absurd cc
if_is_block form.RankStar b = absurd cc
if_is_block form.RankDefault b = absurd cc
if_is_block (form.End c w) b = absurd cc

pub else_is_block : (l : Line) → begins l ≡ true → role InElse (Executable l) ≡ begun InElse l
unfolding role
else_is_block (form.Simple a) b = refl
else_is_block (form.Guarded test a) b = refl
else_is_block (form.IfThen test) b = refl
else_is_block (form.Loop control) b = refl
else_is_block (form.SelectCase w e) b = refl
else_is_block (form.SelectRank renamed selector) b = refl
else_is_block (form.ElseIf w test) b = absurd cc
else_is_block form.Else b = absurd cc
else_is_block (form.Cases s ss) b = absurd cc
else_is_block form.CaseDefault b = absurd cc
else_is_block (form.Rank e) b = absurd cc
else_is_block form.RankStar b = absurd cc
else_is_block form.RankDefault b = absurd cc
else_is_block (form.End c w) b = absurd cc

pub do_is_block : (l : Line) → begins l ≡ true → role InDo (Executable l) ≡ begun InDo l
unfolding role
do_is_block (form.Simple a) b = refl
do_is_block (form.Guarded test a) b = refl
do_is_block (form.IfThen test) b = refl
do_is_block (form.Loop control) b = refl
do_is_block (form.SelectCase w e) b = refl
do_is_block (form.SelectRank renamed selector) b = refl
do_is_block (form.ElseIf w test) b = absurd cc
do_is_block form.Else b = absurd cc
do_is_block (form.Cases s ss) b = absurd cc
do_is_block form.CaseDefault b = absurd cc
do_is_block (form.Rank e) b = absurd cc
do_is_block form.RankStar b = absurd cc
do_is_block form.RankDefault b = absurd cc
do_is_block (form.End c w) b = absurd cc

pub case_is_block : (l : Line) → begins l ≡ true → role InCase (Executable l) ≡ begun InCase l
unfolding role
case_is_block (form.Simple a) b = refl
case_is_block (form.Guarded test a) b = refl
case_is_block (form.IfThen test) b = refl
case_is_block (form.Loop control) b = refl
case_is_block (form.SelectCase w e) b = refl
case_is_block (form.SelectRank renamed selector) b = refl
case_is_block (form.ElseIf w test) b = absurd cc
case_is_block form.Else b = absurd cc
case_is_block (form.Cases s ss) b = absurd cc
case_is_block form.CaseDefault b = absurd cc
case_is_block (form.Rank e) b = absurd cc
case_is_block form.RankStar b = absurd cc
case_is_block form.RankDefault b = absurd cc
case_is_block (form.End c w) b = absurd cc

pub rank_is_block : (l : Line) → begins l ≡ true → role InRank (Executable l) ≡ begun InRank l
unfolding role
rank_is_block (form.Simple a) b = refl
rank_is_block (form.Guarded test a) b = refl
rank_is_block (form.IfThen test) b = refl
rank_is_block (form.Loop control) b = refl
rank_is_block (form.SelectCase w e) b = refl
rank_is_block (form.SelectRank renamed selector) b = refl
rank_is_block (form.ElseIf w test) b = absurd cc
rank_is_block form.Else b = absurd cc
rank_is_block (form.Cases s ss) b = absurd cc
rank_is_block form.CaseDefault b = absurd cc
rank_is_block (form.Rank e) b = absurd cc
rank_is_block form.RankStar b = absurd cc
rank_is_block form.RankDefault b = absurd cc
rank_is_block (form.End c w) b = absurd cc

pub program_is_block : (name : List ℕ) → (l : Line) → begins l ≡ true → role (InUnit (InProgram name) Executing) (Executable l) ≡ begun (InUnit (InProgram name) Executing) l
unfolding role
program_is_block name (form.Simple a) b = refl
program_is_block name (form.Guarded test a) b = refl
program_is_block name (form.IfThen test) b = refl
program_is_block name (form.Loop control) b = refl
program_is_block name (form.SelectCase w e) b = refl
program_is_block name (form.SelectRank renamed selector) b = refl
program_is_block name (form.ElseIf w test) b = absurd cc
program_is_block name form.Else b = absurd cc
program_is_block name (form.Cases s ss) b = absurd cc
program_is_block name form.CaseDefault b = absurd cc
program_is_block name (form.Rank e) b = absurd cc
program_is_block name form.RankStar b = absurd cc
program_is_block name form.RankDefault b = absurd cc
program_is_block name (form.End c w) b = absurd cc

pub procedure_is_block : (f : Bool) (name : List ℕ) → (l : Line) → begins l ≡ true → role (InUnit (InProcedure f name) Executing) (Executable l) ≡ begun (InUnit (InProcedure f name) Executing) l
unfolding role
procedure_is_block f name (form.Simple a) b = refl
procedure_is_block f name (form.Guarded test a) b = refl
procedure_is_block f name (form.IfThen test) b = refl
procedure_is_block f name (form.Loop control) b = refl
procedure_is_block f name (form.SelectCase w e) b = refl
procedure_is_block f name (form.SelectRank renamed selector) b = refl
procedure_is_block f name (form.ElseIf w test) b = absurd cc
procedure_is_block f name form.Else b = absurd cc
procedure_is_block f name (form.Cases s ss) b = absurd cc
procedure_is_block f name form.CaseDefault b = absurd cc
procedure_is_block f name (form.Rank e) b = absurd cc
procedure_is_block f name form.RankStar b = absurd cc
procedure_is_block f name form.RankDefault b = absurd cc
procedure_is_block f name (form.End c w) b = absurd cc

module _ (k : State) (b : IsBlock k) (outer : List State) (ss : List Statement) where
  block_on : (l : Line) → begins l ≡ true → walk (k ∷ outer) (Executable l ∷ ss) ≡ goes_on (moved (begun k l) outer) (λ next. walk next ss)
  block_on l e = one_on k outer (Executable l) ss (begun k l) (b l e)

  pub action_on : (a : Action) → walk (k ∷ outer) (action_line a ∷ ss) ≡ walk (k ∷ outer) ss
  unfolding action_line
  action_on a = block_on (form.Simple (view_action a)) refl

  pub guarded_on : (e : Expression) (a : Action) → walk (k ∷ outer) (guarded_line e a ∷ ss) ≡ walk (k ∷ outer) ss
  unfolding guarded_line
  guarded_on e a = block_on (form.Guarded (view e) (view_action a)) refl

  pub if_on : (e : Expression) → walk (k ∷ outer) (if_line e ∷ ss) ≡ walk (InIf ∷ k ∷ outer) ss
  unfolding if_line
  if_on e = block_on (form.IfThen (view e)) refl

  pub loop_on : (c : LoopControl) → walk (k ∷ outer) (loop_line c ∷ ss) ≡ walk (InDo ∷ k ∷ outer) ss
  unfolding loop_line
  loop_on c = block_on (form.Loop (view_control c)) refl

  pub select_case_on : (w : Bool) (e : Expression) → walk (k ∷ outer) (select_case_line w e ∷ ss) ≡ walk (InSelectCase ∷ k ∷ outer) ss
  unfolding select_case_line
  select_case_on w e = block_on (form.SelectCase w (view e)) refl

  pub select_rank_on : (renamed : Option Name) (n : Name) → walk (k ∷ outer) (select_rank_line renamed n ∷ ss) ≡ walk (InSelectRank ∷ k ∷ outer) ss
  unfolding select_rank_line
  select_rank_on renamed n = block_on (form.SelectRank (keyword_of renamed) n.bytes) refl

-- ---- inside of constructs

module _ (outer : List State) (ss : List Statement) where
  pub else_if_on : (w : Bool) (e : Expression) → walk (InIf ∷ outer) (else_if_line w e ∷ ss) ≡ walk (InIf ∷ outer) ss
  unfolding else_if_line role
  else_if_on w e = one_on InIf outer (Executable (form.ElseIf w (view e))) ss (stays InIf) refl

  pub else_on : walk (InIf ∷ outer) (else_line ∷ ss) ≡ walk (InElse ∷ outer) ss
  unfolding role
  else_on = one_on InIf outer (Executable form.Else) ss (stays InElse) refl

  pub if_end_on : (w : Bool) → walk (InIf ∷ outer) (Executable (form.End form.If w) ∷ ss) ≡ walk outer ss
  unfolding role
  if_end_on w = one_on InIf outer (Executable (form.End form.If w)) ss leaves refl

  pub else_end_on : (w : Bool) → walk (InElse ∷ outer) (Executable (form.End form.If w) ∷ ss) ≡ walk outer ss
  unfolding role
  else_end_on w = one_on InElse outer (Executable (form.End form.If w)) ss leaves refl

  pub do_end_on : (w : Bool) → walk (InDo ∷ outer) (Executable (form.End form.Do w) ∷ ss) ≡ walk outer ss
  unfolding role
  do_end_on w = one_on InDo outer (Executable (form.End form.Do w)) ss leaves refl

  pub case_end_on : (w : Bool) → walk (InCase ∷ outer) (Executable (form.End form.Select w) ∷ ss) ≡ walk outer ss
  unfolding role
  case_end_on w = one_on InCase outer (Executable (form.End form.Select w)) ss leaves refl

  pub cases_end_on : (w : Bool) → walk (InSelectCase ∷ outer) (Executable (form.End form.Select w) ∷ ss) ≡ walk outer ss
  unfolding role
  cases_end_on w = one_on InSelectCase outer (Executable (form.End form.Select w)) ss leaves refl

  pub rank_end_on : (w : Bool) → walk (InRank ∷ outer) (Executable (form.End form.Select w) ∷ ss) ≡ walk outer ss
  unfolding role
  rank_end_on w = one_on InRank outer (Executable (form.End form.Select w)) ss leaves refl

  pub ranks_end_on : (w : Bool) → walk (InSelectRank ∷ outer) (Executable (form.End form.Select w) ∷ ss) ≡ walk outer ss
  unfolding role
  ranks_end_on w = one_on InSelectRank outer (Executable (form.End form.Select w)) ss leaves refl

case_role : (c : CaseChoice) → role InCase (case_line c) ≡ stays InCase
unfolding case_line role
case_role choice.Default = refl
case_role (choice.Ranges []) = refl
case_role (choice.Ranges (r ∷ rs)) = refl

cases_role : (c : CaseChoice) → role InSelectCase (case_line c) ≡ stays InCase
unfolding case_line role
cases_role choice.Default = refl
cases_role (choice.Ranges []) = refl
cases_role (choice.Ranges (r ∷ rs)) = refl

rank_role : (c : RankChoice) → role InRank (rank_line c) ≡ stays InRank
unfolding rank_line role
rank_role rank.Default = refl
rank_role (rank.Rank e) = refl
rank_role (rank.AssumedSize p) = refl

ranks_role : (c : RankChoice) → role InSelectRank (rank_line c) ≡ stays InRank
unfolding rank_line role
ranks_role rank.Default = refl
ranks_role (rank.Rank e) = refl
ranks_role (rank.AssumedSize p) = refl

module _ (outer : List State) (ss : List Statement) where
  pub case_on : (c : CaseChoice) → walk (InCase ∷ outer) (case_line c ∷ ss) ≡ walk (InCase ∷ outer) ss
  case_on c = one_on InCase outer (case_line c) ss (stays InCase) (case_role c)

  pub cases_on : (c : CaseChoice) → walk (InSelectCase ∷ outer) (case_line c ∷ ss) ≡ walk (InCase ∷ outer) ss
  cases_on c = one_on InSelectCase outer (case_line c) ss (stays InCase) (cases_role c)

  pub rank_on : (c : RankChoice) → walk (InRank ∷ outer) (rank_line c ∷ ss) ≡ walk (InRank ∷ outer) ss
  rank_on c = one_on InRank outer (rank_line c) ss (stays InRank) (rank_role c)

  pub ranks_on : (c : RankChoice) → walk (InSelectRank ∷ outer) (rank_line c ∷ ss) ≡ walk (InRank ∷ outer) ss
  ranks_on c = one_on InSelectRank outer (rank_line c) ss (stays InRank) (ranks_role c)

-- ---- what has no place

nothing_left : (k : State) → FailsIn k []
unfolding walk
nothing_left k o os e = cc

never : (ks : List State) → None ≡ Some ks → ⊥
never ks e = cc

no_place : (k : State) (s : Statement) (ss : List Statement) → role k s ≡ none → FailsIn k (s ∷ ss)
no_place k s ss r o os e = never (File ∷ []) (sym (one_on k (o ∷ os) s ss none r) ∙ e)

unplaced_if : (s : Read) → starts (next_statement s) ≡ false → divides_if (next_statement s) ≡ false → is_else (next_statement s) ≡ false → ends_if (next_statement s) ≡ false → role InIf (view_statement s) ≡ none
unfolding role
unplaced_if (read.Declaring d) e1 e2 e3 e4 = refl
unplaced_if (read.Executable (line.Action a)) e1 e2 e3 e4 = absurd cc
unplaced_if (read.Executable (line.IfAction p condition a)) e1 e2 e3 e4 = absurd cc
unplaced_if (read.Executable (line.IfThen p condition)) e1 e2 e3 e4 = absurd cc
unplaced_if (read.Executable (line.ElseIf p w condition)) e1 e2 e3 e4 = absurd cc
unplaced_if (read.Executable (line.Else p)) e1 e2 e3 e4 = absurd cc
unplaced_if (read.Executable (line.Do p control)) e1 e2 e3 e4 = absurd cc
unplaced_if (read.Executable (line.SelectCase p w selector)) e1 e2 e3 e4 = absurd cc
unplaced_if (read.Executable (line.Case p choice.Default)) e1 e2 e3 e4 = refl
unplaced_if (read.Executable (line.Case p (choice.Ranges []))) e1 e2 e3 e4 = refl
unplaced_if (read.Executable (line.Case p (choice.Ranges (r ∷ rs)))) e1 e2 e3 e4 = refl
unplaced_if (read.Executable (line.SelectRank p renamed selector)) e1 e2 e3 e4 = absurd cc
unplaced_if (read.Executable (line.Rank p rank.Default)) e1 e2 e3 e4 = refl
unplaced_if (read.Executable (line.Rank p (rank.Rank e))) e1 e2 e3 e4 = refl
unplaced_if (read.Executable (line.Rank p (rank.AssumedSize q))) e1 e2 e3 e4 = refl
unplaced_if (read.Executable (line.End p construct.If w)) e1 e2 e3 e4 = absurd cc
unplaced_if (read.Executable (line.End p construct.Do w)) e1 e2 e3 e4 = refl
unplaced_if (read.Executable (line.End p construct.Select w)) e1 e2 e3 e4 = refl

pub fails_in_if : (ss : List Read) → starts (next_of ss) ≡ false → divides_if (next_of ss) ≡ false → is_else (next_of ss) ≡ false → ends_if (next_of ss) ≡ false → FailsIn InIf (seen ss)
unfolding next_of
fails_in_if [] e1 e2 e3 e4 = nothing_left InIf
fails_in_if (s ∷ ss) e1 e2 e3 e4 = no_place InIf (view_statement s) (seen ss) (unplaced_if s e1 e2 e3 e4)

unplaced_else : (s : Read) → starts (next_statement s) ≡ false → ends_if (next_statement s) ≡ false → role InElse (view_statement s) ≡ none
unfolding role
unplaced_else (read.Declaring d) e1 e2 = refl
unplaced_else (read.Executable (line.Action a)) e1 e2 = absurd cc
unplaced_else (read.Executable (line.IfAction p condition a)) e1 e2 = absurd cc
unplaced_else (read.Executable (line.IfThen p condition)) e1 e2 = absurd cc
unplaced_else (read.Executable (line.ElseIf p w condition)) e1 e2 = refl
unplaced_else (read.Executable (line.Else p)) e1 e2 = refl
unplaced_else (read.Executable (line.Do p control)) e1 e2 = absurd cc
unplaced_else (read.Executable (line.SelectCase p w selector)) e1 e2 = absurd cc
unplaced_else (read.Executable (line.Case p choice.Default)) e1 e2 = refl
unplaced_else (read.Executable (line.Case p (choice.Ranges []))) e1 e2 = refl
unplaced_else (read.Executable (line.Case p (choice.Ranges (r ∷ rs)))) e1 e2 = refl
unplaced_else (read.Executable (line.SelectRank p renamed selector)) e1 e2 = absurd cc
unplaced_else (read.Executable (line.Rank p rank.Default)) e1 e2 = refl
unplaced_else (read.Executable (line.Rank p (rank.Rank e))) e1 e2 = refl
unplaced_else (read.Executable (line.Rank p (rank.AssumedSize q))) e1 e2 = refl
unplaced_else (read.Executable (line.End p construct.If w)) e1 e2 = absurd cc
unplaced_else (read.Executable (line.End p construct.Do w)) e1 e2 = refl
unplaced_else (read.Executable (line.End p construct.Select w)) e1 e2 = refl

pub fails_in_else : (ss : List Read) → starts (next_of ss) ≡ false → ends_if (next_of ss) ≡ false → FailsIn InElse (seen ss)
unfolding next_of
fails_in_else [] e1 e2 = nothing_left InElse
fails_in_else (s ∷ ss) e1 e2 = no_place InElse (view_statement s) (seen ss) (unplaced_else s e1 e2)

unplaced_do : (s : Read) → starts (next_statement s) ≡ false → ends_do (next_statement s) ≡ false → role InDo (view_statement s) ≡ none
unfolding role
unplaced_do (read.Declaring d) e1 e2 = refl
unplaced_do (read.Executable (line.Action a)) e1 e2 = absurd cc
unplaced_do (read.Executable (line.IfAction p condition a)) e1 e2 = absurd cc
unplaced_do (read.Executable (line.IfThen p condition)) e1 e2 = absurd cc
unplaced_do (read.Executable (line.ElseIf p w condition)) e1 e2 = refl
unplaced_do (read.Executable (line.Else p)) e1 e2 = refl
unplaced_do (read.Executable (line.Do p control)) e1 e2 = absurd cc
unplaced_do (read.Executable (line.SelectCase p w selector)) e1 e2 = absurd cc
unplaced_do (read.Executable (line.Case p choice.Default)) e1 e2 = refl
unplaced_do (read.Executable (line.Case p (choice.Ranges []))) e1 e2 = refl
unplaced_do (read.Executable (line.Case p (choice.Ranges (r ∷ rs)))) e1 e2 = refl
unplaced_do (read.Executable (line.SelectRank p renamed selector)) e1 e2 = absurd cc
unplaced_do (read.Executable (line.Rank p rank.Default)) e1 e2 = refl
unplaced_do (read.Executable (line.Rank p (rank.Rank e))) e1 e2 = refl
unplaced_do (read.Executable (line.Rank p (rank.AssumedSize q))) e1 e2 = refl
unplaced_do (read.Executable (line.End p construct.If w)) e1 e2 = refl
unplaced_do (read.Executable (line.End p construct.Do w)) e1 e2 = absurd cc
unplaced_do (read.Executable (line.End p construct.Select w)) e1 e2 = refl

pub fails_in_do : (ss : List Read) → starts (next_of ss) ≡ false → ends_do (next_of ss) ≡ false → FailsIn InDo (seen ss)
unfolding next_of
fails_in_do [] e1 e2 = nothing_left InDo
fails_in_do (s ∷ ss) e1 e2 = no_place InDo (view_statement s) (seen ss) (unplaced_do s e1 e2)

unplaced_cases : (s : Read) → divides_case (next_statement s) ≡ false → ends_select (next_statement s) ≡ false → role InSelectCase (view_statement s) ≡ none
unfolding role
unplaced_cases (read.Declaring d) e1 e2 = refl
unplaced_cases (read.Executable (line.Action a)) e1 e2 = refl
unplaced_cases (read.Executable (line.IfAction p condition a)) e1 e2 = refl
unplaced_cases (read.Executable (line.IfThen p condition)) e1 e2 = refl
unplaced_cases (read.Executable (line.ElseIf p w condition)) e1 e2 = refl
unplaced_cases (read.Executable (line.Else p)) e1 e2 = refl
unplaced_cases (read.Executable (line.Do p control)) e1 e2 = refl
unplaced_cases (read.Executable (line.SelectCase p w selector)) e1 e2 = refl
unplaced_cases (read.Executable (line.Case p choice.Default)) e1 e2 = absurd cc
unplaced_cases (read.Executable (line.Case p (choice.Ranges []))) e1 e2 = absurd cc
unplaced_cases (read.Executable (line.Case p (choice.Ranges (r ∷ rs)))) e1 e2 = absurd cc
unplaced_cases (read.Executable (line.SelectRank p renamed selector)) e1 e2 = refl
unplaced_cases (read.Executable (line.Rank p rank.Default)) e1 e2 = refl
unplaced_cases (read.Executable (line.Rank p (rank.Rank e))) e1 e2 = refl
unplaced_cases (read.Executable (line.Rank p (rank.AssumedSize q))) e1 e2 = refl
unplaced_cases (read.Executable (line.End p construct.If w)) e1 e2 = refl
unplaced_cases (read.Executable (line.End p construct.Do w)) e1 e2 = refl
unplaced_cases (read.Executable (line.End p construct.Select w)) e1 e2 = absurd cc

pub fails_in_cases : (ss : List Read) → divides_case (next_of ss) ≡ false → ends_select (next_of ss) ≡ false → FailsIn InSelectCase (seen ss)
unfolding next_of
fails_in_cases [] e1 e2 = nothing_left InSelectCase
fails_in_cases (s ∷ ss) e1 e2 = no_place InSelectCase (view_statement s) (seen ss) (unplaced_cases s e1 e2)

unplaced_case : (s : Read) → starts (next_statement s) ≡ false → divides_case (next_statement s) ≡ false → ends_select (next_statement s) ≡ false → role InCase (view_statement s) ≡ none
unfolding role
unplaced_case (read.Declaring d) e1 e2 e3 = refl
unplaced_case (read.Executable (line.Action a)) e1 e2 e3 = absurd cc
unplaced_case (read.Executable (line.IfAction p condition a)) e1 e2 e3 = absurd cc
unplaced_case (read.Executable (line.IfThen p condition)) e1 e2 e3 = absurd cc
unplaced_case (read.Executable (line.ElseIf p w condition)) e1 e2 e3 = refl
unplaced_case (read.Executable (line.Else p)) e1 e2 e3 = refl
unplaced_case (read.Executable (line.Do p control)) e1 e2 e3 = absurd cc
unplaced_case (read.Executable (line.SelectCase p w selector)) e1 e2 e3 = absurd cc
unplaced_case (read.Executable (line.Case p choice.Default)) e1 e2 e3 = absurd cc
unplaced_case (read.Executable (line.Case p (choice.Ranges []))) e1 e2 e3 = absurd cc
unplaced_case (read.Executable (line.Case p (choice.Ranges (r ∷ rs)))) e1 e2 e3 = absurd cc
unplaced_case (read.Executable (line.SelectRank p renamed selector)) e1 e2 e3 = absurd cc
unplaced_case (read.Executable (line.Rank p rank.Default)) e1 e2 e3 = refl
unplaced_case (read.Executable (line.Rank p (rank.Rank e))) e1 e2 e3 = refl
unplaced_case (read.Executable (line.Rank p (rank.AssumedSize q))) e1 e2 e3 = refl
unplaced_case (read.Executable (line.End p construct.If w)) e1 e2 e3 = refl
unplaced_case (read.Executable (line.End p construct.Do w)) e1 e2 e3 = refl
unplaced_case (read.Executable (line.End p construct.Select w)) e1 e2 e3 = absurd cc

pub fails_in_case : (ss : List Read) → starts (next_of ss) ≡ false → divides_case (next_of ss) ≡ false → ends_select (next_of ss) ≡ false → FailsIn InCase (seen ss)
unfolding next_of
fails_in_case [] e1 e2 e3 = nothing_left InCase
fails_in_case (s ∷ ss) e1 e2 e3 = no_place InCase (view_statement s) (seen ss) (unplaced_case s e1 e2 e3)

unplaced_ranks : (s : Read) → divides_rank (next_statement s) ≡ false → ends_select (next_statement s) ≡ false → role InSelectRank (view_statement s) ≡ none
unfolding role
unplaced_ranks (read.Declaring d) e1 e2 = refl
unplaced_ranks (read.Executable (line.Action a)) e1 e2 = refl
unplaced_ranks (read.Executable (line.IfAction p condition a)) e1 e2 = refl
unplaced_ranks (read.Executable (line.IfThen p condition)) e1 e2 = refl
unplaced_ranks (read.Executable (line.ElseIf p w condition)) e1 e2 = refl
unplaced_ranks (read.Executable (line.Else p)) e1 e2 = refl
unplaced_ranks (read.Executable (line.Do p control)) e1 e2 = refl
unplaced_ranks (read.Executable (line.SelectCase p w selector)) e1 e2 = refl
unplaced_ranks (read.Executable (line.Case p choice.Default)) e1 e2 = refl
unplaced_ranks (read.Executable (line.Case p (choice.Ranges []))) e1 e2 = refl
unplaced_ranks (read.Executable (line.Case p (choice.Ranges (r ∷ rs)))) e1 e2 = refl
unplaced_ranks (read.Executable (line.SelectRank p renamed selector)) e1 e2 = refl
unplaced_ranks (read.Executable (line.Rank p rank.Default)) e1 e2 = absurd cc
unplaced_ranks (read.Executable (line.Rank p (rank.Rank e))) e1 e2 = absurd cc
unplaced_ranks (read.Executable (line.Rank p (rank.AssumedSize q))) e1 e2 = absurd cc
unplaced_ranks (read.Executable (line.End p construct.If w)) e1 e2 = refl
unplaced_ranks (read.Executable (line.End p construct.Do w)) e1 e2 = refl
unplaced_ranks (read.Executable (line.End p construct.Select w)) e1 e2 = absurd cc

pub fails_in_ranks : (ss : List Read) → divides_rank (next_of ss) ≡ false → ends_select (next_of ss) ≡ false → FailsIn InSelectRank (seen ss)
unfolding next_of
fails_in_ranks [] e1 e2 = nothing_left InSelectRank
fails_in_ranks (s ∷ ss) e1 e2 = no_place InSelectRank (view_statement s) (seen ss) (unplaced_ranks s e1 e2)

unplaced_rank : (s : Read) → starts (next_statement s) ≡ false → divides_rank (next_statement s) ≡ false → ends_select (next_statement s) ≡ false → role InRank (view_statement s) ≡ none
unfolding role
unplaced_rank (read.Declaring d) e1 e2 e3 = refl
unplaced_rank (read.Executable (line.Action a)) e1 e2 e3 = absurd cc
unplaced_rank (read.Executable (line.IfAction p condition a)) e1 e2 e3 = absurd cc
unplaced_rank (read.Executable (line.IfThen p condition)) e1 e2 e3 = absurd cc
unplaced_rank (read.Executable (line.ElseIf p w condition)) e1 e2 e3 = refl
unplaced_rank (read.Executable (line.Else p)) e1 e2 e3 = refl
unplaced_rank (read.Executable (line.Do p control)) e1 e2 e3 = absurd cc
unplaced_rank (read.Executable (line.SelectCase p w selector)) e1 e2 e3 = absurd cc
unplaced_rank (read.Executable (line.Case p choice.Default)) e1 e2 e3 = refl
unplaced_rank (read.Executable (line.Case p (choice.Ranges []))) e1 e2 e3 = refl
unplaced_rank (read.Executable (line.Case p (choice.Ranges (r ∷ rs)))) e1 e2 e3 = refl
unplaced_rank (read.Executable (line.SelectRank p renamed selector)) e1 e2 e3 = absurd cc
unplaced_rank (read.Executable (line.Rank p rank.Default)) e1 e2 e3 = absurd cc
unplaced_rank (read.Executable (line.Rank p (rank.Rank e))) e1 e2 e3 = absurd cc
unplaced_rank (read.Executable (line.Rank p (rank.AssumedSize q))) e1 e2 e3 = absurd cc
unplaced_rank (read.Executable (line.End p construct.If w)) e1 e2 e3 = refl
unplaced_rank (read.Executable (line.End p construct.Do w)) e1 e2 e3 = refl
unplaced_rank (read.Executable (line.End p construct.Select w)) e1 e2 e3 = absurd cc

pub fails_in_rank : (ss : List Read) → starts (next_of ss) ≡ false → divides_rank (next_of ss) ≡ false → ends_select (next_of ss) ≡ false → FailsIn InRank (seen ss)
unfolding next_of
fails_in_rank [] e1 e2 e3 = nothing_left InRank
fails_in_rank (s ∷ ss) e1 e2 e3 = no_place InRank (view_statement s) (seen ss) (unplaced_rank s e1 e2 e3)

-- ---- from one list to the next

-- where one list leads to another in which a statement has no place, it has none in the first
pub leads : (j k : State) (o : State) (os : List State) (ss rest : List Statement) → walk (k ∷ o ∷ os) ss ≡ walk (j ∷ o ∷ os) rest → FailsIn j rest → walk (k ∷ o ∷ os) ss ≡ Some (File ∷ []) → ⊥
leads j k o os ss rest e f w = f o os (sym e ∙ w)

pub enters_and : (j k : State) (o : State) (os : List State) (ss rest : List Statement) → walk (k ∷ o ∷ os) ss ≡ walk (j ∷ k ∷ o ∷ os) rest → FailsIn j rest → walk (k ∷ o ∷ os) ss ≡ Some (File ∷ []) → ⊥
enters_and j k o os ss rest e f w = f k (o ∷ os) (sym e ∙ w)

starts_is : (s : Read) → starts (next_statement s) ≡ begins_next (view_statement s ∷ [])
starts_is (read.Declaring d) = refl
starts_is (read.Executable (line.Action a)) = refl
starts_is (read.Executable (line.IfAction p condition a)) = refl
starts_is (read.Executable (line.IfThen p condition)) = refl
starts_is (read.Executable (line.ElseIf p w condition)) = refl
starts_is (read.Executable (line.Else p)) = refl
starts_is (read.Executable (line.Do p control)) = refl
starts_is (read.Executable (line.SelectCase p w selector)) = refl
starts_is (read.Executable (line.Case p choice.Default)) = refl
starts_is (read.Executable (line.Case p (choice.Ranges []))) = refl
starts_is (read.Executable (line.Case p (choice.Ranges (r ∷ rs)))) = refl
starts_is (read.Executable (line.SelectRank p renamed selector)) = refl
starts_is (read.Executable (line.Rank p rank.Default)) = refl
starts_is (read.Executable (line.Rank p (rank.Rank e))) = refl
starts_is (read.Executable (line.Rank p (rank.AssumedSize q))) = refl
starts_is (read.Executable (line.End p construct.If w)) = refl
starts_is (read.Executable (line.End p construct.Do w)) = refl
starts_is (read.Executable (line.End p construct.Select w)) = refl

begins_same : (s : Statement) (ss : List Statement) → begins_next (s ∷ []) ≡ begins_next (s ∷ ss)
begins_same (Executable l) ss = refl
begins_same (Declaring d) ss = refl

pub begins_is : (ss : List Read) → starts (next_of ss) ≡ false → begins_next (seen ss) ≡ false
unfolding next_of
begins_is [] e = refl
begins_is (s ∷ ss) e = sym (begins_same (view_statement s) (seen ss)) ∙ sym (starts_is s) ∙ e
