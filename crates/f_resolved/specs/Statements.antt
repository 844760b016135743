-- Statements each of whose numbers names a thing of the right kind (ISO/IEC 1539-1:2018, 9.7, 10.2, 11 and 12.6).
use Rattle.std.specs.Prelude.{ℕ, Bool, true, false, ◌&&◌, List, Option, Some, None, length, map, nat_eq, nat_le}
use Rattle.std.specs.List.{list_all}
use Rattle.f_resolved.specs.declared.check_kind.Row.{Row}
use Rattle.f_resolved.specs.declared.kind.DataType.{DataType}
use Rattle.f_resolved.specs.declared.kind.DataType.TheVariants as kind
use Rattle.f_resolved.specs.declared.kind.Declared.{Declared}
use Rattle.f_resolved.specs.declared.kind.Named.{Named}
use Rattle.f_resolved.specs.declared.kind.Scope.{Scope}
use Rattle.f_resolved.specs.declared.expression.Reference.{Reference}
use Rattle.f_resolved.specs.declared.program.FProgram.{FProgram}
use Rattle.f_resolved.specs.declared.statement.Allocate.{Allocate}
use Rattle.f_resolved.specs.declared.statement.Allocation.{Allocation}
use Rattle.f_resolved.specs.declared.statement.AllocationRange.{AllocationRange}
use Rattle.f_resolved.specs.declared.statement.Arm.{Arm}
use Rattle.f_resolved.specs.declared.statement.Assignment.{Assignment}
use Rattle.f_resolved.specs.declared.statement.Call.{Call}
use Rattle.f_resolved.specs.declared.statement.Case.{Case}
use Rattle.f_resolved.specs.declared.statement.Count.{Count}
use Rattle.f_resolved.specs.declared.statement.Deallocate.{Deallocate}
use Rattle.f_resolved.specs.declared.statement.Do.{Do}
use Rattle.f_resolved.specs.declared.statement.If.{If}
use Rattle.f_resolved.specs.declared.statement.LoopControl.{LoopControl}
use Rattle.f_resolved.specs.declared.statement.LoopControl.TheVariants as control
use Rattle.f_resolved.specs.declared.statement.PointerAssignment.{PointerAssignment}
use Rattle.f_resolved.specs.declared.statement.PointerObject.{PointerObject}
use Rattle.f_resolved.specs.declared.statement.PointerObject.TheVariants as object
use Rattle.f_resolved.specs.declared.statement.ProcedureAssignment.{ProcedureAssignment}
use Rattle.f_resolved.specs.declared.statement.RankCase.{RankCase}
use Rattle.f_resolved.specs.declared.statement.RankChoice.{RankChoice}
use Rattle.f_resolved.specs.declared.statement.RankChoice.TheVariants as choice
use Rattle.f_resolved.specs.declared.statement.Read.{Read}
use Rattle.f_resolved.specs.declared.statement.SelectCase.{SelectCase}
use Rattle.f_resolved.specs.declared.statement.SelectRank.{SelectRank}
use Rattle.f_resolved.specs.declared.statement.Statement.{Statement}
use Rattle.f_resolved.specs.declared.statement.Stop.{Stop}
use Rattle.f_resolved.specs.declared.statement.Executable.{Executable, fold-Executable}
use Rattle.f_resolved.specs.declared.statement.Executable.TheOpen as open_
use Rattle.f_resolved.specs.declared.statement.Executable.TheOpen.{Arm-F, Case-F, Do-F, Executable-F, If-F, RankCase-F, SelectCase-F, SelectRank-F, Statement-F}
use Rattle.f_resolved.specs.declared.statement.Executable.TheFolds.{fold-Arm, fold-Case, fold-Do, fold-If, fold-RankCase, fold-SelectCase, fold-SelectRank, fold-Statement}
use Rattle.f_resolved.specs.Lists.{all_of, of_any}
use Rattle.f_resolved.specs.Kinds.{callee_fits, is_there, named_row, names_variable, pointer_fits, row_at, variable_row}
use Rattle.f_resolved.specs.Expressions.{arguments_fit, expression_fits, expressions_fit, reference_fits}

-- 9.2: a variable or a part of one
abbrev pub target_fits : FProgram → Scope → Reference → Bool
target_fits p here r = reference_fits p here r true

abbrev pub targets_fit : FProgram → Scope → List Reference → Bool
targets_fit p here rs = list_all (λ r. target_fits p here r) rs

-- 10.2
abbrev pub assignment_fits : FProgram → Scope → Assignment → Bool
assignment_fits p here a = target_fits p here a.target && expression_fits p here a.value

abbrev pub pointer_assignment_fits : FProgram → Scope → PointerAssignment → Bool
pointer_assignment_fits p here a = target_fits p here a.pointer && expression_fits p here a.target

abbrev pub procedure_assignment_fits : FProgram → Scope → ProcedureAssignment → Bool
procedure_assignment_fits p here a = pointer_fits p here a.pointer && expression_fits p here a.target

-- 15.5.1
abbrev pub call_fits : FProgram → Scope → Call → Bool
call_fits p here c = callee_fits p here false c.callee && arguments_fit p here c.callee c.arguments

-- ---- allocation (9.7)

abbrev pub range_fits_in : FProgram → Scope → AllocationRange → Bool
range_fits_in p here r = of_any (expression_fits p here) r.lower && expression_fits p here r.upper

abbrev pub has_rank : Option ℕ → ℕ → Bool
has_rank None n = false
has_rank (Some r) n = nat_eq r n

abbrev pub row_has_rank : Option Row → ℕ → Bool
row_has_rank None n = false
row_has_rank (Some r) n = has_rank r.rank n

-- 9.7.1.1: a range stands for each dimension
abbrev pub allocation_fits : FProgram → Scope → Allocation → Bool
allocation_fits p here a = names_variable a.object && (row_has_rank (named_row p here a.object) (length a.ranges) && list_all (λ r. range_fits_in p here r) a.ranges)

abbrev pub allocate_fits : FProgram → Scope → Allocate → Bool
allocate_fits p here a = list_all (λ x. allocation_fits p here x) a.objects && of_any (target_fits p here) a.status

abbrev pub variable_fits : FProgram → Scope → Named → Bool
variable_fits p here x = names_variable x && is_there (named_row p here x)

abbrev pub deallocate_fits : FProgram → Scope → Deallocate → Bool
deallocate_fits p here d = list_all (λ x. variable_fits p here x) d.objects && of_any (target_fits p here) d.status

abbrev pub object_fits : FProgram → Scope → PointerObject → Bool
object_fits p here (object.Data x) = variable_fits p here x
object_fits p here (object.Procedure d) = pointer_fits p here d

abbrev pub objects_fit : FProgram → Scope → List PointerObject → Bool
objects_fit p here os = list_all (λ o. object_fits p here o) os

-- 12.6.1
abbrev pub read_fits : FProgram → Scope → Read → Bool
read_fits p here r = targets_fit p here r.targets && of_any (target_fits p here) r.status

-- ---- constructs (11.1)

abbrev pub is_integer : DataType → Bool
is_integer (kind.Integer w) = true
is_integer _ = false

abbrev pub counts : Option Row → Bool
counts None = false
counts (Some r) = is_integer r.kind && has_rank r.rank 0

-- 11.1.7.2: a DO variable is a scalar integer variable
abbrev pub count_fits : FProgram → Scope → Count → Bool
count_fits p here c = names_variable c.variable && (counts (named_row p here c.variable) && (expression_fits p here c.first && (expression_fits p here c.last && of_any (expression_fits p here) c.step)))

abbrev pub control_fits : FProgram → Scope → LoopControl → Bool
control_fits p here control.Endless = true
control_fits p here (control.Count c) = count_fits p here c
control_fits p here (control.While e) = expression_fits p here e

abbrev pub choice_fits : RankChoice → Bool
choice_fits choice.Default = true
choice_fits (choice.Rank r) = nat_le r 15
choice_fits choice.AssumedSize = true

abbrev pub has_no_rank : Option ℕ → Bool
has_no_rank None = true
has_no_rank (Some r) = false

abbrev pub is_assumed_rank : Option Row → Bool
is_assumed_rank None = false
is_assumed_rank (Some r) = has_no_rank r.rank

-- 11.1.10.2
abbrev pub selector_fits : FProgram → Scope → Declared → Bool
selector_fits p here d = is_assumed_rank (variable_row (row_at p here d))

abbrev pub executable_step : FProgram → Scope → Executable-F Bool Bool Bool Bool Bool Bool Bool Bool Bool → Bool
executable_step p here (open_.Assign a) = assignment_fits p here a
executable_step p here (open_.Associate a) = pointer_assignment_fits p here a
executable_step p here (open_.AssociateProcedure a) = procedure_assignment_fits p here a
executable_step p here (open_.Call c) = call_fits p here c
executable_step p here open_.Exit = true
executable_step p here open_.Cycle = true
executable_step p here open_.Return = true
executable_step p here (open_.Stop s) = of_any (expression_fits p here) s.code
executable_step p here (open_.Allocate a) = allocate_fits p here a
executable_step p here (open_.Deallocate d) = deallocate_fits p here d
executable_step p here (open_.Nullify os) = objects_fit p here os
executable_step p here (open_.Print es) = expressions_fit p here es
executable_step p here (open_.Read r) = read_fits p here r
executable_step p here (open_.If b) = b
executable_step p here (open_.Do b) = b
executable_step p here (open_.SelectCase b) = b
executable_step p here (open_.SelectRank b) = b

abbrev pub arm_step : FProgram → Scope → Arm-F Bool Bool Bool Bool Bool Bool Bool Bool Bool → Bool
arm_step p here a = expression_fits p here a.condition && all_of a.body

abbrev pub case_step : Case-F Bool Bool Bool Bool Bool Bool Bool Bool Bool → Bool
case_step c = all_of c.body

abbrev pub do_step : FProgram → Scope → Do-F Bool Bool Bool Bool Bool Bool Bool Bool Bool → Bool
do_step p here d = control_fits p here d.control && all_of d.body

abbrev pub if_step : If-F Bool Bool Bool Bool Bool Bool Bool Bool Bool → Bool
if_step i = i.first && (all_of i.others && of_any all_of i.otherwise)

abbrev pub rank_case_step : RankCase-F Bool Bool Bool Bool Bool Bool Bool Bool Bool → Bool
rank_case_step c = choice_fits c.choice && all_of c.body

abbrev pub select_case_step : FProgram → Scope → SelectCase-F Bool Bool Bool Bool Bool Bool Bool Bool Bool → Bool
select_case_step p here s = expression_fits p here s.selector && all_of s.cases

abbrev pub select_rank_step : FProgram → Scope → SelectRank-F Bool Bool Bool Bool Bool Bool Bool Bool Bool → Bool
select_rank_step p here s = selector_fits p here s.selector && all_of s.cases

abbrev pub statement_step : Statement-F Bool Bool Bool Bool Bool Bool Bool Bool Bool → Bool
statement_step s = s.form

abbrev pub executable_fits : FProgram → Scope → Executable → Bool
executable_fits p here = fold-Executable Bool Bool Bool Bool Bool Bool Bool Bool Bool (executable_step p here) (arm_step p here) case_step (do_step p here) if_step rank_case_step (select_case_step p here) (select_rank_step p here) statement_step

abbrev pub arm_fits : FProgram → Scope → Arm → Bool
arm_fits p here = fold-Arm Bool Bool Bool Bool Bool Bool Bool Bool Bool (executable_step p here) (arm_step p here) case_step (do_step p here) if_step rank_case_step (select_case_step p here) (select_rank_step p here) statement_step

abbrev pub case_fits : FProgram → Scope → Case → Bool
case_fits p here = fold-Case Bool Bool Bool Bool Bool Bool Bool Bool Bool (executable_step p here) (arm_step p here) case_step (do_step p here) if_step rank_case_step (select_case_step p here) (select_rank_step p here) statement_step

abbrev pub do_fits : FProgram → Scope → Do → Bool
do_fits p here = fold-Do Bool Bool Bool Bool Bool Bool Bool Bool Bool (executable_step p here) (arm_step p here) case_step (do_step p here) if_step rank_case_step (select_case_step p here) (select_rank_step p here) statement_step

abbrev pub if_fits : FProgram → Scope → If → Bool
if_fits p here = fold-If Bool Bool Bool Bool Bool Bool Bool Bool Bool (executable_step p here) (arm_step p here) case_step (do_step p here) if_step rank_case_step (select_case_step p here) (select_rank_step p here) statement_step

abbrev pub rank_case_fits : FProgram → Scope → RankCase → Bool
rank_case_fits p here = fold-RankCase Bool Bool Bool Bool Bool Bool Bool Bool Bool (executable_step p here) (arm_step p here) case_step (do_step p here) if_step rank_case_step (select_case_step p here) (select_rank_step p here) statement_step

abbrev pub select_case_fits : FProgram → Scope → SelectCase → Bool
select_case_fits p here = fold-SelectCase Bool Bool Bool Bool Bool Bool Bool Bool Bool (executable_step p here) (arm_step p here) case_step (do_step p here) if_step rank_case_step (select_case_step p here) (select_rank_step p here) statement_step

abbrev pub select_rank_fits : FProgram → Scope → SelectRank → Bool
select_rank_fits p here = fold-SelectRank Bool Bool Bool Bool Bool Bool Bool Bool Bool (executable_step p here) (arm_step p here) case_step (do_step p here) if_step rank_case_step (select_case_step p here) (select_rank_step p here) statement_step

abbrev pub statement_fits : FProgram → Scope → Statement → Bool
statement_fits p here = fold-Statement Bool Bool Bool Bool Bool Bool Bool Bool Bool (executable_step p here) (arm_step p here) case_step (do_step p here) if_step rank_case_step (select_case_step p here) (select_rank_step p here) statement_step

abbrev pub statements_fit : FProgram → Scope → List Statement → Bool
statements_fit p here ss = all_of (map (statement_fits p here) ss)
