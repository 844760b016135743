-- Units in which no CHARACTER has empty parentheses (ISO/IEC 1539-1:2018, 7.4.4.2).
use Rattle.std.specs.Prelude.{List, Bool, true, ◌&&◌, map}
use Rattle.std.specs.Option.{option_map}
use Rattle.f_tree.specs.declared.expression.Reference.{Reference}
use Rattle.f_tree.specs.declared.statement.Action.{Action}
use Rattle.f_tree.specs.declared.statement.Action.TheVariants as action
use Rattle.f_tree.specs.declared.statement.CaseChoice.{CaseChoice}
use Rattle.f_tree.specs.declared.statement.CaseChoice.TheVariants as choice
use Rattle.f_tree.specs.declared.statement.Statement.{Statement as Construct, fold-Statement}
use Rattle.f_tree.specs.declared.statement.Statement.TheOpen as open_
use Rattle.f_tree.specs.declared.statement.Statement.TheOpen.{Statement-F, Case-F, DoConstruct-F, Else-F, ElseIf-F, IfConstruct-F, RankCase-F, SelectCase-F, SelectRank-F}
use Rattle.f_tree.specs.declared.declaration.DerivedType.{DerivedType}
use Rattle.f_tree.specs.declared.declaration.Declaration.TheOpen as declaration_form
use Rattle.f_tree.specs.declared.declaration.Declaration.TheOpen.{Declaration-F, Interface-F, InterfaceBody-F, Specification-F}
use Rattle.f_tree.specs.declared.declaration.Declaration.TheFolds.{fold-Specification}
use Rattle.f_tree.specs.declared.declaration.Specification.{Specification}
use Rattle.f_tree.specs.declared.unit.Procedure.{Procedure}
use Rattle.f_tree.specs.declared.unit.Unit.{Unit as ProgramUnit}
use Rattle.f_tree.specs.declared.unit.Unit.TheVariants as unit_form
use Rattle.f_spelling_laws.specs.Told.{all, maybe, maybe_all, maybe_told, status_told, is_told, reference_is_told, argument_is_told, control_told, values_told, rank_told, component_told, variables_told, head_told}

abbrev pub references_plain : List Reference → Bool
references_plain rs = all (map reference_is_told rs)

abbrev pub action_plain : Action → Bool
action_plain (action.Assign target value) = reference_is_told target && is_told value
action_plain (action.Associate target value) = reference_is_told target && is_told value
action_plain (action.Call p name arguments) = maybe_all (option_map (map argument_is_told) arguments)
action_plain (action.Exit p) = true
action_plain (action.Cycle p) = true
action_plain (action.Return p) = true
action_plain (action.Stop p is_error code) = maybe_told code
action_plain (action.Allocate p objects stat) = references_plain objects && status_told stat
action_plain (action.Deallocate p objects stat) = references_plain objects && status_told stat
action_plain (action.Nullify p objects) = references_plain objects
action_plain (action.Print p items) = all (map is_told items)
action_plain (action.Read p targets) = references_plain targets
action_plain (action.ReadUnit p stat targets) = status_told stat && references_plain targets

abbrev pub choice_plain : CaseChoice → Bool
choice_plain choice.Default = true
choice_plain (choice.Ranges rs) = all (map values_told rs)

-- ---- constructs

abbrev pub statement_plain : Statement-F Bool Bool Bool Bool Bool Bool Bool Bool Bool → Bool
statement_plain (open_.Action a) = action_plain a
statement_plain (open_.IfAction p condition a) = is_told condition && action_plain a
statement_plain (open_.If c) = c
statement_plain (open_.Do c) = c
statement_plain (open_.SelectCase c) = c
statement_plain (open_.SelectRank c) = c

abbrev pub if_plain : IfConstruct-F Bool Bool Bool Bool Bool Bool Bool Bool Bool → Bool
if_plain c = is_told c.condition && (all c.body && (all c.else_ifs && maybe c.otherwise))

abbrev pub else_if_plain : ElseIf-F Bool Bool Bool Bool Bool Bool Bool Bool Bool → Bool
else_if_plain c = is_told c.condition && all c.body

abbrev pub else_plain : Else-F Bool Bool Bool Bool Bool Bool Bool Bool Bool → Bool
else_plain c = all c.body

abbrev pub do_plain : DoConstruct-F Bool Bool Bool Bool Bool Bool Bool Bool Bool → Bool
do_plain c = control_told c.control && all c.body

abbrev pub select_plain : SelectCase-F Bool Bool Bool Bool Bool Bool Bool Bool Bool → Bool
select_plain c = is_told c.selector && all c.cases

abbrev pub case_plain : Case-F Bool Bool Bool Bool Bool Bool Bool Bool Bool → Bool
case_plain c = choice_plain c.choice && all c.body

abbrev pub select_rank_plain : SelectRank-F Bool Bool Bool Bool Bool Bool Bool Bool Bool → Bool
select_rank_plain c = all c.ranks

abbrev pub rank_plain : RankCase-F Bool Bool Bool Bool Bool Bool Bool Bool Bool → Bool
rank_plain c = rank_told c.choice && all c.body

abbrev pub construct_is_plain : Construct → Bool
construct_is_plain = fold-Statement Bool Bool Bool Bool Bool Bool Bool Bool Bool statement_plain case_plain do_plain else_plain else_if_plain if_plain rank_plain select_plain select_rank_plain

-- ---- specifications and units

abbrev pub derived_type_plain : DerivedType → Bool
derived_type_plain t = all (map component_told t.components)

abbrev pub declaration_plain : Declaration-F Bool Bool Bool Bool → Bool
declaration_plain (declaration_form.Variables v) = variables_told v
declaration_plain (declaration_form.DerivedType t) = derived_type_plain t
declaration_plain (declaration_form.Interface i) = i
declaration_plain (declaration_form.Access a) = true
declaration_plain (declaration_form.Save p) = true
declaration_plain (declaration_form.ProcedurePointers p) = true

abbrev pub interface_plain : Interface-F Bool Bool Bool Bool → Bool
interface_plain i = all i.bodies

abbrev pub body_plain : InterfaceBody-F Bool Bool Bool Bool → Bool
body_plain b = head_told b.head && b.specification

abbrev pub specification_plain : Specification-F Bool Bool Bool Bool → Bool
specification_plain s = all s.declarations

abbrev pub specification_is_plain : Specification → Bool
specification_is_plain = fold-Specification Bool Bool Bool Bool declaration_plain interface_plain body_plain specification_plain

abbrev pub procedure_is_plain : Procedure → Bool
procedure_is_plain p = head_told p.head && (specification_is_plain p.specification && all (map construct_is_plain p.body))

abbrev pub procedures_plain : List Procedure → Bool
procedures_plain ps = all (map procedure_is_plain ps)

abbrev pub unit_is_plain : ProgramUnit → Bool
unit_is_plain (unit_form.Program p) = specification_is_plain p.specification && all (map construct_is_plain p.body)
unit_is_plain (unit_form.Module m) = specification_is_plain m.specification && maybe (option_map procedures_plain m.procedures)
unit_is_plain (unit_form.Procedure p) = procedure_is_plain p
