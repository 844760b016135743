-- Trees whose tokens their views tell. The views keep no place, no empty list where the grammar has none, and no words that end nothing, so these are
-- the trees without such: no CHARACTER has empty parentheses (ISO/IEC 1539-1:2018, 7.4.4.2).
use Rattle.std.specs.Prelude.{List, [], ◌∷◌, Option, Some, None, Bool, true, false, ◌&&◌, map, is_none}
use Rattle.std.specs.Option.{option_map}
use Rattle.f_lex.specs.declared.token.Token.{Token}
use Rattle.f_tree.specs.declared.lexeme.Lexeme.{Lexeme}
use Rattle.f_tree.specs.declared.expression.Expression.{Expression}
use Rattle.f_tree.specs.declared.expression.Argument.TheOpen as open_
use Rattle.f_tree.specs.declared.expression.Argument.TheOpen.{Expression-F, Link-F, Reference-F, Part-F, Range-F, Argument-F, TypeSpec-F, KindSelector-F, CharacterParameter-F}
use Rattle.f_tree.specs.declared.expression.Argument.TheFolds.{fold-Expression, fold-Link, fold-Reference, fold-Part, fold-Range, fold-TypeSpec, fold-KindSelector, fold-CharacterParameter}
use Rattle.f_tree.specs.declared.expression.Link.{Link}
use Rattle.f_tree.specs.declared.expression.Reference.{Reference}
use Rattle.f_tree.specs.declared.expression.Part.{Part}
use Rattle.f_tree.specs.declared.expression.Range.{Range}
use Rattle.f_tree.specs.declared.expression.Argument.{Argument, fold-Argument}
use Rattle.f_tree.specs.declared.expression.TypeSpec.{TypeSpec}
use Rattle.f_tree.specs.declared.expression.KindSelector.{KindSelector}
use Rattle.f_tree.specs.declared.expression.CharacterParameter.{CharacterParameter}
use Rattle.f_tree.specs.declared.declaration.Ending.{Ending}
use Rattle.f_tree.specs.declared.name.Name.{Name}
use Rattle.f_tree.specs.declared.declaration.Dimension.{Dimension}
use Rattle.f_tree.specs.declared.declaration.Dimension.TheVariants as dimension_form
use Rattle.f_tree.specs.declared.declaration.AttributeForm.{AttributeForm}
use Rattle.f_tree.specs.declared.declaration.Attribute.{Attribute}
use Rattle.f_tree.specs.declared.declaration.Initial.{Initial}
use Rattle.f_tree.specs.declared.declaration.Entity.{Entity}
use Rattle.f_tree.specs.declared.declaration.Variables.{Variables}
use Rattle.f_tree.specs.declared.declaration.UseList.{UseList}
use Rattle.f_tree.specs.declared.declaration.Use.{Use}
use Rattle.f_tree.specs.declared.declaration.Field.{Field}
use Rattle.f_tree.specs.declared.declaration.Component.{Component}
use Rattle.f_tree.specs.declared.declaration.EndingForm.{EndingForm}
use Rattle.f_tree.specs.declared.declaration.DerivedType.{DerivedType}
use Rattle.f_tree.specs.declared.declaration.Interface.{Interface}
use Rattle.f_tree.specs.declared.declaration.InterfaceBody.{InterfaceBody}
use Rattle.f_tree.specs.declared.declaration.Specification.{Specification}
use Rattle.f_tree.specs.declared.declaration.AttributeForm.TheVariants as attribute_form
use Rattle.f_tree.specs.declared.declaration.Initial.TheVariants as initial
use Rattle.f_tree.specs.declared.declaration.UseList.TheVariants as uses
use Rattle.f_tree.specs.declared.declaration.EndingForm.TheVariants.{Bare, TwoWords, OneWord}
use Rattle.f_tree.specs.declared.declaration.Declaration.{Declaration, fold-Declaration}
use Rattle.f_tree.specs.declared.declaration.Declaration.TheOpen as declaration_form
use Rattle.f_tree.specs.declared.declaration.Declaration.TheOpen.{Declaration-F, Interface-F, InterfaceBody-F, Specification-F}
use Rattle.f_tree.specs.declared.declaration.Declaration.TheFolds.{fold-Interface, fold-InterfaceBody, fold-Specification}
use Rattle.f_tree.specs.declared.unit.Prefix.{Prefix}
use Rattle.f_tree.specs.declared.unit.Head.{Head}
use Rattle.f_tree.specs.declared.unit.Procedure.{Procedure}
use Rattle.f_tree.specs.declared.unit.Program.{Program}
use Rattle.f_tree.specs.declared.unit.Module.{Module}
use Rattle.f_tree.specs.declared.unit.Prefix.TheVariants as prefix_form
use Rattle.f_tree.specs.declared.unit.Unit.{Unit as ProgramUnit}
use Rattle.f_tree.specs.declared.unit.Unit.TheVariants as unit_form
use Rattle.f_tree.specs.declared.statement.Action.{Action}
use Rattle.f_tree.specs.declared.statement.Action.TheVariants as action
use Rattle.f_tree.specs.declared.statement.LoopControl.{LoopControl}
use Rattle.f_tree.specs.declared.statement.LoopControl.TheVariants as control
use Rattle.f_tree.specs.declared.statement.CaseRange.{CaseRange}
use Rattle.f_tree.specs.declared.statement.CaseRange.TheVariants as case_range
use Rattle.f_tree.specs.declared.statement.CaseChoice.{CaseChoice}
use Rattle.f_tree.specs.declared.statement.CaseChoice.TheVariants as choice
use Rattle.f_tree.specs.declared.statement.RankChoice.{RankChoice}
use Rattle.f_tree.specs.declared.statement.RankChoice.TheVariants as rank
use Rattle.f_tree.specs.declared.statement.Statement.{Statement as Construct, fold-Statement}
use Rattle.f_tree.specs.declared.statement.Statement.TheOpen as statement_form
use Rattle.f_tree.specs.declared.statement.Statement.TheOpen.{Statement-F, Case-F, DoConstruct-F, Else-F, ElseIf-F, IfConstruct-F, RankCase-F, SelectCase-F, SelectRank-F}
use Rattle.f_tree.specs.declared.statement.Statement.TheFolds.{fold-Case, fold-DoConstruct, fold-Else, fold-ElseIf, fold-IfConstruct, fold-RankCase, fold-SelectCase, fold-SelectRank}
use Rattle.f_tree.specs.declared.statement.Case.{Case}
use Rattle.f_tree.specs.declared.statement.DoConstruct.{DoConstruct}
use Rattle.f_tree.specs.declared.statement.Else.{Else}
use Rattle.f_tree.specs.declared.statement.ElseIf.{ElseIf}
use Rattle.f_tree.specs.declared.statement.IfConstruct.{IfConstruct}
use Rattle.f_tree.specs.declared.statement.RankCase.{RankCase}
use Rattle.f_tree.specs.declared.statement.SelectCase.{SelectCase}
use Rattle.f_tree.specs.declared.statement.SelectRank.{SelectRank}

-- the tokens of lexemes, without their places
abbrev pub tokens_of : List Lexeme → List Token
tokens_of ts = map (λ t. t.token) ts

-- ---- parts

abbrev pub all : List Bool → Bool
all [] = true
all (b ∷ bs) = b && all bs

-- where it is there
abbrev pub maybe : Option Bool → Bool
maybe None = true
maybe (Some b) = b

abbrev pub maybe_all : Option (List Bool) → Bool
maybe_all None = true
maybe_all (Some bs) = all bs

-- there is one, and all are told
abbrev pub some_all : List Bool → Bool
some_all [] = false
some_all (b ∷ bs) = b && all bs

abbrev pub maybe_some_all : Option (List Bool) → Bool
maybe_some_all None = true
maybe_some_all (Some bs) = some_all bs

-- ---- expressions, references and types

abbrev pub expression_told : Expression-F Bool Bool Bool Bool Bool Bool Bool Bool Bool → Bool
expression_told (open_.Number digits k p) = true
expression_told (open_.Truth value k p) = true
expression_told (open_.Text bytes k p) = true
expression_told (open_.Reference r) = r
expression_told (open_.Parenthesized p inner) = inner
expression_told (open_.Constructor p declared items) = maybe declared && all items
expression_told (open_.Chain level sign first links) = first && all links

abbrev pub link_told : Link-F Bool Bool Bool Bool Bool Bool Bool Bool Bool → Bool
link_told l = l.operand

abbrev pub reference_told : Reference-F Bool Bool Bool Bool Bool Bool Bool Bool Bool → Bool
reference_told r = r.first && all r.others

abbrev pub part_told : Part-F Bool Bool Bool Bool Bool Bool Bool Bool Bool → Bool
part_told p = maybe_all p.arguments && maybe p.substring

abbrev pub range_told : Range-F Bool Bool Bool Bool Bool Bool Bool Bool Bool → Bool
range_told r = maybe r.lower && maybe r.upper

abbrev pub argument_told : Argument-F Bool Bool Bool Bool Bool Bool Bool Bool Bool → Bool
argument_told (open_.Value keyword value) = value
argument_told (open_.Section lower p upper stride) = maybe lower && (maybe upper && maybe stride)
argument_told (open_.Strided lower p stride) = maybe lower && stride

abbrev pub type_told : TypeSpec-F Bool Bool Bool Bool Bool Bool Bool Bool Bool → Bool
type_told (open_.Integer p k) = maybe k
type_told (open_.Logical p k) = maybe k
type_told (open_.Character p ps) = maybe_some_all ps
type_told (open_.Derived p name) = true
type_told (open_.Assumed p) = true

abbrev pub kind_told : KindSelector-F Bool Bool Bool Bool Bool Bool Bool Bool Bool → Bool
kind_told k = k.value

abbrev pub parameter_told : CharacterParameter-F Bool Bool Bool Bool Bool Bool Bool Bool Bool → Bool
parameter_told (open_.Length word value) = value
parameter_told (open_.AssumedLength word p) = true
parameter_told (open_.Kind word value) = value

abbrev pub is_told : Expression → Bool
is_told = fold-Expression Bool Bool Bool Bool Bool Bool Bool Bool Bool argument_told parameter_told expression_told type_told kind_told link_told part_told range_told reference_told

abbrev pub link_is_told : Link → Bool
link_is_told = fold-Link Bool Bool Bool Bool Bool Bool Bool Bool Bool argument_told parameter_told expression_told type_told kind_told link_told part_told range_told reference_told

abbrev pub reference_is_told : Reference → Bool
reference_is_told = fold-Reference Bool Bool Bool Bool Bool Bool Bool Bool Bool argument_told parameter_told expression_told type_told kind_told link_told part_told range_told reference_told

abbrev pub part_is_told : Part → Bool
part_is_told = fold-Part Bool Bool Bool Bool Bool Bool Bool Bool Bool argument_told parameter_told expression_told type_told kind_told link_told part_told range_told reference_told

abbrev pub range_is_told : Range → Bool
range_is_told = fold-Range Bool Bool Bool Bool Bool Bool Bool Bool Bool argument_told parameter_told expression_told type_told kind_told link_told part_told range_told reference_told

abbrev pub argument_is_told : Argument → Bool
argument_is_told = fold-Argument Bool Bool Bool Bool Bool Bool Bool Bool Bool argument_told parameter_told expression_told type_told kind_told link_told part_told range_told reference_told

abbrev pub type_is_told : TypeSpec → Bool
type_is_told = fold-TypeSpec Bool Bool Bool Bool Bool Bool Bool Bool Bool argument_told parameter_told expression_told type_told kind_told link_told part_told range_told reference_told

abbrev pub kind_is_told : KindSelector → Bool
kind_is_told = fold-KindSelector Bool Bool Bool Bool Bool Bool Bool Bool Bool argument_told parameter_told expression_told type_told kind_told link_told part_told range_told reference_told

abbrev pub parameter_is_told : CharacterParameter → Bool
parameter_is_told = fold-CharacterParameter Bool Bool Bool Bool Bool Bool Bool Bool Bool argument_told parameter_told expression_told type_told kind_told link_told part_told range_told reference_told

-- ---- action statements: some objects, targets and so on are there (9.7.1 to 9.7.3 and 12.6.1)

abbrev pub maybe_told : Option Expression → Bool
maybe_told e = maybe (option_map is_told e)

abbrev pub status_told : Option Reference → Bool
status_told r = maybe (option_map reference_is_told r)

abbrev pub references_told : List Reference → Bool
references_told rs = some_all (map reference_is_told rs)

abbrev pub action_told : Action → Bool
action_told (action.Assign target value) = reference_is_told target && is_told value
action_told (action.Associate target value) = reference_is_told target && is_told value
action_told (action.Call p name arguments) = maybe_all (option_map (map argument_is_told) arguments)
action_told (action.Exit p) = true
action_told (action.Cycle p) = true
action_told (action.Return p) = true
action_told (action.Stop p is_error code) = maybe_told code
action_told (action.Allocate p objects stat) = references_told objects && status_told stat
action_told (action.Deallocate p objects stat) = references_told objects && status_told stat
action_told (action.Nullify p objects) = references_told objects
action_told (action.Print p items) = all (map is_told items)
action_told (action.Read p targets) = references_told targets
action_told (action.ReadUnit p stat targets) = status_told stat && references_told targets

-- ---- statements that begin, divide and end constructs: no CASE has empty parentheses (11.1.9.1), and no name stands behind the end

abbrev pub control_told : LoopControl → Bool
control_told control.Endless = true
control_told (control.Count comma v first last step) = is_told first && (is_told last && maybe_told step)
control_told (control.While comma condition) = is_told condition

abbrev pub values_told : CaseRange → Bool
values_told (case_range.Value e) = is_told e
values_told (case_range.From lower upper) = is_told lower && maybe_told upper
values_told (case_range.UpTo p upper) = is_told upper

abbrev pub choice_told : CaseChoice → Bool
choice_told choice.Default = true
choice_told (choice.Ranges rs) = some_all (map values_told rs)

abbrev pub rank_told : RankChoice → Bool
rank_told rank.Default = true
rank_told (rank.Rank e) = is_told e
rank_told (rank.AssumedSize p) = true

abbrev pub construct_end_told : Ending → Bool
construct_end_told e = is_none e.name

-- ---- constructs

abbrev pub construct_told : Statement-F Bool Bool Bool Bool Bool Bool Bool Bool Bool → Bool
construct_told (statement_form.Action a) = action_told a
construct_told (statement_form.IfAction p condition a) = is_told condition && action_told a
construct_told (statement_form.If c) = c
construct_told (statement_form.Do c) = c
construct_told (statement_form.SelectCase c) = c
construct_told (statement_form.SelectRank c) = c

abbrev pub if_told : IfConstruct-F Bool Bool Bool Bool Bool Bool Bool Bool Bool → Bool
if_told c = is_told c.condition && (all c.body && (all c.else_ifs && (maybe c.otherwise && construct_end_told c.ending)))

abbrev pub else_if_told : ElseIf-F Bool Bool Bool Bool Bool Bool Bool Bool Bool → Bool
else_if_told c = is_told c.condition && all c.body

abbrev pub else_told : Else-F Bool Bool Bool Bool Bool Bool Bool Bool Bool → Bool
else_told c = all c.body

abbrev pub do_told : DoConstruct-F Bool Bool Bool Bool Bool Bool Bool Bool Bool → Bool
do_told c = control_told c.control && (all c.body && construct_end_told c.ending)

abbrev pub select_told : SelectCase-F Bool Bool Bool Bool Bool Bool Bool Bool Bool → Bool
select_told c = is_told c.selector && (all c.cases && construct_end_told c.ending)

abbrev pub case_told : Case-F Bool Bool Bool Bool Bool Bool Bool Bool Bool → Bool
case_told c = choice_told c.choice && all c.body

abbrev pub select_rank_told : SelectRank-F Bool Bool Bool Bool Bool Bool Bool Bool Bool → Bool
select_rank_told c = all c.ranks && construct_end_told c.ending

abbrev pub rank_part_told : RankCase-F Bool Bool Bool Bool Bool Bool Bool Bool Bool → Bool
rank_part_told c = rank_told c.choice && all c.body

abbrev pub construct_is_told : Construct → Bool
construct_is_told = fold-Statement Bool Bool Bool Bool Bool Bool Bool Bool Bool construct_told case_told do_told else_told else_if_told if_told rank_part_told select_told select_rank_told

abbrev pub case_is_told : Case → Bool
case_is_told = fold-Case Bool Bool Bool Bool Bool Bool Bool Bool Bool construct_told case_told do_told else_told else_if_told if_told rank_part_told select_told select_rank_told

abbrev pub do_is_told : DoConstruct → Bool
do_is_told = fold-DoConstruct Bool Bool Bool Bool Bool Bool Bool Bool Bool construct_told case_told do_told else_told else_if_told if_told rank_part_told select_told select_rank_told

abbrev pub else_is_told : Else → Bool
else_is_told = fold-Else Bool Bool Bool Bool Bool Bool Bool Bool Bool construct_told case_told do_told else_told else_if_told if_told rank_part_told select_told select_rank_told

abbrev pub else_if_is_told : ElseIf → Bool
else_if_is_told = fold-ElseIf Bool Bool Bool Bool Bool Bool Bool Bool Bool construct_told case_told do_told else_told else_if_told if_told rank_part_told select_told select_rank_told

abbrev pub if_is_told : IfConstruct → Bool
if_is_told = fold-IfConstruct Bool Bool Bool Bool Bool Bool Bool Bool Bool construct_told case_told do_told else_told else_if_told if_told rank_part_told select_told select_rank_told

abbrev pub rank_is_told : RankCase → Bool
rank_is_told = fold-RankCase Bool Bool Bool Bool Bool Bool Bool Bool Bool construct_told case_told do_told else_told else_if_told if_told rank_part_told select_told select_rank_told

abbrev pub select_is_told : SelectCase → Bool
select_is_told = fold-SelectCase Bool Bool Bool Bool Bool Bool Bool Bool Bool construct_told case_told do_told else_told else_if_told if_told rank_part_told select_told select_rank_told

abbrev pub select_rank_is_told : SelectRank → Bool
select_rank_is_told = fold-SelectRank Bool Bool Bool Bool Bool Bool Bool Bool Bool construct_told case_told do_told else_told else_if_told if_told rank_part_told select_told select_rank_told

-- ---- declarations: a list of renamed names isn't empty (14.2.2), and END alone has no name behind it

abbrev pub dimension_told : Dimension → Bool
dimension_told (dimension_form.Upper e) = is_told e
dimension_told (dimension_form.Bounds low high) = is_told low && is_told high
dimension_told (dimension_form.Deferred lower p) = maybe_told lower
dimension_told (dimension_form.AssumedSize lower p) = maybe_told lower
dimension_told (dimension_form.AssumedRank p) = true

abbrev pub dimensions_told : List Dimension → Bool
dimensions_told ds = all (map dimension_told ds)

abbrev pub maybe_dimensions_told : Option (List Dimension) → Bool
maybe_dimensions_told ds = maybe (option_map dimensions_told ds)

abbrev pub form_told : AttributeForm → Bool
form_told (attribute_form.Dimension ds) = dimensions_told ds
form_told _ = true

abbrev pub attribute_told : Attribute → Bool
attribute_told a = form_told a.form

abbrev pub initial_told : Initial → Bool
initial_told (initial.Value e) = is_told e
initial_told (initial.Null p) = true

abbrev pub entity_told : Entity → Bool
entity_told e = maybe_dimensions_told e.dimensions && maybe (option_map initial_told e.initial)

abbrev pub variables_told : Variables → Bool
variables_told v = type_is_told v.declared && (all (map attribute_told v.attributes) && all (map entity_told v.entities))

abbrev pub list_told : UseList → Bool
list_told uses.All = true
list_told (uses.Renamed []) = false
list_told (uses.Renamed (r ∷ rs)) = true
list_told (uses.Only os) = true

abbrev pub use_told : Use → Bool
use_told u = list_told u.list

abbrev pub prefix_told : Prefix → Bool
prefix_told (prefix_form.Recursive p) = true
prefix_told (prefix_form.Type t) = type_is_told t

abbrev pub head_told : Head → Bool
head_told h = all (map prefix_told h.prefixes)

abbrev pub field_told : Field → Bool
field_told f = maybe_dimensions_told f.dimensions

abbrev pub component_told : Component → Bool
component_told c = type_is_told c.declared && (maybe_dimensions_told c.dimensions && all (map field_told c.fields))

abbrev pub words_told : EndingForm → Option Name → Bool
words_told Bare None = true
words_told Bare (Some n) = false
words_told TwoWords name = true
words_told OneWord name = true

abbrev pub unit_end_told : Ending → Bool
unit_end_told e = words_told e.form e.name

abbrev pub derived_type_told : DerivedType → Bool
derived_type_told t = all (map component_told t.components) && unit_end_told t.ending

abbrev pub declaration_told : Declaration-F Bool Bool Bool Bool → Bool
declaration_told (declaration_form.Variables v) = variables_told v
declaration_told (declaration_form.DerivedType t) = derived_type_told t
declaration_told (declaration_form.Interface i) = i
declaration_told (declaration_form.Access a) = true
declaration_told (declaration_form.Save p) = true
declaration_told (declaration_form.ProcedurePointers p) = true

abbrev pub interface_told : Interface-F Bool Bool Bool Bool → Bool
interface_told i = all i.bodies && unit_end_told i.ending

abbrev pub body_told : InterfaceBody-F Bool Bool Bool Bool → Bool
body_told b = head_told b.head && (b.specification && unit_end_told b.ending)

abbrev pub specification_told : Specification-F Bool Bool Bool Bool → Bool
specification_told s = all (map use_told s.uses) && all s.declarations

abbrev pub declaration_is_told : Declaration → Bool
declaration_is_told = fold-Declaration Bool Bool Bool Bool declaration_told interface_told body_told specification_told

abbrev pub interface_is_told : Interface → Bool
interface_is_told = fold-Interface Bool Bool Bool Bool declaration_told interface_told body_told specification_told

abbrev pub body_is_told : InterfaceBody → Bool
body_is_told = fold-InterfaceBody Bool Bool Bool Bool declaration_told interface_told body_told specification_told

abbrev pub specification_is_told : Specification → Bool
specification_is_told = fold-Specification Bool Bool Bool Bool declaration_told interface_told body_told specification_told

-- ---- units

abbrev pub procedure_told : Procedure → Bool
procedure_told p = head_told p.head && (specification_is_told p.specification && (all (map construct_is_told p.body) && unit_end_told p.ending))

abbrev pub program_told : Program → Bool
program_told p = specification_is_told p.specification && (all (map construct_is_told p.body) && unit_end_told p.ending)

abbrev pub procedures_told : List Procedure → Bool
procedures_told ps = all (map procedure_told ps)

abbrev pub module_told : Module → Bool
module_told m = specification_is_told m.specification && (maybe (option_map procedures_told m.procedures) && unit_end_told m.ending)

-- the view of a unit tells its tokens
abbrev pub unit_told : ProgramUnit → Bool
unit_told (unit_form.Program p) = program_told p
unit_told (unit_form.Module m) = module_told m
unit_told (unit_form.Procedure p) = procedure_told p
