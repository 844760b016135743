-- The statements of trees of program units and of what is declared in them, in the order of the text, each tree in front of a rest (ISO/IEC 1539-1:2018,
-- 5.1 to 5.3).
use Rattle.std.specs.Prelude.{ℕ, List, [], ◌∷◌, Option, Some, None, Bool, true, false, map}
use Rattle.std.specs.Option.{option_map}
use Rattle.jf_base.specs.declared.place.Place.{Place}
use Rattle.f_tree.specs.declared.name.Name.{Name}
use Rattle.f_tree.specs.declared.unit.ProcedureKind.{ProcedureKind}
use Rattle.f_tree.specs.declared.unit.ProcedureKind.TheVariants.{Subroutine, Function}
use Rattle.f_tree.specs.declared.unit.Head.{Head}
use Rattle.f_tree.specs.declared.unit.Procedure.{Procedure}
use Rattle.f_tree.specs.declared.unit.Program.{Program}
use Rattle.f_tree.specs.declared.unit.Module.{Module}
use Rattle.f_tree.specs.declared.unit.Unit.{Unit as ProgramUnit}
use Rattle.f_tree.specs.declared.unit.Unit.TheVariants as unit_form
use Rattle.f_tree.specs.declared.declaration.Ending.{Ending}
use Rattle.f_tree.specs.declared.declaration.EndingForm.{EndingForm}
use Rattle.f_tree.specs.declared.declaration.EndingForm.TheVariants.{Bare, TwoWords, OneWord}
use Rattle.f_tree.specs.declared.declaration.Dimension.{Dimension}
use Rattle.f_tree.specs.declared.declaration.Variables.{Variables}
use Rattle.f_tree.specs.declared.declaration.Use.{Use}
use Rattle.f_tree.specs.declared.declaration.Import.{Import}
use Rattle.f_tree.specs.declared.declaration.TypeAttribute.{TypeAttribute}
use Rattle.f_tree.specs.declared.declaration.DerivedType.{DerivedType}
use Rattle.f_tree.specs.declared.declaration.Component.{Component}
use Rattle.f_tree.specs.declared.declaration.Field.{Field}
use Rattle.f_tree.specs.declared.declaration.AccessStatement.{AccessStatement}
use Rattle.f_tree.specs.declared.declaration.ProcedurePointers.{ProcedurePointers}
use Rattle.f_tree.specs.declared.declaration.Declaration.{Declaration, fold-Declaration}
use Rattle.f_tree.specs.declared.declaration.Declaration.TheOpen as open_
use Rattle.f_tree.specs.declared.declaration.Declaration.TheOpen.{Declaration-F, Interface-F, InterfaceBody-F, Specification-F}
use Rattle.f_tree.specs.declared.declaration.Declaration.TheFolds.{fold-Interface, fold-InterfaceBody, fold-Specification}
use Rattle.f_tree.specs.declared.declaration.Interface.{Interface}
use Rattle.f_tree.specs.declared.declaration.InterfaceBody.{InterfaceBody}
use Rattle.f_tree.specs.declared.declaration.Specification.{Specification}
use Rattle.f_line_grammar.specs.Lines as line
use Rattle.f_declaration_grammar.specs.Declarations as grammar
use Rattle.f_statement_grammar.specs.Statements.{Statement, Executable, Declaring}
use Rattle.f_expr_read.specs.Views.{view_type}
use Rattle.f_declared.specs.Views.{view_name, view_dimension, view_dimensions, view_head, view_use, view_import, view_variables, view_type_attribute, view_access_statement, view_procedure_pointers}
use Rattle.f_construct_parts.specs.Lines.{Front, each, optional, blocks_of}

-- ---- single statements

unfoldable pub use_line : Use → Statement
use_line u = Declaring (view_use u)

unfoldable pub import_line : Import → Statement
import_line i = Declaring (view_import i)

abbrev pub implicit_line : Statement
implicit_line = Declaring grammar.ImplicitNone

unfoldable pub variables_line : Variables → Statement
variables_line v = Declaring (view_variables v)

unfoldable pub access_line : AccessStatement → Statement
access_line a = Declaring (view_access_statement a)

abbrev pub save_line : Statement
save_line = Declaring grammar.SaveAll

unfoldable pub pointers_line : ProcedurePointers → Statement
pointers_line p = Declaring (view_procedure_pointers p)

unfoldable pub type_line : List TypeAttribute → Bool → Name → Statement
type_line attributes has_colons name = Declaring (grammar.TypeStart (map view_type_attribute attributes) has_colons name.bytes)

abbrev pub interface_line : Bool → Statement
interface_line is_abstract = Declaring (grammar.InterfaceStart is_abstract)

unfoldable pub head_line : Head → Statement
head_line h = Declaring (view_head h)

abbrev pub program_line : Name → Statement
program_line name = Declaring (grammar.Program name.bytes)

abbrev pub module_line : Name → Statement
module_line name = Declaring (grammar.Module name.bytes)

abbrev pub contains_line : Statement
contains_line = Declaring grammar.Contains

-- a statement that declares components has `::`, no attribute but DIMENSION and no value (7.5.4)
abbrev pub dimension_of : Option (List Dimension) → List grammar.Attr
dimension_of None = []
dimension_of (Some dims) = grammar.Dimension (map view_dimension dims) ∷ []

abbrev pub view_field : Field → grammar.Entity
view_field f = grammar.entity f.name.bytes (view_dimensions f.dimensions) grammar.NoInitial

unfoldable pub component_line : Component → Statement
component_line c = Declaring (grammar.Variables (view_type c.declared) (dimension_of c.dimensions) true (map view_field c.fields))

-- the words that end something; END alone with a name behind it ends no unit, as END IF does
abbrev pub ended : grammar.Ended → EndingForm → Option Name → Statement
ended what OneWord name = Declaring (grammar.EndOf what true (option_map view_name name))
ended what TwoWords name = Declaring (grammar.EndOf what false (option_map view_name name))
ended what Bare None = Declaring grammar.End
ended what Bare (Some name) = Executable (line.End line.If false)

unfoldable pub end_line : grammar.Ended → Ending → Statement
end_line what e = ended what e.form e.name

abbrev pub word_of : ProcedureKind → grammar.Ended
word_of Subroutine = grammar.OfSubroutine
word_of Function = grammar.OfFunction

-- ---- declarations

abbrev pub use_lines : Use → Front
use_lines u rest = use_line u ∷ rest

abbrev pub uses_of : List Use → Front
uses_of us = each (map use_lines us)

abbrev pub import_lines : Import → Front
import_lines i rest = import_line i ∷ rest

abbrev pub implicit_lines : Place → Front
implicit_lines p rest = implicit_line ∷ rest

abbrev pub component_lines : Component → Front
component_lines c rest = component_line c ∷ rest

abbrev pub components_of : List Component → Front
components_of cs = each (map component_lines cs)

unfoldable pub derived_type_lines : DerivedType → Front
derived_type_lines t rest = type_line t.attributes t.has_colons t.name ∷ components_of t.components (end_line grammar.OfType t.ending ∷ rest)

abbrev pub declaration_step : Declaration-F Front Front Front Front → Front
declaration_step (open_.Variables v) rest = variables_line v ∷ rest
declaration_step (open_.DerivedType t) rest = derived_type_lines t rest
declaration_step (open_.Interface i) rest = i rest
declaration_step (open_.Access a) rest = access_line a ∷ rest
declaration_step (open_.Save p) rest = save_line ∷ rest
declaration_step (open_.ProcedurePointers p) rest = pointers_line p ∷ rest

abbrev pub interface_step : Interface-F Front Front Front Front → Front
interface_step i rest = interface_line i.is_abstract ∷ each i.bodies (end_line grammar.OfInterface i.ending ∷ rest)

abbrev pub body_step : InterfaceBody-F Front Front Front Front → Front
body_step b rest = head_line b.head ∷ b.specification (end_line (word_of b.head.kind) b.ending ∷ rest)

abbrev pub specification_step : Specification-F Front Front Front Front → Front
specification_step s rest = uses_of s.uses (optional (option_map import_lines s.import) (optional (option_map implicit_lines s.implicit_none) (each s.declarations rest)))

abbrev pub declaration_lines : Declaration → Front
declaration_lines = fold-Declaration Front Front Front Front declaration_step interface_step body_step specification_step

abbrev pub interface_lines : Interface → Front
interface_lines = fold-Interface Front Front Front Front declaration_step interface_step body_step specification_step

abbrev pub body_lines : InterfaceBody → Front
body_lines = fold-InterfaceBody Front Front Front Front declaration_step interface_step body_step specification_step

abbrev pub specification_lines : Specification → Front
specification_lines = fold-Specification Front Front Front Front declaration_step interface_step body_step specification_step

abbrev pub declarations_of : List Declaration → Front
declarations_of ds = each (map declaration_lines ds)

abbrev pub bodies_of : List InterfaceBody → Front
bodies_of bs = each (map body_lines bs)

-- ---- units

unfoldable pub procedure_lines : Procedure → Front
procedure_lines p rest = head_line p.head ∷ specification_lines p.specification (blocks_of p.body (end_line (word_of p.head.kind) p.ending ∷ rest))

abbrev pub procedures_of : List Procedure → Front
procedures_of ps = each (map procedure_lines ps)

unfoldable pub program_lines : Program → Front
program_lines p rest = program_line p.name ∷ specification_lines p.specification (blocks_of p.body (end_line grammar.OfProgram p.ending ∷ rest))

-- CONTAINS and the procedures behind it
abbrev pub contained_lines : List Procedure → Front
contained_lines ps rest = contains_line ∷ procedures_of ps rest

unfoldable pub module_lines : Module → Front
module_lines m rest = module_line m.name ∷ specification_lines m.specification (optional (option_map contained_lines m.procedures) (end_line grammar.OfModule m.ending ∷ rest))

unfoldable pub unit_lines : ProgramUnit → Front
unit_lines (unit_form.Program p) rest = program_lines p rest
unit_lines (unit_form.Module m) rest = module_lines m rest
unit_lines (unit_form.Procedure p) rest = procedure_lines p rest

-- the statements of a file's units, in front of a rest
abbrev pub units_of : List ProgramUnit → Front
units_of units = each (map unit_lines units)
