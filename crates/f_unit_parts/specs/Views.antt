-- What kind of statement of a specification part one is.
use Rattle.std.specs.Prelude.{Bool, true, false, ◌&&◌, map}
use Rattle.f_tree.specs.declared.declaration.Variables.{Variables}
use Rattle.f_tree.specs.declared.declaration.Entity.{Entity}
use Rattle.f_declaration_grammar.specs.Declarations as grammar
use Rattle.f_unit_grammar.specs.Units.{are_component_attributes, are_components}
use Rattle.f_declared.specs.Views.{view_attribute, view_entity, view_dimensions}
use Rattle.f_tree.specs.declared.declaration.EndingForm.{EndingForm}
use Rattle.f_tree.specs.declared.declaration.EndingForm.TheVariants.{TwoWords, OneWord}
use Rattle.f_declared.specs.declared.statement.Declared.{Declared}
use Rattle.f_declared.specs.declared.statement.Declared.TheVariants as statement
use Rattle.f_unit_parts.specs.declared.kind.Kind.{Kind}
use Rattle.f_unit_parts.specs.declared.kind.Kind.TheVariants as kind

abbrev pub kind_of : Declared → Kind
kind_of (statement.Program p name) = kind.Program
kind_of (statement.Module p name) = kind.Module
kind_of (statement.Head h) = kind.Head
kind_of (statement.Contains p) = kind.Contains
kind_of (statement.Use u) = kind.Use
kind_of (statement.Import i) = kind.Import
kind_of (statement.ImplicitNone p) = kind.ImplicitNone
kind_of (statement.Variables v) = kind.Variables
kind_of (statement.TypeStart t) = kind.TypeStart
kind_of (statement.InterfaceStart p is_abstract) = kind.InterfaceStart
kind_of (statement.Access a) = kind.Access
kind_of (statement.Save p) = kind.Save
kind_of (statement.ProcedurePointers p) = kind.ProcedurePointers
kind_of (statement.End p) = kind.End
kind_of (statement.EndOf p what is_one_word name) = kind.EndOf

-- how an END statement with words spells them
abbrev pub form_of : Bool → EndingForm
form_of true = OneWord
form_of false = TwoWords

-- a statement declares components (7.5.4)
abbrev pub declares_components : Variables → Bool
declares_components v = v.has_colons && are_component_attributes (map view_attribute v.attributes) && are_components (map view_entity v.entities)

-- what is declared, without its initial value
abbrev pub bare : Entity → grammar.Entity
bare e = grammar.entity e.name.bytes (view_dimensions e.dimensions) grammar.NoInitial
