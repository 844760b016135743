-- The trees of declarations without their places.
use Rattle.std.specs.Prelude.{ℕ, List, Option, Some, None, Bool, true, false, map}
use Rattle.std.specs.Option.{option_map}
use Rattle.jf_base.specs.declared.place.Place.{Place}
use Rattle.f_tree.specs.declared.name.Name.{Name}
use Rattle.f_tree.specs.declared.declaration.Access.{Access}
use Rattle.f_tree.specs.declared.declaration.Access.TheVariants.{Public, Private}
use Rattle.f_tree.specs.declared.declaration.Intent.{Intent}
use Rattle.f_tree.specs.declared.declaration.Intent.TheVariants.{In, Out, InOut, InOutTwoWords}
use Rattle.f_tree.specs.declared.declaration.Bind.{Bind}
use Rattle.f_tree.specs.declared.declaration.BindingName.{BindingName}
use Rattle.f_tree.specs.declared.declaration.Dimension.{Dimension}
use Rattle.f_tree.specs.declared.declaration.Dimension.TheVariants.{Upper, Bounds, Deferred, AssumedSize, AssumedRank}
use Rattle.f_tree.specs.declared.declaration.Attribute.{Attribute}
use Rattle.f_tree.specs.declared.declaration.AttributeForm.{AttributeForm}
use Rattle.f_tree.specs.declared.declaration.AttributeForm.TheVariants as form
use Rattle.f_tree.specs.declared.declaration.Initial.{Initial}
use Rattle.f_tree.specs.declared.declaration.Initial.TheVariants as initial
use Rattle.f_tree.specs.declared.declaration.Entity.{Entity}
use Rattle.f_tree.specs.declared.declaration.Variables.{Variables}
use Rattle.f_tree.specs.declared.declaration.Rename.{Rename}
use Rattle.f_tree.specs.declared.declaration.Only.{Only}
use Rattle.f_tree.specs.declared.declaration.Only.TheVariants as only
use Rattle.f_tree.specs.declared.declaration.UseList.{UseList}
use Rattle.f_tree.specs.declared.declaration.UseList.TheVariants as uses
use Rattle.f_tree.specs.declared.declaration.Use.{Use}
use Rattle.f_tree.specs.declared.declaration.Import.{Import}
use Rattle.f_tree.specs.declared.declaration.TypeAttribute.{TypeAttribute}
use Rattle.f_tree.specs.declared.declaration.TypeAttribute.TheVariants as type_form
use Rattle.f_tree.specs.declared.declaration.AccessStatement.{AccessStatement}
use Rattle.f_tree.specs.declared.declaration.PointerAttribute.{PointerAttribute}
use Rattle.f_tree.specs.declared.declaration.PointerAttribute.TheVariants as pointer_form
use Rattle.f_tree.specs.declared.declaration.ProcedurePointer.{ProcedurePointer}
use Rattle.f_tree.specs.declared.declaration.ProcedurePointers.{ProcedurePointers}
use Rattle.f_tree.specs.declared.unit.ProcedureKind.{ProcedureKind}
use Rattle.f_tree.specs.declared.unit.ProcedureKind.TheVariants.{Subroutine, Function}
use Rattle.f_tree.specs.declared.unit.Prefix.{Prefix}
use Rattle.f_tree.specs.declared.unit.Prefix.TheVariants as prefix_form
use Rattle.f_tree.specs.declared.unit.Suffix.{Suffix}
use Rattle.f_tree.specs.declared.unit.Suffix.TheVariants as suffix_form
use Rattle.f_tree.specs.declared.unit.Head.{Head}
use Rattle.f_declared.specs.declared.statement.Ended.{Ended}
use Rattle.f_declared.specs.declared.statement.Ended.TheVariants as ended
use Rattle.f_declared.specs.declared.statement.TypeStart.{TypeStart}
use Rattle.f_declared.specs.declared.statement.Declared.{Declared}
use Rattle.f_declared.specs.declared.statement.Declared.TheVariants as statement
use Rattle.f_expr_read.specs.Views.{view, view_type, view_maybe}
use Rattle.f_declaration_grammar.specs.Declarations as grammar

abbrev pub view_name : Name → List ℕ
view_name n = n.bytes

abbrev pub view_dimension : Dimension → grammar.Dim
view_dimension (Upper upper) = grammar.Upper (view upper)
view_dimension (Bounds lower upper) = grammar.Bounds (view lower) (view upper)
view_dimension (Deferred lower p) = grammar.Deferred (view_maybe lower)
view_dimension (AssumedSize lower p) = grammar.AssumedSize (view_maybe lower)
view_dimension (AssumedRank p) = grammar.AssumedRank

abbrev pub view_dimensions : Option (List Dimension) → Option (List grammar.Dim)
view_dimensions dims = option_map (map view_dimension) dims

abbrev pub view_access : Access → grammar.Access
view_access Public = grammar.Public
view_access Private = grammar.Private

abbrev pub view_intent : Intent → grammar.Intent
view_intent In = grammar.In
view_intent Out = grammar.Out
view_intent InOut = grammar.InOut
view_intent InOutTwoWords = grammar.InOutTwoWords

abbrev pub label_of : Option BindingName → grammar.Label
label_of None = None
label_of (Some n) = Some (n.bytes, n.kind)

abbrev pub view_bind : Bind → grammar.Label
view_bind b = label_of b.name

abbrev pub view_form : AttributeForm → grammar.Attr
view_form form.Parameter = grammar.Parameter
view_form (form.Dimension dims) = grammar.Dimension (map view_dimension dims)
view_form form.Allocatable = grammar.Allocatable
view_form form.Pointer = grammar.Pointer
view_form form.Target = grammar.Target
view_form form.Optional = grammar.Optional
view_form form.Value = grammar.Value
view_form form.Contiguous = grammar.Contiguous
view_form form.Save = grammar.Save
view_form (form.Access a) = grammar.Accessible (view_access a)
view_form (form.Bind b) = grammar.Bind (view_bind b)
view_form (form.Intent i) = grammar.For (view_intent i)

abbrev pub view_attribute : Attribute → grammar.Attr
view_attribute a = view_form a.form

abbrev pub initial_of : Option Initial → grammar.Initial
initial_of None = grammar.NoInitial
initial_of (Some (initial.Value value)) = grammar.Starts (view value)
initial_of (Some (initial.Null p)) = grammar.Null

abbrev pub view_entity : Entity → grammar.Entity
view_entity e = grammar.entity e.name.bytes (view_dimensions e.dimensions) (initial_of e.initial)

abbrev pub view_rename : Rename → grammar.Rename
view_rename r = grammar.renamed r.local.bytes r.used.bytes

abbrev pub view_only : Only → grammar.Only
view_only (only.Plain n) = grammar.Plain n.bytes
view_only (only.Renamed r) = grammar.Renamed (view_rename r)

abbrev pub view_uses : UseList → grammar.UseList
view_uses uses.All = grammar.All
view_uses (uses.Renamed rs) = grammar.Renames (map view_rename rs)
view_uses (uses.Only os) = grammar.Onlys (map view_only os)

abbrev pub view_type_attribute : TypeAttribute → grammar.TypeAttr
view_type_attribute (type_form.Bind p b) = grammar.TypeBind (view_bind b)
view_type_attribute (type_form.Access p a) = grammar.TypeAccess (view_access a)

abbrev pub view_pointer_attribute : PointerAttribute → grammar.PointerAttr
view_pointer_attribute (pointer_form.Save p) = grammar.PointerSave
view_pointer_attribute (pointer_form.Access p a) = grammar.PointerAccess (view_access a)

abbrev pub begins_null : Option Place → Bool
begins_null None = false
begins_null (Some p) = true

abbrev pub view_pointer : ProcedurePointer → grammar.ProcPointer
view_pointer p = grammar.pointer p.name.bytes (begins_null p.null)

abbrev pub view_prefix : Prefix → grammar.Prefix
view_prefix (prefix_form.Recursive p) = grammar.Recursive
view_prefix (prefix_form.Type t) = grammar.Returns (view_type t)

abbrev pub view_suffix : Suffix → grammar.Suffix
view_suffix (suffix_form.Bind p b) = grammar.BindSuffix (view_bind b)
view_suffix (suffix_form.Result p n) = grammar.Result n.bytes

abbrev pub is_function : ProcedureKind → Bool
is_function Subroutine = false
is_function Function = true

abbrev pub view_head : Head → grammar.Declared
view_head h = grammar.Head (map view_prefix h.prefixes) (is_function h.kind) h.name.bytes (option_map (map view_name) h.dummies) (map view_suffix h.suffixes)

abbrev pub view_ended : Ended → grammar.Ended
view_ended ended.Program = grammar.OfProgram
view_ended ended.Module = grammar.OfModule
view_ended ended.Subroutine = grammar.OfSubroutine
view_ended ended.Function = grammar.OfFunction
view_ended ended.Type = grammar.OfType
view_ended ended.Interface = grammar.OfInterface

abbrev pub view_use : Use → grammar.Declared
view_use u = grammar.Use u.is_intrinsic u.has_colons u.module.bytes (view_uses u.list)

abbrev pub view_import : Import → grammar.Declared
view_import i = grammar.Import i.has_colons (map view_name i.names)

abbrev pub view_variables : Variables → grammar.Declared
view_variables v = grammar.Variables (view_type v.declared) (map view_attribute v.attributes) v.has_colons (map view_entity v.entities)

abbrev pub view_type_start : TypeStart → grammar.Declared
view_type_start t = grammar.TypeStart (map view_type_attribute t.attributes) t.has_colons t.name.bytes

abbrev pub view_access_statement : AccessStatement → grammar.Declared
view_access_statement a = grammar.Accesses (view_access a.access) a.has_colons (map view_name a.names)

abbrev pub view_procedure_pointers : ProcedurePointers → grammar.Declared
view_procedure_pointers p = grammar.Procedures p.interface.bytes (map view_pointer_attribute p.attributes) (map view_pointer p.pointers)

abbrev pub view_declared : Declared → grammar.Declared
view_declared (statement.Program p name) = grammar.Program name.bytes
view_declared (statement.Module p name) = grammar.Module name.bytes
view_declared (statement.Head h) = view_head h
view_declared (statement.Contains p) = grammar.Contains
view_declared (statement.Use u) = view_use u
view_declared (statement.Import i) = view_import i
view_declared (statement.ImplicitNone p) = grammar.ImplicitNone
view_declared (statement.Variables v) = view_variables v
view_declared (statement.TypeStart t) = view_type_start t
view_declared (statement.InterfaceStart p is_abstract) = grammar.InterfaceStart is_abstract
view_declared (statement.Access a) = view_access_statement a
view_declared (statement.Save p) = grammar.SaveAll
view_declared (statement.ProcedurePointers p) = view_procedure_pointers p
view_declared (statement.End p) = grammar.End
view_declared (statement.EndOf p what is_one_word name) = grammar.EndOf (view_ended what) is_one_word (option_map view_name name)
