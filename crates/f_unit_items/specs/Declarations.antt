-- The names in declarations (ISO/IEC 1539-1:2018, 7.5, 8, 14.2.2 and 15.4.3), each in front of a rest.
use Rattle.std.specs.Prelude.{ℕ, List, [], ◌∷◌, Option, Some, None, Bool, true, false, map}
use Rattle.f_tree.specs.declared.name.Name.{Name as TreeName}
use Rattle.f_tree.specs.declared.expression.TypeSpec.{TypeSpec}
use Rattle.f_tree.specs.declared.declaration.Access.{Access as TreeAccess}
use Rattle.f_tree.specs.declared.declaration.Access.TheVariants as tree_access
use Rattle.f_tree.specs.declared.declaration.Bind.{Bind}
use Rattle.f_tree.specs.declared.declaration.BindingName.{BindingName}
use Rattle.f_tree.specs.declared.declaration.Dimension.{Dimension}
use Rattle.f_tree.specs.declared.declaration.Dimension.TheVariants.{Upper, Bounds, Deferred, AssumedSize, AssumedRank}
use Rattle.f_tree.specs.declared.declaration.Attribute.{Attribute}
use Rattle.f_tree.specs.declared.declaration.AttributeForm.{AttributeForm}
use Rattle.f_tree.specs.declared.declaration.AttributeForm.TheVariants as form
use Rattle.f_tree.specs.declared.declaration.Initial.{Initial}
use Rattle.f_tree.specs.declared.declaration.Initial.TheVariants as initial
use Rattle.f_tree.specs.declared.declaration.Entity.{Entity}
use Rattle.f_tree.specs.declared.declaration.Field.{Field}
use Rattle.f_tree.specs.declared.declaration.Component.{Component}
use Rattle.f_tree.specs.declared.declaration.Variables.{Variables}
use Rattle.f_tree.specs.declared.declaration.Rename.{Rename}
use Rattle.f_tree.specs.declared.declaration.Only.{Only}
use Rattle.f_tree.specs.declared.declaration.Only.TheVariants as only
use Rattle.f_tree.specs.declared.declaration.UseList.{UseList}
use Rattle.f_tree.specs.declared.declaration.UseList.TheVariants as uses
use Rattle.f_tree.specs.declared.declaration.Use.{Use}
use Rattle.f_tree.specs.declared.declaration.Import.{Import}
use Rattle.f_tree.specs.declared.declaration.TypeAttribute.{TypeAttribute}
use Rattle.f_tree.specs.declared.declaration.TypeAttribute.TheVariants as type_form
use Rattle.f_tree.specs.declared.declaration.DerivedType.{DerivedType}
use Rattle.f_tree.specs.declared.declaration.AccessStatement.{AccessStatement}
use Rattle.f_tree.specs.declared.declaration.PointerAttribute.{PointerAttribute}
use Rattle.f_tree.specs.declared.declaration.PointerAttribute.TheVariants as pointer_form
use Rattle.f_tree.specs.declared.declaration.ProcedurePointer.{ProcedurePointer}
use Rattle.f_tree.specs.declared.declaration.ProcedurePointers.{ProcedurePointers}
use Rattle.f_items.specs.declared.item.Access.{Access}
use Rattle.f_items.specs.declared.item.Access.TheVariants as access
use Rattle.f_items.specs.declared.item.Class.TheVariants as class
use Rattle.f_items.specs.declared.item.DeclaredType.TheVariants.{NotDerived}
use Rattle.f_items.specs.declared.item.Need.TheVariants as need
use Rattle.f_items.specs.declared.item.ScopeKind.TheVariants as kind
use Rattle.f_items.specs.declared.item.Share.TheVariants.{Whole, Typed}
use Rattle.f_items.specs.declared.item.Item.TheVariants.{Enter, Leave, Uses, Takes, ImportsAll, Imports, Default, Accesses}
use Rattle.f_unit_items.specs.Fronts.{Front, name_of, refers, declares, heads, kind_name, each, if_there}
use Rattle.f_unit_items.specs.Expressions.{expression, type_spec, declared_type}

-- ---- accessibility (8.5.2): the first that is said

abbrev pub access_of : TreeAccess → Access
access_of tree_access.Public = access.Public
access_of tree_access.Private = access.Private

abbrev pub or_else : Option Access → Option Access → Option Access
or_else None other = other
or_else (Some a) other = Some a

abbrev pub form_access : AttributeForm → Option Access
form_access (form.Access a) = Some (access_of a)
form_access _ = None

unfoldable pub access_among : List Attribute → Option Access
access_among [] = None
access_among (a ∷ rest) = or_else (form_access a.form) (access_among rest)

abbrev pub type_form_access : TypeAttribute → Option Access
type_form_access (type_form.Bind p b) = None
type_form_access (type_form.Access p a) = Some (access_of a)

unfoldable pub type_access : List TypeAttribute → Option Access
type_access [] = None
type_access (a ∷ rest) = or_else (type_form_access a) (type_access rest)

abbrev pub pointer_form_access : PointerAttribute → Option Access
pointer_form_access (pointer_form.Save p) = None
pointer_form_access (pointer_form.Access p a) = Some (access_of a)

unfoldable pub pointer_access : List PointerAttribute → Option Access
pointer_access [] = None
pointer_access (a ∷ rest) = or_else (pointer_form_access a) (pointer_access rest)

-- ---- type declarations (8.2)

-- the text behind NAME= of BIND may have a kind
abbrev pub binding_name : BindingName → Front
binding_name n rest = kind_name n.kind n.place rest

abbrev pub bind_list : Bind → Front
bind_list b rest = if_there binding_name b.name rest

abbrev pub dimension : Dimension → Front
dimension (Upper e) rest = expression e rest
dimension (Bounds low high) rest = expression low (expression high rest)
dimension (Deferred lower p) rest = if_there expression lower rest
dimension (AssumedSize lower p) rest = if_there expression lower rest
dimension (AssumedRank p) rest = rest

abbrev pub dimensions : List Dimension → Front
dimensions ds rest = each (map dimension ds) rest

abbrev pub attribute_form : AttributeForm → Front
attribute_form (form.Dimension ds) rest = dimensions ds rest
attribute_form (form.Bind b) rest = bind_list b rest
attribute_form _ rest = rest

abbrev pub attribute : Attribute → Front
attribute a rest = attribute_form a.form rest

-- NULL behind `=>` is a word of the grammar
abbrev pub initial_value : Initial → Front
initial_value (initial.Value e) rest = expression e rest
initial_value (initial.Null p) rest = rest

-- a name that is declared with a type
abbrev pub entity : TypeSpec → Option Access → Entity → Front
entity t a e rest = declares e.name class.Data Typed (declared_type t) a (if_there dimensions e.dimensions (if_there initial_value e.initial rest))

abbrev pub variables : Variables → Front
variables v rest = type_spec v.declared (each (map attribute v.attributes) (each (map (entity v.declared (access_among v.attributes)) v.entities) rest))

-- ---- derived types (7.5): their components are in their scope

abbrev pub type_attribute : TypeAttribute → Front
type_attribute (type_form.Bind p b) rest = bind_list b rest
type_attribute (type_form.Access p a) rest = rest

abbrev pub field : TypeSpec → Field → Front
field t f rest = declares f.name class.Component Whole (declared_type t) None (if_there dimensions f.dimensions rest)

abbrev pub component : Component → Front
component c rest = type_spec c.declared (if_there dimensions c.dimensions (each (map (field c.declared) c.fields) rest))

abbrev pub derived_type : DerivedType → Front
derived_type t rest = Enter kind.DerivedType t.place ∷ each (map type_attribute t.attributes) (heads t.name class.DerivedType (type_access t.attributes)
    (each (map component t.components) (Leave ∷ rest)))

-- ---- USE and IMPORT (14.2.2 and 8.8)

-- `local => used` of this module
abbrev pub rename : TreeName → Rename → Front
rename m r rest = Takes m.bytes (name_of r.local) (name_of r.used) true ∷ rest

abbrev pub only_name : TreeName → Only → Front
only_name m (only.Plain n) rest = Takes m.bytes (name_of n) (name_of n) false ∷ rest
only_name m (only.Renamed r) rest = rename m r rest

abbrev pub is_only : UseList → Bool
is_only uses.All = false
is_only (uses.Renamed rs) = false
is_only (uses.Only os) = true

abbrev pub use_list : TreeName → UseList → Front
use_list m uses.All rest = rest
use_list m (uses.Renamed rs) rest = each (map (rename m) rs) rest
use_list m (uses.Only os) rest = each (map (only_name m) os) rest

abbrev pub use_statement : Use → Front
use_statement u rest = Uses u.place (name_of u.module) u.is_intrinsic (is_only u.list) ∷ use_list u.module u.list rest

abbrev pub imported : TreeName → Front
imported n rest = Imports (name_of n) ∷ rest

abbrev pub imported_names : List TreeName → Front
imported_names [] rest = ImportsAll ∷ rest
imported_names (n ∷ ns) rest = each (map imported (n ∷ ns)) rest

abbrev pub import_statement : Import → Front
import_statement i rest = imported_names i.names rest

-- ---- access statements and procedure pointers (8.6.1 and 15.4.3.6)

abbrev pub accessed : Access → TreeName → Front
accessed a n rest = Accesses (name_of n) a ∷ rest

abbrev pub accessed_names : Access → List TreeName → Front
accessed_names a [] rest = Default a ∷ rest
accessed_names a (n ∷ ns) rest = each (map (accessed a) (n ∷ ns)) rest

abbrev pub access_statement : AccessStatement → Front
access_statement a rest = accessed_names (access_of a.access) a.names rest

abbrev pub procedure_pointer : Option Access → ProcedurePointer → Front
procedure_pointer a p rest = declares p.name class.ProcedurePointer Whole NotDerived a rest

abbrev pub procedure_pointers : ProcedurePointers → Front
procedure_pointers p rest = refers p.interface need.Interface (each (map (procedure_pointer (pointer_access p.attributes)) p.pointers) rest)
