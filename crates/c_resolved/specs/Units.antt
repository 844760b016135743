-- Units each of whose numbers names a thing that is there (ISO/IEC 9899:2011, 6.9).
use Rattle.std.specs.Prelude.{ℕ, ◌^◌, Bool, true, false, ◌&&◌, Option, Some, None, List, length, nat_eq, nat_le, nat_lt, slice_get, IsTrue}
use Rattle.std.specs.List.{list_all}
use Rattle.c_types.specs.declared.ctype.Layout.{Layout}
use Rattle.c_types.specs.Sizes.{Bodies, layout_at}
use Rattle.c_resolved.specs.declared.unit.Content.{Content}
use Rattle.c_resolved.specs.declared.unit.Content.TheVariants as content
use Rattle.c_resolved.specs.declared.unit.Function.{Function}
use Rattle.c_resolved.specs.declared.unit.FunctionDefinition.{FunctionDefinition}
use Rattle.c_resolved.specs.declared.unit.Linkage.{Linkage}
use Rattle.c_resolved.specs.declared.unit.Linkage.TheVariants as linkage
use Rattle.c_resolved.specs.declared.unit.LinkedDeclaration.{LinkedDeclaration}
use Rattle.c_resolved.specs.declared.unit.LinkedThing.{LinkedThing}
use Rattle.c_resolved.specs.declared.unit.LinkedThing.TheVariants as thing
use Rattle.c_resolved.specs.declared.unit.Object.{Object}
use Rattle.c_resolved.specs.declared.unit.Role.{Role}
use Rattle.c_resolved.specs.declared.unit.Role.TheVariants as role
use Rattle.c_resolved.specs.declared.unit.Unit.{Unit}
use Rattle.c_resolved.specs.declared.unit.Program.{Program}
use Rattle.c_resolved.specs.declared.check_type.Counts.{Counts}
use Rattle.c_resolved.specs.Lists.{each_below}
use Rattle.c_resolved.specs.Kinds.{name_fits, proto_fits, token_fits, type_fits}
use Rattle.c_resolved.specs.Declarations.{initializer_fits, local_fits, string_fits}
use Rattle.c_resolved.specs.Statements.{items_fit}

-- what there is in a unit, around a tree in a function with so many parameters and locals
abbrev pub counts_of : Unit → (parameters locals : ℕ) → Counts
counts_of u parameters locals = record {
  names = length u.names;
  literals = length u.literals;
  places = length u.places;
  structs = length u.types;
  enums = u.enums;
  strings = length u.strings;
  objects = length u.objects;
  functions = length u.functions;
  parameters = parameters;
  locals = locals;
}

-- what there is outside functions
abbrev pub outer_counts : Unit → Counts
outer_counts u = counts_of u 0 0

-- ---- structs (6.7.2.1): each has a number, and the names and types of its members are there

abbrev pub members_fit : Counts → Option Layout → Bool
members_fit n None = true
members_fit n (Some l) = list_all (λ m. name_fits n m.name && type_fits n m.kind) l.members

abbrev pub struct_fits : Counts → Bodies → ℕ → Bool
struct_fits n types s = members_fit n (layout_at types s)

abbrev pub structs_fit : Counts → Bodies → Bool
structs_fit n types = nat_le (length types) (2 ^ 32) && each_below (length types) (struct_fits n types)

-- ---- objects (6.2.4 and 6.9.2)

-- names in it denote no locals
abbrev pub content_fits : Counts → Bodies → Content → Bool
content_fits n types content.Elsewhere = true
content_fits n types content.Zero = true
content_fits n types (content.Initial i) = initializer_fits n types i

abbrev pub object_fits : Counts → Bodies → Object → Bool
object_fits n types x = name_fits n x.name && (type_fits n x.kind && (content_fits n types x.content && token_fits n x.at))

-- ---- functions and their definitions (6.9.1)

-- 6.2.2
abbrev pub is_linked : Linkage → Bool
is_linked linkage.External = true
is_linked linkage.Internal = true
is_linked linkage.Absent = false

abbrev pub defines : Option FunctionDefinition → ℕ → Bool
defines None f = false
defines (Some d) f = nat_eq d.function f

-- a definition defines the function that names it
abbrev pub role_fits : List FunctionDefinition → ℕ → Role → Bool
role_fits ds f role.Elsewhere = true
role_fits ds f (role.Defined d) = defines (slice_get ds d) f
role_fits ds f (role.Library l) = true

abbrev pub function_at : Unit → ℕ → Option Function → Bool
function_at u f None = false
function_at u f (Some x) = name_fits (outer_counts u) x.name && (is_linked x.linkage && (proto_fits (outer_counts u) x.proto && (role_fits u.definitions f x.role && token_fits (outer_counts u) x.at)))

abbrev pub function_fits : Unit → ℕ → Bool
function_fits u f = function_at u f (slice_get u.functions f)

abbrev pub is_defined_by : Role → ℕ → Bool
is_defined_by role.Elsewhere i = false
is_defined_by (role.Defined d) i = nat_eq d i
is_defined_by (role.Library l) i = false

-- a function that a definition defines names it, and has as many parameters
abbrev pub head_fits : ℕ → FunctionDefinition → Option Function → Bool
head_fits i d None = false
head_fits i d (Some f) = is_defined_by f.role i && nat_eq d.parameters (length f.proto.params)

abbrev pub body_counts : Unit → FunctionDefinition → Counts
body_counts u d = counts_of u d.parameters (length d.locals)

abbrev pub body_fits : Unit → FunctionDefinition → Bool
body_fits u d = items_fit (body_counts u d) u.types d.body

abbrev pub locals_fit : Unit → FunctionDefinition → Bool
locals_fit u d = nat_le d.parameters (length d.locals) && list_all (λ x. local_fits (body_counts u d) x) d.locals

abbrev pub definition_at : Unit → ℕ → Option FunctionDefinition → Bool
definition_at u i None = false
definition_at u i (Some d) = head_fits i d (slice_get u.functions d.function) && (locals_fit u d && (body_fits u d && token_fits (body_counts u d) d.at))

abbrev pub definition_fits : Unit → ℕ → Bool
definition_fits u i = definition_at u i (slice_get u.definitions i)

-- ---- declarations of identifiers with linkage (6.2.2)

abbrev pub object_is_linked : Option Object → Bool
object_is_linked None = false
object_is_linked (Some x) = is_linked x.linkage

abbrev pub thing_fits : Unit → LinkedThing → Bool
thing_fits u (thing.Object o) = object_is_linked (slice_get u.objects o)
thing_fits u (thing.Function f) = nat_lt f (length u.functions)

abbrev pub linked_fits : Unit → LinkedDeclaration → Bool
linked_fits u d = thing_fits u d.thing && (type_fits (outer_counts u) d.kind && token_fits (outer_counts u) d.at)

-- ---- units and programs

abbrev pub strings_fit : Unit → Bool
strings_fit u = list_all (λ s. string_fits (outer_counts u) s) u.strings

abbrev pub objects_fit : Unit → Bool
objects_fit u = list_all (λ x. object_fits (outer_counts u) u.types x) u.objects

abbrev pub functions_fit : Unit → Bool
functions_fit u = each_below (length u.functions) (function_fits u)

abbrev pub definitions_fit : Unit → Bool
definitions_fit u = each_below (length u.definitions) (definition_fits u)

abbrev pub declarations_fit : Unit → Bool
declarations_fit u = list_all (λ d. linked_fits u d) u.declarations

abbrev pub unit_fits : Unit → Bool
unit_fits u = structs_fit (outer_counts u) u.types && (strings_fit u && (objects_fit u && (functions_fit u && (definitions_fit u && declarations_fit u))))

abbrev pub program_fits : Program → Bool
program_fits p = list_all (λ u. unit_fits u) p.units

-- each number in the unit names a declared thing of the right kind
abbrev pub IsResolved : Unit → Type 0
IsResolved u = IsTrue (unit_fits u)

-- each unit is so
abbrev pub IsResolvedProgram : Program → Type 0
IsResolvedProgram p = IsTrue (program_fits p)
