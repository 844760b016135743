-- Declarations each of whose numbers names a thing of the right kind (ISO/IEC 1539-1:2018, 7.5 and 8).
use Rattle.std.specs.Prelude.{ℕ, Bool, true, false, not, ◌&&◌, List, Option, Some, None, nat_lt, slice_get}
use Rattle.std.specs.List.{list_all}
use Rattle.f_resolved.specs.declared.attributes.Attributes.{Attributes}
use Rattle.f_resolved.specs.declared.declaration.Component.{Component}
use Rattle.f_resolved.specs.declared.declaration.Declaration.{Declaration}
use Rattle.f_resolved.specs.declared.declaration.DerivedType.{DerivedType}
use Rattle.f_resolved.specs.declared.declaration.Initial.{Initial}
use Rattle.f_resolved.specs.declared.declaration.Initial.TheVariants as initial
use Rattle.f_resolved.specs.declared.dimension.Bound.{Bound}
use Rattle.f_resolved.specs.declared.dimension.Bound.TheVariants as bound
use Rattle.f_resolved.specs.declared.dimension.Dimension.{Dimension}
use Rattle.f_resolved.specs.declared.dimension.Dimension.TheVariants as dimension
use Rattle.f_resolved.specs.declared.dimension.Shape.{Shape}
use Rattle.f_resolved.specs.declared.dimension.Shape.TheVariants as shape
use Rattle.f_resolved.specs.declared.kind.DataType.{DataType}
use Rattle.f_resolved.specs.declared.kind.DataType.TheVariants as kind
use Rattle.f_resolved.specs.declared.kind.Length.{Length}
use Rattle.f_resolved.specs.declared.kind.Length.TheVariants as len
use Rattle.f_resolved.specs.declared.kind.Scope.{Scope}
use Rattle.f_resolved.specs.declared.program.FProgram.{FProgram}
use Rattle.f_resolved.specs.Attributes.{has}
use Rattle.f_resolved.specs.Kinds.{kind_fits}
use Rattle.f_resolved.specs.Expressions.{expression_fits}

-- ---- array specifications (8.5.8)

abbrev pub bound_fits : FProgram → Scope → Bound → Bool
bound_fits p here (bound.Constant v) = true
bound_fits p here (bound.Computed e) = expression_fits p here e

abbrev pub dimension_fits : FProgram → Scope → Dimension → Bool
dimension_fits p here (dimension.Explicit lower upper) = bound_fits p here lower && bound_fits p here upper
dimension_fits p here (dimension.AssumedShape lower) = bound_fits p here lower
dimension_fits p here dimension.Deferred = true
dimension_fits p here (dimension.AssumedSize lower) = bound_fits p here lower

abbrev pub shape_fits : FProgram → Scope → Shape → Bool
shape_fits p here shape.Scalar = true
shape_fits p here (shape.Array a) = list_all (λ d. dimension_fits p here d) a.dimensions
shape_fits p here shape.AssumedRank = true

-- ---- attributes (8.5)

abbrev pub at_most_one : Bool → Bool → Bool → Bool
at_most_one true b c = not b && not c
at_most_one false true c = not c
at_most_one false false c = true

-- ALLOCATABLE, POINTER and PARAMETER exclude one another
abbrev pub is_one_sort : Attributes → Bool
is_one_sort a = at_most_one (has a 1) (has a 2) (has a 128)

abbrev pub holds_value : Option Initial → Bool
holds_value None = false
holds_value (Some (initial.Value e)) = true
holds_value (Some initial.Null) = false

abbrev pub if_so : Bool → Bool → Bool
if_so true b = b
if_so false b = true

-- 8.5.13: a named constant has a value
abbrev pub is_valued : Attributes → Option Initial → Bool
is_valued a i = if_so (has a 128) (holds_value i)

abbrev pub is_labelled : Option (List ℕ) → Bool
is_labelled None = false
is_labelled (Some l) = true

abbrev pub alike : Bool → Bool → Bool
alike true b = b
alike false b = not b

-- 18.9.2: what has BIND(C) has a label
abbrev pub is_bound : Attributes → Option (List ℕ) → Bool
is_bound a l = alike (has a 256) (is_labelled l)

abbrev pub initial_fits : FProgram → Scope → Option Initial → Bool
initial_fits p here None = true
initial_fits p here (Some (initial.Value e)) = expression_fits p here e
initial_fits p here (Some initial.Null) = true

abbrev pub declaration_fits : FProgram → Scope → Declaration → Bool
declaration_fits p here d = kind_fits p d.kind && (shape_fits p here d.shape && (is_one_sort d.attributes && (is_valued d.attributes d.initial && (is_bound d.attributes d.label && initial_fits p here d.initial))))

abbrev pub declarations_fit : FProgram → Scope → List Declaration → Bool
declarations_fit p here ds = list_all (λ d. declaration_fits p here d) ds

-- ---- derived types (7.5)

abbrev pub is_known : Length → Bool
is_known (len.Known n) = true
is_known len.Unknown = false

-- a component has a type whose size is known, and no derived type but an earlier one
abbrev pub component_kind_fits : ℕ → DataType → Bool
component_kind_fits t (kind.Character l) = is_known l
component_kind_fits t (kind.Derived s) = nat_lt s t
component_kind_fits t kind.Assumed = false
component_kind_fits t (kind.Procedure f) = false
component_kind_fits t _ = true

abbrev pub bound_is_constant : Bound → Bool
bound_is_constant (bound.Constant v) = true
bound_is_constant (bound.Computed e) = false

-- 7.5.4.1: the bounds of a component are constant
abbrev pub dimension_is_constant : Dimension → Bool
dimension_is_constant (dimension.Explicit lower upper) = bound_is_constant lower && bound_is_constant upper
dimension_is_constant _ = false

abbrev pub shape_is_constant : Shape → Bool
shape_is_constant shape.Scalar = true
shape_is_constant (shape.Array a) = list_all (λ d. dimension_is_constant d) a.dimensions
shape_is_constant shape.AssumedRank = false

abbrev pub component_fits : ℕ → Component → Bool
component_fits t c = component_kind_fits t c.kind && shape_is_constant c.shape

abbrev pub components_fit : ℕ → Option DerivedType → Bool
components_fit t None = false
components_fit t (Some d) = list_all (λ c. component_fits t c) d.components

abbrev pub type_fits : FProgram → ℕ → Bool
type_fits p t = components_fit t (slice_get p.types t)
