-- What a number in a resolved program names (ISO/IEC 1539-1:2018, 19).
use Rattle.std.specs.Prelude.{ℕ, Bool, true, false, not, ◌&&◌, ◌||◌, List, [], ◌∷◌, Option, Some, None, length, nat_eq, nat_le, nat_lt, slice_get}
use Rattle.std.specs.List.{list_any}
use Rattle.f_resolved.specs.declared.check_kind.Row.{Row}
use Rattle.f_resolved.specs.declared.check_kind.Interface.{Interface}
use Rattle.f_resolved.specs.declared.declaration.Component.{Component}
use Rattle.f_resolved.specs.declared.declaration.Declaration.{Declaration}
use Rattle.f_resolved.specs.declared.declaration.DerivedType.{DerivedType}
use Rattle.f_resolved.specs.declared.dimension.Shape.{Shape}
use Rattle.f_resolved.specs.declared.dimension.Shape.TheVariants as shape
use Rattle.f_resolved.specs.declared.expression.Callee.{Callee}
use Rattle.f_resolved.specs.declared.expression.Callee.TheVariants as callee
use Rattle.f_resolved.specs.declared.expression.Intrinsic.{Intrinsic}
use Rattle.f_resolved.specs.declared.expression.Intrinsic.TheVariants as intrinsic
use Rattle.f_resolved.specs.declared.kind.DataType.{DataType}
use Rattle.f_resolved.specs.declared.kind.DataType.TheVariants as kind
use Rattle.f_resolved.specs.declared.kind.Declared.{Declared}
use Rattle.f_resolved.specs.declared.kind.Named.{Named}
use Rattle.f_resolved.specs.declared.kind.Named.TheVariants as named
use Rattle.f_resolved.specs.declared.kind.Scope.{Scope}
use Rattle.f_resolved.specs.declared.kind.Scope.TheVariants as scope
use Rattle.f_resolved.specs.declared.program.Body.{Body}
use Rattle.f_resolved.specs.declared.program.Body.TheVariants as body
use Rattle.f_resolved.specs.declared.program.FProgram.{FProgram}
use Rattle.f_resolved.specs.declared.program.MainProgram.{MainProgram}
use Rattle.f_resolved.specs.declared.program.Module.{Module}
use Rattle.f_resolved.specs.declared.program.Procedure.{Procedure}
use Rattle.f_resolved.specs.Attributes.{has}

-- ---- types and ranks

-- 7.3: a derived type, or the interface of a procedure pointer, is one of the program
abbrev pub kind_fits : FProgram → DataType → Bool
kind_fits p (kind.Derived t) = nat_lt t (length p.types)
kind_fits p (kind.Procedure f) = nat_lt f (length p.procedures)
kind_fits p _ = true

-- 8.5.8.1: a rank is at most 15
abbrev pub rank_fits : Option ℕ → Bool
rank_fits None = true
rank_fits (Some r) = nat_le r 15

-- the type and the rank of a value
abbrev pub value_fits : FProgram → DataType → Option ℕ → Bool
value_fits p k r = kind_fits p k && rank_fits r

abbrev pub rank_of : Shape → Option ℕ
rank_of shape.Scalar = Some 0
rank_of (shape.Array a) = Some (length a.dimensions)
rank_of shape.AssumedRank = None

-- 9.5.3.1: no subscripts stand behind a name, or one for each dimension
abbrev pub subscripts_fit : Option ℕ → ℕ → Bool
subscripts_fit None n = nat_eq n 0
subscripts_fit (Some r) n = nat_eq n 0 || nat_eq n r

-- ---- scopes

abbrev pub same_scope : Scope → Scope → Bool
same_scope (scope.Module m) (scope.Module n) = nat_eq m n
same_scope (scope.Program m) (scope.Program n) = nat_eq m n
same_scope (scope.Procedure m) (scope.Procedure n) = nat_eq m n
same_scope _ _ = false

abbrev pub scope_exists : FProgram → Scope → Bool
scope_exists p (scope.Module m) = nat_lt m (length p.modules)
scope_exists p (scope.Program m) = nat_lt m (length p.programs)
scope_exists p (scope.Procedure f) = nat_lt f (length p.procedures)

abbrev pub has_host : Option Procedure → Scope → Bool
has_host None s = false
has_host (Some f) s = list_any (λ host. same_scope host s) f.hosts

abbrev pub is_around : FProgram → Scope → Scope → Bool
is_around p (scope.Procedure f) s = has_host (slice_get p.procedures f) s
is_around p _ s = false

-- 19.5.1.3 and 19.5.1.4: what a scope can name is declared in a module, in the scope itself, or around it
abbrev pub reaches : FProgram → Scope → Scope → Bool
reaches p here (scope.Module m) = true
reaches p here s = same_scope here s || is_around p here s

-- ---- declarations

abbrev pub row_of : Option Declaration → Option Row
row_of None = None
row_of (Some d) = Some (record { kind = d.kind; rank = rank_of d.shape; is_constant = has d.attributes 128 })

abbrev pub module_row : Option Module → ℕ → Option Row
module_row None n = None
module_row (Some m) n = row_of (slice_get m.declarations n)

abbrev pub program_row : Option MainProgram → ℕ → Option Row
program_row None n = None
program_row (Some m) n = row_of (slice_get m.declarations n)

abbrev pub procedure_row : Option Procedure → ℕ → Option Row
procedure_row None n = None
procedure_row (Some f) n = row_of (slice_get f.declarations n)

abbrev pub row_in : FProgram → Scope → ℕ → Option Row
row_in p (scope.Module m) n = module_row (slice_get p.modules m) n
row_in p (scope.Program m) n = program_row (slice_get p.programs m) n
row_in p (scope.Procedure f) n = procedure_row (slice_get p.procedures f) n

abbrev pub if_reached : Bool → Option Row → Option Row
if_reached true r = r
if_reached false r = None

abbrev pub row_at : FProgram → Scope → Declared → Option Row
row_at p here d = if_reached (reaches p here d.scope) (row_in p d.scope d.number)

-- ---- data objects (3.41)

abbrev pub is_data : DataType → Bool
is_data (kind.Procedure f) = false
is_data _ = true

abbrev pub if_true : Bool → Row → Option Row
if_true true r = Some r
if_true false r = None

abbrev pub constant_row : Option Row → Option Row
constant_row None = None
constant_row (Some r) = if_true (is_data r.kind && r.is_constant) r

abbrev pub variable_row : Option Row → Option Row
variable_row None = None
variable_row (Some r) = if_true (is_data r.kind && not r.is_constant) r

-- 11.1.10.3: in a block of SELECT RANK a variable of assumed rank has this rank
abbrev pub with_rank : Row → Option ℕ → ℕ → Option Row
with_rank r (Some s) n = None
with_rank r None n = Some (record { kind = r.kind; rank = Some n; is_constant = r.is_constant })

abbrev pub ranked_row : Option Row → ℕ → Option Row
ranked_row None n = None
ranked_row (Some r) n = with_rank r r.rank n

abbrev pub if_rank : Bool → Option Row → Option Row
if_rank true r = r
if_rank false r = None

-- what the name of a data object tells of it, where it is the name of one
abbrev pub named_row : FProgram → Scope → Named → Option Row
named_row p here (named.Variable d) = variable_row (row_at p here d)
named_row p here (named.Constant d) = constant_row (row_at p here d)
named_row p here (named.OfRank d n) = if_rank (nat_le n 15) (ranked_row (variable_row (row_at p here d)) n)
named_row p here (named.OfAssumedSize d) = ranked_row (variable_row (row_at p here d)) 1

abbrev pub is_there : Option Row → Bool
is_there None = false
is_there (Some r) = true

-- 9.2: what names a constant is no variable
abbrev pub names_variable : Named → Bool
names_variable (named.Constant d) = false
names_variable _ = true

-- 15.4.3.6
abbrev pub is_pointer : Option Row → Bool
is_pointer None = false
is_pointer (Some r) = not (is_data r.kind)

abbrev pub pointer_fits : FProgram → Scope → Declared → Bool
pointer_fits p here d = is_pointer (row_at p here d)

-- ---- components (9.4.2)

abbrev pub component_row : Option Component → Option Row
component_row None = None
component_row (Some c) = Some (record { kind = c.kind; rank = rank_of c.shape; is_constant = false })

abbrev pub component_in : Option DerivedType → ℕ → Option Row
component_in None n = None
component_in (Some t) n = component_row (slice_get t.components n)

abbrev pub component_at : FProgram → (of component : ℕ) → Option Row
component_at p t n = component_in (slice_get p.types t) n

abbrev pub has_components : Option DerivedType → ℕ → Bool
has_components None n = false
has_components (Some t) n = nat_eq n (length t.components)

-- ---- procedures (15)

-- an abstract interface is no procedure
abbrev pub is_procedure : Body → Bool
is_procedure body.Abstract = false
is_procedure _ = true

abbrev pub is_hosted : FProgram → Scope → List Scope → Bool
is_hosted p here [] = true
is_hosted p here (s ∷ _) = reaches p here s

abbrev pub is_visible : FProgram → Scope → Option Procedure → Bool
is_visible p here None = false
is_visible p here (Some f) = is_procedure f.body && is_hosted p here f.hosts

-- a procedure that the scope can name
abbrev pub procedure_fits : FProgram → Scope → ℕ → Bool
procedure_fits p here f = is_visible p here (slice_get p.procedures f)

abbrev pub is_some : Option ℕ → Bool
is_some None = false
is_some (Some n) = true

abbrev pub invoked_at : Option Procedure → Option Interface
invoked_at None = None
invoked_at (Some f) = Some (record { dummies = f.dummies; has_result = is_some f.result })

abbrev pub interface_of : FProgram → DataType → Option Interface
interface_of p (kind.Procedure f) = invoked_at (slice_get p.procedures f)
interface_of p _ = None

abbrev pub invoked_by : FProgram → Option Row → Option Interface
invoked_by p None = None
invoked_by p (Some r) = interface_of p r.kind

abbrev pub invoked : FProgram → Callee → Option Interface
invoked p (callee.Procedure f) = invoked_at (slice_get p.procedures f)
invoked p (callee.Pointer d) = invoked_by p (row_in p d.scope d.number)
invoked p (callee.Intrinsic i) = None

-- 18.2.3.3 and 18.2.3.5
abbrev pub is_subroutine : Intrinsic → Bool
is_subroutine intrinsic.CFPointer = true
is_subroutine intrinsic.CFProcpointer = true
is_subroutine _ = false

-- a function has a result, and a subroutine none
abbrev pub gives : Bool → Bool → Bool
gives true r = r
gives false r = not r

abbrev pub invokes : Bool → Option Interface → Bool
invokes of_function None = false
invokes of_function (Some x) = gives of_function x.has_result

-- a function is referenced, or a subroutine called
abbrev pub callee_fits : FProgram → Scope → Bool → Callee → Bool
callee_fits p here of_function (callee.Procedure f) = procedure_fits p here f && invokes of_function (invoked p (callee.Procedure f))
callee_fits p here of_function (callee.Pointer d) = pointer_fits p here d && invokes of_function (invoked p (callee.Pointer d))
callee_fits p here of_function (callee.Intrinsic i) = gives of_function (not (is_subroutine i))

abbrev pub has_dummy : Option Interface → ℕ → Bool
has_dummy None n = false
has_dummy (Some x) n = nat_lt n x.dummies

-- 15.5.2.1: an actual argument has a dummy argument
abbrev pub takes : FProgram → Callee → ℕ → Bool
takes p (callee.Procedure f) n = has_dummy (invoked p (callee.Procedure f)) n
takes p (callee.Pointer d) n = has_dummy (invoked p (callee.Pointer d)) n
takes p (callee.Intrinsic i) n = true
