-- Programs each of whose numbers names a thing of the right kind (ISO/IEC 1539-1:2018, 14 and 15).
use Rattle.std.specs.Prelude.{ℕ, ◌^◌, Bool, true, false, ◌&&◌, List, Option, Some, None, length, nat_le, nat_lt, slice_get, IsTrue}
use Rattle.std.specs.List.{list_all}
use Rattle.f_resolved.specs.declared.kind.Scope.{Scope}
use Rattle.f_resolved.specs.declared.kind.Scope.TheVariants as scope
use Rattle.f_resolved.specs.declared.program.Body.{Body}
use Rattle.f_resolved.specs.declared.program.Body.TheVariants as body
use Rattle.f_resolved.specs.declared.program.FProgram.{FProgram}
use Rattle.f_resolved.specs.declared.program.MainProgram.{MainProgram}
use Rattle.f_resolved.specs.declared.program.Module.{Module}
use Rattle.f_resolved.specs.declared.program.Procedure.{Procedure}
use Rattle.f_resolved.specs.Lists.{each_below}
use Rattle.f_resolved.specs.Kinds.{scope_exists}
use Rattle.f_resolved.specs.Declarations.{declarations_fit, type_fits}
use Rattle.f_resolved.specs.Statements.{statements_fit}

-- ---- derived types (7.5)

abbrev pub types_fit : FProgram → Bool
types_fit p = each_below (length p.types) (type_fits p)

-- ---- modules (14.2)

abbrev pub module_at : FProgram → ℕ → Option Module → Bool
module_at p m None = false
module_at p m (Some x) = declarations_fit p (scope.Module m) x.declarations

abbrev pub module_fits : FProgram → ℕ → Bool
module_fits p m = module_at p m (slice_get p.modules m)

-- each module has a number
abbrev pub modules_fit : FProgram → Bool
modules_fit p = nat_le (length p.modules) (2 ^ 32) && each_below (length p.modules) (module_fits p)

-- ---- main programs (14.1)

abbrev pub program_at : FProgram → ℕ → Option MainProgram → Bool
program_at p m None = false
program_at p m (Some x) = declarations_fit p (scope.Program m) x.declarations && statements_fit p (scope.Program m) x.body

abbrev pub main_fits : FProgram → ℕ → Bool
main_fits p m = program_at p m (slice_get p.programs m)

abbrev pub mains_fit : FProgram → Bool
mains_fit p = nat_le (length p.programs) (2 ^ 32) && each_below (length p.programs) (main_fits p)

-- ---- procedures (15.6.2)

-- a result is declared behind the dummy arguments
abbrev pub result_fits : (dummies declared : ℕ) → Option ℕ → Bool
result_fits dummies declared None = true
result_fits dummies declared (Some r) = nat_le dummies r && nat_lt r declared

abbrev pub body_fits : FProgram → Scope → Body → Bool
body_fits p here (body.Defined d) = statements_fit p here d.body
body_fits p here body.Elsewhere = true
body_fits p here body.Abstract = true

abbrev pub hosts_fit : FProgram → List Scope → Bool
hosts_fit p hosts = list_all (λ s. scope_exists p s) hosts

abbrev pub head_fits : FProgram → Procedure → Bool
head_fits p x = hosts_fit p x.hosts && (nat_le x.dummies (length x.declarations) && result_fits x.dummies (length x.declarations) x.result)

abbrev pub procedure_at : FProgram → ℕ → Option Procedure → Bool
procedure_at p f None = false
procedure_at p f (Some x) = head_fits p x && (declarations_fit p (scope.Procedure f) x.declarations && body_fits p (scope.Procedure f) x.body)

abbrev pub procedure_stands : FProgram → ℕ → Bool
procedure_stands p f = procedure_at p f (slice_get p.procedures f)

abbrev pub procedures_fit : FProgram → Bool
procedures_fit p = nat_le (length p.procedures) (2 ^ 32) && each_below (length p.procedures) (procedure_stands p)

-- ---- programs

abbrev pub program_fits : FProgram → Bool
program_fits p = types_fit p && (modules_fit p && (procedures_fit p && mains_fit p))

-- each number in the program names a declared thing of the right kind
abbrev pub IsResolved : FProgram → Type 0
IsResolved p = IsTrue (program_fits p)
