-- What is open, seen with the name that stands beside it, and the name of what a statement begins.
use Rattle.std.specs.Prelude.{ℕ, List, []}
use Rattle.f_placing.specs.declared.state.Part.{Part}
use Rattle.f_placing.specs.declared.state.Part.TheVariants as part
use Rattle.f_placing.specs.declared.state.Scope.{Scope}
use Rattle.f_placing.specs.declared.state.Scope.TheVariants as scope
use Rattle.f_placing.specs.declared.state.State.{State}
use Rattle.f_placing.specs.declared.state.State.TheVariants as state
use Rattle.f_placing.specs.declared.state.Role.{Role}
use Rattle.f_placing.specs.declared.state.Role.TheVariants as role
use Rattle.f_declaration_grammar.specs.Declarations.{Declared, Program, Module, Head, TypeStart}
use Rattle.f_statement_grammar.specs.Statements.{Statement, Executable, Declaring}
use Rattle.f_unit_grammar.specs.Units as grammar
use Rattle.f_declared.specs.Views.{is_function}

abbrev pub view_part : Part → grammar.Part
view_part part.Beginning = grammar.Beginning
view_part part.BehindImport = grammar.BehindImport
view_part part.BehindImplicit = grammar.BehindImplicit
view_part part.Executing = grammar.Executing

abbrev pub view_scope : List ℕ → Scope → grammar.Scope
view_scope name scope.Program = grammar.InProgram name
view_scope name scope.Module = grammar.InModule name
view_scope name (scope.Procedure kind) = grammar.InProcedure (is_function kind) name
view_scope name (scope.InterfaceBody kind) = grammar.InBody (is_function kind) name

abbrev pub view_state : List ℕ → State → grammar.State
view_state name state.File = grammar.File
view_state name (state.Unit s p) = grammar.InUnit (view_scope name s) (view_part p)
view_state name state.Containing = grammar.Containing name
view_state name state.Type = grammar.InType name
view_state name state.Interface = grammar.InInterface
view_state name state.If = grammar.InIf
view_state name state.Else = grammar.InElse
view_state name state.Do = grammar.InDo
view_state name state.SelectCase = grammar.InSelectCase
view_state name state.Case = grammar.InCase
view_state name state.SelectRank = grammar.InSelectRank
view_state name state.Rank = grammar.InRank

-- with the name of what is open, and of what is begun
abbrev pub view_role : List ℕ → List ℕ → Role → grammar.Role
view_role name inner (role.Stays s) = grammar.stays (view_state name s)
view_role name inner (role.Enters next inside) = grammar.enters (view_state name next) (view_state inner inside)
view_role name inner role.Leaves = grammar.leaves
view_role name inner role.NoPlace = grammar.none

-- the name of what a declaration begins
abbrev pub name_declared : Declared → List ℕ
name_declared (Program name) = name
name_declared (Module name) = name
name_declared (Head prefixes is_function name dummies suffixes) = name
name_declared (TypeStart attributes has_colons name) = name
name_declared _ = []

-- the name of what a statement begins; a construct has none
abbrev pub name_begun : Statement → List ℕ
name_begun (Executable l) = []
name_begun (Declaring d) = name_declared d
