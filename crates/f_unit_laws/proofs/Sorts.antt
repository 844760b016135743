-- Whether a statement begins something, ends something or stands alone is told by the statement itself, and a construct has executable statements at its
-- both ends.
use Rattle.std.proofs.Common.{◌≡◌, ℕ, List, Bool, true, false, refl, sym, ap, ◌∙◌}
use Rattle.std.specs.Prelude.{◌&&◌}
use Rattle.f_line_grammar.specs.Lines as line
use Rattle.f_line_grammar.specs.Lines.{Line}
use Rattle.f_declaration_grammar.specs.Declarations as grammar
use Rattle.f_declaration_grammar.specs.Declarations.{Declared}
use Rattle.f_statement_grammar.specs.Statements.{Statement, Executable, Declaring}
use Rattle.f_unit_grammar.specs.Units.{Part, Beginning, BehindImport, BehindImplicit, Executing, Scope, InProgram, InModule, InProcedure, InBody, State, File, InUnit, Containing, InType, InInterface, InIf, InElse, InDo, InSelectCase, InCase, InSelectRank, InRank, Role, stays, enters, leaves, none, role, leaves_if, ends_unit, is_name, if_declares, stays_if, use_role, import_role, implicit_role, contains_role, declared_role, executed_role, type_role, interface_role, containing_role, file_role, if_role, else_role, do_role, cases_role, case_role, ranks_role, rank_role, are_component_attributes, are_components}

pub data Sort : Type 0 where
  Stays : Sort
  Enters : Sort
  Leaves : Sort

abbrev line_sort : Line → Sort
line_sort (line.IfThen test) = Enters
line_sort (line.Loop control) = Enters
line_sort (line.SelectCase w e) = Enters
line_sort (line.SelectRank renamed selector) = Enters
line_sort (line.End c w) = Leaves
line_sort _ = Stays

abbrev declared_sort : Declared → Sort
declared_sort (grammar.Program name) = Enters
declared_sort (grammar.Module name) = Enters
declared_sort (grammar.Head prefixes is_function name dummies suffixes) = Enters
declared_sort (grammar.TypeStart attributes c name) = Enters
declared_sort (grammar.InterfaceStart is_abstract) = Enters
declared_sort grammar.End = Leaves
declared_sort (grammar.EndOf what w name) = Leaves
declared_sort _ = Stays

abbrev pub sort_of : Statement → Sort
sort_of (Executable l) = line_sort l
sort_of (Declaring d) = declared_sort d

abbrev pub is_executable : Statement → Bool
is_executable (Executable l) = true
is_executable (Declaring d) = false

-- a construct is open
abbrev pub is_construct : State → Bool
is_construct File = false
is_construct (InUnit u p) = false
is_construct (Containing m) = false
is_construct (InType name) = false
is_construct InInterface = false
is_construct _ = true

abbrev same : Bool → Bool → Bool
same true b = b
same false true = false
same false false = true

abbrev is : Sort → Sort → Bool
is Stays Stays = true
is Enters Enters = true
is Leaves Leaves = true
is _ _ = false

-- What a statement does is of its sort. Constructs go on as constructs, and are begun and ended by executable statements, all else by others.
abbrev agrees : Bool → Statement → Role → Bool
agrees b s (stays after) = is (sort_of s) Stays && same b (is_construct after)
agrees b s (enters after inner) = is (sort_of s) Enters && same b (is_construct after) && same (is_executable s) (is_construct inner)
agrees b s leaves = is (sort_of s) Leaves && same b (is_executable s)
agrees b s none = true

-- ---- each role agrees with the sort

file_agrees : (d : Declared) → agrees false (Declaring d) (file_role d) ≡ true
file_agrees (grammar.Program name) = refl
file_agrees d = refl

leaves_if_agrees : (t : Bool) (d : Declared) → agrees false (Declaring d) leaves ≡ true → agrees false (Declaring d) (leaves_if t) ≡ true
leaves_if_agrees true d e = e
leaves_if_agrees false d e = refl

if_declares_agrees : (p : Part) (d : Declared) (r : Role) → agrees false (Declaring d) r ≡ true → agrees false (Declaring d) (if_declares p r) ≡ true
if_declares_agrees Beginning d r e = e
if_declares_agrees BehindImport d r e = e
if_declares_agrees BehindImplicit d r e = e
if_declares_agrees Executing d r e = refl

use_agrees : (u : Scope) (p : Part) (d : Declared) → agrees false (Declaring d) (stays (InUnit u Beginning)) ≡ true → agrees false (Declaring d) (use_role u p) ≡ true
use_agrees u Beginning d e = e
use_agrees u p d e = refl

import_agrees : (u : Scope) (p : Part) (c : Bool) (names : List (List ℕ)) → agrees false (Declaring (grammar.Import c names)) (import_role u p) ≡ true
import_agrees (InBody f name) Beginning c names = refl
import_agrees (InBody f name) p c names = refl
import_agrees u p c names = refl

implicit_agrees : (u : Scope) (p : Part) → agrees false (Declaring grammar.ImplicitNone) (implicit_role u p) ≡ true
implicit_agrees u Beginning = refl
implicit_agrees u p = refl

contains_agrees : (u : Scope) → agrees false (Declaring grammar.Contains) (contains_role u) ≡ true
contains_agrees (InModule name) = refl
contains_agrees u = refl

declared_agrees : (u : Scope) (p : Part) (d : Declared) → agrees false (Declaring d) (declared_role u p d) ≡ true
declared_agrees u p (grammar.Use i c m names) = use_agrees u p (grammar.Use i c m names) refl
declared_agrees u p (grammar.Import c names) = import_agrees u p c names
declared_agrees u p grammar.ImplicitNone = implicit_agrees u p
declared_agrees u p (grammar.Variables t attributes c entities) = if_declares_agrees p (grammar.Variables t attributes c entities) (stays (InUnit u BehindImplicit)) refl
declared_agrees u p (grammar.Accesses a c names) = if_declares_agrees p (grammar.Accesses a c names) (stays (InUnit u BehindImplicit)) refl
declared_agrees u p grammar.SaveAll = if_declares_agrees p grammar.SaveAll (stays (InUnit u BehindImplicit)) refl
declared_agrees u p (grammar.Procedures interface attributes pointers) = if_declares_agrees p (grammar.Procedures interface attributes pointers) (stays (InUnit u BehindImplicit)) refl
declared_agrees u p (grammar.TypeStart attributes c name) = if_declares_agrees p (grammar.TypeStart attributes c name) (enters (InUnit u BehindImplicit) (InType name)) refl
declared_agrees u p (grammar.InterfaceStart is_abstract) = if_declares_agrees p (grammar.InterfaceStart is_abstract) (enters (InUnit u BehindImplicit) InInterface) refl
declared_agrees u p grammar.Contains = contains_agrees u
declared_agrees u p grammar.End = refl
declared_agrees u p (grammar.EndOf what w name) = leaves_if_agrees (ends_unit u what name) (grammar.EndOf what w name) refl
declared_agrees u p d = refl

program_agrees : (name : List ℕ) (l : Line) → agrees false (Executable l) (executed_role (InProgram name) l) ≡ true
program_agrees name (line.Simple a) = refl
program_agrees name l = refl

procedure_agrees : (f : Bool) (name : List ℕ) (l : Line) → agrees false (Executable l) (executed_role (InProcedure f name) l) ≡ true
procedure_agrees f name (line.Simple a) = refl
procedure_agrees f name l = refl

executed_agrees : (u : Scope) (l : Line) → agrees false (Executable l) (executed_role u l) ≡ true
executed_agrees (InProgram name) l = program_agrees name l
executed_agrees (InProcedure f name) l = procedure_agrees f name l
executed_agrees u l = refl

containing_agrees : (m : List ℕ) (d : Declared) → agrees false (Declaring d) (containing_role m d) ≡ true
containing_agrees m (grammar.EndOf grammar.OfModule w name) = leaves_if_agrees (is_name m name) (grammar.EndOf grammar.OfModule w name) refl
containing_agrees m (grammar.EndOf what w name) = refl
containing_agrees m d = refl

component_agrees : (t : Bool) (name : List ℕ) (d : Declared) → agrees false (Declaring d) (stays (InType name)) ≡ true → agrees false (Declaring d) (stays_if t (InType name)) ≡ true
component_agrees true name d e = e
component_agrees false name d e = refl

type_agrees : (name : List ℕ) (d : Declared) → agrees false (Declaring d) (type_role name d) ≡ true
type_agrees name (grammar.Variables t attributes c entities) = component_agrees (c && are_component_attributes attributes && are_components entities) name (grammar.Variables t attributes c entities) refl
type_agrees name (grammar.EndOf grammar.OfType w other) = leaves_if_agrees (is_name name other) (grammar.EndOf grammar.OfType w other) refl
type_agrees name (grammar.EndOf what w other) = refl
type_agrees name d = refl

interface_agrees : (d : Declared) → agrees false (Declaring d) (interface_role d) ≡ true
interface_agrees (grammar.EndOf grammar.OfInterface w name) = refl
interface_agrees (grammar.EndOf what w name) = refl
interface_agrees d = refl

if_agrees : (l : Line) → agrees true (Executable l) (if_role l) ≡ true
if_agrees (line.End line.If w) = refl
if_agrees (line.End c w) = refl
if_agrees l = refl

else_agrees : (l : Line) → agrees true (Executable l) (else_role l) ≡ true
else_agrees (line.End line.If w) = refl
else_agrees (line.End c w) = refl
else_agrees l = refl

do_agrees : (l : Line) → agrees true (Executable l) (do_role l) ≡ true
do_agrees (line.End line.Do w) = refl
do_agrees (line.End c w) = refl
do_agrees l = refl

cases_agrees : (l : Line) → agrees true (Executable l) (cases_role l) ≡ true
cases_agrees (line.End line.Select w) = refl
cases_agrees (line.End c w) = refl
cases_agrees l = refl

case_agrees : (l : Line) → agrees true (Executable l) (case_role l) ≡ true
case_agrees (line.End line.Select w) = refl
case_agrees (line.End c w) = refl
case_agrees l = refl

ranks_agrees : (l : Line) → agrees true (Executable l) (ranks_role l) ≡ true
ranks_agrees (line.End line.Select w) = refl
ranks_agrees (line.End c w) = refl
ranks_agrees l = refl

rank_agrees : (l : Line) → agrees true (Executable l) (rank_role l) ≡ true
rank_agrees (line.End line.Select w) = refl
rank_agrees (line.End c w) = refl
rank_agrees l = refl

role_agrees : (k : State) (s : Statement) → agrees (is_construct k) s (role k s) ≡ true
unfolding role
role_agrees File (Declaring d) = file_agrees d
role_agrees (InUnit u p) (Declaring d) = declared_agrees u p d
role_agrees (InUnit u p) (Executable l) = executed_agrees u l
role_agrees (Containing m) (Declaring d) = containing_agrees m d
role_agrees (InType name) (Declaring d) = type_agrees name d
role_agrees InInterface (Declaring d) = interface_agrees d
role_agrees InIf (Executable l) = if_agrees l
role_agrees InElse (Executable l) = else_agrees l
role_agrees InDo (Executable l) = do_agrees l
role_agrees InSelectCase (Executable l) = cases_agrees l
role_agrees InCase (Executable l) = case_agrees l
role_agrees InSelectRank (Executable l) = ranks_agrees l
role_agrees InRank (Executable l) = rank_agrees l
role_agrees _ _ = refl

-- ---- what follows from it

same_is : (a b : Bool) → same a b ≡ true → a ≡ b
same_is true b e = sym e
same_is false true e = absurd cc
same_is false false e = refl

is_that : (a b : Sort) → is a b ≡ true → a ≡ b
is_that Stays Stays e = refl
is_that Enters Enters e = refl
is_that Leaves Leaves e = refl
is_that Stays Enters e = absurd cc
is_that Stays Leaves e = absurd cc
is_that Enters Stays e = absurd cc
is_that Enters Leaves e = absurd cc
is_that Leaves Stays e = absurd cc
is_that Leaves Enters e = absurd cc

both : (a b : Bool) → a && b ≡ true → (a ≡ true) × (b ≡ true)
both true b e = (refl, e)
both false b e = absurd cc

agrees_at : (k : State) (s : Statement) (r : Role) → role k s ≡ r → agrees (is_construct k) s r ≡ true
agrees_at k s r e = ap (agrees (is_construct k) s) (sym e) ∙ role_agrees k s

pub when_stays : (k after : State) (s : Statement) → role k s ≡ stays after → (sort_of s ≡ Stays) × (is_construct k ≡ is_construct after)
when_stays k after s e =
    let p = both (is (sort_of s) Stays) (same (is_construct k) (is_construct after)) (agrees_at k s (stays after) e) in
    (is_that (sort_of s) Stays p.0, same_is (is_construct k) (is_construct after) p.1)

pub when_enters : (k after inner : State) (s : Statement) → role k s ≡ enters after inner → (sort_of s ≡ Enters) × (is_construct k ≡ is_construct after) × (is_executable s ≡ is_construct inner)
when_enters k after inner s e =
    let p = both (is (sort_of s) Enters && same (is_construct k) (is_construct after)) (same (is_executable s) (is_construct inner)) (agrees_at k s (enters after inner) e) in
    let q = both (is (sort_of s) Enters) (same (is_construct k) (is_construct after)) p.0 in
    (is_that (sort_of s) Enters q.0, same_is (is_construct k) (is_construct after) q.1, same_is (is_executable s) (is_construct inner) p.1)

pub when_leaves : (k : State) (s : Statement) → role k s ≡ leaves → (sort_of s ≡ Leaves) × (is_construct k ≡ is_executable s)
when_leaves k s e =
    let p = both (is (sort_of s) Leaves) (same (is_construct k) (is_executable s)) (agrees_at k s leaves e) in
    (is_that (sort_of s) Leaves p.0, same_is (is_construct k) (is_executable s) p.1)
