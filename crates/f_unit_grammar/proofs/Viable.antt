-- Statements that have their places begin a file: what is open can be ended.
use Rattle.std.proofs.Common.{◌≡◌, ℕ, ◌+◌, List, [], ◌∷◌, ◌++◌, None, Result, Ok, Err, Bool, true, false, ltb, cond, refl, sym, subst, ◌∙◌}
use Rattle.f_line_grammar.specs.Lines as line
use Rattle.f_line_grammar.specs.Lines.{Line}
use Rattle.f_declaration_grammar.specs.Declarations as declared
use Rattle.f_declaration_grammar.specs.Declarations.{Declared, OfType, OfInterface, OfModule}
use Rattle.f_statement_grammar.specs.Statements.{Statement, Executable, Declaring, spell_statement}
use Rattle.f_unit_grammar.specs.Units.{Part, Beginning, BehindImport, BehindImplicit, Executing, Scope, InProgram, InModule, InProcedure, InBody, State, File, InUnit, Containing, InType, InInterface, InIf, InElse, InDo, InSelectCase, InCase, InSelectRank, InRank, counts, Role, stays, enters, leaves, none, begun, if_role, else_role, do_role, cases_role, case_role, ranks_role, rank_role, leaves_if, stays_if, if_declares, use_role, import_role, implicit_role, contains_role, declared_role, executed_role, type_role, interface_role, containing_role, file_role, role, deepest, deeper, IsShallow}
use Rattle.f_unit_grammar.specs.Placing.{Broken, NoPlace, TooDeep, Open, step, and_on, run, at_file, Begins}
use Rattle.f_unit_grammar.proofs.Placed.{step_by, step_deep, run_on, run_append}
use Rattle.f_unit_grammar.proofs.Begun.{Begun, BegunAt, at_start, file_enters, ok_is, not_ok, run_begun, placed_is_file}

abbrev is_file : State → Bool
is_file File = true
is_file _ = false

-- the statement that ends what is open
abbrev closer : State → Statement
closer (InUnit u p) = Declaring declared.End
closer (Containing m) = Declaring declared.End
closer (InType name) = Declaring (declared.EndOf OfType true None)
closer InInterface = Declaring (declared.EndOf OfInterface true None)
closer InIf = Executable (line.End line.If true)
closer InElse = Executable (line.End line.If true)
closer InDo = Executable (line.End line.Do true)
closer File = Declaring declared.End
closer _ = Executable (line.End line.Select true)

closes : (k : State) → is_file k ≡ false → role k (closer k) ≡ leaves
unfolding role
closes File e = absurd (cc e)
closes (InUnit u p) e = refl
closes (Containing m) e = refl
closes (InType name) e = refl
closes InInterface e = refl
closes InIf e = refl
closes InElse e = refl
closes InDo e = refl
closes InSelectCase e = refl
closes InCase e = refl
closes InSelectRank e = refl
closes InRank e = refl

closes_shallow : (k : State) (d : ℕ) → IsShallow d (closer k)
unfolding deeper
closes_shallow File d = refl
closes_shallow (InUnit u p) d = refl
closes_shallow (Containing m) d = refl
closes_shallow (InType name) d = refl
closes_shallow InInterface d = refl
closes_shallow InIf d = refl
closes_shallow InElse d = refl
closes_shallow InDo d = refl
closes_shallow InSelectCase d = refl
closes_shallow InCase d = refl
closes_shallow InSelectRank d = refl
closes_shallow InRank d = refl

-- no file is inside
abbrev IsInside : Role → Type 0
IsInside (stays next) = is_file next ≡ false
IsInside (enters next inside) = (is_file next ≡ false) × (is_file inside ≡ false)
IsInside _ = Unit {0}

begun_inside : (k : State) (l : Line) → is_file k ≡ false → IsInside (begun k l)
begun_inside k (line.Simple a) e = e
begun_inside k (line.Guarded test a) e = e
begun_inside k (line.IfThen test) e = (e, refl)
begun_inside k (line.Loop control) e = (e, refl)
begun_inside k (line.SelectCase w x) e = (e, refl)
begun_inside k (line.SelectRank renamed selector) e = (e, refl)
begun_inside k _ e = tt

leaves_inside : (b : Bool) → IsInside (leaves_if b)
leaves_inside true = tt
leaves_inside false = tt

stays_inside : (b : Bool) (k : State) → is_file k ≡ false → IsInside (stays_if b k)
stays_inside true k e = e
stays_inside false k e = tt

declares_inside : (p : Part) (r : Role) → IsInside r → IsInside (if_declares p r)
declares_inside Beginning r i = i
declares_inside BehindImport r i = i
declares_inside BehindImplicit r i = i
declares_inside Executing r i = tt

use_inside : (u : Scope) (p : Part) → IsInside (use_role u p)
use_inside u Beginning = refl
use_inside u _ = tt

import_inside : (u : Scope) (p : Part) → IsInside (import_role u p)
import_inside (InBody f name) Beginning = refl
import_inside _ _ = tt

implicit_inside : (u : Scope) (p : Part) → IsInside (implicit_role u p)
implicit_inside u Beginning = refl
implicit_inside u BehindImport = refl
implicit_inside u _ = tt

contains_inside : (u : Scope) → IsInside (contains_role u)
contains_inside (InModule name) = refl
contains_inside _ = tt

declared_inside : (u : Scope) (p : Part) (d : Declared) → IsInside (declared_role u p d)
declared_inside u p (declared.Use i c m names) = use_inside u p
declared_inside u p (declared.Import c names) = import_inside u p
declared_inside u p declared.ImplicitNone = implicit_inside u p
declared_inside u p (declared.Variables t attributes c entities) = declares_inside p (stays (InUnit u BehindImplicit)) refl
declared_inside u p (declared.Accesses a c names) = declares_inside p (stays (InUnit u BehindImplicit)) refl
declared_inside u p declared.SaveAll = declares_inside p (stays (InUnit u BehindImplicit)) refl
declared_inside u p (declared.Procedures interface attributes pointers) = declares_inside p (stays (InUnit u BehindImplicit)) refl
declared_inside u p (declared.TypeStart attributes c name) = declares_inside p (enters (InUnit u BehindImplicit) (InType name)) (refl, refl)
declared_inside u p (declared.InterfaceStart is_abstract) = declares_inside p (enters (InUnit u BehindImplicit) InInterface) (refl, refl)
declared_inside u p declared.Contains = contains_inside u
declared_inside u p declared.End = tt
declared_inside u p (declared.EndOf what w name) = leaves_inside _
declared_inside u p _ = tt

executed_inside : (u : Scope) (l : Line) → IsInside (executed_role u l)
executed_inside (InProgram name) l = begun_inside (InUnit (InProgram name) Executing) l refl
executed_inside (InProcedure f name) l = begun_inside (InUnit (InProcedure f name) Executing) l refl
executed_inside (InModule name) l = tt
executed_inside (InBody f name) l = tt

containing_inside : (m : List ℕ) (d : Declared) → IsInside (containing_role m d)
containing_inside m (declared.Head ps f name ds ss) = (refl, refl)
containing_inside m declared.End = tt
containing_inside m (declared.EndOf OfModule w name) = leaves_inside _
containing_inside m _ = tt

type_inside : (name : List ℕ) (d : Declared) → IsInside (type_role name d)
type_inside name (declared.Variables t attributes c entities) = stays_inside _ (InType name) refl
type_inside name (declared.EndOf OfType w other) = leaves_inside _
type_inside name _ = tt

interface_inside : (d : Declared) → IsInside (interface_role d)
interface_inside (declared.Head ps f name ds ss) = (refl, refl)
interface_inside (declared.EndOf OfInterface w name) = tt
interface_inside _ = tt

if_inside : (l : Line) → IsInside (if_role l)
if_inside (line.ElseIf w test) = refl
if_inside line.Else = refl
if_inside (line.End line.If w) = tt
if_inside l = begun_inside InIf l refl

else_inside : (l : Line) → IsInside (else_role l)
else_inside (line.End line.If w) = tt
else_inside l = begun_inside InElse l refl

do_inside : (l : Line) → IsInside (do_role l)
do_inside (line.End line.Do w) = tt
do_inside l = begun_inside InDo l refl

cases_inside : (l : Line) → IsInside (cases_role l)
cases_inside (line.Cases s ss) = refl
cases_inside line.CaseDefault = refl
cases_inside (line.End line.Select w) = tt
cases_inside _ = tt

case_inside : (l : Line) → IsInside (case_role l)
case_inside (line.Cases s ss) = refl
case_inside line.CaseDefault = refl
case_inside (line.End line.Select w) = tt
case_inside l = begun_inside InCase l refl

ranks_inside : (l : Line) → IsInside (ranks_role l)
ranks_inside (line.Rank e) = refl
ranks_inside line.RankStar = refl
ranks_inside line.RankDefault = refl
ranks_inside (line.End line.Select w) = tt
ranks_inside _ = tt

rank_inside : (l : Line) → IsInside (rank_role l)
rank_inside (line.Rank e) = refl
rank_inside line.RankStar = refl
rank_inside line.RankDefault = refl
rank_inside (line.End line.Select w) = tt
rank_inside l = begun_inside InRank l refl

role_inside : (k : State) (s : Statement) → is_file k ≡ false → IsInside (role k s)
unfolding role
role_inside File s e = absurd (cc e)
role_inside (InUnit u p) (Declaring d) e = declared_inside u p d
role_inside (InUnit u p) (Executable l) e = executed_inside u l
role_inside (Containing m) (Declaring d) e = containing_inside m d
role_inside (InType name) (Declaring d) e = type_inside name d
role_inside InInterface (Declaring d) e = interface_inside d
role_inside InIf (Executable l) e = if_inside l
role_inside InElse (Executable l) e = else_inside l
role_inside InDo (Executable l) e = do_inside l
role_inside InSelectCase (Executable l) e = cases_inside l
role_inside InCase (Executable l) e = case_inside l
role_inside InSelectRank (Executable l) e = ranks_inside l
role_inside InRank (Executable l) e = rank_inside l
role_inside _ _ e = tt

-- what is entered isn't the file
abbrev Enters : Role → Type 0
Enters (enters next inside) = is_file inside ≡ false
Enters _ = Unit {0}

file_inside : (d : Declared) → Enters (file_role d)
file_inside (declared.Program name) = refl
file_inside (declared.Module name) = refl
file_inside (declared.Head ps f name ds ss) = refl
file_inside _ = tt

inside_enters : (r : Role) → IsInside r → Enters r
inside_enters (stays next) i = tt
inside_enters (enters next inside) i = i.1
inside_enters leaves i = tt
inside_enters none i = tt

role_enters : (k : State) (s : Statement) → Enters (role k s)
unfolding role
role_enters File (Declaring d) = file_inside d
role_enters File (Executable l) = tt
role_enters (InUnit u p) s = inside_enters (role (InUnit u p) s) (role_inside (InUnit u p) s refl)
role_enters (Containing m) s = inside_enters (role (Containing m) s) (role_inside (Containing m) s refl)
role_enters (InType name) s = inside_enters (role (InType name) s) (role_inside (InType name) s refl)
role_enters InInterface s = inside_enters (role InInterface s) (role_inside InInterface s refl)
role_enters InIf s = inside_enters (role InIf s) (role_inside InIf s refl)
role_enters InElse s = inside_enters (role InElse s) (role_inside InElse s refl)
role_enters InDo s = inside_enters (role InDo s) (role_inside InDo s refl)
role_enters InSelectCase s = inside_enters (role InSelectCase s) (role_inside InSelectCase s refl)
role_enters InCase s = inside_enters (role InCase s) (role_inside InCase s refl)
role_enters InSelectRank s = inside_enters (role InSelectRank s) (role_inside InSelectRank s refl)
role_enters InRank s = inside_enters (role InRank s) (role_inside InRank s refl)

-- all that is open but the outermost isn't the file
abbrev Inner : Open → Type 0
Inner [] = Unit {0}
Inner (o ∷ []) = Unit {0}
Inner (o ∷ p ∷ rest) = (is_file o.0 ≡ false) × Inner (p ∷ rest)

-- the end of all that is open but the outermost
abbrev closing : Open → List Statement
closing [] = []
closing (o ∷ []) = []
closing (o ∷ p ∷ rest) = closer o.0 ∷ closing (p ∷ rest)

abbrev outermost : Open → Open
outermost [] = []
outermost (o ∷ []) = o ∷ []
outermost (o ∷ p ∷ rest) = outermost (p ∷ rest)

run_nothing : (o : Open) → run o [] ≡ Ok o
unfolding run
run_nothing o = refl

closed_all : (o : Open) → Inner o → run o (closing o) ≡ Ok (outermost o)
closed_all [] i = run_nothing []
closed_all (o ∷ []) i = run_nothing (o ∷ [])
closed_all (o ∷ p ∷ rest) i =
    run_on (o ∷ p ∷ rest) (p ∷ rest) (closer o.0) (closing (p ∷ rest)) (step_by o.0 o.1 (p ∷ rest) (closer o.0) leaves (closes_shallow o.0 o.1) (closes o.0 i.0)) ∙ closed_all (p ∷ rest) i.1

-- where another state is innermost
other_inner : (k a : State) (d : ℕ) (rest : Open) → Inner ((k, d) ∷ rest) → (is_file k ≡ false → is_file a ≡ false) → Inner ((a, d) ∷ rest)
other_inner k a d [] i f = tt
other_inner k a d (p ∷ rest) i f = (f i.0, i.1)

left_inner : (k : State) (d : ℕ) (rest : Open) → Inner ((k, d) ∷ rest) → Inner rest
left_inner k d [] i = tt
left_inner k d (p ∷ rest) i = i.1

stays_next : (k : State) (s : Statement) (a : State) → role k s ≡ stays a → is_file k ≡ false → is_file a ≡ false
stays_next k s a e f = subst IsInside e (role_inside k s f)

enters_next : (k : State) (s : Statement) (a i : State) → role k s ≡ enters a i → is_file k ≡ false → is_file a ≡ false
enters_next k s a i e f = (subst IsInside e (role_inside k s f)).0

step_inner : (k : State) (d : ℕ) (rest : Open) (s : Statement) (p : Open) → Inner ((k, d) ∷ rest) → step ((k, d) ∷ rest) s ≡ Ok p → Inner p
step_inner k d rest s p i e = by_depth (deeper d 0 (spell_statement s)) refl
  where
    full : (x : Bool) (inner after : State) → role k s ≡ enters after inner → cond x (Err TooDeep) (Ok ((inner, d + counts inner) ∷ (after, d) ∷ rest)) ≡ Ok p → Inner p
    full true inner after r c = absurd (not_ok TooDeep p c)
    full false inner after r c = subst Inner (ok_is ((inner, d + counts inner) ∷ (after, d) ∷ rest) p c)
        (subst Enters r (role_enters k s), other_inner k after d rest i (enters_next k s after inner r))

    pick : IsShallow d s → (r : Role) → role k s ≡ r → Inner p
    pick h (stays after) r = subst Inner (ok_is ((after, d) ∷ rest) p (sym (step_by k d rest s (stays after) h r) ∙ e)) (other_inner k after d rest i (stays_next k s after r))
    pick h (enters after inner) r = full (ltb deepest (d + counts inner)) inner after r (sym (step_by k d rest s (enters after inner) h r) ∙ e)
    pick h leaves r = subst Inner (ok_is rest p (sym (step_by k d rest s leaves h r) ∙ e)) (left_inner k d rest i)
    pick h none r = absurd (not_ok NoPlace p (sym (step_by k d rest s none h r) ∙ e))

    by_depth : (x : Bool) → deeper d 0 (spell_statement s) ≡ x → Inner p
    by_depth true h = absurd (not_ok TooDeep p (sym (step_deep k d rest s h) ∙ e))
    by_depth false h = pick h (role k s) refl

step_nothing : (s : Statement) (p : Open) → step [] s ≡ Ok p → ⊥
unfolding step
step_nothing s p e = not_ok NoPlace p e

run_inner : (ss : List Statement) (o p : Open) → Inner o → run o ss ≡ Ok p → Inner p
unfolding run
run_inner [] o p i e = subst Inner (ok_is o p e) i
run_inner (s ∷ ss) [] p i e = pick (step [] s) refl e
  where
    pick : (r : Result Open Broken) → step [] s ≡ r → and_on r (λ q. run q ss) ≡ Ok p → Inner p
    pick (Ok q) r c = absurd (step_nothing s q r)
    pick (Err x) r c = absurd (not_ok x p c)
run_inner (s ∷ ss) (o ∷ rest) p i e = pick (λ q c. run_inner ss q p c) (step (o ∷ rest) s) refl e
  where
    pick : ((q : Open) → Inner q → run q ss ≡ Ok p → Inner p) → (r : Result Open Broken) → step (o ∷ rest) s ≡ r → and_on r (λ q. run q ss) ≡ Ok p → Inner p
    pick on (Ok q) r c = on q (step_inner o.0 o.1 rest s q i r) c
    pick on (Err x) r c = absurd (not_ok x p c)

outer_file : (p : State × ℕ) (rest : Open) (outer : State) (head : Statement) (inner : State) (before : List Statement) → Begun outer p.1 rest before → role outer head ≡ enters p.0 inner → outermost (p ∷ rest) ≡ at_file
outer_file p [] outer head inner before b e =
    let f : p.0 ≡ File = file_enters head p.0 inner (subst (λ (x : State). role x head ≡ enters p.0 inner) b.1 e) in
    λ i. (f i, b.2 i) ∷ []
outer_file p (r ∷ rest) outer head inner before b e = outer_file r rest b.1 b.2 b.3 b.0 b.5 b.6.1

begun_file : (o : Open) (before : List Statement) → BegunAt o before → outermost o ≡ at_file
begun_file [] before b = absurd b
begun_file (o ∷ []) before b = λ i. (b.1 i, b.2 i) ∷ []
begun_file (o ∷ p ∷ rest) before b = outer_file p rest b.1 b.2 b.3 b.0 b.5 b.6.1

pub placed_begins : (before : List Statement) (o : Open) → run at_file before ≡ Ok o → Begins before
placed_begins before o e =
    let inner = run_inner before at_file o tt e in
    let all : run at_file (before ++ closing o) ≡ Ok (outermost o) = run_append before (closing o) at_file o e ∙ closed_all o inner in
    let same : outermost o ≡ at_file = begun_file o before (run_begun before at_file o [] at_start e) in
    let done : run at_file (before ++ closing o) ≡ Ok at_file = subst (λ (q : Open). run at_file (before ++ closing o) ≡ Ok q) same all in
    (closing o, placed_is_file (before ++ closing o) done)
