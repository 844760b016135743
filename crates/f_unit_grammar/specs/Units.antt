-- Which statements a file is made of (ISO/IEC 1539-1:2018, 5.1 to 5.3): a file is a list of trees, and a tree is a single statement, or a statement that
-- begins something, what stands inside, and the statement that ends it. What may stand where is told by the innermost thing that is open.
use Rattle.std.specs.Prelude.{◌≡◌, ℕ, zero, suc, nat_lt, ◌||◌, ◌+◌, ◌≤◌, List, [], ◌∷◌, Option, Some, None, Bool, true, false, ◌&&◌, if◌then◌else◌}
use Rattle.std.specs.Str.{bytes_eq}
use Rattle.f_lex.specs.declared.token.Mark.TheVariants as mark
use Rattle.f_lex.specs.declared.token.Token.{Token}
use Rattle.f_lex.specs.declared.token.Token.TheVariants as token
use Rattle.f_line_grammar.specs.Lines as line
use Rattle.f_line_grammar.specs.Lines.{Line}
use Rattle.f_declaration_grammar.specs.Declarations.{Attr, Dimension, Entity, entity, NoInitial, Ended, OfProgram, OfModule, OfSubroutine, OfFunction, OfType, OfInterface, Declared}
use Rattle.f_declaration_grammar.specs.Declarations as declared
use Rattle.f_statement_grammar.specs.Statements.{Statement, Executable, Declaring, spell_statement}

-- ---- what is open

-- how far a unit has come (5.3.2): USE may stand, IMPLICIT may stand, declarations may stand, and executable statements alone
pub data Part : Type 0 where
  Beginning : Part
  BehindImport : Part
  BehindImplicit : Part
  Executing : Part

-- a unit, a module procedure among them, or an interface body
pub data Scope : Type 0 where
  InProgram : (name : List ℕ) → Scope
  InModule : (name : List ℕ) → Scope
  InProcedure : (is_function : Bool) (name : List ℕ) → Scope
  InBody : (is_function : Bool) (name : List ℕ) → Scope

-- the file, a unit, a module behind CONTAINS, the definition of a derived type, an interface block, and the constructs: IF before and behind ELSE, DO, and
-- SELECT before its first block and in one
pub data State : Type 0 where
  File : State
  InUnit : (u : Scope) (p : Part) → State
  Containing : (module_name : List ℕ) → State
  InType : (name : List ℕ) → State
  InInterface : State
  InIf : State
  InElse : State
  InDo : State
  InSelectCase : State
  InCase : State
  InSelectRank : State
  InRank : State

-- how many nestings something that is open counts for: constructs, derived types and interface blocks are counted, units and procedures aren't
abbrev pub counts : State → ℕ
counts File = 0
counts (InUnit u p) = 0
counts (Containing m) = 0
counts _ = 1

-- What a statement does where something is open: it stays in that, it begins something else inside, it ends that, or it has no place there.
pub data Role : Type 0 where
  stays : (next : State) → Role
  enters : (next inside : State) → Role
  leaves : Role
  none : Role

-- ---- executable statements (11.1)

-- a construct is begun, in a state that stays
abbrev pub begun : State → Line → Role
begun k (line.Simple a) = stays k
begun k (line.Guarded test a) = stays k
begun k (line.IfThen test) = enters k InIf
begun k (line.Loop control) = enters k InDo
begun k (line.SelectCase w e) = enters k InSelectCase
begun k (line.SelectRank renamed selector) = enters k InSelectRank
begun k _ = none

abbrev pub if_role : Line → Role
if_role (line.ElseIf w test) = stays InIf
if_role line.Else = stays InElse
if_role (line.End line.If w) = leaves
if_role l = begun InIf l

abbrev pub else_role : Line → Role
else_role (line.End line.If w) = leaves
else_role l = begun InElse l

abbrev pub do_role : Line → Role
do_role (line.End line.Do w) = leaves
do_role l = begun InDo l

-- before the first block of SELECT CASE
abbrev pub cases_role : Line → Role
cases_role (line.Cases s ss) = stays InCase
cases_role line.CaseDefault = stays InCase
cases_role (line.End line.Select w) = leaves
cases_role _ = none

abbrev pub case_role : Line → Role
case_role (line.Cases s ss) = stays InCase
case_role line.CaseDefault = stays InCase
case_role (line.End line.Select w) = leaves
case_role l = begun InCase l

-- before the first block of SELECT RANK
abbrev pub ranks_role : Line → Role
ranks_role (line.Rank e) = stays InRank
ranks_role line.RankStar = stays InRank
ranks_role line.RankDefault = stays InRank
ranks_role (line.End line.Select w) = leaves
ranks_role _ = none

abbrev pub rank_role : Line → Role
rank_role (line.Rank e) = stays InRank
rank_role line.RankStar = stays InRank
rank_role line.RankDefault = stays InRank
rank_role (line.End line.Select w) = leaves
rank_role l = begun InRank l

-- ---- units and their specifications

-- no name, or this one
abbrev pub is_name : List ℕ → Option (List ℕ) → Bool
is_name name None = true
is_name name (Some other) = bytes_eq other name

abbrev pub leaves_if : Bool → Role
leaves_if true = leaves
leaves_if false = none

-- an END statement with words ends this unit
abbrev pub ends_unit : Scope → Ended → Option (List ℕ) → Bool
ends_unit (InProgram name) OfProgram n = is_name name n
ends_unit (InModule name) OfModule n = is_name name n
ends_unit (InProcedure true name) OfFunction n = is_name name n
ends_unit (InProcedure false name) OfSubroutine n = is_name name n
ends_unit (InBody true name) OfFunction n = is_name name n
ends_unit (InBody false name) OfSubroutine n = is_name name n
ends_unit _ _ n = false

-- declarations may still stand
abbrev pub declares : Part → Bool
declares Executing = false
declares _ = true

abbrev pub if_declares : Part → Role → Role
if_declares p r = if declares p then r else none

abbrev pub use_role : Scope → Part → Role
use_role u Beginning = stays (InUnit u Beginning)
use_role u _ = none

-- IMPORT stands only in an interface body
abbrev pub import_role : Scope → Part → Role
import_role (InBody f name) Beginning = stays (InUnit (InBody f name) BehindImport)
import_role _ _ = none

abbrev pub implicit_role : Scope → Part → Role
implicit_role u Beginning = stays (InUnit u BehindImplicit)
implicit_role u BehindImport = stays (InUnit u BehindImplicit)
implicit_role u _ = none

abbrev pub contains_role : Scope → Role
contains_role (InModule name) = stays (Containing name)
contains_role _ = none

abbrev pub declared_role : Scope → Part → Declared → Role
declared_role u p (declared.Use i c m names) = use_role u p
declared_role u p (declared.Import c names) = import_role u p
declared_role u p declared.ImplicitNone = implicit_role u p
declared_role u p (declared.Variables t attributes c entities) = if_declares p (stays (InUnit u BehindImplicit))
declared_role u p (declared.Accesses a c names) = if_declares p (stays (InUnit u BehindImplicit))
declared_role u p declared.SaveAll = if_declares p (stays (InUnit u BehindImplicit))
declared_role u p (declared.Procedures interface attributes pointers) = if_declares p (stays (InUnit u BehindImplicit))
declared_role u p (declared.TypeStart attributes c name) = if_declares p (enters (InUnit u BehindImplicit) (InType name))
declared_role u p (declared.InterfaceStart is_abstract) = if_declares p (enters (InUnit u BehindImplicit) InInterface)
declared_role u p declared.Contains = contains_role u
declared_role u p declared.End = leaves
declared_role u p (declared.EndOf what w name) = leaves_if (ends_unit u what name)
declared_role u p _ = none

-- executable statements stand in programs and procedures
abbrev pub executed_role : Scope → Line → Role
executed_role (InProgram name) l = begun (InUnit (InProgram name) Executing) l
executed_role (InProcedure f name) l = begun (InUnit (InProcedure f name) Executing) l
executed_role _ l = none

-- a component has no attribute but DIMENSION and no value (7.5.4)
abbrev pub are_component_attributes : List Attr → Bool
are_component_attributes [] = true
are_component_attributes (Dimension dims ∷ []) = true
are_component_attributes _ = false

abbrev pub is_component : Entity → Bool
is_component (entity name dims NoInitial) = true
is_component _ = false

abbrev pub are_components : List Entity → Bool
are_components [] = true
are_components (e ∷ es) = is_component e && are_components es

abbrev pub stays_if : Bool → State → Role
stays_if true k = stays k
stays_if false k = none

abbrev pub type_role : List ℕ → Declared → Role
type_role name (declared.Variables t attributes c entities) = stays_if (c && are_component_attributes attributes && are_components entities) (InType name)
type_role name (declared.EndOf OfType w other) = leaves_if (is_name name other)
type_role name _ = none

abbrev pub interface_role : Declared → Role
interface_role (declared.Head prefixes is_function name dummies suffixes) = enters InInterface (InUnit (InBody is_function name) Beginning)
interface_role (declared.EndOf OfInterface w name) = leaves
interface_role _ = none

abbrev pub containing_role : List ℕ → Declared → Role
containing_role m (declared.Head prefixes is_function name dummies suffixes) = enters (Containing m) (InUnit (InProcedure is_function name) Beginning)
containing_role m declared.End = leaves
containing_role m (declared.EndOf OfModule w name) = leaves_if (is_name m name)
containing_role m _ = none

abbrev pub file_role : Declared → Role
file_role (declared.Program name) = enters File (InUnit (InProgram name) Beginning)
file_role (declared.Module name) = enters File (InUnit (InModule name) Beginning)
file_role (declared.Head prefixes is_function name dummies suffixes) = enters File (InUnit (InProcedure is_function name) Beginning)
file_role _ = none

unfoldable pub role : State → Statement → Role
role File (Declaring d) = file_role d
role (InUnit u p) (Declaring d) = declared_role u p d
role (InUnit u p) (Executable l) = executed_role u l
role (Containing m) (Declaring d) = containing_role m d
role (InType name) (Declaring d) = type_role name d
role InInterface (Declaring d) = interface_role d
role InIf (Executable l) = if_role l
role InElse (Executable l) = else_role l
role InDo (Executable l) = do_role l
role InSelectCase (Executable l) = cases_role l
role InCase (Executable l) = case_role l
role InSelectRank (Executable l) = ranks_role l
role InRank (Executable l) = rank_role l
role _ _ = none

-- ---- trees

mutual
  pub data Tree : Type 0 where
    single : (s : Statement) → Tree
    nested : (head : Statement) (inside : Trees) (end : Statement) → Tree

  pub data Trees : Type 0 where
    no_trees : Trees
    tree : (t : Tree) (rest : Trees) → Trees

-- the statements of a tree, in front of a rest
abbrev mutual
  pub spell_tree : Tree → List Statement → List Statement
  spell_tree (single s) rest = s ∷ rest
  spell_tree (nested head inside end) rest = head ∷ spell_trees inside (end ∷ rest)

  pub spell_trees : Trees → List Statement → List Statement
  spell_trees no_trees rest = rest
  spell_trees (tree t ts) rest = spell_tree t (spell_trees ts rest)

-- how deep constructs, parentheses and brackets nest at most, all together
abbrev pub deepest : ℕ
deepest = 64

abbrev pub fewer : ℕ → ℕ
fewer zero = zero
fewer (suc n) = n

-- with so many constructs around, where so many parentheses and brackets are open, one stands deeper than that
unfoldable pub deeper : ℕ → ℕ → List Token → Bool
deeper d n [] = false
deeper d n (token.Mark mark.Open ∷ ts) = nat_lt deepest (d + suc n) || deeper d (suc n) ts
deeper d n (token.Mark mark.OpenBracket ∷ ts) = nat_lt deepest (d + suc n) || deeper d (suc n) ts
deeper d n (token.Mark mark.Close ∷ ts) = deeper d (fewer n) ts
deeper d n (token.Mark mark.CloseBracket ∷ ts) = deeper d (fewer n) ts
deeper d n (t ∷ ts) = deeper d n ts

-- the parentheses of a statement nest within that
abbrev pub IsShallow : ℕ → Statement → Type 0
IsShallow d s = deeper d 0 (spell_statement s) ≡ false

-- A tree stands where this is open, with so many nestings around, and leaves that open so.
abbrev mutual
  pub Stands : ℕ → State → Tree → State → Type 0
  Stands d k (single s) after = IsShallow d s × (role k s ≡ stays after)
  Stands d k (nested head inside end) after = (inner : State) × (last : State) × IsShallow d head × (role k head ≡ enters after inner) × (d + counts inner ≤ deepest)
      × StandAll (d + counts inner) inner inside last × IsShallow (d + counts inner) end × (role last end ≡ leaves)

  pub StandAll : ℕ → State → Trees → State → Type 0
  StandAll d k no_trees after = k ≡ after
  StandAll d k (tree t ts) after = (next : State) × Stands d k t next × StandAll d next ts after

-- the statements of a file
pub record IsFile (statements : List Statement) : Type 0 where
  pub trees : Trees
  pub stand : StandAll 0 File trees File
  pub spelled : statements ≡ spell_trees trees []
