-- Trees of program units without their places (ISO/IEC 1539-1:2018, 5.1, 11.1, 14 and 15.6), each statement's own part as the grammar has it.
use Rattle.std.specs.Prelude.{ℕ, List, [], ◌∷◌, Option, Some, None, Bool, map, is_some}
use Rattle.std.specs.Option.{option_map}
use Rattle.f_tree.specs.declared.declaration.Ending.{Ending}
use Rattle.f_tree.specs.declared.declaration.EndingForm.{EndingForm}
use Rattle.f_tree.specs.declared.statement.CaseChoice.{CaseChoice}
use Rattle.f_tree.specs.declared.statement.CaseChoice.TheVariants as choice
use Rattle.f_tree.specs.declared.statement.RankChoice.{RankChoice}
use Rattle.f_tree.specs.declared.statement.RankChoice.TheVariants as rank_choice
use Rattle.f_tree.specs.declared.statement.Statement.{Statement, fold-Statement}
use Rattle.f_tree.specs.declared.statement.Statement.TheOpen as open_
use Rattle.f_tree.specs.declared.statement.Statement.TheOpen.{Statement-F, Case-F, DoConstruct-F, Else-F, ElseIf-F, IfConstruct-F, RankCase-F, SelectCase-F, SelectRank-F}
use Rattle.f_tree.specs.declared.declaration.Use.{Use as UseTree}
use Rattle.f_tree.specs.declared.declaration.Import.{Import as ImportTree}
use Rattle.f_tree.specs.declared.declaration.Component.{Component as ComponentTree}
use Rattle.f_tree.specs.declared.declaration.Field.{Field as FieldTree}
use Rattle.f_tree.specs.declared.declaration.DerivedType.{DerivedType as DerivedTypeTree}
use Rattle.f_tree.specs.declared.unit.Head.{Head as HeadTree}
use Rattle.f_tree.specs.declared.unit.Procedure.{Procedure as ProcedureTree}
use Rattle.f_tree.specs.declared.unit.Unit.{Unit as UnitTree}
use Rattle.f_tree.specs.declared.unit.Unit.TheVariants as unit
use Rattle.f_tree.specs.declared.declaration.Specification.{Specification as SpecificationTree}
use Rattle.f_tree.specs.declared.declaration.Declaration.TheOpen as part
use Rattle.f_tree.specs.declared.declaration.Declaration.TheOpen.{Declaration-F, Interface-F, InterfaceBody-F, Specification-F}
use Rattle.f_tree.specs.declared.declaration.Declaration.TheFolds.{fold-Specification}
use Rattle.f_grammar.specs.Grammar.{Expr, Array, no_args, TypeOf}
use Rattle.f_grammar.specs.Actions.{Act}
use Rattle.f_line_grammar.specs.Lines.{Control, Span, One, Spans, no_spans}
use Rattle.f_declaration_grammar.specs.Declarations as grammar
use Rattle.f_declaration_grammar.specs.Declarations.{Dim}
use Rattle.f_expr_read.specs.Views.{view, view_type, keyword_of}
use Rattle.f_action_read.specs.Actions.{view_action}
use Rattle.f_declared.specs.Views.{view_name, view_dimensions, view_access, view_attribute, view_entity, view_uses, view_type_attribute, view_pointer_attribute, view_pointer, view_prefix, view_suffix, is_function}
use Rattle.f_line_read.specs.Lines.{view_control, view_range, spans_of}

-- ---- ends

-- how the words of an END statement are spelled, and the name behind them
pub data Close : Type 0 where
  close : (form : EndingForm) (name : Option (List ℕ)) → Close

abbrev pub bare_ending : Ending → Close
bare_ending e = close e.form (option_map view_name e.name)

-- ---- constructs (11.1)

-- what a block of SELECT CASE is for
pub data Values : Type 0 where
  OtherValues : Values
  These : (first : Span) (others : Spans) → Values

-- what a block of SELECT RANK is for
pub data RankOf : Type 0 where
  OtherRanks : RankOf
  This : (e : Expr) → RankOf
  AssumedSize : RankOf

mutual
  -- an action statement or a construct
  pub data Block : Type 0 where
    Action : (a : Act) → Block
    IfAction : (condition : Expr) (a : Act) → Block
    If : (condition : Expr) (body : Blocks) (else_ifs : ElseIfs) (otherwise : Otherwise) (ending : Close) → Block
    Do : (control : Control) (body : Blocks) (ending : Close) → Block
    SelectCase : (is_one_word : Bool) (selector : Expr) (cases : Cases) (ending : Close) → Block
    SelectRank : (renamed : Option (List ℕ)) (selector : List ℕ) (ranks : Ranks) (ending : Close) → Block

  pub data Blocks : Type 0 where
    no_blocks : Blocks
    block : (b : Block) (rest : Blocks) → Blocks

  pub data ElseIfs : Type 0 where
    no_else_ifs : ElseIfs
    else_if : (is_one_word : Bool) (condition : Expr) (body : Blocks) (rest : ElseIfs) → ElseIfs

  pub data Otherwise : Type 0 where
    no_otherwise : Otherwise
    otherwise : (body : Blocks) → Otherwise

  pub data Cases : Type 0 where
    no_cases : Cases
    case_of : (values : Values) (body : Blocks) (rest : Cases) → Cases

  pub data Ranks : Type 0 where
    no_ranks : Ranks
    rank_of : (rank : RankOf) (body : Blocks) (rest : Ranks) → Ranks

abbrev pub blocks : List Block → Blocks
blocks [] = no_blocks
blocks (b ∷ bs) = block b (blocks bs)

abbrev pub else_ifs_of : List (Bool × Expr × Blocks) → ElseIfs
else_ifs_of [] = no_else_ifs
else_ifs_of (e ∷ es) = else_if e.0 e.1 e.2 (else_ifs_of es)

abbrev pub otherwise_of : Option Blocks → Otherwise
otherwise_of None = no_otherwise
otherwise_of (Some body) = otherwise body

abbrev pub cases_of : List (Values × Blocks) → Cases
cases_of [] = no_cases
cases_of (c ∷ cs) = case_of c.0 c.1 (cases_of cs)

abbrev pub ranks_of : List (RankOf × Blocks) → Ranks
ranks_of [] = no_ranks
ranks_of (r ∷ rs) = rank_of r.0 r.1 (ranks_of rs)

-- The first of some ranges and the others. Where there is none, the first is one that no tokens spell, as in the view of a CASE statement.
abbrev pub values_of : List Span → Values
values_of [] = These (One (Array no_args)) no_spans
values_of (s ∷ ss) = These s (spans_of ss)

abbrev pub bare_choice : CaseChoice → Values
bare_choice choice.Default = OtherValues
bare_choice (choice.Ranges rs) = values_of (map view_range rs)

abbrev pub bare_rank : RankChoice → RankOf
bare_rank rank_choice.Default = OtherRanks
bare_rank (rank_choice.Rank e) = This (view e)
bare_rank (rank_choice.AssumedSize p) = AssumedSize

abbrev pub statement_bare : Statement-F Block (Values × Blocks) Block Blocks (Bool × Expr × Blocks) Block (RankOf × Blocks) Block Block → Block
statement_bare (open_.Action a) = Action (view_action a)
statement_bare (open_.IfAction p condition a) = IfAction (view condition) (view_action a)
statement_bare (open_.If c) = c
statement_bare (open_.Do c) = c
statement_bare (open_.SelectCase c) = c
statement_bare (open_.SelectRank c) = c

abbrev pub case_bare : Case-F Block (Values × Blocks) Block Blocks (Bool × Expr × Blocks) Block (RankOf × Blocks) Block Block → Values × Blocks
case_bare c = (bare_choice c.choice, blocks c.body)

abbrev pub do_bare : DoConstruct-F Block (Values × Blocks) Block Blocks (Bool × Expr × Blocks) Block (RankOf × Blocks) Block Block → Block
do_bare c = Do (view_control c.control) (blocks c.body) (bare_ending c.ending)

abbrev pub else_bare : Else-F Block (Values × Blocks) Block Blocks (Bool × Expr × Blocks) Block (RankOf × Blocks) Block Block → Blocks
else_bare c = blocks c.body

abbrev pub else_if_bare : ElseIf-F Block (Values × Blocks) Block Blocks (Bool × Expr × Blocks) Block (RankOf × Blocks) Block Block → Bool × Expr × Blocks
else_if_bare c = (c.is_one_word, view c.condition, blocks c.body)

abbrev pub if_bare : IfConstruct-F Block (Values × Blocks) Block Blocks (Bool × Expr × Blocks) Block (RankOf × Blocks) Block Block → Block
if_bare c = If (view c.condition) (blocks c.body) (else_ifs_of c.else_ifs) (otherwise_of c.otherwise) (bare_ending c.ending)

abbrev pub rank_bare : RankCase-F Block (Values × Blocks) Block Blocks (Bool × Expr × Blocks) Block (RankOf × Blocks) Block Block → RankOf × Blocks
rank_bare c = (bare_rank c.choice, blocks c.body)

abbrev pub select_bare : SelectCase-F Block (Values × Blocks) Block Blocks (Bool × Expr × Blocks) Block (RankOf × Blocks) Block Block → Block
select_bare c = SelectCase c.is_one_word (view c.selector) (cases_of c.cases) (bare_ending c.ending)

abbrev pub select_rank_bare : SelectRank-F Block (Values × Blocks) Block Blocks (Bool × Expr × Blocks) Block (RankOf × Blocks) Block Block → Block
select_rank_bare c = SelectRank (keyword_of c.renamed) c.selector.bytes (ranks_of c.ranks) (bare_ending c.ending)

-- an action statement or a construct without its places
abbrev pub bare_block : Statement → Block
bare_block = fold-Statement Block (Values × Blocks) Block Blocks (Bool × Expr × Blocks) Block (RankOf × Blocks) Block Block statement_bare case_bare do_bare else_bare else_if_bare if_bare rank_bare select_bare select_rank_bare

abbrev pub bare_blocks : List Statement → Blocks
bare_blocks ss = blocks (map bare_block ss)

-- ---- specifications (5.2.1, 7.5, 8 and 15.4.3)

pub data Head : Type 0 where
  head : (prefixes : List grammar.Prefix) (is_function : Bool) (name : List ℕ) (dummies : Option (List (List ℕ))) (suffixes : List grammar.Suffix) → Head

pub data Use : Type 0 where
  used : (is_intrinsic has_colons : Bool) (name : List ℕ) (names : grammar.UseList) → Use

pub data Import : Type 0 where
  imported : (has_colons : Bool) (names : List (List ℕ)) → Import

pub data Field : Type 0 where
  field : (name : List ℕ) (dimensions : Option (List Dim)) → Field

pub data Component : Type 0 where
  component : (declared : TypeOf) (dimensions : Option (List Dim)) (fields : List Field) → Component

mutual
  pub data Declaration : Type 0 where
    Variables : (declared : TypeOf) (attributes : List grammar.Attr) (has_colons : Bool) (entities : List grammar.Entity) → Declaration
    DerivedType : (attributes : List grammar.TypeAttr) (has_colons : Bool) (name : List ℕ) (components : List Component) (ending : Close) → Declaration
    Interface : (is_abstract : Bool) (bodies : Bodies) (ending : Close) → Declaration
    Access : (access : grammar.Access) (has_colons : Bool) (names : List (List ℕ)) → Declaration
    Save : Declaration
    ProcedurePointers : (interface : List ℕ) (attributes : List grammar.PointerAttr) (pointers : List grammar.ProcPointer) → Declaration

  pub data Declarations : Type 0 where
    no_declarations : Declarations
    declaration : (d : Declaration) (rest : Declarations) → Declarations

  -- interface bodies
  pub data Bodies : Type 0 where
    no_bodies : Bodies
    body_of : (h : Head) (s : Specification) (ending : Close) (rest : Bodies) → Bodies

  pub data Specification : Type 0 where
    specification : (uses : List Use) (import : Option Import) (has_implicit_none : Bool) (declarations : Declarations) → Specification

abbrev pub declarations : List Declaration → Declarations
declarations [] = no_declarations
declarations (d ∷ ds) = declaration d (declarations ds)

abbrev pub bodies_of : List (Head × Specification × Close) → Bodies
bodies_of [] = no_bodies
bodies_of (b ∷ bs) = body_of b.0 b.1 b.2 (bodies_of bs)

abbrev pub bare_head : HeadTree → Head
bare_head h = head (map view_prefix h.prefixes) (is_function h.kind) h.name.bytes (option_map (map view_name) h.dummies) (map view_suffix h.suffixes)

abbrev pub bare_use : UseTree → Use
bare_use u = used u.is_intrinsic u.has_colons u.module.bytes (view_uses u.list)

abbrev pub bare_import : ImportTree → Import
bare_import i = imported i.has_colons (map view_name i.names)

abbrev pub bare_field : FieldTree → Field
bare_field f = field f.name.bytes (view_dimensions f.dimensions)

abbrev pub bare_component : ComponentTree → Component
bare_component c = component (view_type c.declared) (view_dimensions c.dimensions) (map bare_field c.fields)

abbrev pub derived_type_bare : DerivedTypeTree → Declaration
derived_type_bare t = DerivedType (map view_type_attribute t.attributes) t.has_colons t.name.bytes (map bare_component t.components) (bare_ending t.ending)

abbrev pub declaration_bare : Declaration-F Declaration Declaration (Head × Specification × Close) Specification → Declaration
declaration_bare (part.Variables v) = Variables (view_type v.declared) (map view_attribute v.attributes) v.has_colons (map view_entity v.entities)
declaration_bare (part.DerivedType t) = derived_type_bare t
declaration_bare (part.Interface i) = i
declaration_bare (part.Access a) = Access (view_access a.access) a.has_colons (map view_name a.names)
declaration_bare (part.Save p) = Save
declaration_bare (part.ProcedurePointers p) = ProcedurePointers p.interface.bytes (map view_pointer_attribute p.attributes) (map view_pointer p.pointers)

abbrev pub interface_bare : Interface-F Declaration Declaration (Head × Specification × Close) Specification → Declaration
interface_bare i = Interface i.is_abstract (bodies_of i.bodies) (bare_ending i.ending)

abbrev pub body_bare : InterfaceBody-F Declaration Declaration (Head × Specification × Close) Specification → Head × Specification × Close
body_bare b = (bare_head b.head, b.specification, bare_ending b.ending)

abbrev pub specification_bare : Specification-F Declaration Declaration (Head × Specification × Close) Specification → Specification
specification_bare s = specification (map bare_use s.uses) (option_map bare_import s.import) (is_some s.implicit_none) (declarations s.declarations)

-- a specification without its places
abbrev pub bare_specification : SpecificationTree → Specification
bare_specification = fold-Specification Declaration Declaration (Head × Specification × Close) Specification declaration_bare interface_bare body_bare specification_bare

-- ---- program units (14 and 15.6.2)

pub data Procedure : Type 0 where
  procedure : (h : Head) (s : Specification) (body : Blocks) (ending : Close) → Procedure

-- a program unit (5.1)
pub data ProgramUnit : Type 0 where
  Program : (name : List ℕ) (s : Specification) (body : Blocks) (ending : Close) → ProgramUnit
  Module : (name : List ℕ) (s : Specification) (procedures : Option (List Procedure)) (ending : Close) → ProgramUnit
  External : (p : Procedure) → ProgramUnit

abbrev pub bare_procedure : ProcedureTree → Procedure
bare_procedure p = procedure (bare_head p.head) (bare_specification p.specification) (bare_blocks p.body) (bare_ending p.ending)

-- a program unit without its places, and without the count of its tokens
abbrev pub bare_unit : UnitTree → ProgramUnit
bare_unit (unit.Program p) = Program p.name.bytes (bare_specification p.specification) (bare_blocks p.body) (bare_ending p.ending)
bare_unit (unit.Module m) = Module m.name.bytes (bare_specification m.specification) (option_map (map bare_procedure) m.procedures) (bare_ending m.ending)
bare_unit (unit.Procedure p) = External (bare_procedure p)

abbrev pub bare_units : List UnitTree → List ProgramUnit
bare_units units = map bare_unit units
