-- The trees of statements that trees of units say (ISO/IEC 1539-1:2018, 5.1 to 5.3): a unit and a construct is its first statement, what stands inside, and the
-- statement that ends it; each other statement is a single one, ELSE IF, ELSE, CASE, RANK and CONTAINS among them.
use Rattle.std.specs.Prelude.{List, [], ◌∷◌, Option, Some, None, Bool, true, false, map}
use Rattle.f_tree.specs.declared.declaration.EndingForm.TheVariants.{Bare, TwoWords, OneWord}
use Rattle.f_tree.specs.declared.unit.Unit.{Unit}
use Rattle.f_line_grammar.specs.Lines as line
use Rattle.f_line_grammar.specs.Lines.{Line, Construct}
use Rattle.f_declaration_grammar.specs.Declarations as grammar
use Rattle.f_declaration_grammar.specs.Declarations.{Dim, Declared}
use Rattle.f_statement_grammar.specs.Statements.{Statement, Executable, Declaring}
use Rattle.f_unit_grammar.specs.Units.{Tree, single, nested, Trees, no_trees, tree}
use Rattle.f_unit_laws.specs.Shapes as shape
use Rattle.f_unit_laws.specs.Shapes.{Close, close, Values, OtherValues, These, RankOf, OtherRanks, This, AssumedSize, Block, Blocks, no_blocks, block, ElseIfs, no_else_ifs, else_if, Otherwise, no_otherwise, otherwise, Cases, no_cases, case_of, Ranks, no_ranks, rank_of, Head, head, Use, used, Import, imported, Field, field, Component, component, Declaration, Declarations, no_declarations, declaration, Bodies, no_bodies, body_of, Specification, specification, Procedure, procedure, ProgramUnit, bare_units}

-- ---- constructs

-- the words that end a construct; END alone and a name behind the words end none
abbrev pub construct_end : Construct → Close → Statement
construct_end c (close OneWord None) = Executable (line.End c true)
construct_end c (close TwoWords None) = Executable (line.End c false)
construct_end c _ = Declaring grammar.End

abbrev pub values_line : Values → Line
values_line OtherValues = line.CaseDefault
values_line (These first others) = line.Cases first others

abbrev pub rank_line : RankOf → Line
rank_line OtherRanks = line.RankDefault
rank_line (This e) = line.Rank e
rank_line AssumedSize = line.RankStar

abbrev pub executed : Line → Tree
executed l = single (Executable l)

abbrev mutual
  pub block_tree : Block → Tree
  block_tree (shape.Action a) = executed (line.Simple a)
  block_tree (shape.IfAction condition a) = executed (line.Guarded condition a)
  block_tree (shape.If condition body elses other ending) = nested (Executable (line.IfThen condition)) (block_trees body (else_if_trees elses (otherwise_trees other no_trees))) (construct_end line.If ending)
  block_tree (shape.Do control body ending) = nested (Executable (line.Loop control)) (block_trees body no_trees) (construct_end line.Do ending)
  block_tree (shape.SelectCase w e cases ending) = nested (Executable (line.SelectCase w e)) (case_trees cases no_trees) (construct_end line.Select ending)
  block_tree (shape.SelectRank renamed selector ranks ending) = nested (Executable (line.SelectRank renamed selector)) (rank_trees ranks no_trees) (construct_end line.Select ending)

  -- the trees of a block, in front of others
  pub block_trees : Blocks → Trees → Trees
  block_trees no_blocks ts = ts
  block_trees (block b bs) ts = tree (block_tree b) (block_trees bs ts)

  pub else_if_trees : ElseIfs → Trees → Trees
  else_if_trees no_else_ifs ts = ts
  else_if_trees (else_if w condition body es) ts = tree (executed (line.ElseIf w condition)) (block_trees body (else_if_trees es ts))

  pub otherwise_trees : Otherwise → Trees → Trees
  otherwise_trees no_otherwise ts = ts
  otherwise_trees (otherwise body) ts = tree (executed line.Else) (block_trees body ts)

  pub case_trees : Cases → Trees → Trees
  case_trees no_cases ts = ts
  case_trees (case_of values body cs) ts = tree (executed (values_line values)) (block_trees body (case_trees cs ts))

  pub rank_trees : Ranks → Trees → Trees
  rank_trees no_ranks ts = ts
  rank_trees (rank_of r body rs) ts = tree (executed (rank_line r)) (block_trees body (rank_trees rs ts))

-- ---- specifications

-- the words that end a unit, a definition of a type or an interface; END alone with a name behind it ends none, as END IF does
abbrev pub unit_end : grammar.Ended → Close → Statement
unit_end what (close OneWord name) = Declaring (grammar.EndOf what true name)
unit_end what (close TwoWords name) = Declaring (grammar.EndOf what false name)
unit_end what (close Bare None) = Declaring grammar.End
unit_end what (close Bare (Some name)) = Executable (line.End line.If false)

abbrev pub head_line : Head → Statement
head_line (head prefixes is_function name dummies suffixes) = Declaring (grammar.Head prefixes is_function name dummies suffixes)

abbrev pub procedure_end : Head → Close → Statement
procedure_end (head prefixes true name dummies suffixes) ending = unit_end grammar.OfFunction ending
procedure_end (head prefixes false name dummies suffixes) ending = unit_end grammar.OfSubroutine ending

abbrev pub stated : Declared → Tree
stated d = single (Declaring d)

abbrev pub use_trees : List Use → Trees → Trees
use_trees [] ts = ts
use_trees (used is_intrinsic has_colons name names ∷ us) ts = tree (stated (grammar.Use is_intrinsic has_colons name names)) (use_trees us ts)

abbrev pub import_trees : Option Import → Trees → Trees
import_trees None ts = ts
import_trees (Some (imported has_colons names)) ts = tree (stated (grammar.Import has_colons names)) ts

abbrev pub implicit_trees : Bool → Trees → Trees
implicit_trees false ts = ts
implicit_trees true ts = tree (stated grammar.ImplicitNone) ts

-- a statement that declares components has `::`, no attribute but DIMENSION and no value (7.5.4)
abbrev pub dimension_of : Option (List Dim) → List grammar.Attr
dimension_of None = []
dimension_of (Some dims) = grammar.Dimension dims ∷ []

abbrev pub field_entity : Field → grammar.Entity
field_entity (field name dimensions) = grammar.entity name dimensions grammar.NoInitial

abbrev pub component_trees : List Component → Trees
component_trees [] = no_trees
component_trees (component declared dimensions fields ∷ cs) = tree (stated (grammar.Variables declared (dimension_of dimensions) true (map field_entity fields))) (component_trees cs)

abbrev mutual
  pub declaration_tree : Declaration → Tree
  declaration_tree (shape.Variables declared attributes has_colons entities) = stated (grammar.Variables declared attributes has_colons entities)
  declaration_tree (shape.DerivedType attributes has_colons name components ending) = nested (Declaring (grammar.TypeStart attributes has_colons name)) (component_trees components) (unit_end grammar.OfType ending)
  declaration_tree (shape.Interface is_abstract bodies ending) = nested (Declaring (grammar.InterfaceStart is_abstract)) (body_trees bodies) (unit_end grammar.OfInterface ending)
  declaration_tree (shape.Access access has_colons names) = stated (grammar.Accesses access has_colons names)
  declaration_tree shape.Save = stated grammar.SaveAll
  declaration_tree (shape.ProcedurePointers interface attributes pointers) = stated (grammar.Procedures interface attributes pointers)

  pub declaration_trees : Declarations → Trees → Trees
  declaration_trees no_declarations ts = ts
  declaration_trees (declaration d ds) ts = tree (declaration_tree d) (declaration_trees ds ts)

  pub body_trees : Bodies → Trees
  body_trees no_bodies = no_trees
  body_trees (body_of h s ending bs) = tree (nested (head_line h) (specification_trees s no_trees) (procedure_end h ending)) (body_trees bs)

  pub specification_trees : Specification → Trees → Trees
  specification_trees (specification uses import has_implicit_none declarations) ts = use_trees uses (import_trees import (implicit_trees has_implicit_none (declaration_trees declarations ts)))

-- ---- program units

abbrev pub procedure_tree : Procedure → Tree
procedure_tree (procedure h s body ending) = nested (head_line h) (specification_trees s (block_trees body no_trees)) (procedure_end h ending)

abbrev pub procedure_trees : List Procedure → Trees
procedure_trees [] = no_trees
procedure_trees (p ∷ ps) = tree (procedure_tree p) (procedure_trees ps)

-- CONTAINS and the procedures behind it
abbrev pub contained_trees : Option (List Procedure) → Trees
contained_trees None = no_trees
contained_trees (Some ps) = tree (stated grammar.Contains) (procedure_trees ps)

abbrev pub unit_tree : ProgramUnit → Tree
unit_tree (shape.Program name s body ending) = nested (Declaring (grammar.Program name)) (specification_trees s (block_trees body no_trees)) (unit_end grammar.OfProgram ending)
unit_tree (shape.Module name s procedures ending) = nested (Declaring (grammar.Module name)) (specification_trees s (contained_trees procedures)) (unit_end grammar.OfModule ending)
unit_tree (shape.External p) = procedure_tree p

abbrev pub unit_trees : List ProgramUnit → Trees
unit_trees [] = no_trees
unit_trees (u ∷ us) = tree (unit_tree u) (unit_trees us)

-- the trees of a file's statements that its units say
abbrev pub derivation : List Unit → Trees
derivation units = unit_trees (bare_units units)
