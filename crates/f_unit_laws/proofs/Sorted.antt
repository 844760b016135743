-- The statements of the trees that units say are of the sorts of their places.
use Rattle.std.proofs.Common.{◌≡◌, List, [], ◌∷◌, Option, Some, None, Bool, true, false, refl}
use Rattle.f_tree.specs.declared.declaration.EndingForm.TheVariants.{Bare, TwoWords, OneWord}
use Rattle.f_tree.specs.declared.unit.Unit.{Unit as UnitTree}
use Rattle.f_line_grammar.specs.Lines as line
use Rattle.f_line_grammar.specs.Lines.{Construct}
use Rattle.f_declaration_grammar.specs.Declarations as grammar
use Rattle.f_unit_laws.specs.Shapes as shape
use Rattle.f_unit_laws.specs.Shapes.{Close, close, Values, OtherValues, These, RankOf, OtherRanks, This, AssumedSize, Block, Blocks, no_blocks, block, ElseIfs, no_else_ifs, else_if, Otherwise, no_otherwise, otherwise, Cases, no_cases, case_of, Ranks, no_ranks, rank_of, Head, head, Use, used, Import, imported, Component, component, Declaration, Declarations, no_declarations, declaration, Bodies, no_bodies, body_of, Specification, specification, Procedure, procedure, ProgramUnit, bare_units}
use Rattle.f_unit_laws.specs.Derivations.{construct_end, unit_end, head_line, procedure_end, values_line, rank_line, block_tree, block_trees, else_if_trees, otherwise_trees, case_trees, rank_trees, use_trees, import_trees, implicit_trees, component_trees, declaration_tree, declaration_trees, body_trees, specification_trees, procedure_tree, procedure_trees, contained_trees, unit_tree, unit_trees, derivation}
use Rattle.f_statement_grammar.specs.Statements.{Executable}
use Rattle.f_unit_grammar.specs.Units.{Trees, no_trees}
use Rattle.f_unit_laws.proofs.Sorts.{Stays, Enters, Leaves, sort_of}
use Rattle.f_unit_laws.proofs.Formed.{IsFormed, AreFormed}

construct_ends : (c : Construct) (e : Close) → sort_of (construct_end c e) ≡ Leaves
construct_ends c (close OneWord None) = refl
construct_ends c (close TwoWords None) = refl
construct_ends c (close Bare None) = refl
construct_ends c (close OneWord (Some n)) = refl
construct_ends c (close TwoWords (Some n)) = refl
construct_ends c (close Bare (Some n)) = refl

unit_ends : (what : grammar.Ended) (e : Close) → sort_of (unit_end what e) ≡ Leaves
unit_ends what (close OneWord name) = refl
unit_ends what (close TwoWords name) = refl
unit_ends what (close Bare None) = refl
unit_ends what (close Bare (Some n)) = refl

values_stay : (v : Values) → sort_of (Executable (values_line v)) ≡ Stays
values_stay OtherValues = refl
values_stay (These first others) = refl

rank_stays : (r : RankOf) → sort_of (Executable (rank_line r)) ≡ Stays
rank_stays OtherRanks = refl
rank_stays (This e) = refl
rank_stays AssumedSize = refl

mutual
  block_formed : (b : Block) → IsFormed (block_tree b)
  block_formed (shape.Action a) = refl
  block_formed (shape.IfAction condition a) = refl
  block_formed (shape.If condition body elses other ending) = (refl, blocks_formed body (else_if_trees elses (otherwise_trees other no_trees)) (else_ifs_formed elses (otherwise_trees other no_trees) (otherwise_formed other)), construct_ends line.If ending)
  block_formed (shape.Do control body ending) = (refl, blocks_formed body no_trees tt, construct_ends line.Do ending)
  block_formed (shape.SelectCase w e cases ending) = (refl, cases_formed cases, construct_ends line.Select ending)
  block_formed (shape.SelectRank renamed selector ranks ending) = (refl, ranks_formed ranks, construct_ends line.Select ending)

  blocks_formed : (bs : Blocks) (ts : Trees) → AreFormed ts → AreFormed (block_trees bs ts)
  blocks_formed no_blocks ts f = f
  blocks_formed (block b bs) ts f = (block_formed b, blocks_formed bs ts f)

  else_ifs_formed : (es : ElseIfs) (ts : Trees) → AreFormed ts → AreFormed (else_if_trees es ts)
  else_ifs_formed no_else_ifs ts f = f
  else_ifs_formed (else_if w condition body es) ts f = (refl, blocks_formed body (else_if_trees es ts) (else_ifs_formed es ts f))

  otherwise_formed : (o : Otherwise) → AreFormed (otherwise_trees o no_trees)
  otherwise_formed no_otherwise = tt
  otherwise_formed (otherwise body) = (refl, blocks_formed body no_trees tt)

  cases_formed : (cs : Cases) → AreFormed (case_trees cs no_trees)
  cases_formed no_cases = tt
  cases_formed (case_of values body cs) = (values_stay values, blocks_formed body (case_trees cs no_trees) (cases_formed cs))

  ranks_formed : (rs : Ranks) → AreFormed (rank_trees rs no_trees)
  ranks_formed no_ranks = tt
  ranks_formed (rank_of r body rs) = (rank_stays r, blocks_formed body (rank_trees rs no_trees) (ranks_formed rs))

head_enters : (h : Head) → sort_of (head_line h) ≡ Enters
head_enters (head prefixes is_function name dummies suffixes) = refl

procedure_ends : (h : Head) (e : Close) → sort_of (procedure_end h e) ≡ Leaves
procedure_ends (head prefixes true name dummies suffixes) e = unit_ends grammar.OfFunction e
procedure_ends (head prefixes false name dummies suffixes) e = unit_ends grammar.OfSubroutine e

uses_formed : (us : List Use) (ts : Trees) → AreFormed ts → AreFormed (use_trees us ts)
uses_formed [] ts f = f
uses_formed (used i c n names ∷ us) ts f = (refl, uses_formed us ts f)

import_formed : (i : Option Import) (ts : Trees) → AreFormed ts → AreFormed (import_trees i ts)
import_formed None ts f = f
import_formed (Some (imported c names)) ts f = (refl, f)

implicit_formed : (b : Bool) (ts : Trees) → AreFormed ts → AreFormed (implicit_trees b ts)
implicit_formed false ts f = f
implicit_formed true ts f = (refl, f)

components_formed : (cs : List Component) → AreFormed (component_trees cs)
components_formed [] = tt
components_formed (component declared dimensions fields ∷ cs) = (refl, components_formed cs)

mutual
  declaration_formed : (d : Declaration) → IsFormed (declaration_tree d)
  declaration_formed (shape.Variables declared attributes c entities) = refl
  declaration_formed (shape.DerivedType attributes c name components ending) = (refl, components_formed components, unit_ends grammar.OfType ending)
  declaration_formed (shape.Interface is_abstract bodies ending) = (refl, bodies_formed bodies, unit_ends grammar.OfInterface ending)
  declaration_formed (shape.Access access c names) = refl
  declaration_formed shape.Save = refl
  declaration_formed (shape.ProcedurePointers interface attributes pointers) = refl

  declarations_formed : (ds : Declarations) (ts : Trees) → AreFormed ts → AreFormed (declaration_trees ds ts)
  declarations_formed no_declarations ts f = f
  declarations_formed (declaration d ds) ts f = (declaration_formed d, declarations_formed ds ts f)

  bodies_formed : (bs : Bodies) → AreFormed (body_trees bs)
  bodies_formed no_bodies = tt
  bodies_formed (body_of h s ending bs) = ((head_enters h, specification_formed s no_trees tt, procedure_ends h ending), bodies_formed bs)

  specification_formed : (s : Specification) (ts : Trees) → AreFormed ts → AreFormed (specification_trees s ts)
  specification_formed (specification uses import implicit ds) ts f =
      uses_formed uses (import_trees import (implicit_trees implicit (declaration_trees ds ts))) (import_formed import (implicit_trees implicit (declaration_trees ds ts))
      (implicit_formed implicit (declaration_trees ds ts) (declarations_formed ds ts f)))

procedure_formed : (p : Procedure) → IsFormed (procedure_tree p)
procedure_formed (procedure h s body ending) = (head_enters h, specification_formed s (block_trees body no_trees) (blocks_formed body no_trees tt), procedure_ends h ending)

procedures_formed : (ps : List Procedure) → AreFormed (procedure_trees ps)
procedures_formed [] = tt
procedures_formed (p ∷ ps) = (procedure_formed p, procedures_formed ps)

contained_formed : (ps : Option (List Procedure)) → AreFormed (contained_trees ps)
contained_formed None = tt
contained_formed (Some ps) = (refl, procedures_formed ps)

unit_formed : (u : ProgramUnit) → IsFormed (unit_tree u)
unit_formed (shape.Program name s body ending) = (refl, specification_formed s (block_trees body no_trees) (blocks_formed body no_trees tt), unit_ends grammar.OfProgram ending)
unit_formed (shape.Module name s procedures ending) = (refl, specification_formed s (contained_trees procedures) (contained_formed procedures), unit_ends grammar.OfModule ending)
unit_formed (shape.External p) = procedure_formed p

units_formed : (us : List ProgramUnit) → AreFormed (unit_trees us)
units_formed [] = tt
units_formed (u ∷ us) = (unit_formed u, units_formed us)

pub derivation_formed : (units : List UnitTree) → AreFormed (derivation units)
derivation_formed units = units_formed (bare_units units)
