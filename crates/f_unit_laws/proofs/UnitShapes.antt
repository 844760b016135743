-- The trees of a unit's statements tell the unit.
use Rattle.std.proofs.Common.{◌≡◌, ℕ, List, [], ◌∷◌, Option, Some, None, Bool, true, false, map, refl, ap, ◌∙◌}
use Rattle.f_declaration_grammar.specs.Declarations as grammar
use Rattle.f_declaration_grammar.specs.Declarations.{Dim}
use Rattle.f_statement_grammar.specs.Statements.{Declaring}
use Rattle.f_unit_grammar.specs.Units.{single, nested, Trees, no_trees, tree}
use Rattle.f_unit_laws.specs.Shapes as shape
use Rattle.f_unit_laws.specs.Shapes.{Close, close, Block, Blocks, no_blocks, block, Head, head, Use, used, Import, imported, Field, field, Component, component, Declaration, Declarations, no_declarations, declaration, Bodies, no_bodies, body_of, Specification, specification, Procedure, procedure, ProgramUnit}
use Rattle.f_unit_laws.specs.Derivations.{head_line, procedure_end, stated, block_tree, block_trees, dimension_of, field_entity, use_trees, import_trees, implicit_trees, component_trees, declaration_tree, declaration_trees, body_trees, specification_trees, procedure_tree, procedure_trees, contained_trees, unit_tree, unit_trees}
use Rattle.f_unit_laws.proofs.Sorts.{is_executable}
use Rattle.f_unit_laws.proofs.Formed.{IsMatched, AreMatched}
use Rattle.f_unit_laws.proofs.BlockShapes.{closing, unit_closes, blocks_from, over_blocks, blocks_back}

-- ---- parts of a specification by its trees

abbrev dimensions_from : List grammar.Attr → Option (List Dim)
dimensions_from (grammar.Dimension dims ∷ attributes) = Some dims
dimensions_from _ = None

abbrev field_from : grammar.Entity → Field
field_from (grammar.entity name dimensions value) = field name dimensions

abbrev components_from : Trees → List Component
components_from (tree (single (Declaring (grammar.Variables declared attributes c entities))) ts) = component declared (dimensions_from attributes) (map field_from entities) ∷ components_from ts
components_from (tree t ts) = components_from ts
components_from no_trees = []

abbrev uses_from : Trees → List Use
uses_from (tree (single (Declaring (grammar.Use is_intrinsic c name names))) ts) = used is_intrinsic c name names ∷ uses_from ts
uses_from (tree t ts) = uses_from ts
uses_from no_trees = []

abbrev import_from : Trees → Option Import
import_from (tree (single (Declaring (grammar.Import c names))) ts) = Some (imported c names)
import_from (tree t ts) = import_from ts
import_from no_trees = None

abbrev implicit_from : Trees → Bool
implicit_from (tree (single (Declaring grammar.ImplicitNone)) ts) = true
implicit_from (tree t ts) = implicit_from ts
implicit_from no_trees = false

abbrev mutual
  declarations_from : Trees → Declarations
  declarations_from no_trees = no_declarations
  declarations_from (tree (single (Declaring (grammar.Variables declared attributes c entities))) ts) = declaration (shape.Variables declared attributes c entities) (declarations_from ts)
  declarations_from (tree (single (Declaring (grammar.Accesses access c names))) ts) = declaration (shape.Access access c names) (declarations_from ts)
  declarations_from (tree (single (Declaring grammar.SaveAll)) ts) = declaration shape.Save (declarations_from ts)
  declarations_from (tree (single (Declaring (grammar.Procedures interface attributes pointers))) ts) = declaration (shape.ProcedurePointers interface attributes pointers) (declarations_from ts)
  declarations_from (tree (nested (Declaring (grammar.TypeStart attributes c name)) inside end) ts) = declaration (shape.DerivedType attributes c name (components_from inside) (closing end)) (declarations_from ts)
  declarations_from (tree (nested (Declaring (grammar.InterfaceStart is_abstract)) inside end) ts) = declaration (shape.Interface is_abstract (bodies_from inside) (closing end)) (declarations_from ts)
  declarations_from (tree t ts) = declarations_from ts

  bodies_from : Trees → Bodies
  bodies_from no_trees = no_bodies
  bodies_from (tree (nested (Declaring (grammar.Head prefixes f name dummies suffixes)) inside end) ts) =
      body_of (head prefixes f name dummies suffixes) (specification (uses_from inside) (import_from inside) (implicit_from inside) (declarations_from inside)) (closing end) (bodies_from ts)
  bodies_from (tree t ts) = bodies_from ts

abbrev specification_from : Trees → Specification
specification_from ts = specification (uses_from ts) (import_from ts) (implicit_from ts) (declarations_from ts)

abbrev procedures_from : Trees → List Procedure
procedures_from (tree (nested (Declaring (grammar.Head prefixes f name dummies suffixes)) inside end) ts) = procedure (head prefixes f name dummies suffixes) (specification_from inside) (blocks_from inside) (closing end) ∷ procedures_from ts
procedures_from (tree t ts) = procedures_from ts
procedures_from no_trees = []

abbrev contained_from : Trees → Option (List Procedure)
contained_from (tree (single (Declaring grammar.Contains)) ts) = Some (procedures_from ts)
contained_from (tree t ts) = contained_from ts
contained_from no_trees = None

-- the units of a file by its trees
abbrev pub units_from : Trees → List ProgramUnit
units_from (tree (nested (Declaring (grammar.Program name)) inside end) ts) = shape.Program name (specification_from inside) (blocks_from inside) (closing end) ∷ units_from ts
units_from (tree (nested (Declaring (grammar.Module name)) inside end) ts) = shape.Module name (specification_from inside) (contained_from inside) (closing end) ∷ units_from ts
units_from (tree (nested (Declaring (grammar.Head prefixes f name dummies suffixes)) inside end) ts) = shape.External (procedure (head prefixes f name dummies suffixes) (specification_from inside) (blocks_from inside) (closing end)) ∷ units_from ts
units_from (tree t ts) = units_from ts
units_from no_trees = []

-- ---- what is told without the trees of a part

-- no USE, no IMPORT and so on in front counts for this
record Over {A : Type 0} (f : Trees → A) : Type 0 where
  uses : (is_intrinsic c : Bool) (name : List ℕ) (names : grammar.UseList) (ts : Trees) → f (tree (stated (grammar.Use is_intrinsic c name names)) ts) ≡ f ts
  imports : (c : Bool) (names : List (List ℕ)) (ts : Trees) → f (tree (stated (grammar.Import c names)) ts) ≡ f ts
  implicits : (ts : Trees) → f (tree (stated grammar.ImplicitNone) ts) ≡ f ts
  declared : (d : Declaration) (ts : Trees) → f (tree (declaration_tree d) ts) ≡ f ts

over_uses : {A : Type 0} (f : Trees → A) → ((is_intrinsic c : Bool) (name : List ℕ) (names : grammar.UseList) (ts : Trees) → f (tree (stated (grammar.Use is_intrinsic c name names)) ts) ≡ f ts) → (us : List Use) (ts : Trees) → f (use_trees us ts) ≡ f ts
over_uses f over [] ts = refl
over_uses f over (used i c name names ∷ us) ts = over i c name names (use_trees us ts) ∙ over_uses f over us ts

over_import : {A : Type 0} (f : Trees → A) → ((c : Bool) (names : List (List ℕ)) (ts : Trees) → f (tree (stated (grammar.Import c names)) ts) ≡ f ts) → (i : Option Import) (ts : Trees) → f (import_trees i ts) ≡ f ts
over_import f over None ts = refl
over_import f over (Some (imported c names)) ts = over c names ts

over_implicit : {A : Type 0} (f : Trees → A) → ((ts : Trees) → f (tree (stated grammar.ImplicitNone) ts) ≡ f ts) → (b : Bool) (ts : Trees) → f (implicit_trees b ts) ≡ f ts
over_implicit f over false ts = refl
over_implicit f over true ts = over ts

over_declarations : {A : Type 0} (f : Trees → A) → ((d : Declaration) (ts : Trees) → f (tree (declaration_tree d) ts) ≡ f ts) → (ds : Declarations) (ts : Trees) → f (declaration_trees ds ts) ≡ f ts
over_declarations f over no_declarations ts = refl
over_declarations f over (declaration d ds) ts = over d (declaration_trees ds ts) ∙ over_declarations f over ds ts

over_specification : {A : Type 0} (f : Trees → A) → Over f → (s : Specification) (ts : Trees) → f (specification_trees s ts) ≡ f ts
over_specification f over (specification uses import implicit ds) ts =
    let declared : Trees = declaration_trees ds ts in
    let behind : Trees = implicit_trees implicit declared in
    over_uses f over.uses uses (import_trees import behind) ∙ over_import f over.imports import behind ∙ over_implicit f over.implicits implicit declared ∙ over_declarations f over.declared ds ts

uses_over : (d : Declaration) (ts : Trees) → uses_from (tree (declaration_tree d) ts) ≡ uses_from ts
uses_over shape.Save ts = refl
uses_over d ts = refl

import_over : (d : Declaration) (ts : Trees) → import_from (tree (declaration_tree d) ts) ≡ import_from ts
import_over shape.Save ts = refl
import_over d ts = refl

implicit_over : (d : Declaration) (ts : Trees) → implicit_from (tree (declaration_tree d) ts) ≡ implicit_from ts
implicit_over shape.Save ts = refl
implicit_over d ts = refl

blocks_over : (d : Declaration) (ts : Trees) → blocks_from (tree (declaration_tree d) ts) ≡ blocks_from ts
blocks_over shape.Save ts = refl
blocks_over d ts = refl

contained_over : (d : Declaration) (ts : Trees) → contained_from (tree (declaration_tree d) ts) ≡ contained_from ts
contained_over shape.Save ts = refl
contained_over d ts = refl

no_uses_in : (b : Block) (ts : Trees) → uses_from (tree (block_tree b) ts) ≡ uses_from ts
no_uses_in (shape.Action a) ts = refl
no_uses_in b ts = refl

no_import_in : (b : Block) (ts : Trees) → import_from (tree (block_tree b) ts) ≡ import_from ts
no_import_in (shape.Action a) ts = refl
no_import_in b ts = refl

no_implicit_in : (b : Block) (ts : Trees) → implicit_from (tree (block_tree b) ts) ≡ implicit_from ts
no_implicit_in (shape.Action a) ts = refl
no_implicit_in b ts = refl

no_declarations_in : (b : Block) (ts : Trees) → declarations_from (tree (block_tree b) ts) ≡ declarations_from ts
no_declarations_in (shape.Action a) ts = refl
no_declarations_in b ts = refl

blocks_behind : (s : Specification) (ts : Trees) → blocks_from (specification_trees s ts) ≡ blocks_from ts
blocks_behind = over_specification blocks_from (record { uses = λ i c name names ts. refl; imports = λ c names ts. refl; implicits = λ ts. refl; declared = blocks_over })

contained_behind : (s : Specification) (ts : Trees) → contained_from (specification_trees s ts) ≡ contained_from ts
contained_behind = over_specification contained_from (record { uses = λ i c name names ts. refl; imports = λ c names ts. refl; implicits = λ ts. refl; declared = contained_over })

-- ---- what stands behind a specification has none of its parts

record IsBehind (ts : Trees) : Type 0 where
  uses : uses_from ts ≡ []
  import : import_from ts ≡ None
  implicit : implicit_from ts ≡ false
  declared : declarations_from ts ≡ no_declarations

nothing_behind : IsBehind no_trees
nothing_behind = record { uses = refl; import = refl; implicit = refl; declared = refl }

body_behind : (bs : Blocks) → IsBehind (block_trees bs no_trees)
body_behind bs = record {
  uses = over_blocks uses_from no_uses_in bs no_trees;
  import = over_blocks import_from no_import_in bs no_trees;
  implicit = over_blocks implicit_from no_implicit_in bs no_trees;
  declared = over_blocks declarations_from no_declarations_in bs no_trees;
}

procedures_behind : (ps : List Procedure) → IsBehind (procedure_trees ps)
procedures_behind [] = nothing_behind
procedures_behind (procedure (head prefixes f name dummies suffixes) s body ending ∷ ps) =
    let others : IsBehind (procedure_trees ps) = procedures_behind ps in
    record { uses = others.uses; import = others.import; implicit = others.implicit; declared = others.declared }

contained_is_behind : (ps : Option (List Procedure)) → IsBehind (contained_trees ps)
contained_is_behind None = nothing_behind
contained_is_behind (Some ps) =
    let others : IsBehind (procedure_trees ps) = procedures_behind ps in
    record { uses = others.uses; import = others.import; implicit = others.implicit; declared = others.declared }

-- ---- its trees tell a specification

dimensions_back : (dims : Option (List Dim)) → dimensions_from (dimension_of dims) ≡ dims
dimensions_back None = refl
dimensions_back (Some dims) = refl

fields_back : (fs : List Field) → map field_from (map field_entity fs) ≡ fs
fields_back [] = refl
fields_back (field name dimensions ∷ fs) = ap (λ (gs : List Field). field name dimensions ∷ gs) (fields_back fs)

components_back : (cs : List Component) → components_from (component_trees cs) ≡ cs
components_back [] = refl
components_back (component declared dimensions fields ∷ cs) = λ i. component declared (dimensions_back dimensions i) (fields_back fields i) ∷ components_back cs i

uses_back : (us : List Use) (ts : Trees) → uses_from ts ≡ [] → uses_from (use_trees us ts) ≡ us
uses_back [] ts e = e
uses_back (used i c name names ∷ us) ts e = ap (λ (vs : List Use). used i c name names ∷ vs) (uses_back us ts e)

import_back : (i : Option Import) (ts : Trees) → import_from ts ≡ None → import_from (import_trees i ts) ≡ i
import_back None ts e = e
import_back (Some (imported c names)) ts e = refl

implicit_back : (b : Bool) (ts : Trees) → implicit_from ts ≡ false → implicit_from (implicit_trees b ts) ≡ b
implicit_back false ts e = e
implicit_back true ts e = refl

-- what is matched in a list is matched behind a part of it
uses_matched : (us : List Use) (ts : Trees) → AreMatched (use_trees us ts) → AreMatched ts
uses_matched [] ts m = m
uses_matched (used i c name names ∷ us) ts m = uses_matched us ts m.1

import_matched : (i : Option Import) (ts : Trees) → AreMatched (import_trees i ts) → AreMatched ts
import_matched None ts m = m
import_matched (Some (imported c names)) ts m = m.1

implicit_matched : (b : Bool) (ts : Trees) → AreMatched (implicit_trees b ts) → AreMatched ts
implicit_matched false ts m = m
implicit_matched true ts m = m.1

declarations_matched : (ds : Declarations) (ts : Trees) → AreMatched (declaration_trees ds ts) → AreMatched ts
declarations_matched no_declarations ts m = m
declarations_matched (declaration d ds) ts m = declarations_matched ds ts m.1

-- the declarations of a specification are matched
declared_matched : (uses : List Use) (import : Option Import) (implicit : Bool) (ds : Declarations) (ts : Trees) → AreMatched (specification_trees (specification uses import implicit ds) ts) → AreMatched (declaration_trees ds ts)
declared_matched uses import implicit ds ts m =
    let declared : Trees = declaration_trees ds ts in
    let behind : Trees = implicit_trees implicit declared in
    implicit_matched implicit declared (import_matched import behind (uses_matched uses (import_trees import behind) m))

specification_matched : (s : Specification) (ts : Trees) → AreMatched (specification_trees s ts) → AreMatched ts
specification_matched (specification uses import implicit ds) ts m = declarations_matched ds ts (declared_matched uses import implicit ds ts m)

procedure_closes : (h : Head) (e : Close) → is_executable (head_line h) ≡ is_executable (procedure_end h e) → closing (procedure_end h e) ≡ e
procedure_closes (head prefixes true name dummies suffixes) e m = unit_closes grammar.OfFunction e m
procedure_closes (head prefixes false name dummies suffixes) e m = unit_closes grammar.OfSubroutine e m

body_first : (h : Head) (s : Specification) (ending : Close) (ts : Trees) → bodies_from (tree (nested (head_line h) (specification_trees s no_trees) (procedure_end h ending)) ts) ≡ body_of h (specification_from (specification_trees s no_trees)) (closing (procedure_end h ending)) (bodies_from ts)
body_first (head prefixes f name dummies suffixes) s ending ts = refl

mutual
  declarations_back : (ds : Declarations) (ts : Trees) → declarations_from ts ≡ no_declarations → AreMatched (declaration_trees ds ts) → declarations_from (declaration_trees ds ts) ≡ ds
  declarations_back no_declarations ts e m = e
  declarations_back (declaration d ds) ts e m = declaration_back d (declaration_trees ds ts) m.0 ∙ ap (declaration d) (declarations_back ds ts e m.1)

  declaration_back : (d : Declaration) (ts : Trees) → IsMatched (declaration_tree d) → declarations_from (tree (declaration_tree d) ts) ≡ declaration d (declarations_from ts)
  declaration_back (shape.Variables declared attributes c entities) ts m = refl
  declaration_back (shape.DerivedType attributes c name components ending) ts m = λ i. declaration (shape.DerivedType attributes c name (components_back components i) (unit_closes grammar.OfType ending m.0 i)) (declarations_from ts)
  declaration_back (shape.Interface is_abstract bodies ending) ts m = λ i. declaration (shape.Interface is_abstract (bodies_back bodies m.1 i) (unit_closes grammar.OfInterface ending m.0 i)) (declarations_from ts)
  declaration_back (shape.Access access c names) ts m = refl
  declaration_back shape.Save ts m = refl
  declaration_back (shape.ProcedurePointers interface attributes pointers) ts m = refl

  bodies_back : (bs : Bodies) → AreMatched (body_trees bs) → bodies_from (body_trees bs) ≡ bs
  bodies_back no_bodies m = refl
  bodies_back (body_of h s ending bs) m = body_first h s ending (body_trees bs) ∙ (λ i. body_of h (specification_back s no_trees nothing_behind m.0.1 i) (procedure_closes h ending m.0.0 i) (bodies_back bs m.1 i))

  specification_back : (s : Specification) (ts : Trees) → IsBehind ts → AreMatched (specification_trees s ts) → specification_from (specification_trees s ts) ≡ s
  specification_back (specification uses import implicit ds) ts b m =
      let declared : Trees = declaration_trees ds ts in
      let behind : Trees = implicit_trees implicit declared in
      let after : Trees = import_trees import behind in
      let uses_are = uses_back uses after (over_import uses_from (λ c names us. refl) import behind ∙ over_implicit uses_from (λ us. refl) implicit declared ∙ over_declarations uses_from uses_over ds ts ∙ b.uses) in
      let import_is = over_uses import_from (λ i c name names us. refl) uses after ∙ import_back import behind (over_implicit import_from (λ us. refl) implicit declared ∙ over_declarations import_from import_over ds ts ∙ b.import) in
      let implicit_is = over_uses implicit_from (λ i c name names us. refl) uses after ∙ over_import implicit_from (λ c names us. refl) import behind ∙ implicit_back implicit declared (over_declarations implicit_from implicit_over ds ts ∙ b.implicit) in
      let declared_are = over_uses declarations_from (λ i c name names us. refl) uses after ∙ over_import declarations_from (λ c names us. refl) import behind ∙ over_implicit declarations_from (λ us. refl) implicit declared
      ∙ declarations_back ds ts b.declared (declared_matched uses import implicit ds ts m) in
      λ i. specification (uses_are i) (import_is i) (implicit_is i) (declared_are i)

-- ---- its trees tell a unit

-- a specification and a block behind it
specification_first : (s : Specification) (body : Blocks) → AreMatched (specification_trees s (block_trees body no_trees)) → specification_from (specification_trees s (block_trees body no_trees)) ≡ s
specification_first s body m = specification_back s (block_trees body no_trees) (body_behind body) m

body_last : (s : Specification) (body : Blocks) → AreMatched (specification_trees s (block_trees body no_trees)) → blocks_from (specification_trees s (block_trees body no_trees)) ≡ body
body_last s body m = blocks_behind s (block_trees body no_trees) ∙ blocks_back body no_trees refl (specification_matched s (block_trees body no_trees) m)

procedure_parts : (h : Head) (s : Specification) (body : Blocks) (ending : Close) → IsMatched (procedure_tree (procedure h s body ending)) →
    procedure h (specification_from (specification_trees s (block_trees body no_trees))) (blocks_from (specification_trees s (block_trees body no_trees))) (closing (procedure_end h ending)) ≡ procedure h s body ending
procedure_parts h s body ending m = λ i. procedure h (specification_first s body m.1 i) (body_last s body m.1 i) (procedure_closes h ending m.0 i)

procedures_back : (ps : List Procedure) → AreMatched (procedure_trees ps) → procedures_from (procedure_trees ps) ≡ ps
procedures_back [] m = refl
procedures_back (procedure (head prefixes f name dummies suffixes) s body ending ∷ ps) m = λ i. procedure_parts (head prefixes f name dummies suffixes) s body ending m.0 i ∷ procedures_back ps m.1 i

contained_back : (ps : Option (List Procedure)) → AreMatched (contained_trees ps) → contained_from (contained_trees ps) ≡ ps
contained_back None m = refl
contained_back (Some ps) m = ap Some (procedures_back ps m.1)

unit_back : (u : ProgramUnit) (ts : Trees) → IsMatched (unit_tree u) → units_from (tree (unit_tree u) ts) ≡ u ∷ units_from ts
unit_back (shape.Program name s body ending) ts m = λ i. shape.Program name (specification_first s body m.1 i) (body_last s body m.1 i) (unit_closes grammar.OfProgram ending m.0 i) ∷ units_from ts
unit_back (shape.Module name s procedures ending) ts m =
    let behind : Trees = contained_trees procedures in
    let procedures_are = contained_behind s behind ∙ contained_back procedures (specification_matched s behind m.1) in
    λ i. shape.Module name (specification_back s behind (contained_is_behind procedures) m.1 i) (procedures_are i) (unit_closes grammar.OfModule ending m.0 i) ∷ units_from ts
unit_back (shape.External (procedure (head prefixes f name dummies suffixes) s body ending)) ts m = ap (λ (p : Procedure). shape.External p ∷ units_from ts) (procedure_parts (head prefixes f name dummies suffixes) s body ending m)

pub units_back : (us : List ProgramUnit) → AreMatched (unit_trees us) → units_from (unit_trees us) ≡ us
units_back [] m = refl
units_back (u ∷ us) m = unit_back u (unit_trees us) m.0 ∙ ap (λ (vs : List ProgramUnit). u ∷ vs) (units_back us m.1)
