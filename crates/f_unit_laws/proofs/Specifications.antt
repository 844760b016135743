-- The statements of a specification are those of its trees of statements.
use Rattle.std.proofs.Common.{◌≡◌, List, [], ◌∷◌, Option, Some, None, Bool, true, false, map, refl, sym, ap, subst, ◌∙◌}
use Rattle.std.specs.Prelude.{is_some}
use Rattle.std.specs.Option.{option_map}
use Rattle.jf_base.specs.declared.place.Place.{Place}
use Rattle.f_tree.specs.declared.name.Name.{Name}
use Rattle.f_tree.specs.declared.unit.ProcedureKind.{ProcedureKind}
use Rattle.f_tree.specs.declared.unit.ProcedureKind.TheVariants.{Subroutine, Function}
use Rattle.f_tree.specs.declared.unit.Head.{Head as HeadTree}
use Rattle.f_tree.specs.declared.declaration.EndingForm.{EndingForm}
use Rattle.f_tree.specs.declared.declaration.EndingForm.TheVariants.{Bare, TwoWords, OneWord}
use Rattle.f_tree.specs.declared.declaration.Ending.{Ending}
use Rattle.f_tree.specs.declared.declaration.Dimension.{Dimension}
use Rattle.f_tree.specs.declared.declaration.Use.{Use as UseTree}
use Rattle.f_tree.specs.declared.declaration.Import.{Import as ImportTree}
use Rattle.f_tree.specs.declared.declaration.Field.{Field as FieldTree}
use Rattle.f_tree.specs.declared.declaration.Component.{Component as ComponentTree}
use Rattle.f_tree.specs.declared.declaration.DerivedType.{DerivedType as DerivedTypeTree}
use Rattle.f_tree.specs.declared.declaration.Declaration.{Declaration as DeclarationTree, fold-Declaration, map-Declaration, roll-Declaration, fold-roll-Declaration}
use Rattle.f_tree.specs.declared.declaration.Declaration.TheOpen as open_
use Rattle.f_tree.specs.declared.declaration.Declaration.TheOpen.{Declaration-F, Interface-F, InterfaceBody-F, Specification-F}
use Rattle.f_tree.specs.declared.declaration.Declaration.TheFolds.{fold-Interface, fold-InterfaceBody, map-Interface, map-InterfaceBody, map-Specification, fold-roll-Interface, fold-roll-InterfaceBody, fold-roll-Specification, ind-Specification}
use Rattle.f_tree.specs.declared.declaration.Declaration.TheViews.{roll-Interface, roll-InterfaceBody, roll-Specification}
use Rattle.f_tree.specs.declared.declaration.Interface.{Interface}
use Rattle.f_tree.specs.declared.declaration.InterfaceBody.{InterfaceBody}
use Rattle.f_tree.specs.declared.declaration.Specification.{Specification as SpecificationTree}
use Rattle.f_declaration_grammar.specs.Declarations as grammar
use Rattle.f_statement_grammar.specs.Statements.{Statement, Declaring}
use Rattle.f_unit_grammar.specs.Units.{Trees, no_trees, spell_tree, spell_trees}
use Rattle.f_expr_read.specs.Views.{view_type}
use Rattle.f_declared.specs.Views.{view_name, view_dimensions}
use Rattle.f_construct_parts.specs.Lines.{Front, each, optional}
use Rattle.f_unit_parts.specs.Units.{use_line, import_line, variables_line, access_line, pointers_line, type_line, interface_line, head_line as head_statement, dimension_of as dimension_attribute, view_field, component_line, ended, end_line, word_of, use_lines, uses_of, import_lines, implicit_lines, components_of, derived_type_lines, declaration_step, interface_step, body_step, specification_step, declaration_lines, interface_lines, body_lines, specification_lines}
use Rattle.f_unit_laws.specs.Shapes.{Close, close, bare_ending, Head, Use, used, Import, imported, Declaration, Declarations, no_declarations, declaration, declarations, bodies_of as bodies, Specification, specification, bare_head, bare_use, bare_import, bare_field, bare_component, derived_type_bare, declaration_bare, interface_bare, body_bare, specification_bare, bare_specification}
use Rattle.f_unit_laws.specs.Derivations.{unit_end, head_line, procedure_end, use_trees, import_trees, implicit_trees, dimension_of, field_entity, component_trees, declaration_tree, declaration_trees, body_trees, specification_trees}

-- ---- each declaration without its places, and its statements

abbrev bare_declaration : DeclarationTree → Declaration
bare_declaration = fold-Declaration Declaration Declaration (Head × Specification × Close) Specification declaration_bare interface_bare body_bare specification_bare

abbrev bare_interface : Interface → Declaration
bare_interface = fold-Interface Declaration Declaration (Head × Specification × Close) Specification declaration_bare interface_bare body_bare specification_bare

abbrev bare_body : InterfaceBody → Head × Specification × Close
bare_body = fold-InterfaceBody Declaration Declaration (Head × Specification × Close) Specification declaration_bare interface_bare body_bare specification_bare

abbrev declaration_front : Declaration → Front
declaration_front d = spell_tree (declaration_tree d)

abbrev body_front : Head × Specification × Close → Front
body_front b rest = head_line b.0 ∷ spell_trees (specification_trees b.1 no_trees) (procedure_end b.0 b.2 ∷ rest)

abbrev specification_front : Specification → Front
specification_front s = spell_trees (specification_trees s no_trees)

-- ---- the statements are those of the trees

abbrev IsDeclaration : DeclarationTree → Type 0
IsDeclaration d = (rest : List Statement) → declaration_front (bare_declaration d) rest ≡ declaration_lines d rest

abbrev IsInterface : Interface → Type 0
IsInterface i = (rest : List Statement) → declaration_front (bare_interface i) rest ≡ interface_lines i rest

abbrev IsBody : InterfaceBody → Type 0
IsBody b = (rest : List Statement) → body_front (bare_body b) rest ≡ body_lines b rest

abbrev IsSpecification : SpecificationTree → Type 0
IsSpecification s = (rest : List Statement) → specification_front (bare_specification s) rest ≡ specification_lines s rest

-- a declaration with its proof
abbrev ShownDeclaration : Type 0
ShownDeclaration = (d : DeclarationTree) × IsDeclaration d

abbrev ShownInterface : Type 0
ShownInterface = (i : Interface) × IsInterface i

abbrev ShownBody : Type 0
ShownBody = (b : InterfaceBody) × IsBody b

abbrev ShownSpecification : Type 0
ShownSpecification = (s : SpecificationTree) × IsSpecification s

-- a layer whose parts each have a proof
abbrev DeclarationLayer : Type 0
DeclarationLayer = Declaration-F ShownDeclaration ShownInterface ShownBody ShownSpecification

abbrev InterfaceLayer : Type 0
InterfaceLayer = Interface-F ShownDeclaration ShownInterface ShownBody ShownSpecification

abbrev BodyLayer : Type 0
BodyLayer = InterfaceBody-F ShownDeclaration ShownInterface ShownBody ShownSpecification

abbrev SpecificationLayer : Type 0
SpecificationLayer = Specification-F ShownDeclaration ShownInterface ShownBody ShownSpecification

-- the value of a layer, without the proofs
abbrev plain_declaration : DeclarationLayer → Declaration-F DeclarationTree Interface InterfaceBody SpecificationTree
plain_declaration y = map-Declaration ShownDeclaration ShownInterface ShownBody ShownSpecification DeclarationTree Interface InterfaceBody SpecificationTree (λ e. e.0) (λ e. e.0) (λ e. e.0) (λ e. e.0) y

abbrev plain_interface : InterfaceLayer → Interface-F DeclarationTree Interface InterfaceBody SpecificationTree
plain_interface y = map-Interface ShownDeclaration ShownInterface ShownBody ShownSpecification DeclarationTree Interface InterfaceBody SpecificationTree (λ e. e.0) (λ e. e.0) (λ e. e.0) (λ e. e.0) y

abbrev plain_body : BodyLayer → InterfaceBody-F DeclarationTree Interface InterfaceBody SpecificationTree
plain_body y = map-InterfaceBody ShownDeclaration ShownInterface ShownBody ShownSpecification DeclarationTree Interface InterfaceBody SpecificationTree (λ e. e.0) (λ e. e.0) (λ e. e.0) (λ e. e.0) y

abbrev plain_specification : SpecificationLayer → Specification-F DeclarationTree Interface InterfaceBody SpecificationTree
plain_specification y = map-Specification ShownDeclaration ShownInterface ShownBody ShownSpecification DeclarationTree Interface InterfaceBody SpecificationTree (λ e. e.0) (λ e. e.0) (λ e. e.0) (λ e. e.0) y

-- ---- the parts of specifications

ended_is : (what : grammar.Ended) (form : EndingForm) (name : Option Name) → unit_end what (close form (option_map view_name name)) ≡ ended what form name
ended_is what OneWord name = refl
ended_is what TwoWords name = refl
ended_is what Bare None = refl
ended_is what Bare (Some n) = refl

pub end_is : (what : grammar.Ended) (e : Ending) → unit_end what (bare_ending e) ≡ end_line what e
unfolding end_line
end_is what e = ended_is what e.form e.name

pub head_is : (h : HeadTree) → head_line (bare_head h) ≡ head_statement h
unfolding head_statement
head_is h = refl

pub procedure_end_is : (h : HeadTree) (e : Ending) → procedure_end (bare_head h) (bare_ending e) ≡ end_line (word_of h.kind) e
procedure_end_is h e = of h.kind
  where
    of : (kind : ProcedureKind) → procedure_end (bare_head (record { prefixes = h.prefixes; kind = kind; place = h.place; name = h.name; dummies = h.dummies; suffixes = h.suffixes })) (bare_ending e) ≡ end_line (word_of kind) e
    of Subroutine = end_is grammar.OfSubroutine e
    of Function = end_is grammar.OfFunction e

dimension_is : (dims : Option (List Dimension)) → dimension_of (view_dimensions dims) ≡ dimension_attribute dims
dimension_is None = refl
dimension_is (Some dims) = refl

fields_are : (fs : List FieldTree) → map field_entity (map bare_field fs) ≡ map view_field fs
fields_are [] = refl
fields_are (f ∷ fs) = ap (λ (es : List grammar.Entity). view_field f ∷ es) (fields_are fs)

component_is : (c : ComponentTree) → Declaring (grammar.Variables (view_type c.declared) (dimension_of (view_dimensions c.dimensions)) true (map field_entity (map bare_field c.fields))) ≡ component_line c
unfolding component_line
component_is c = λ i. Declaring (grammar.Variables (view_type c.declared) (dimension_is c.dimensions i) true (fields_are c.fields i))

components_are : (cs : List ComponentTree) (rest : List Statement) → spell_trees (component_trees (map bare_component cs)) rest ≡ components_of cs rest
components_are [] rest = refl
components_are (c ∷ cs) rest = λ i. component_is c i ∷ components_are cs rest i

derived_type_is : (t : DerivedTypeTree) (rest : List Statement) → declaration_front (derived_type_bare t) rest ≡ derived_type_lines t rest
unfolding derived_type_lines type_line
derived_type_is t rest =
    ap (λ (ss : List Statement). type_line t.attributes t.has_colons t.name ∷ ss) (components_are t.components (unit_end grammar.OfType (bare_ending t.ending) ∷ rest)
    ∙ ap (λ (s : Statement). components_of t.components (s ∷ rest)) (end_is grammar.OfType t.ending))

uses_are : (us : List UseTree) (ts : Trees) (rest : List Statement) → spell_trees (use_trees (map bare_use us) ts) rest ≡ uses_of us (spell_trees ts rest)
unfolding use_line
uses_are [] ts rest = refl
uses_are (u ∷ us) ts rest = ap (use_lines u) (uses_are us ts rest)

import_is : (i : Option ImportTree) (ts : Trees) (rest : List Statement) → spell_trees (import_trees (option_map bare_import i) ts) rest ≡ optional (option_map import_lines i) (spell_trees ts rest)
unfolding import_line
import_is None ts rest = refl
import_is (Some i) ts rest = refl

implicit_is : (p : Option Place) (ts : Trees) (rest : List Statement) → spell_trees (implicit_trees (is_some p) ts) rest ≡ optional (option_map implicit_lines p) (spell_trees ts rest)
implicit_is None ts rest = refl
implicit_is (Some p) ts rest = refl

declarations_are : (xs : List ShownDeclaration) (ts : Trees) (rest : List Statement) → spell_trees (declaration_trees (declarations (map bare_declaration (map (λ x. x.0) xs))) ts) rest ≡ each (map declaration_lines (map (λ x. x.0) xs)) (spell_trees ts rest)
declarations_are [] ts rest = refl
declarations_are (x ∷ xs) ts rest = x.1 (spell_trees (declaration_trees (declarations (map bare_declaration (map (λ x. x.0) xs))) ts) rest) ∙ ap (declaration_lines x.0) (declarations_are xs ts rest)

bodies_are : (xs : List ShownBody) (rest : List Statement) → spell_trees (body_trees (bodies (map bare_body (map (λ x. x.0) xs)))) rest ≡ each (map body_lines (map (λ x. x.0) xs)) rest
bodies_are [] rest = refl
bodies_are (x ∷ xs) rest = x.1 (spell_trees (body_trees (bodies (map bare_body (map (λ x. x.0) xs)))) rest) ∙ ap (body_lines x.0) (bodies_are xs rest)

-- ---- each declaration, where its parts have it

interface_layer : (y : InterfaceLayer) → IsInterface (roll-Interface (plain_interface y))
interface_layer y rest =
    ap (λ (d : Declaration). declaration_front d rest) (fold-roll-Interface Declaration Declaration (Head × Specification × Close) Specification declaration_bare interface_bare body_bare specification_bare (plain_interface y))
    ∙ ap (λ (ss : List Statement). interface_line y.is_abstract ∷ ss) (bodies_are y.bodies (unit_end grammar.OfInterface (bare_ending y.ending) ∷ rest)
    ∙ ap (λ (s : Statement). each (map body_lines (map (λ x. x.0) y.bodies)) (s ∷ rest)) (end_is grammar.OfInterface y.ending))
    ∙ sym (ap (λ (f : Front). f rest) (fold-roll-Interface Front Front Front Front declaration_step interface_step body_step specification_step (plain_interface y)))

body_layer : (y : BodyLayer) → IsBody (roll-InterfaceBody (plain_body y))
body_layer y rest =
    ap (λ (b : Head × Specification × Close). body_front b rest) (fold-roll-InterfaceBody Declaration Declaration (Head × Specification × Close) Specification declaration_bare interface_bare body_bare specification_bare (plain_body y))
    ∙ (λ i. head_is y.head i ∷ y.specification.1 (procedure_end_is y.head y.ending i ∷ rest) i)
    ∙ sym (ap (λ (f : Front). f rest) (fold-roll-InterfaceBody Front Front Front Front declaration_step interface_step body_step specification_step (plain_body y)))

specification_layer : (y : SpecificationLayer) → IsSpecification (roll-Specification (plain_specification y))
specification_layer y rest =
    let ds : Trees = declaration_trees (declarations (map bare_declaration (map (λ x. x.0) y.declarations))) no_trees in
    let implicit : Trees = implicit_trees (is_some y.implicit_none) ds in
    ap (λ (s : Specification). specification_front s rest) (fold-roll-Specification Declaration Declaration (Head × Specification × Close) Specification declaration_bare interface_bare body_bare specification_bare (plain_specification y))
    ∙ uses_are y.uses (import_trees (option_map bare_import y.import) implicit) rest
    ∙ ap (uses_of y.uses) (import_is y.import implicit rest
    ∙ ap (optional (option_map import_lines y.import)) (implicit_is y.implicit_none ds rest
    ∙ ap (optional (option_map implicit_lines y.implicit_none)) (declarations_are y.declarations no_trees rest)))
    ∙ sym (ap (λ (f : Front). f rest) (fold-roll-Specification Front Front Front Front declaration_step interface_step body_step specification_step (plain_specification y)))

declaration_at : (y : DeclarationLayer) (rest : List Statement) →
    declaration_front (declaration_bare (map-Declaration DeclarationTree Interface InterfaceBody SpecificationTree Declaration Declaration (Head × Specification × Close) Specification bare_declaration bare_interface bare_body bare_specification (plain_declaration y))) rest
    ≡ declaration_step (map-Declaration DeclarationTree Interface InterfaceBody SpecificationTree Front Front Front Front declaration_lines interface_lines body_lines specification_lines (plain_declaration y)) rest
unfolding variables_line access_line pointers_line
declaration_at (open_.Variables v) rest = refl
declaration_at (open_.DerivedType t) rest = derived_type_is t rest
declaration_at (open_.Interface i) rest = i.1 rest
declaration_at (open_.Access a) rest = refl
declaration_at (open_.Save p) rest = refl
declaration_at (open_.ProcedurePointers p) rest = refl

declaration_layer : (y : DeclarationLayer) → IsDeclaration (roll-Declaration (plain_declaration y))
declaration_layer y rest =
    ap (λ (d : Declaration). declaration_front d rest) (fold-roll-Declaration Declaration Declaration (Head × Specification × Close) Specification declaration_bare interface_bare body_bare specification_bare (plain_declaration y))
    ∙ declaration_at y rest
    ∙ sym (ap (λ (f : Front). f rest) (fold-roll-Declaration Front Front Front Front declaration_step interface_step body_step specification_step (plain_declaration y)))

-- the statements of a specification are those of its trees
whole : (s : SpecificationTree) → IsSpecification s
whole = ind-Specification IsDeclaration IsInterface IsBody IsSpecification
    (λ x y is. subst (λ (z : Declaration-F DeclarationTree Interface InterfaceBody SpecificationTree). IsDeclaration (roll-Declaration z)) is (declaration_layer y))
    (λ x y is. subst (λ (z : Interface-F DeclarationTree Interface InterfaceBody SpecificationTree). IsInterface (roll-Interface z)) is (interface_layer y))
    (λ x y is. subst (λ (z : InterfaceBody-F DeclarationTree Interface InterfaceBody SpecificationTree). IsBody (roll-InterfaceBody z)) is (body_layer y))
    (λ x y is. subst (λ (z : Specification-F DeclarationTree Interface InterfaceBody SpecificationTree). IsSpecification (roll-Specification z)) is (specification_layer y))

-- the trees of a specification in front of others
uses_behind : (us : List Use) (ts : Trees) (rest : List Statement) → spell_trees (use_trees us ts) rest ≡ spell_trees (use_trees us no_trees) (spell_trees ts rest)
uses_behind [] ts rest = refl
uses_behind (used i c n names ∷ us) ts rest = ap (λ (ss : List Statement). Declaring (grammar.Use i c n names) ∷ ss) (uses_behind us ts rest)

import_behind : (i : Option Import) (ts : Trees) (rest : List Statement) → spell_trees (import_trees i ts) rest ≡ spell_trees (import_trees i no_trees) (spell_trees ts rest)
import_behind None ts rest = refl
import_behind (Some (imported c names)) ts rest = refl

implicit_behind : (b : Bool) (ts : Trees) (rest : List Statement) → spell_trees (implicit_trees b ts) rest ≡ spell_trees (implicit_trees b no_trees) (spell_trees ts rest)
implicit_behind true ts rest = refl
implicit_behind false ts rest = refl

declarations_behind : (ds : Declarations) (ts : Trees) (rest : List Statement) → spell_trees (declaration_trees ds ts) rest ≡ spell_trees (declaration_trees ds no_trees) (spell_trees ts rest)
declarations_behind no_declarations ts rest = refl
declarations_behind (declaration d ds) ts rest = ap (declaration_front d) (declarations_behind ds ts rest)

behind : (s : Specification) (ts : Trees) (rest : List Statement) → spell_trees (specification_trees s ts) rest ≡ specification_front s (spell_trees ts rest)
behind (specification uses import implicit ds) ts rest =
    let ss : List Statement = spell_trees ts rest in
    uses_behind uses (import_trees import (implicit_trees implicit (declaration_trees ds ts))) rest
    ∙ ap (spell_trees (use_trees uses no_trees)) (import_behind import (implicit_trees implicit (declaration_trees ds ts)) rest
    ∙ ap (spell_trees (import_trees import no_trees)) (implicit_behind implicit (declaration_trees ds ts) rest
    ∙ ap (spell_trees (implicit_trees implicit no_trees)) (declarations_behind ds ts rest)
    ∙ sym (implicit_behind implicit (declaration_trees ds no_trees) ss))
    ∙ sym (import_behind import (implicit_trees implicit (declaration_trees ds no_trees)) ss))
    ∙ sym (uses_behind uses (import_trees import (implicit_trees implicit (declaration_trees ds no_trees))) ss)

pub specification_spelled : (s : SpecificationTree) (ts : Trees) (rest : List Statement) → spell_trees (specification_trees (bare_specification s) ts) rest ≡ specification_lines s (spell_trees ts rest)
specification_spelled s ts rest = behind (bare_specification s) ts rest ∙ whole s (spell_trees ts rest)
