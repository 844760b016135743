-- Specifications and units whose statements fit, ended as they began, in which no CHARACTER has empty parentheses, are told.
use Rattle.std.proofs.Common.{◌≡◌, List, [], ◌∷◌, Option, Some, None, Bool, true, false, ◌&&◌, map, refl, sym, subst, ◌∙◌}
use Rattle.std.proofs.lemmas.Bool.{and_from}
use Rattle.std.specs.Prelude.{is_some}
use Rattle.std.specs.Option.{option_map}
use Rattle.f_tree.specs.declared.unit.ProcedureKind.{ProcedureKind}
use Rattle.f_tree.specs.declared.unit.ProcedureKind.TheVariants.{Subroutine, Function}
use Rattle.f_tree.specs.declared.unit.Head.{Head as HeadTree}
use Rattle.f_tree.specs.declared.unit.Procedure.{Procedure as ProcedureTree}
use Rattle.f_tree.specs.declared.unit.Unit.{Unit as UnitTree}
use Rattle.f_tree.specs.declared.unit.Unit.TheVariants as unit_form
use Rattle.f_tree.specs.declared.statement.Statement.{Statement as Construct}
use Rattle.f_tree.specs.declared.declaration.Use.{Use as UseTree}
use Rattle.f_tree.specs.declared.declaration.UseList.{UseList}
use Rattle.f_tree.specs.declared.declaration.Import.{Import as ImportTree}
use Rattle.f_tree.specs.declared.declaration.Ending.{Ending}
use Rattle.f_tree.specs.declared.declaration.Interface.{Interface}
use Rattle.f_tree.specs.declared.declaration.InterfaceBody.{InterfaceBody}
use Rattle.f_tree.specs.declared.declaration.Specification.{Specification as SpecificationTree}
use Rattle.f_tree.specs.declared.declaration.UseList.TheVariants as uses
use Rattle.f_tree.specs.declared.declaration.Declaration.{Declaration as DeclarationTree, fold-Declaration, map-Declaration, roll-Declaration, fold-roll-Declaration}
use Rattle.f_tree.specs.declared.declaration.Declaration.TheOpen as open_
use Rattle.f_tree.specs.declared.declaration.Declaration.TheOpen.{Declaration-F, Interface-F, InterfaceBody-F, Specification-F}
use Rattle.f_tree.specs.declared.declaration.Declaration.TheFolds.{map-Interface, map-InterfaceBody, map-Specification, fold-Interface, fold-InterfaceBody, fold-roll-Interface, fold-roll-InterfaceBody, fold-roll-Specification, ind-Specification}
use Rattle.f_tree.specs.declared.declaration.Declaration.TheViews.{roll-Interface, roll-InterfaceBody, roll-Specification}
use Rattle.f_declaration_grammar.specs.Declarations as grammar
use Rattle.f_declaration_grammar.specs.Declarations.{FitsUses}
use Rattle.f_unit_grammar.specs.Units.{Tree, nested, Trees, no_trees, File}
use Rattle.f_declared.specs.Views.{view_uses}
use Rattle.f_unit_laws.specs.Shapes.{Close, Head, Use, used, Import, imported, Declaration, Declarations, no_declarations, declaration, declarations, bodies_of, Specification, specification, bare_ending, bare_head, bare_use, bare_import, declaration_bare, interface_bare, body_bare, specification_bare, bare_specification, bare_blocks, bare_procedure, bare_unit}
use Rattle.f_unit_laws.specs.Derivations.{head_line, procedure_end, use_trees, import_trees, implicit_trees, declaration_tree, declaration_trees, body_trees, specification_trees, block_trees, procedure_tree, procedure_trees, contained_trees, unit_tree, unit_trees, derivation}
use Rattle.f_unit_laws.proofs.Sorts.{is_executable}
use Rattle.f_unit_laws.proofs.Formed.{AreMatched, trees_stand}
use Rattle.f_unit_laws.proofs.Derived.{units_are_derivations}
use Rattle.f_spelling_laws.specs.Told.{all, maybe, list_told, use_told, head_told, unit_end_told, construct_is_told, procedure_told, procedures_told, unit_told, declaration_told, interface_told, body_told, specification_told, declaration_is_told, interface_is_told, body_is_told, specification_is_told}
use Rattle.f_spelling_laws.specs.Plain.{derived_type_plain, specification_is_plain, construct_is_plain, procedure_is_plain, procedures_plain, unit_is_plain, declaration_plain, interface_plain, body_plain, specification_plain}
use Rattle.f_spelling_laws.specs.Laws.{Fit, PlainAreTold}
use Rattle.f_spelling_laws.proofs.Fronts.{first_of, second_of}
use Rattle.f_spelling_laws.proofs.Good.{GoodTree, GoodTrees, trees_good, unit_end_is_told}
use Rattle.f_spelling_laws.proofs.PlainConstructs.{blocks_plain_told}

-- ---- ends and the first statements

list_is_told : (l : UseList) → FitsUses (view_uses l) → list_told l ≡ true
list_is_told uses.All f = refl
list_is_told (uses.Renamed []) f = absurd f
list_is_told (uses.Renamed (r ∷ rs)) f = refl
list_is_told (uses.Only os) f = refl

uses_are_told : (us : List UseTree) (ts : Trees) → GoodTrees (use_trees (map bare_use us) ts) → (all (map use_told us) ≡ true) × GoodTrees ts
uses_are_told [] ts good = (refl, good)
uses_are_told (u ∷ us) ts good =
    let p = uses_are_told us ts good.1 in
    (and_from (use_told u) (all (map use_told us)) (list_is_told u.list good.0) p.0, p.1)

import_good : (i : Option ImportTree) (ts : Trees) → GoodTrees (import_trees (option_map bare_import i) ts) → GoodTrees ts
import_good None ts good = good
import_good (Some i) ts good = good.1

implicit_good : (b : Bool) (ts : Trees) → GoodTrees (implicit_trees b ts) → GoodTrees ts
implicit_good true ts good = good.1
implicit_good false ts good = good

procedure_end_is_told : (h : HeadTree) (e : Ending) → false ≡ is_executable (procedure_end (bare_head h) (bare_ending e)) → unit_end_told e ≡ true
procedure_end_is_told h e = of h.kind
  where
    of : (kind : ProcedureKind) → false ≡ is_executable (procedure_end (bare_head (record { prefixes = h.prefixes; kind = kind; place = h.place; name = h.name; dummies = h.dummies; suffixes = h.suffixes })) (bare_ending e)) → unit_end_told e ≡ true
    of Subroutine is = unit_end_is_told grammar.OfSubroutine e is
    of Function is = unit_end_is_told grammar.OfFunction e is

-- ---- a specification in front of others

use_parts : (us : List Use) (xs ts : Trees) → (GoodTrees xs → GoodTrees ts) → GoodTrees (use_trees us xs) → GoodTrees (use_trees us ts)
use_parts [] xs ts f good = f good
use_parts (used i c n names ∷ us) xs ts f good = (good.0, use_parts us xs ts f good.1)

use_rest : (us : List Use) (ts : Trees) → GoodTrees (use_trees us ts) → GoodTrees ts
use_rest [] ts good = good
use_rest (used i c n names ∷ us) ts good = use_rest us ts good.1

import_parts : (i : Option Import) (xs ts : Trees) → (GoodTrees xs → GoodTrees ts) → GoodTrees (import_trees i xs) → GoodTrees (import_trees i ts)
import_parts None xs ts f good = f good
import_parts (Some (imported c names)) xs ts f good = (good.0, f good.1)

import_rest : (i : Option Import) (ts : Trees) → GoodTrees (import_trees i ts) → GoodTrees ts
import_rest None ts good = good
import_rest (Some (imported c names)) ts good = good.1

implicit_parts : (b : Bool) (xs ts : Trees) → (GoodTrees xs → GoodTrees ts) → GoodTrees (implicit_trees b xs) → GoodTrees (implicit_trees b ts)
implicit_parts true xs ts f good = (good.0, f good.1)
implicit_parts false xs ts f good = f good

declaration_parts : (ds : Declarations) (ts : Trees) → GoodTrees (declaration_trees ds ts) → GoodTrees (declaration_trees ds no_trees) × GoodTrees ts
declaration_parts no_declarations ts good = (tt, good)
declaration_parts (declaration d ds) ts good =
    let p = declaration_parts ds ts good.1 in
    ((good.0, p.0), p.1)

specification_parts : (s : Specification) (ts : Trees) → GoodTrees (specification_trees s ts) → GoodTrees (specification_trees s no_trees) × GoodTrees ts
specification_parts (specification us i b ds) ts good =
    let declared : Trees = declaration_trees ds ts in
    let alone : Trees = declaration_trees ds no_trees in
    let keep : GoodTrees declared → GoodTrees alone = λ g. (declaration_parts ds ts g).0 in (
      use_parts us (import_trees i (implicit_trees b declared)) (import_trees i (implicit_trees b alone)) (import_parts i (implicit_trees b declared) (implicit_trees b alone) (implicit_parts b declared alone keep)) good,
      (declaration_parts ds ts (implicit_good b declared (import_rest i (implicit_trees b declared) (use_rest us (import_trees i (implicit_trees b declared)) good)))).1,
    )

-- ---- each declaration without its places, and whether it is plain

abbrev bare_declaration : DeclarationTree → Declaration
bare_declaration = fold-Declaration Declaration Declaration (Head × Specification × Close) Specification declaration_bare interface_bare body_bare specification_bare

abbrev declaration_is_plain : DeclarationTree → Bool
declaration_is_plain = fold-Declaration Bool Bool Bool Bool declaration_plain interface_plain body_plain specification_plain

abbrev bare_interface : Interface → Declaration
bare_interface = fold-Interface Declaration Declaration (Head × Specification × Close) Specification declaration_bare interface_bare body_bare specification_bare

abbrev interface_is_plain : Interface → Bool
interface_is_plain = fold-Interface Bool Bool Bool Bool declaration_plain interface_plain body_plain specification_plain

abbrev bare_body : InterfaceBody → Head × Specification × Close
bare_body = fold-InterfaceBody Declaration Declaration (Head × Specification × Close) Specification declaration_bare interface_bare body_bare specification_bare

abbrev body_is_plain : InterfaceBody → Bool
body_is_plain = fold-InterfaceBody Bool Bool Bool Bool declaration_plain interface_plain body_plain specification_plain

abbrev body_tree : Head × Specification × Close → Tree
body_tree b = nested (head_line b.0) (specification_trees b.1 no_trees) (procedure_end b.0 b.2)

-- ---- what is shown of each declaration

abbrev IsDeclaration : DeclarationTree → Type 0
IsDeclaration x = declaration_is_plain x ≡ true → GoodTree (declaration_tree (bare_declaration x)) → declaration_is_told x ≡ true

abbrev IsInterface : Interface → Type 0
IsInterface x = interface_is_plain x ≡ true → GoodTree (declaration_tree (bare_interface x)) → interface_is_told x ≡ true

abbrev IsInterfaceBody : InterfaceBody → Type 0
IsInterfaceBody x = body_is_plain x ≡ true → GoodTree (body_tree (bare_body x)) → body_is_told x ≡ true

abbrev IsSpecification : SpecificationTree → Type 0
IsSpecification x = specification_is_plain x ≡ true → GoodTrees (specification_trees (bare_specification x) no_trees) → specification_is_told x ≡ true

-- a declaration with its proof
abbrev ShownDeclaration : Type 0
ShownDeclaration = (x : DeclarationTree) × IsDeclaration x

abbrev ShownInterface : Type 0
ShownInterface = (x : Interface) × IsInterface x

abbrev ShownInterfaceBody : Type 0
ShownInterfaceBody = (x : InterfaceBody) × IsInterfaceBody x

abbrev ShownSpecification : Type 0
ShownSpecification = (x : SpecificationTree) × IsSpecification x

-- a layer whose parts each have a proof
abbrev DeclarationLayer : Type 0
DeclarationLayer = Declaration-F ShownDeclaration ShownInterface ShownInterfaceBody ShownSpecification

abbrev InterfaceLayer : Type 0
InterfaceLayer = Interface-F ShownDeclaration ShownInterface ShownInterfaceBody ShownSpecification

abbrev InterfaceBodyLayer : Type 0
InterfaceBodyLayer = InterfaceBody-F ShownDeclaration ShownInterface ShownInterfaceBody ShownSpecification

abbrev SpecificationLayer : Type 0
SpecificationLayer = Specification-F ShownDeclaration ShownInterface ShownInterfaceBody ShownSpecification

-- the value of a layer, without the proofs
abbrev plain_declaration : DeclarationLayer → Declaration-F DeclarationTree Interface InterfaceBody SpecificationTree
plain_declaration y = map-Declaration ShownDeclaration ShownInterface ShownInterfaceBody ShownSpecification DeclarationTree Interface InterfaceBody SpecificationTree (λ e. e.0) (λ e. e.0) (λ e. e.0) (λ e. e.0) y

abbrev plain_interface : InterfaceLayer → Interface-F DeclarationTree Interface InterfaceBody SpecificationTree
plain_interface y = map-Interface ShownDeclaration ShownInterface ShownInterfaceBody ShownSpecification DeclarationTree Interface InterfaceBody SpecificationTree (λ e. e.0) (λ e. e.0) (λ e. e.0) (λ e. e.0) y

abbrev plain_body : InterfaceBodyLayer → InterfaceBody-F DeclarationTree Interface InterfaceBody SpecificationTree
plain_body y = map-InterfaceBody ShownDeclaration ShownInterface ShownInterfaceBody ShownSpecification DeclarationTree Interface InterfaceBody SpecificationTree (λ e. e.0) (λ e. e.0) (λ e. e.0) (λ e. e.0) y

abbrev plain_specification : SpecificationLayer → Specification-F DeclarationTree Interface InterfaceBody SpecificationTree
plain_specification y = map-Specification ShownDeclaration ShownInterface ShownInterfaceBody ShownSpecification DeclarationTree Interface InterfaceBody SpecificationTree (λ e. e.0) (λ e. e.0) (λ e. e.0) (λ e. e.0) y

-- what is asked of a layer, what it is without its places, and what is told of it
abbrev declaration_asked : DeclarationLayer → Bool
declaration_asked y = declaration_plain (map-Declaration DeclarationTree Interface InterfaceBody SpecificationTree Bool Bool Bool Bool declaration_is_plain interface_is_plain body_is_plain specification_is_plain (plain_declaration y))

abbrev declaration_shape : DeclarationLayer → Declaration
declaration_shape y = declaration_bare (map-Declaration DeclarationTree Interface InterfaceBody SpecificationTree Declaration Declaration (Head × Specification × Close) Specification bare_declaration bare_interface bare_body bare_specification (plain_declaration y))

abbrev declaration_answer : DeclarationLayer → Bool
declaration_answer y = declaration_told (map-Declaration DeclarationTree Interface InterfaceBody SpecificationTree Bool Bool Bool Bool declaration_is_told interface_is_told body_is_told specification_is_told (plain_declaration y))

abbrev interface_asked : InterfaceLayer → Bool
interface_asked y = interface_plain (map-Interface DeclarationTree Interface InterfaceBody SpecificationTree Bool Bool Bool Bool declaration_is_plain interface_is_plain body_is_plain specification_is_plain (plain_interface y))

abbrev interface_shape : InterfaceLayer → Declaration
interface_shape y = interface_bare (map-Interface DeclarationTree Interface InterfaceBody SpecificationTree Declaration Declaration (Head × Specification × Close) Specification bare_declaration bare_interface bare_body bare_specification (plain_interface y))

abbrev interface_answer : InterfaceLayer → Bool
interface_answer y = interface_told (map-Interface DeclarationTree Interface InterfaceBody SpecificationTree Bool Bool Bool Bool declaration_is_told interface_is_told body_is_told specification_is_told (plain_interface y))

abbrev body_asked : InterfaceBodyLayer → Bool
body_asked y = body_plain (map-InterfaceBody DeclarationTree Interface InterfaceBody SpecificationTree Bool Bool Bool Bool declaration_is_plain interface_is_plain body_is_plain specification_is_plain (plain_body y))

abbrev body_shape : InterfaceBodyLayer → Head × Specification × Close
body_shape y = body_bare (map-InterfaceBody DeclarationTree Interface InterfaceBody SpecificationTree Declaration Declaration (Head × Specification × Close) Specification bare_declaration bare_interface bare_body bare_specification (plain_body y))

abbrev body_answer : InterfaceBodyLayer → Bool
body_answer y = body_told (map-InterfaceBody DeclarationTree Interface InterfaceBody SpecificationTree Bool Bool Bool Bool declaration_is_told interface_is_told body_is_told specification_is_told (plain_body y))

abbrev specification_asked : SpecificationLayer → Bool
specification_asked y = specification_plain (map-Specification DeclarationTree Interface InterfaceBody SpecificationTree Bool Bool Bool Bool declaration_is_plain interface_is_plain body_is_plain specification_is_plain (plain_specification y))

abbrev specification_shape : SpecificationLayer → Specification
specification_shape y = specification_bare (map-Specification DeclarationTree Interface InterfaceBody SpecificationTree Declaration Declaration (Head × Specification × Close) Specification bare_declaration bare_interface bare_body bare_specification (plain_specification y))

abbrev specification_answer : SpecificationLayer → Bool
specification_answer y = specification_told (map-Specification DeclarationTree Interface InterfaceBody SpecificationTree Bool Bool Bool Bool declaration_is_told interface_is_told body_is_told specification_is_told (plain_specification y))

-- ---- lists of parts

declarations_told : (xs : List ShownDeclaration) → all (map declaration_is_plain (map (λ x. x.0) xs)) ≡ true → GoodTrees (declaration_trees (declarations (map bare_declaration (map (λ x. x.0) xs))) no_trees) → all (map declaration_is_told (map (λ x. x.0) xs)) ≡ true
declarations_told [] sure good = refl
declarations_told (x ∷ xs) sure good =
    let a : Bool = all (map declaration_is_plain (map (λ x. x.0) xs)) in
    and_from (declaration_is_told x.0) (all (map declaration_is_told (map (λ x. x.0) xs))) (x.1 (first_of (declaration_is_plain x.0) a sure) good.0) (declarations_told xs (second_of (declaration_is_plain x.0) a sure) good.1)

bodies_told : (xs : List ShownInterfaceBody) → all (map body_is_plain (map (λ x. x.0) xs)) ≡ true → GoodTrees (body_trees (bodies_of (map bare_body (map (λ x. x.0) xs)))) → all (map body_is_told (map (λ x. x.0) xs)) ≡ true
bodies_told [] sure good = refl
bodies_told (x ∷ xs) sure good =
    let a : Bool = all (map body_is_plain (map (λ x. x.0) xs)) in
    and_from (body_is_told x.0) (all (map body_is_told (map (λ x. x.0) xs))) (x.1 (first_of (body_is_plain x.0) a sure) good.0) (bodies_told xs (second_of (body_is_plain x.0) a sure) good.1)

-- ---- each layer

declaration_shown : (y : DeclarationLayer) → declaration_asked y ≡ true → GoodTree (declaration_tree (declaration_shape y)) → declaration_answer y ≡ true
declaration_shown (open_.Variables v) sure good = sure
declaration_shown (open_.DerivedType t) sure good = and_from (derived_type_plain t) (unit_end_told t.ending) sure (unit_end_is_told grammar.OfType t.ending good.2)
declaration_shown (open_.Interface i) sure good = i.1 sure good
declaration_shown (open_.Access a) sure good = refl
declaration_shown (open_.Save p) sure good = refl
declaration_shown (open_.ProcedurePointers p) sure good = refl

interface_shown : (y : InterfaceLayer) → interface_asked y ≡ true → GoodTree (declaration_tree (interface_shape y)) → interface_answer y ≡ true
interface_shown y sure good = and_from (all (map body_is_told (map (λ x. x.0) y.bodies))) (unit_end_told y.ending) (bodies_told y.bodies sure good.1) (unit_end_is_told grammar.OfInterface y.ending good.2)

body_shown : (y : InterfaceBodyLayer) → body_asked y ≡ true → GoodTree (body_tree (body_shape y)) → body_answer y ≡ true
body_shown y sure good =
    let h : Bool = head_told y.head in
    let s : Bool = specification_is_plain y.specification.0 in
    let t : Bool = specification_is_told y.specification.0 in
    and_from h (t && unit_end_told y.ending) (first_of h s sure) (and_from t (unit_end_told y.ending) (y.specification.1 (second_of h s sure) good.1) (procedure_end_is_told y.head y.ending good.2))

specification_shown : (y : SpecificationLayer) → specification_asked y ≡ true → GoodTrees (specification_trees (specification_shape y) no_trees) → specification_answer y ≡ true
specification_shown y sure good =
    let ds : Trees = declaration_trees (declarations (map bare_declaration (map (λ x. x.0) y.declarations))) no_trees in
    let implicit : Trees = implicit_trees (is_some y.implicit_none) ds in
    let p = uses_are_told y.uses (import_trees (option_map bare_import y.import) implicit) good in
    and_from (all (map use_told y.uses)) (all (map declaration_is_told (map (λ x. x.0) y.declarations))) p.0
    (declarations_told y.declarations sure (implicit_good (is_some y.implicit_none) ds (import_good y.import implicit p.1)))

-- ---- each declaration, where its parts have it

declaration_layer : (y : DeclarationLayer) → IsDeclaration (roll-Declaration (plain_declaration y))
declaration_layer y sure good =
    fold-roll-Declaration Bool Bool Bool Bool declaration_told interface_told body_told specification_told (plain_declaration y)
    ∙ declaration_shown y (sym (fold-roll-Declaration Bool Bool Bool Bool declaration_plain interface_plain body_plain specification_plain (plain_declaration y)) ∙ sure)
    (subst (λ (v : Declaration). GoodTree (declaration_tree v)) (fold-roll-Declaration Declaration Declaration (Head × Specification × Close) Specification declaration_bare interface_bare body_bare specification_bare (plain_declaration y)) good)

interface_layer : (y : InterfaceLayer) → IsInterface (roll-Interface (plain_interface y))
interface_layer y sure good =
    fold-roll-Interface Bool Bool Bool Bool declaration_told interface_told body_told specification_told (plain_interface y)
    ∙ interface_shown y (sym (fold-roll-Interface Bool Bool Bool Bool declaration_plain interface_plain body_plain specification_plain (plain_interface y)) ∙ sure)
    (subst (λ (v : Declaration). GoodTree (declaration_tree v)) (fold-roll-Interface Declaration Declaration (Head × Specification × Close) Specification declaration_bare interface_bare body_bare specification_bare (plain_interface y)) good)

body_layer : (y : InterfaceBodyLayer) → IsInterfaceBody (roll-InterfaceBody (plain_body y))
body_layer y sure good =
    fold-roll-InterfaceBody Bool Bool Bool Bool declaration_told interface_told body_told specification_told (plain_body y)
    ∙ body_shown y (sym (fold-roll-InterfaceBody Bool Bool Bool Bool declaration_plain interface_plain body_plain specification_plain (plain_body y)) ∙ sure)
    (subst (λ (v : Head × Specification × Close). GoodTree (body_tree v)) (fold-roll-InterfaceBody Declaration Declaration (Head × Specification × Close) Specification declaration_bare interface_bare body_bare specification_bare (plain_body y)) good)

specification_layer : (y : SpecificationLayer) → IsSpecification (roll-Specification (plain_specification y))
specification_layer y sure good =
    fold-roll-Specification Bool Bool Bool Bool declaration_told interface_told body_told specification_told (plain_specification y)
    ∙ specification_shown y (sym (fold-roll-Specification Bool Bool Bool Bool declaration_plain interface_plain body_plain specification_plain (plain_specification y)) ∙ sure)
    (subst (λ (v : Specification). GoodTrees (specification_trees v no_trees)) (fold-roll-Specification Declaration Declaration (Head × Specification × Close) Specification declaration_bare interface_bare body_bare specification_bare (plain_specification y)) good)

-- ---- all specifications

specification_plain_told : (x : SpecificationTree) → IsSpecification x
specification_plain_told = ind-Specification IsDeclaration IsInterface IsInterfaceBody IsSpecification
    (λ x y is. subst (λ (z : Declaration-F DeclarationTree Interface InterfaceBody SpecificationTree). IsDeclaration (roll-Declaration z)) is (declaration_layer y))
    (λ x y is. subst (λ (z : Interface-F DeclarationTree Interface InterfaceBody SpecificationTree). IsInterface (roll-Interface z)) is (interface_layer y))
    (λ x y is. subst (λ (z : InterfaceBody-F DeclarationTree Interface InterfaceBody SpecificationTree). IsInterfaceBody (roll-InterfaceBody z)) is (body_layer y))
    (λ x y is. subst (λ (z : Specification-F DeclarationTree Interface InterfaceBody SpecificationTree). IsSpecification (roll-Specification z)) is (specification_layer y))

-- ---- units

-- a specification and a block behind it
inside_told : (s : SpecificationTree) (body : List Construct) → (specification_is_plain s && all (map construct_is_plain body)) ≡ true → GoodTrees (specification_trees (bare_specification s) (block_trees (bare_blocks body) no_trees)) →
    (specification_is_told s ≡ true) × (all (map construct_is_told body) ≡ true)
inside_told s body sure good =
    let a : Bool = all (map construct_is_plain body) in
    let p = specification_parts (bare_specification s) (block_trees (bare_blocks body) no_trees) good in
    (specification_plain_told s (first_of (specification_is_plain s) a sure) p.0, blocks_plain_told body (second_of (specification_is_plain s) a sure) p.1)

procedure_plain_told : (p : ProcedureTree) → procedure_is_plain p ≡ true → GoodTree (procedure_tree (bare_procedure p)) → procedure_told p ≡ true
procedure_plain_told p sure good =
    let h : Bool = head_told p.head in
    let b : Bool = specification_is_plain p.specification && all (map construct_is_plain p.body) in
    let q = inside_told p.specification p.body (second_of h b sure) good.1 in
    let s : Bool = specification_is_told p.specification in
    let c : Bool = all (map construct_is_told p.body) in
    let e : Bool = unit_end_told p.ending in
    and_from h (s && (c && e)) (first_of h b sure) (and_from s (c && e) q.0 (and_from c e q.1 (procedure_end_is_told p.head p.ending good.2)))

procedures_plain_told : (ps : List ProcedureTree) → procedures_plain ps ≡ true → GoodTrees (procedure_trees (map bare_procedure ps)) → procedures_told ps ≡ true
procedures_plain_told [] sure good = refl
procedures_plain_told (p ∷ ps) sure good =
    let a : Bool = procedures_plain ps in
    and_from (procedure_told p) (procedures_told ps) (procedure_plain_told p (first_of (procedure_is_plain p) a sure) good.0) (procedures_plain_told ps (second_of (procedure_is_plain p) a sure) good.1)

contained_plain_told : (ps : Option (List ProcedureTree)) → maybe (option_map procedures_plain ps) ≡ true → GoodTrees (contained_trees (option_map (map bare_procedure) ps)) → maybe (option_map procedures_told ps) ≡ true
contained_plain_told None sure good = refl
contained_plain_told (Some ps) sure good = procedures_plain_told ps sure good.1

unit_plain_told : (u : UnitTree) → unit_is_plain u ≡ true → GoodTree (unit_tree (bare_unit u)) → unit_told u ≡ true
unit_plain_told (unit_form.Program p) sure good =
    let q = inside_told p.specification p.body sure good.1 in
    let s : Bool = specification_is_told p.specification in
    let c : Bool = all (map construct_is_told p.body) in
    let e : Bool = unit_end_told p.ending in
    and_from s (c && e) q.0 (and_from c e q.1 (unit_end_is_told grammar.OfProgram p.ending good.2))
unit_plain_told (unit_form.Module m) sure good =
    let a : Bool = maybe (option_map procedures_plain m.procedures) in
    let contained : Trees = contained_trees (option_map (map bare_procedure) m.procedures) in
    let q = specification_parts (bare_specification m.specification) contained good.1 in
    let s : Bool = specification_is_told m.specification in
    let c : Bool = maybe (option_map procedures_told m.procedures) in
    let e : Bool = unit_end_told m.ending in
    and_from s (c && e) (specification_plain_told m.specification (first_of (specification_is_plain m.specification) a sure) q.0)
    (and_from c e (contained_plain_told m.procedures (second_of (specification_is_plain m.specification) a sure) q.1) (unit_end_is_told grammar.OfModule m.ending good.2))
unit_plain_told (unit_form.Procedure p) sure good = procedure_plain_told p sure good

units_plain_told : (us : List UnitTree) → all (map unit_is_plain us) ≡ true → GoodTrees (unit_trees (map bare_unit us)) → all (map unit_told us) ≡ true
units_plain_told [] sure good = refl
units_plain_told (u ∷ us) sure good =
    let a : Bool = all (map unit_is_plain us) in
    and_from (unit_told u) (all (map unit_told us)) (unit_plain_told u (first_of (unit_is_plain u) a sure) good.0) (units_plain_told us (second_of (unit_is_plain u) a sure) good.1)

pub plain_are_told : PlainAreTold
plain_are_told us sure file fit =
    let matched : AreMatched (derivation us) = subst AreMatched ((units_are_derivations us).1 file) (trees_stand file.trees 0 File File file.stand).1 in
    units_plain_told us sure (trees_good (derivation us) [] matched (subst Fit (sym (units_are_derivations us).0) fit)).0
