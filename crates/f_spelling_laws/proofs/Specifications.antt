-- The tokens of specifications are those of their statements (ISO/IEC 1539-1:2018, 7.5, 8, 14 and 15.4.3.2).
use Rattle.std.proofs.Common.{◌≡◌, List, [], ◌∷◌, ◌++◌, Option, Some, None, Bool, true, false, ◌&&◌, map, refl, sym, ap, subst, ◌∙◌}
use Rattle.std.specs.Prelude.{codes}
use Rattle.std.specs.Option.{option_map}
use Rattle.jf_base.specs.declared.place.Place.{Place}
use Rattle.f_lex.specs.declared.token.Mark.TheVariants as mark
use Rattle.f_lex.specs.declared.token.Token.{Token}
use Rattle.f_lex.specs.declared.token.Token.TheVariants as token
use Rattle.f_tree.specs.declared.lexeme.Lexeme.{Lexeme}
use Rattle.f_tree.specs.declared.name.Name.{Name}
use Rattle.f_tree.specs.declared.unit.ProcedureKind.{ProcedureKind}
use Rattle.f_tree.specs.declared.unit.ProcedureKind.TheVariants.{Subroutine, Function}
use Rattle.f_tree.specs.declared.unit.Head.{Head}
use Rattle.f_tree.specs.declared.declaration.Dimension.{Dimension}
use Rattle.f_tree.specs.declared.declaration.Use.{Use}
use Rattle.f_tree.specs.declared.declaration.Import.{Import}
use Rattle.f_tree.specs.declared.declaration.Field.{Field}
use Rattle.f_tree.specs.declared.declaration.Component.{Component}
use Rattle.f_tree.specs.declared.declaration.DerivedType.{DerivedType}
use Rattle.f_tree.specs.declared.declaration.Variables.{Variables}
use Rattle.f_tree.specs.declared.declaration.AccessStatement.{AccessStatement}
use Rattle.f_tree.specs.declared.declaration.ProcedurePointers.{ProcedurePointers}
use Rattle.f_tree.specs.declared.declaration.Ending.{Ending}
use Rattle.f_tree.specs.declared.declaration.EndingForm.{EndingForm}
use Rattle.f_tree.specs.declared.declaration.Interface.{Interface}
use Rattle.f_tree.specs.declared.declaration.InterfaceBody.{InterfaceBody}
use Rattle.f_tree.specs.declared.declaration.Specification.{Specification}
use Rattle.f_tree.specs.declared.declaration.EndingForm.TheVariants.{Bare, TwoWords, OneWord}
use Rattle.f_tree.specs.declared.declaration.Declaration.{Declaration, map-Declaration, roll-Declaration, fold-roll-Declaration}
use Rattle.f_tree.specs.declared.declaration.Declaration.TheOpen as open_
use Rattle.f_tree.specs.declared.declaration.Declaration.TheOpen.{Declaration-F, Interface-F, InterfaceBody-F, Specification-F}
use Rattle.f_tree.specs.declared.declaration.Declaration.TheFolds.{map-Interface, map-InterfaceBody, map-Specification, fold-roll-Interface, fold-roll-InterfaceBody, fold-roll-Specification, ind-Specification}
use Rattle.f_tree.specs.declared.declaration.Declaration.TheViews.{roll-Interface, roll-InterfaceBody, roll-Specification}
use Rattle.f_tree.specs.Lexemes.{Front, mark_of, each, listed, if_there, statement_end}
use Rattle.f_tree.specs.Declarations as tree
use Rattle.f_tree.specs.Declarations.{ending}
use Rattle.f_tree.specs.Units as unit_tree
use Rattle.f_tree.specs.Units.{procedure_word, joined_word, head, declaration, interface, interface_body, specification, declaration_step, interface_step, body_step, specification_step}
use Rattle.f_grammar.specs.Grammar.{put, spell_type}
use Rattle.f_declaration_grammar.specs.Listing.{spell_behind}
use Rattle.f_declaration_grammar.specs.Declarations as grammar
use Rattle.f_declaration_grammar.specs.Declarations.{front, spell_entity, spell_attr}
use Rattle.f_statement_grammar.specs.Statements.{Statement, spell_statement}
use Rattle.f_expr_read.specs.Views.{view_type}
use Rattle.f_construct_parts.specs.Lines.{Front as LinesFront, each as each_said, optional as optional_said}
use Rattle.f_unit_parts.specs.Units.{use_line, import_line, implicit_line, variables_line, access_line, save_line, pointers_line, type_line, interface_line, head_line, dimension_of, view_field, component_line, end_line, word_of, uses_of, import_lines, implicit_lines, components_of, derived_type_lines, declaration_step as declaration_said, interface_step as interface_said, body_step as body_said, specification_step as specification_said, declaration_lines, interface_lines, body_lines, specification_lines}
use Rattle.f_spelling_laws.specs.Told.{tokens_of, all, type_is_told, maybe_dimensions_told, variables_told, field_told, component_told, derived_type_told, use_told, head_told, unit_end_told, declaration_told, interface_told, body_told, specification_told, declaration_is_told, interface_is_told, body_is_told, specification_is_told}
use Rattle.f_spelling_laws.specs.Statements.{spell_statements}
use Rattle.f_spelling_laws.proofs.Fronts.{first_of, second_of}
use Rattle.f_spelling_laws.proofs.Expressions.{types_spelled}
use Rattle.f_spelling_laws.proofs.Constructs.{Follows, one_more}
use Rattle.f_spelling_laws.proofs.Declarations.{listed_spelled, maybe_dimensions_spelled, dimensions_spelled, declared_carries, variables_spelled, use_spelled, import_spelled, access_spelled, pointers_spelled, type_start_spelled, head_spelled}

-- ---- single statements

-- the end of something behind its parts
pub end_follows : (what : grammar.Ended) (e : Ending) → unit_end_told e ≡ true → (behind : List Token) (rest : List Lexeme) (ss : List Statement) → Follows behind rest ss → Follows behind (ending (grammar.ended_word what) (grammar.joined_word what) e rest) (end_line what e ∷ ss)
unfolding end_line
end_follows what e sure behind rest ss follows = one_more (end_line what e) behind ss (spelled e.form e.name sure) follows
  where
    with_form : EndingForm → Option Name → Ending
    with_form form name = record { place = e.place; form = form; name = name }

    spelled : (form : EndingForm) (name : Option Name) → unit_end_told (with_form form name) ≡ true →
        tokens_of (ending (grammar.ended_word what) (grammar.joined_word what) (with_form form name) rest) ≡ spell_statement (end_line what (with_form form name)) ++ token.End ∷ tokens_of rest
    spelled Bare None sure = refl
    spelled Bare (Some n) sure = absurd (let no : false ≡ true = sure in cc)
    spelled TwoWords None sure = refl
    spelled TwoWords (Some n) sure = refl
    spelled OneWord None sure = refl
    spelled OneWord (Some n) sure = refl

pub procedure_end_follows : (k : ProcedureKind) (e : Ending) → unit_end_told e ≡ true → (behind : List Token) (rest : List Lexeme) (ss : List Statement) → Follows behind rest ss → Follows behind (ending (procedure_word k) (joined_word k) e rest) (end_line (word_of k) e ∷ ss)
procedure_end_follows Subroutine e sure behind rest ss follows = end_follows grammar.OfSubroutine e sure behind rest ss follows
procedure_end_follows Function e sure behind rest ss follows = end_follows grammar.OfFunction e sure behind rest ss follows

pub head_line_spelled : (h : Head) → head_told h ≡ true → (rest : List Lexeme) → tokens_of (head h rest) ≡ spell_statement (head_line h) ++ token.End ∷ tokens_of rest
unfolding head_line
head_line_spelled h sure rest = head_spelled h sure rest

use_line_spelled : (u : Use) → use_told u ≡ true → (rest : List Lexeme) → tokens_of (tree.use_line u rest) ≡ spell_statement (use_line u) ++ token.End ∷ tokens_of rest
unfolding use_line
use_line_spelled u sure rest = use_spelled u sure (statement_end rest)

import_line_spelled : (i : Import) (rest : List Lexeme) → tokens_of (unit_tree.import_line i rest) ≡ spell_statement (import_line i) ++ token.End ∷ tokens_of rest
unfolding import_line
import_line_spelled i rest = import_spelled i (statement_end rest)

variables_line_spelled : (v : Variables) → variables_told v ≡ true → (rest : List Lexeme) → tokens_of (tree.variables v (statement_end rest)) ≡ spell_statement (variables_line v) ++ token.End ∷ tokens_of rest
unfolding variables_line
variables_line_spelled v sure rest = variables_spelled v sure (statement_end rest)

access_line_spelled : (a : AccessStatement) (rest : List Lexeme) → tokens_of (tree.access_statement a (statement_end rest)) ≡ spell_statement (access_line a) ++ token.End ∷ tokens_of rest
unfolding access_line
access_line_spelled a rest = access_spelled a (statement_end rest)

pointers_line_spelled : (p : ProcedurePointers) (rest : List Lexeme) → tokens_of (tree.procedure_pointers p (statement_end rest)) ≡ spell_statement (pointers_line p) ++ token.End ∷ tokens_of rest
unfolding pointers_line
pointers_line_spelled p rest = pointers_spelled p (statement_end rest)

-- ---- derived types (7.5)

field_spelled : (f : Field) → field_told f ≡ true → (rest : List Lexeme) → tokens_of (tree.field f rest) ≡ spell_entity (view_field f) (tokens_of rest)
field_spelled f sure rest = ap (front f.name.bytes) (maybe_dimensions_spelled f.dimensions sure rest)

dimension_attribute_spelled : (ds : Option (List Dimension)) → maybe_dimensions_told ds ≡ true → (rest : List Lexeme) → tokens_of (if_there tree.comma_dimension ds rest) ≡ spell_behind spell_attr (dimension_of ds) (tokens_of rest)
dimension_attribute_spelled None sure rest = refl
dimension_attribute_spelled (Some ds) sure rest = ap (λ (ts : List Token). put mark.Comma (front (codes "dimension") ts)) (dimensions_spelled ds sure rest)

component_line_spelled : (c : Component) → component_told c ≡ true → (rest : List Lexeme) → tokens_of (tree.component c rest) ≡ spell_statement (component_line c) ++ token.End ∷ tokens_of rest
unfolding component_line
component_line_spelled c sure rest =
    let t : Bool = type_is_told c.declared in
    let d : Bool = maybe_dimensions_told c.dimensions in
    let f : Bool = all (map field_told c.fields) in
    let ends : List Lexeme = statement_end rest in
    let fields : List Lexeme = mark_of mark.DoubleColon (listed (map tree.field c.fields) ends) in
    types_spelled c.declared (first_of t (d && f) sure) (if_there tree.comma_dimension c.dimensions fields)
    ∙ ap (spell_type (view_type c.declared)) (dimension_attribute_spelled c.dimensions (first_of d f (second_of t (d && f) sure)) fields
    ∙ ap (λ (ts : List Token). spell_behind spell_attr (dimension_of c.dimensions) (put mark.DoubleColon ts)) (listed_spelled tree.field view_field spell_entity field_told field_spelled c.fields (second_of d f (second_of t (d && f) sure)) ends))
    ∙ declared_carries (view_type c.declared) (dimension_of c.dimensions) true (map view_field c.fields) [] (tokens_of ends)

components_follow : (cs : List Component) → all (map component_told cs) ≡ true → (behind : List Token) (rest : List Lexeme) (ss : List Statement) → Follows behind rest ss → Follows behind (each (map tree.component cs) rest) (components_of cs ss)
components_follow [] sure behind rest ss follows = follows
components_follow (c ∷ cs) sure behind rest ss follows =
    let a : Bool = all (map component_told cs) in
    one_more (component_line c) behind (components_of cs ss) (component_line_spelled c (first_of (component_told c) a sure) (each (map tree.component cs) rest)) (components_follow cs (second_of (component_told c) a sure) behind rest ss follows)

derived_type_follows : (t : DerivedType) → derived_type_told t ≡ true → (behind : List Token) (rest : List Lexeme) (ss : List Statement) → Follows behind rest ss → Follows behind (tree.derived_type t rest) (derived_type_lines t ss)
unfolding derived_type_lines type_line
derived_type_follows t sure behind rest ss follows =
    let a : Bool = all (map component_told t.components) in
    let e : Bool = unit_end_told t.ending in
    let end : List Lexeme = ending (codes "type") (codes "endtype") t.ending rest in
    let inside : List Lexeme = each (map tree.component t.components) end in
    one_more (type_line t.attributes t.has_colons t.name) behind (components_of t.components (end_line grammar.OfType t.ending ∷ ss)) (type_start_spelled t.place t.attributes t.has_colons t.name (statement_end inside))
    (components_follow t.components (first_of a e sure) behind end (end_line grammar.OfType t.ending ∷ ss) (end_follows grammar.OfType t.ending (second_of a e sure) behind rest ss follows))

-- ---- the first statements of a specification

uses_follow : (us : List Use) → all (map use_told us) ≡ true → (behind : List Token) (rest : List Lexeme) (ss : List Statement) → Follows behind rest ss → Follows behind (each (map tree.use_line us) rest) (uses_of us ss)
uses_follow [] sure behind rest ss follows = follows
uses_follow (u ∷ us) sure behind rest ss follows =
    let a : Bool = all (map use_told us) in
    one_more (use_line u) behind (uses_of us ss) (use_line_spelled u (first_of (use_told u) a sure) (each (map tree.use_line us) rest)) (uses_follow us (second_of (use_told u) a sure) behind rest ss follows)

import_follows : (i : Option Import) (behind : List Token) (rest : List Lexeme) (ss : List Statement) → Follows behind rest ss → Follows behind (if_there unit_tree.import_line i rest) (optional_said (option_map import_lines i) ss)
import_follows None behind rest ss follows = follows
import_follows (Some i) behind rest ss follows = one_more (import_line i) behind ss (import_line_spelled i rest) follows

implicit_follows : (p : Option Place) (behind : List Token) (rest : List Lexeme) (ss : List Statement) → Follows behind rest ss → Follows behind (if_there unit_tree.implicit_line p rest) (optional_said (option_map implicit_lines p) ss)
implicit_follows None behind rest ss follows = follows
implicit_follows (Some p) behind rest ss follows = one_more implicit_line behind ss refl follows

-- ---- what is shown of each declaration

abbrev IsDeclaration : Declaration → Type 0
IsDeclaration x = declaration_is_told x ≡ true → (behind : List Token) (rest : List Lexeme) (ss : List Statement) → Follows behind rest ss → Follows behind (declaration x rest) (declaration_lines x ss)

abbrev IsInterface : Interface → Type 0
IsInterface x = interface_is_told x ≡ true → (behind : List Token) (rest : List Lexeme) (ss : List Statement) → Follows behind rest ss → Follows behind (interface x rest) (interface_lines x ss)

abbrev IsInterfaceBody : InterfaceBody → Type 0
IsInterfaceBody x = body_is_told x ≡ true → (behind : List Token) (rest : List Lexeme) (ss : List Statement) → Follows behind rest ss → Follows behind (interface_body x rest) (body_lines x ss)

abbrev IsSpecification : Specification → Type 0
IsSpecification x = specification_is_told x ≡ true → (behind : List Token) (rest : List Lexeme) (ss : List Statement) → Follows behind rest ss → Follows behind (specification x rest) (specification_lines x ss)

-- a declaration with its proof
abbrev ShownDeclaration : Type 0
ShownDeclaration = (x : Declaration) × IsDeclaration x

abbrev ShownInterface : Type 0
ShownInterface = (x : Interface) × IsInterface x

abbrev ShownInterfaceBody : Type 0
ShownInterfaceBody = (x : InterfaceBody) × IsInterfaceBody x

abbrev ShownSpecification : Type 0
ShownSpecification = (x : Specification) × IsSpecification x

-- a layer whose parts each have a proof
abbrev DeclarationLayer : Type 0
DeclarationLayer = Declaration-F ShownDeclaration ShownInterface ShownInterfaceBody ShownSpecification

abbrev InterfaceLayer : Type 0
InterfaceLayer = Interface-F ShownDeclaration ShownInterface ShownInterfaceBody ShownSpecification

abbrev InterfaceBodyLayer : Type 0
InterfaceBodyLayer = InterfaceBody-F ShownDeclaration ShownInterface ShownInterfaceBody ShownSpecification

abbrev SpecificationLayer : Type 0
SpecificationLayer = Specification-F ShownDeclaration ShownInterface ShownInterfaceBody ShownSpecification

-- the value of a layer, without the proofs
abbrev plain_declaration : DeclarationLayer → Declaration-F Declaration Interface InterfaceBody Specification
plain_declaration y = map-Declaration ShownDeclaration ShownInterface ShownInterfaceBody ShownSpecification Declaration Interface InterfaceBody Specification (λ e. e.0) (λ e. e.0) (λ e. e.0) (λ e. e.0) y

abbrev plain_interface : InterfaceLayer → Interface-F Declaration Interface InterfaceBody Specification
plain_interface y = map-Interface ShownDeclaration ShownInterface ShownInterfaceBody ShownSpecification Declaration Interface InterfaceBody Specification (λ e. e.0) (λ e. e.0) (λ e. e.0) (λ e. e.0) y

abbrev plain_body : InterfaceBodyLayer → InterfaceBody-F Declaration Interface InterfaceBody Specification
plain_body y = map-InterfaceBody ShownDeclaration ShownInterface ShownInterfaceBody ShownSpecification Declaration Interface InterfaceBody Specification (λ e. e.0) (λ e. e.0) (λ e. e.0) (λ e. e.0) y

abbrev plain_specification : SpecificationLayer → Specification-F Declaration Interface InterfaceBody Specification
plain_specification y = map-Specification ShownDeclaration ShownInterface ShownInterfaceBody ShownSpecification Declaration Interface InterfaceBody Specification (λ e. e.0) (λ e. e.0) (λ e. e.0) (λ e. e.0) y

-- the tokens of a layer, its statements and what is asked of it
abbrev declaration_front : DeclarationLayer → Front
declaration_front y = declaration_step (map-Declaration Declaration Interface InterfaceBody Specification Front Front Front Front declaration interface interface_body specification (plain_declaration y))

abbrev declaration_layer_lines : DeclarationLayer → LinesFront
declaration_layer_lines y = declaration_said (map-Declaration Declaration Interface InterfaceBody Specification LinesFront LinesFront LinesFront LinesFront declaration_lines interface_lines body_lines specification_lines (plain_declaration y))

abbrev declaration_asked : DeclarationLayer → Bool
declaration_asked y = declaration_told (map-Declaration Declaration Interface InterfaceBody Specification Bool Bool Bool Bool declaration_is_told interface_is_told body_is_told specification_is_told (plain_declaration y))

abbrev interface_front : InterfaceLayer → Front
interface_front y = interface_step (map-Interface Declaration Interface InterfaceBody Specification Front Front Front Front declaration interface interface_body specification (plain_interface y))

abbrev interface_layer_lines : InterfaceLayer → LinesFront
interface_layer_lines y = interface_said (map-Interface Declaration Interface InterfaceBody Specification LinesFront LinesFront LinesFront LinesFront declaration_lines interface_lines body_lines specification_lines (plain_interface y))

abbrev interface_asked : InterfaceLayer → Bool
interface_asked y = interface_told (map-Interface Declaration Interface InterfaceBody Specification Bool Bool Bool Bool declaration_is_told interface_is_told body_is_told specification_is_told (plain_interface y))

abbrev body_front : InterfaceBodyLayer → Front
body_front y = body_step (map-InterfaceBody Declaration Interface InterfaceBody Specification Front Front Front Front declaration interface interface_body specification (plain_body y))

abbrev body_layer_lines : InterfaceBodyLayer → LinesFront
body_layer_lines y = body_said (map-InterfaceBody Declaration Interface InterfaceBody Specification LinesFront LinesFront LinesFront LinesFront declaration_lines interface_lines body_lines specification_lines (plain_body y))

abbrev body_asked : InterfaceBodyLayer → Bool
body_asked y = body_told (map-InterfaceBody Declaration Interface InterfaceBody Specification Bool Bool Bool Bool declaration_is_told interface_is_told body_is_told specification_is_told (plain_body y))

abbrev specification_front : SpecificationLayer → Front
specification_front y = specification_step (map-Specification Declaration Interface InterfaceBody Specification Front Front Front Front declaration interface interface_body specification (plain_specification y))

abbrev specification_layer_lines : SpecificationLayer → LinesFront
specification_layer_lines y = specification_said (map-Specification Declaration Interface InterfaceBody Specification LinesFront LinesFront LinesFront LinesFront declaration_lines interface_lines body_lines specification_lines (plain_specification y))

abbrev specification_asked : SpecificationLayer → Bool
specification_asked y = specification_told (map-Specification Declaration Interface InterfaceBody Specification Bool Bool Bool Bool declaration_is_told interface_is_told body_is_told specification_is_told (plain_specification y))

-- ---- lists of parts

declarations_follow : (xs : List ShownDeclaration) → all (map declaration_is_told (map (λ x. x.0) xs)) ≡ true → (behind : List Token) (rest : List Lexeme) (ss : List Statement) → Follows behind rest ss →
    Follows behind (each (map declaration (map (λ x. x.0) xs)) rest) (each_said (map declaration_lines (map (λ x. x.0) xs)) ss)
declarations_follow [] sure behind rest ss follows = follows
declarations_follow (x ∷ xs) sure behind rest ss follows =
    let a : Bool = all (map declaration_is_told (map (λ x. x.0) xs)) in
    x.1 (first_of (declaration_is_told x.0) a sure) behind (each (map declaration (map (λ x. x.0) xs)) rest) (each_said (map declaration_lines (map (λ x. x.0) xs)) ss) (declarations_follow xs (second_of (declaration_is_told x.0) a sure) behind rest ss follows)

bodies_follow : (xs : List ShownInterfaceBody) → all (map body_is_told (map (λ x. x.0) xs)) ≡ true → (behind : List Token) (rest : List Lexeme) (ss : List Statement) → Follows behind rest ss →
    Follows behind (each (map interface_body (map (λ x. x.0) xs)) rest) (each_said (map body_lines (map (λ x. x.0) xs)) ss)
bodies_follow [] sure behind rest ss follows = follows
bodies_follow (x ∷ xs) sure behind rest ss follows =
    let a : Bool = all (map body_is_told (map (λ x. x.0) xs)) in
    x.1 (first_of (body_is_told x.0) a sure) behind (each (map interface_body (map (λ x. x.0) xs)) rest) (each_said (map body_lines (map (λ x. x.0) xs)) ss) (bodies_follow xs (second_of (body_is_told x.0) a sure) behind rest ss follows)

-- ---- each layer

declaration_shown : (y : DeclarationLayer) → declaration_asked y ≡ true → (behind : List Token) (rest : List Lexeme) (ss : List Statement) → Follows behind rest ss → Follows behind (declaration_front y rest) (declaration_layer_lines y ss)
declaration_shown (open_.Variables v) sure behind rest ss follows = one_more (variables_line v) behind ss (variables_line_spelled v sure rest) follows
declaration_shown (open_.DerivedType t) sure behind rest ss follows = derived_type_follows t sure behind rest ss follows
declaration_shown (open_.Interface i) sure behind rest ss follows = i.1 sure behind rest ss follows
declaration_shown (open_.Access a) sure behind rest ss follows = one_more (access_line a) behind ss (access_line_spelled a rest) follows
declaration_shown (open_.Save p) sure behind rest ss follows = one_more save_line behind ss refl follows
declaration_shown (open_.ProcedurePointers p) sure behind rest ss follows = one_more (pointers_line p) behind ss (pointers_line_spelled p rest) follows

interface_line_spelled : (b : Bool) (p : Place) (rest : List Lexeme) → tokens_of (unit_tree.interface_words b p (statement_end rest)) ≡ spell_statement (interface_line b) ++ token.End ∷ tokens_of rest
interface_line_spelled true p rest = refl
interface_line_spelled false p rest = refl

interface_shown : (y : InterfaceLayer) → interface_asked y ≡ true → (behind : List Token) (rest : List Lexeme) (ss : List Statement) → Follows behind rest ss → Follows behind (interface_front y rest) (interface_layer_lines y ss)
interface_shown y sure behind rest ss follows =
    let a : Bool = all (map body_is_told (map (λ x. x.0) y.bodies)) in
    let e : Bool = unit_end_told y.ending in
    let end : List Lexeme = ending (codes "interface") (codes "endinterface") y.ending rest in
    one_more (interface_line y.is_abstract) behind (each_said (map body_lines (map (λ x. x.0) y.bodies)) (end_line grammar.OfInterface y.ending ∷ ss))
    (interface_line_spelled y.is_abstract y.place (each (map interface_body (map (λ x. x.0) y.bodies)) end))
    (bodies_follow y.bodies (first_of a e sure) behind end (end_line grammar.OfInterface y.ending ∷ ss) (end_follows grammar.OfInterface y.ending (second_of a e sure) behind rest ss follows))

body_shown : (y : InterfaceBodyLayer) → body_asked y ≡ true → (behind : List Token) (rest : List Lexeme) (ss : List Statement) → Follows behind rest ss → Follows behind (body_front y rest) (body_layer_lines y ss)
body_shown y sure behind rest ss follows =
    let h : Bool = head_told y.head in
    let s : Bool = specification_is_told y.specification.0 in
    let e : Bool = unit_end_told y.ending in
    let end : List Lexeme = ending (procedure_word y.head.kind) (joined_word y.head.kind) y.ending rest in
    let end_said : List Statement = end_line (word_of y.head.kind) y.ending ∷ ss in
    one_more (head_line y.head) behind (specification_lines y.specification.0 end_said) (head_line_spelled y.head (first_of h (s && e) sure) (specification y.specification.0 end))
    (y.specification.1 (first_of s e (second_of h (s && e) sure)) behind end end_said (procedure_end_follows y.head.kind y.ending (second_of s e (second_of h (s && e) sure)) behind rest ss follows))

specification_shown : (y : SpecificationLayer) → specification_asked y ≡ true → (behind : List Token) (rest : List Lexeme) (ss : List Statement) → Follows behind rest ss → Follows behind (specification_front y rest) (specification_layer_lines y ss)
specification_shown y sure behind rest ss follows =
    let u : Bool = all (map use_told y.uses) in
    let d : Bool = all (map declaration_is_told (map (λ x. x.0) y.declarations)) in
    let declared : List Lexeme = each (map declaration (map (λ x. x.0) y.declarations)) rest in
    let implicit : List Lexeme = if_there unit_tree.implicit_line y.implicit_none declared in
    let declared_said : List Statement = each_said (map declaration_lines (map (λ x. x.0) y.declarations)) ss in
    let implicit_lines_said : List Statement = optional_said (option_map implicit_lines y.implicit_none) declared_said in
    uses_follow y.uses (first_of u d sure) behind (if_there unit_tree.import_line y.import implicit) (optional_said (option_map import_lines y.import) implicit_lines_said)
    (import_follows y.import behind implicit implicit_lines_said
    (implicit_follows y.implicit_none behind declared declared_said
    (declarations_follow y.declarations (second_of u d sure) behind rest ss follows)))

-- ---- each declaration, where its parts have it

declaration_layer : (y : DeclarationLayer) → IsDeclaration (roll-Declaration (plain_declaration y))
declaration_layer y sure behind rest ss follows =
    ap (λ (f : Front). tokens_of (f rest)) (fold-roll-Declaration Front Front Front Front declaration_step interface_step body_step specification_step (plain_declaration y))
    ∙ declaration_shown y (sym (fold-roll-Declaration Bool Bool Bool Bool declaration_told interface_told body_told specification_told (plain_declaration y)) ∙ sure) behind rest ss follows
    ∙ sym (ap (λ (f : LinesFront). spell_statements (f ss) behind) (fold-roll-Declaration LinesFront LinesFront LinesFront LinesFront declaration_said interface_said body_said specification_said (plain_declaration y)))

interface_layer : (y : InterfaceLayer) → IsInterface (roll-Interface (plain_interface y))
interface_layer y sure behind rest ss follows =
    ap (λ (f : Front). tokens_of (f rest)) (fold-roll-Interface Front Front Front Front declaration_step interface_step body_step specification_step (plain_interface y))
    ∙ interface_shown y (sym (fold-roll-Interface Bool Bool Bool Bool declaration_told interface_told body_told specification_told (plain_interface y)) ∙ sure) behind rest ss follows
    ∙ sym (ap (λ (f : LinesFront). spell_statements (f ss) behind) (fold-roll-Interface LinesFront LinesFront LinesFront LinesFront declaration_said interface_said body_said specification_said (plain_interface y)))

body_layer : (y : InterfaceBodyLayer) → IsInterfaceBody (roll-InterfaceBody (plain_body y))
body_layer y sure behind rest ss follows =
    ap (λ (f : Front). tokens_of (f rest)) (fold-roll-InterfaceBody Front Front Front Front declaration_step interface_step body_step specification_step (plain_body y))
    ∙ body_shown y (sym (fold-roll-InterfaceBody Bool Bool Bool Bool declaration_told interface_told body_told specification_told (plain_body y)) ∙ sure) behind rest ss follows
    ∙ sym (ap (λ (f : LinesFront). spell_statements (f ss) behind) (fold-roll-InterfaceBody LinesFront LinesFront LinesFront LinesFront declaration_said interface_said body_said specification_said (plain_body y)))

specification_layer : (y : SpecificationLayer) → IsSpecification (roll-Specification (plain_specification y))
specification_layer y sure behind rest ss follows =
    ap (λ (f : Front). tokens_of (f rest)) (fold-roll-Specification Front Front Front Front declaration_step interface_step body_step specification_step (plain_specification y))
    ∙ specification_shown y (sym (fold-roll-Specification Bool Bool Bool Bool declaration_told interface_told body_told specification_told (plain_specification y)) ∙ sure) behind rest ss follows
    ∙ sym (ap (λ (f : LinesFront). spell_statements (f ss) behind) (fold-roll-Specification LinesFront LinesFront LinesFront LinesFront declaration_said interface_said body_said specification_said (plain_specification y)))

-- ---- all specifications

pub specification_spelled : (x : Specification) → IsSpecification x
specification_spelled = ind-Specification IsDeclaration IsInterface IsInterfaceBody IsSpecification
    (λ x y is. subst (λ (z : Declaration-F Declaration Interface InterfaceBody Specification). IsDeclaration (roll-Declaration z)) is (declaration_layer y))
    (λ x y is. subst (λ (z : Interface-F Declaration Interface InterfaceBody Specification). IsInterface (roll-Interface z)) is (interface_layer y))
    (λ x y is. subst (λ (z : InterfaceBody-F Declaration Interface InterfaceBody Specification). IsInterfaceBody (roll-InterfaceBody z)) is (body_layer y))
    (λ x y is. subst (λ (z : Specification-F Declaration Interface InterfaceBody Specification). IsSpecification (roll-Specification z)) is (specification_layer y))
