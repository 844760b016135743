-- The tokens of declarations are those that the grammar spells for their views (ISO/IEC 1539-1:2018, 7.5, 8, 14.2.2 and 15).
use Rattle.std.proofs.Common.{◌≡◌, ℕ, List, [], ◌∷◌, ◌++◌, Option, Some, None, Bool, true, false, ◌&&◌, map, refl, ap, ◌∙◌}
use Rattle.std.specs.Prelude.{codes}
use Rattle.std.specs.Option.{option_map}
use Rattle.jf_base.specs.declared.place.Place.{Place}
use Rattle.f_lex.specs.declared.token.Mark.TheVariants as mark
use Rattle.f_lex.specs.declared.token.Token.{Token}
use Rattle.f_lex.specs.declared.token.Token.TheVariants as token
use Rattle.f_tree.specs.declared.lexeme.Lexeme.{Lexeme}
use Rattle.f_tree.specs.declared.name.Name.{Name}
use Rattle.f_tree.specs.declared.declaration.Access.{Access}
use Rattle.f_tree.specs.declared.declaration.Access.TheVariants.{Public, Private}
use Rattle.f_tree.specs.declared.declaration.Intent.TheVariants.{In, Out, InOut, InOutTwoWords}
use Rattle.f_tree.specs.declared.declaration.Bind.{Bind}
use Rattle.f_tree.specs.declared.declaration.BindingName.{BindingName}
use Rattle.f_tree.specs.declared.declaration.Dimension.{Dimension}
use Rattle.f_tree.specs.declared.declaration.Dimension.TheVariants.{Upper, Bounds, Deferred, AssumedSize, AssumedRank}
use Rattle.f_tree.specs.declared.declaration.Attribute.{Attribute}
use Rattle.f_tree.specs.declared.declaration.AttributeForm.{AttributeForm}
use Rattle.f_tree.specs.declared.declaration.AttributeForm.TheVariants as form
use Rattle.f_tree.specs.declared.declaration.Initial.{Initial}
use Rattle.f_tree.specs.declared.declaration.Initial.TheVariants as initial
use Rattle.f_tree.specs.declared.declaration.Entity.{Entity}
use Rattle.f_tree.specs.declared.declaration.Variables.{Variables}
use Rattle.f_tree.specs.declared.declaration.Rename.{Rename}
use Rattle.f_tree.specs.declared.declaration.Only.{Only}
use Rattle.f_tree.specs.declared.declaration.Only.TheVariants as only
use Rattle.f_tree.specs.declared.declaration.UseList.{UseList}
use Rattle.f_tree.specs.declared.declaration.UseList.TheVariants as uses
use Rattle.f_tree.specs.declared.declaration.Use.{Use}
use Rattle.f_tree.specs.declared.declaration.Import.{Import}
use Rattle.f_tree.specs.declared.declaration.TypeAttribute.{TypeAttribute}
use Rattle.f_tree.specs.declared.declaration.TypeAttribute.TheVariants as type_form
use Rattle.f_tree.specs.declared.declaration.AccessStatement.{AccessStatement}
use Rattle.f_tree.specs.declared.declaration.PointerAttribute.{PointerAttribute}
use Rattle.f_tree.specs.declared.declaration.PointerAttribute.TheVariants as pointer_form
use Rattle.f_tree.specs.declared.declaration.ProcedurePointer.{ProcedurePointer}
use Rattle.f_tree.specs.declared.declaration.ProcedurePointers.{ProcedurePointers}
use Rattle.f_tree.specs.declared.unit.ProcedureKind.{ProcedureKind}
use Rattle.f_tree.specs.declared.unit.ProcedureKind.TheVariants.{Subroutine, Function}
use Rattle.f_tree.specs.declared.unit.Prefix.{Prefix}
use Rattle.f_tree.specs.declared.unit.Prefix.TheVariants as prefix_form
use Rattle.f_tree.specs.declared.unit.Suffix.{Suffix}
use Rattle.f_tree.specs.declared.unit.Suffix.TheVariants as suffix_form
use Rattle.f_tree.specs.declared.unit.Head.{Head}
use Rattle.f_tree.specs.Lexemes.{Front, mark_of, placed_mark, placed_word, name_of, when, each, behind_commas, listed, if_there, statement_end}
use Rattle.f_tree.specs.Expressions.{expression}
use Rattle.f_tree.specs.Declarations as tree
use Rattle.f_tree.specs.Units as unit_tree
use Rattle.f_grammar.specs.Grammar.{Maybe, Absent, Present, TypeOf, put, spell, spell_type}
use Rattle.f_declaration_grammar.specs.Listing.{spell_behind, spell_listed, spell_each}
use Rattle.f_declaration_grammar.specs.Declarations as grammar
use Rattle.f_declaration_grammar.specs.Declarations.{front, spell_name, spell_lower, spell_dim, spell_dims, spell_maybe_dims, spell_intent, spell_bind, spell_attr, spell_null, spell_initial, spell_entity, spell_rename, spell_only, spell_uses, spell_colons, spell_intrinsic, spell_type_attr, spell_pointer_attr, spell_is_null, spell_pointer, spell_prefix, spell_suffix, spell_dummies, spell_declared}
use Rattle.f_expr_read.specs.Views.{view, view_type}
use Rattle.f_declared.specs.Views.{view_name, view_dimension, view_dimensions, view_access, label_of, view_bind, view_form, view_attribute, initial_of, view_entity, view_rename, view_only, view_uses, view_type_attribute, view_pointer_attribute, begins_null, view_pointer, view_prefix, view_suffix, is_function, view_head, view_use, view_import, view_variables, view_access_statement, view_procedure_pointers}
use Rattle.f_spelling_laws.specs.Told.{tokens_of, all, maybe, is_told, type_is_told, dimension_told, dimensions_told, maybe_dimensions_told, form_told, attribute_told, initial_told, entity_told, variables_told, list_told, use_told, prefix_told, head_told}
use Rattle.f_spelling_laws.proofs.Fronts.{first_of, second_of}
use Rattle.f_spelling_laws.proofs.Ahead.{Carries, then_carries, carries, maybe_carries, type_carries}
use Rattle.f_spelling_laws.proofs.Expressions.{expressions_spelled, types_spelled}
use Rattle.f_spelling_laws.proofs.Actions.{maybe_spelled}

-- ---- lists

abbrev pub Spells : {A B : Type 0} → (A → Front) → (A → B) → (B → List Token → List Token) → (A → Bool) → Type 0
Spells {A} {B} written seen spelling told = (x : A) → told x ≡ true → (rest : List Lexeme) → tokens_of (written x rest) ≡ spelling (seen x) (tokens_of rest)

behind_spelled : {A B : Type 0} (written : A → Front) (seen : A → B) (spelling : B → List Token → List Token) (told : A → Bool) → Spells written seen spelling told →
    (xs : List A) → all (map told xs) ≡ true → (rest : List Lexeme) → tokens_of (behind_commas (map written xs) rest) ≡ spell_behind spelling (map seen xs) (tokens_of rest)
behind_spelled written seen spelling told one [] sure rest = refl
behind_spelled written seen spelling told one (x ∷ xs) sure rest =
    let a : Bool = all (map told xs) in
    ap (put mark.Comma) (one x (first_of (told x) a sure) (behind_commas (map written xs) rest) ∙ ap (spelling (seen x)) (behind_spelled written seen spelling told one xs (second_of (told x) a sure) rest))

pub listed_spelled : {A B : Type 0} (written : A → Front) (seen : A → B) (spelling : B → List Token → List Token) (told : A → Bool) → Spells written seen spelling told →
    (xs : List A) → all (map told xs) ≡ true → (rest : List Lexeme) → tokens_of (listed (map written xs) rest) ≡ spell_listed spelling (map seen xs) (tokens_of rest)
listed_spelled written seen spelling told one [] sure rest = refl
listed_spelled written seen spelling told one (x ∷ xs) sure rest =
    let a : Bool = all (map told xs) in
    one x (first_of (told x) a sure) (behind_commas (map written xs) rest) ∙ ap (spelling (seen x)) (behind_spelled written seen spelling told one xs (second_of (told x) a sure) rest)

each_spelled : {A B : Type 0} (written : A → Front) (seen : A → B) (spelling : B → List Token → List Token) (told : A → Bool) → Spells written seen spelling told →
    (xs : List A) → all (map told xs) ≡ true → (rest : List Lexeme) → tokens_of (each (map written xs) rest) ≡ spell_each spelling (map seen xs) (tokens_of rest)
each_spelled written seen spelling told one [] sure rest = refl
each_spelled written seen spelling told one (x ∷ xs) sure rest =
    let a : Bool = all (map told xs) in
    one x (first_of (told x) a sure) (each (map written xs) rest) ∙ ap (spelling (seen x)) (each_spelled written seen spelling told one xs (second_of (told x) a sure) rest)

-- what is always told
abbrev always : {A : Type 0} → A → Bool
always x = true

always_all : {A : Type 0} (xs : List A) → all (map always xs) ≡ true
always_all [] = refl
always_all (x ∷ xs) = always_all xs

behind_carry : {A : Type 0} (spelling : A → List Token → List Token) → ((x : A) → Carries (spelling x)) → (xs : List A) → Carries (spell_behind spelling xs)
behind_carry spelling one [] a b = refl
behind_carry spelling one (x ∷ xs) a b = ap (put mark.Comma) (ap (spelling x) (behind_carry spelling one xs a b) ∙ one x (spell_behind spelling xs a) b)

pub listed_carry : {A : Type 0} (spelling : A → List Token → List Token) → ((x : A) → Carries (spelling x)) → (xs : List A) → Carries (spell_listed spelling xs)
listed_carry spelling one [] a b = refl
listed_carry spelling one (x ∷ xs) a b = ap (spelling x) (behind_carry spelling one xs a b) ∙ one x (spell_behind spelling xs a) b

each_carry : {A : Type 0} (spelling : A → List Token → List Token) → ((x : A) → Carries (spelling x)) → (xs : List A) → Carries (spell_each spelling xs)
each_carry spelling one [] a b = refl
each_carry spelling one (x ∷ xs) a b = ap (spelling x) (each_carry spelling one xs a b) ∙ one x (spell_each spelling xs a) b

-- ---- small parts

name_spelled : (n : Name) → always n ≡ true → (rest : List Lexeme) → tokens_of (name_of n rest) ≡ spell_name (view_name n) (tokens_of rest)
name_spelled n sure rest = refl

name_carries : (n : List ℕ) → Carries (spell_name n)
name_carries n a b = refl

names_spelled : (ns : List Name) (rest : List Lexeme) → tokens_of (listed (map name_of ns) rest) ≡ spell_listed spell_name (map view_name ns) (tokens_of rest)
names_spelled ns rest = listed_spelled name_of view_name spell_name always name_spelled ns (always_all ns) rest

names_carry : (ns : List (List ℕ)) → Carries (spell_listed spell_name ns)
names_carry ns = listed_carry spell_name name_carries ns

pub colons_spelled : (b : Bool) (rest : List Lexeme) → tokens_of (tree.colons b rest) ≡ spell_colons b (tokens_of rest)
colons_spelled true rest = refl
colons_spelled false rest = refl

pub colons_carry : (b : Bool) → Carries (spell_colons b)
colons_carry true a b = refl
colons_carry false a b = refl

access_is : (a : Access) → tree.access_word a ≡ grammar.access_word (view_access a)
access_is Public = refl
access_is Private = refl

-- ---- dimensions

dimension_spelled : (d : Dimension) → dimension_told d ≡ true → (rest : List Lexeme) → tokens_of (tree.dimension d rest) ≡ spell_dim (view_dimension d) (tokens_of rest)
dimension_spelled (Upper e) sure rest = expressions_spelled e sure rest
dimension_spelled (Bounds low high) sure rest = expressions_spelled low (first_of (is_told low) (is_told high) sure) (mark_of mark.Colon (expression high rest))
    ∙ ap (λ (ts : List Token). spell (view low) (put mark.Colon ts)) (expressions_spelled high (second_of (is_told low) (is_told high) sure) rest)
dimension_spelled (Deferred lower p) sure rest = maybe_spelled lower sure (placed_mark mark.Colon p rest)
dimension_spelled (AssumedSize None p) sure rest = refl
dimension_spelled (AssumedSize (Some e) p) sure rest = expressions_spelled e sure (mark_of mark.Colon (placed_mark mark.Star p rest))
dimension_spelled (AssumedRank p) sure rest = refl

dim_carries : (d : grammar.Dim) → Carries (spell_dim d)
dim_carries (grammar.Upper upper) a b = carries upper a b
dim_carries (grammar.Bounds lower upper) a b = ap (λ (ts : List Token). spell lower (put mark.Colon ts)) (carries upper a b) ∙ carries lower (put mark.Colon (spell upper a)) b
dim_carries (grammar.Deferred lower) a b = maybe_carries lower (put mark.Colon a) b
dim_carries (grammar.AssumedSize lower) a b = lower_carries lower (put mark.Star a) b
  where
    lower_carries : (m : Maybe) → Carries (spell_lower m)
    lower_carries Absent a b = refl
    lower_carries (Present e) a b = carries e (put mark.Colon a) b
dim_carries grammar.AssumedRank a b = refl

pub dimensions_spelled : (ds : List Dimension) → dimensions_told ds ≡ true → (rest : List Lexeme) → tokens_of (tree.dimensions ds rest) ≡ spell_dims (map view_dimension ds) (tokens_of rest)
dimensions_spelled ds sure rest = ap (put mark.Open) (listed_spelled tree.dimension view_dimension spell_dim dimension_told dimension_spelled ds sure (mark_of mark.Close rest))

pub dims_carry : (ds : List grammar.Dim) → Carries (spell_dims ds)
dims_carry ds a b = ap (put mark.Open) (listed_carry spell_dim dim_carries ds (put mark.Close a) b)

pub maybe_dimensions_spelled : (ds : Option (List Dimension)) → maybe_dimensions_told ds ≡ true → (rest : List Lexeme) → tokens_of (if_there tree.dimensions ds rest) ≡ spell_maybe_dims (view_dimensions ds) (tokens_of rest)
maybe_dimensions_spelled None sure rest = refl
maybe_dimensions_spelled (Some ds) sure rest = dimensions_spelled ds sure rest

pub maybe_dims_carry : (ds : Option (List grammar.Dim)) → Carries (spell_maybe_dims ds)
maybe_dims_carry None a b = refl
maybe_dims_carry (Some ds) a b = dims_carry ds a b

-- ---- attributes

bind_spelled : (b : Bind) (rest : List Lexeme) → tokens_of (tree.bind_list b rest) ≡ spell_bind (view_bind b) (tokens_of rest)
bind_spelled b rest = of b.name
  where
    of : (name : Option BindingName) → tokens_of (tree.bind_list (record { name = name }) rest) ≡ spell_bind (label_of name) (tokens_of rest)
    of None = refl
    of (Some n) = refl

bind_carries : (l : grammar.Label) → Carries (spell_bind l)
bind_carries None a b = refl
bind_carries (Some l) a b = refl

form_spelled : (f : AttributeForm) (p : Place) → form_told f ≡ true → (rest : List Lexeme) → tokens_of (tree.attribute_form f p rest) ≡ spell_attr (view_form f) (tokens_of rest)
form_spelled form.Parameter p sure rest = refl
form_spelled (form.Dimension ds) p sure rest = ap (front (codes "dimension")) (dimensions_spelled ds sure rest)
form_spelled form.Allocatable p sure rest = refl
form_spelled form.Pointer p sure rest = refl
form_spelled form.Target p sure rest = refl
form_spelled form.Optional p sure rest = refl
form_spelled form.Value p sure rest = refl
form_spelled form.Contiguous p sure rest = refl
form_spelled form.Save p sure rest = refl
form_spelled (form.Access Public) p sure rest = refl
form_spelled (form.Access Private) p sure rest = refl
form_spelled (form.Bind b) p sure rest = ap (front (codes "bind")) (bind_spelled b rest)
form_spelled (form.Intent In) p sure rest = refl
form_spelled (form.Intent Out) p sure rest = refl
form_spelled (form.Intent InOut) p sure rest = refl
form_spelled (form.Intent InOutTwoWords) p sure rest = refl

attribute_spelled : (x : Attribute) → attribute_told x ≡ true → (rest : List Lexeme) → tokens_of (tree.attribute x rest) ≡ spell_attr (view_attribute x) (tokens_of rest)
attribute_spelled x sure rest = form_spelled x.form x.place sure rest

pub attr_carries : (x : grammar.Attr) → Carries (spell_attr x)
attr_carries grammar.Parameter a b = refl
attr_carries (grammar.Dimension ds) a b = ap (front (codes "dimension")) (dims_carry ds a b)
attr_carries grammar.Allocatable a b = refl
attr_carries grammar.Pointer a b = refl
attr_carries grammar.Target a b = refl
attr_carries grammar.Optional a b = refl
attr_carries grammar.Value a b = refl
attr_carries grammar.Contiguous a b = refl
attr_carries grammar.Save a b = refl
attr_carries (grammar.Accessible access) a b = refl
attr_carries (grammar.Bind l) a b = ap (front (codes "bind")) (bind_carries l a b)
attr_carries (grammar.For grammar.In) a b = refl
attr_carries (grammar.For grammar.Out) a b = refl
attr_carries (grammar.For grammar.InOut) a b = refl
attr_carries (grammar.For grammar.InOutTwoWords) a b = refl

-- ---- what is declared

initial_spelled : (i : Option Initial) → maybe (option_map initial_told i) ≡ true → (rest : List Lexeme) → tokens_of (if_there tree.initial_value i rest) ≡ spell_initial (initial_of i) (tokens_of rest)
initial_spelled None sure rest = refl
initial_spelled (Some (initial.Value e)) sure rest = ap (put mark.Assign) (expressions_spelled e sure rest)
initial_spelled (Some (initial.Null p)) sure rest = refl

initial_carries : (i : grammar.Initial) → Carries (spell_initial i)
initial_carries grammar.NoInitial a b = refl
initial_carries (grammar.Starts value) a b = ap (put mark.Assign) (carries value a b)
initial_carries grammar.Null a b = refl

entity_spelled : (e : Entity) → entity_told e ≡ true → (rest : List Lexeme) → tokens_of (tree.entity e rest) ≡ spell_entity (view_entity e) (tokens_of rest)
entity_spelled e sure rest =
    let d : Bool = maybe_dimensions_told e.dimensions in
    let i : Bool = maybe (option_map initial_told e.initial) in
    ap (front e.name.bytes) (maybe_dimensions_spelled e.dimensions (first_of d i sure) (if_there tree.initial_value e.initial rest)
    ∙ ap (spell_maybe_dims (view_dimensions e.dimensions)) (initial_spelled e.initial (second_of d i sure) rest))

pub entity_carries : (e : grammar.Entity) → Carries (spell_entity e)
entity_carries (grammar.entity name ds i) a b = ap (front name) (ap (spell_maybe_dims ds) (initial_carries i a b) ∙ maybe_dims_carry ds (spell_initial i a) b)

-- a type, attributes and what is declared, in front of a rest
abbrev pub declared_front : TypeOf → List grammar.Attr → Bool → List grammar.Entity → List Token → List Token
declared_front t attributes c entities rest = spell_type t (spell_behind spell_attr attributes (spell_colons c (spell_listed spell_entity entities rest)))

pub declared_carries : (t : TypeOf) (attributes : List grammar.Attr) (c : Bool) (entities : List grammar.Entity) → Carries (declared_front t attributes c entities)
declared_carries t attributes c entities =
    then_carries (spell_type t) (λ ts. spell_behind spell_attr attributes (spell_colons c (spell_listed spell_entity entities ts))) (type_carries t)
    (then_carries (spell_behind spell_attr attributes) (λ ts. spell_colons c (spell_listed spell_entity entities ts)) (behind_carry spell_attr attr_carries attributes)
    (then_carries (spell_colons c) (spell_listed spell_entity entities) (colons_carry c) (listed_carry spell_entity entity_carries entities)))

pub variables_spelled : (v : Variables) → variables_told v ≡ true → (rest : List Lexeme) → tokens_of (tree.variables v rest) ≡ spell_declared (view_variables v) ++ tokens_of rest
variables_spelled v sure rest =
    let t : Bool = type_is_told v.declared in
    let x : Bool = all (map attribute_told v.attributes) in
    let e : Bool = all (map entity_told v.entities) in
    let entities : List Lexeme = listed (map tree.entity v.entities) rest in
    let spelled : List Token = spell_listed spell_entity (map view_entity v.entities) (tokens_of rest) in
    types_spelled v.declared (first_of t (x && e) sure) (behind_commas (map tree.attribute v.attributes) (tree.colons v.has_colons entities))
    ∙ ap (spell_type (view_type v.declared)) (behind_spelled tree.attribute view_attribute spell_attr attribute_told attribute_spelled v.attributes (first_of x e (second_of t (x && e) sure)) (tree.colons v.has_colons entities)
    ∙ ap (spell_behind spell_attr (map view_attribute v.attributes)) (colons_spelled v.has_colons entities
    ∙ ap (spell_colons v.has_colons) (listed_spelled tree.entity view_entity spell_entity entity_told entity_spelled v.entities (second_of x e (second_of t (x && e) sure)) rest)))
    ∙ declared_carries (view_type v.declared) (map view_attribute v.attributes) v.has_colons (map view_entity v.entities) [] (tokens_of rest)

-- ---- USE and IMPORT

rename_spelled : (r : Rename) → always r ≡ true → (rest : List Lexeme) → tokens_of (tree.rename r rest) ≡ spell_rename (view_rename r) (tokens_of rest)
rename_spelled r sure rest = refl

rename_carries : (r : grammar.Rename) → Carries (spell_rename r)
rename_carries (grammar.renamed local used) a b = refl

only_spelled : (o : Only) → always o ≡ true → (rest : List Lexeme) → tokens_of (tree.only_name o rest) ≡ spell_only (view_only o) (tokens_of rest)
only_spelled (only.Plain n) sure rest = refl
only_spelled (only.Renamed r) sure rest = refl

only_carries : (o : grammar.Only) → Carries (spell_only o)
only_carries (grammar.Plain n) a b = refl
only_carries (grammar.Renamed r) a b = rename_carries r a b

list_spelled : (l : UseList) → list_told l ≡ true → (rest : List Lexeme) → tokens_of (tree.use_list l rest) ≡ spell_uses (view_uses l) ++ tokens_of rest
list_spelled uses.All sure rest = refl
list_spelled (uses.Renamed []) sure rest = absurd (let no : false ≡ true = sure in cc)
list_spelled (uses.Renamed (r ∷ rs)) sure rest = ap (put mark.Comma) (listed_spelled tree.rename view_rename spell_rename always rename_spelled (r ∷ rs) (always_all (r ∷ rs)) rest
    ∙ listed_carry spell_rename rename_carries (map view_rename (r ∷ rs)) [] (tokens_of rest))
list_spelled (uses.Only os) sure rest = ap (λ (ts : List Token). put mark.Comma (front (codes "only") (put mark.Colon ts))) (listed_spelled tree.only_name view_only spell_only always only_spelled os (always_all os) rest
    ∙ listed_carry spell_only only_carries (map view_only os) [] (tokens_of rest))

intrinsic_spelled : (b : Bool) (rest : List Lexeme) → tokens_of (when b tree.comma_intrinsic rest) ≡ spell_intrinsic b (tokens_of rest)
intrinsic_spelled true rest = refl
intrinsic_spelled false rest = refl

intrinsic_carries : (b : Bool) → Carries (spell_intrinsic b)
intrinsic_carries true a b = refl
intrinsic_carries false a b = refl

pub use_spelled : (u : Use) → use_told u ≡ true → (rest : List Lexeme) → tokens_of (tree.use_statement u rest) ≡ spell_declared (view_use u) ++ tokens_of rest
use_spelled u sure rest =
    let names : List Token = front u.module.bytes (spell_uses (view_uses u.list)) in
    let named : List Lexeme = name_of u.module (tree.use_list u.list rest) in
    ap (front (codes "use")) (intrinsic_spelled u.is_intrinsic (tree.colons u.has_colons named)
    ∙ ap (spell_intrinsic u.is_intrinsic) (colons_spelled u.has_colons named
    ∙ ap (spell_colons u.has_colons) (ap (front u.module.bytes) (list_spelled u.list sure rest)) ∙ colons_carry u.has_colons names (tokens_of rest))
    ∙ intrinsic_carries u.is_intrinsic (spell_colons u.has_colons names) (tokens_of rest))

-- `::` where it is there, and names
colons_names_spelled : (c : Bool) (ns : List Name) (rest : List Lexeme) → tokens_of (tree.colons c (listed (map name_of ns) rest)) ≡ spell_colons c (spell_listed spell_name (map view_name ns) []) ++ tokens_of rest
colons_names_spelled c ns rest = colons_spelled c (listed (map name_of ns) rest) ∙ ap (spell_colons c) (names_spelled ns rest ∙ names_carry (map view_name ns) [] (tokens_of rest))
    ∙ colons_carry c (spell_listed spell_name (map view_name ns) []) (tokens_of rest)

pub import_spelled : (i : Import) (rest : List Lexeme) → tokens_of (tree.import_statement i rest) ≡ spell_declared (view_import i) ++ tokens_of rest
import_spelled i rest = ap (front (codes "import")) (colons_names_spelled i.has_colons i.names rest)

pub access_spelled : (x : AccessStatement) (rest : List Lexeme) → tokens_of (tree.access_statement x rest) ≡ spell_declared (view_access_statement x) ++ tokens_of rest
access_spelled x rest = λ i. front (access_is x.access i) (colons_names_spelled x.has_colons x.names rest i)

-- ---- procedure pointers

pointer_attribute_spelled : (x : PointerAttribute) → always x ≡ true → (rest : List Lexeme) → tokens_of (tree.pointer_attribute x rest) ≡ spell_pointer_attr (view_pointer_attribute x) (tokens_of rest)
pointer_attribute_spelled (pointer_form.Save p) sure rest = refl
pointer_attribute_spelled (pointer_form.Access p a) sure rest = λ i. front (access_is a i) (tokens_of rest)

pointer_attr_carries : (x : grammar.PointerAttr) → Carries (spell_pointer_attr x)
pointer_attr_carries grammar.PointerSave a b = refl
pointer_attr_carries (grammar.PointerAccess access) a b = refl

null_spelled : (p : Option Place) (rest : List Lexeme) → tokens_of (if_there tree.null_target p rest) ≡ spell_is_null (begins_null p) (tokens_of rest)
null_spelled None rest = refl
null_spelled (Some p) rest = refl

pointer_spelled : (p : ProcedurePointer) → always p ≡ true → (rest : List Lexeme) → tokens_of (tree.procedure_pointer p rest) ≡ spell_pointer (view_pointer p) (tokens_of rest)
pointer_spelled p sure rest = ap (front p.name.bytes) (null_spelled p.null rest)

pointer_carries : (p : grammar.ProcPointer) → Carries (spell_pointer p)
pointer_carries (grammar.pointer name true) a b = refl
pointer_carries (grammar.pointer name false) a b = refl

pub pointers_spelled : (p : ProcedurePointers) (rest : List Lexeme) → tokens_of (tree.procedure_pointers p rest) ≡ spell_declared (view_procedure_pointers p) ++ tokens_of rest
pointers_spelled p rest =
    let behind : List Lexeme = mark_of mark.DoubleColon (listed (map tree.procedure_pointer p.pointers) rest) in
    let names : List Token = put mark.DoubleColon (spell_listed spell_pointer (map view_pointer p.pointers) []) in
    ap (λ (ts : List Token). front (codes "procedure") (put mark.Open (front p.interface.bytes (put mark.Close (put mark.Comma (front (codes "pointer") ts))))))
    (behind_spelled tree.pointer_attribute view_pointer_attribute spell_pointer_attr always pointer_attribute_spelled p.attributes (always_all p.attributes) behind
    ∙ ap (λ (ts : List Token). spell_behind spell_pointer_attr (map view_pointer_attribute p.attributes) (put mark.DoubleColon ts))
    (listed_spelled tree.procedure_pointer view_pointer spell_pointer always pointer_spelled p.pointers (always_all p.pointers) rest ∙ listed_carry spell_pointer pointer_carries (map view_pointer p.pointers) [] (tokens_of rest))
    ∙ behind_carry spell_pointer_attr pointer_attr_carries (map view_pointer_attribute p.attributes) names (tokens_of rest))

-- ---- the first statements of derived types and procedures

type_attribute_spelled : (x : TypeAttribute) → always x ≡ true → (rest : List Lexeme) → tokens_of (tree.type_attribute x rest) ≡ spell_type_attr (view_type_attribute x) (tokens_of rest)
type_attribute_spelled (type_form.Bind p b) sure rest = ap (front (codes "bind")) (bind_spelled b rest)
type_attribute_spelled (type_form.Access p a) sure rest = λ i. front (access_is a i) (tokens_of rest)

type_attr_carries : (x : grammar.TypeAttr) → Carries (spell_type_attr x)
type_attr_carries (grammar.TypeBind l) a b = ap (front (codes "bind")) (bind_carries l a b)
type_attr_carries (grammar.TypeAccess access) a b = refl

pub type_start_spelled : (p : Place) (xs : List TypeAttribute) (c : Bool) (n : Name) (rest : List Lexeme) →
    tokens_of (placed_word (codes "type") p (behind_commas (map tree.type_attribute xs) (tree.colons c (name_of n rest)))) ≡ spell_declared (grammar.TypeStart (map view_type_attribute xs) c n.bytes) ++ tokens_of rest
type_start_spelled p xs c n rest = ap (front (codes "type")) (behind_spelled tree.type_attribute view_type_attribute spell_type_attr always type_attribute_spelled xs (always_all xs) (tree.colons c (name_of n rest))
    ∙ ap (spell_behind spell_type_attr (map view_type_attribute xs)) (colons_spelled c (name_of n rest) ∙ colons_carry c (front n.bytes []) (tokens_of rest))
    ∙ behind_carry spell_type_attr type_attr_carries (map view_type_attribute xs) (spell_colons c (front n.bytes [])) (tokens_of rest))

prefix_spelled : (x : Prefix) → prefix_told x ≡ true → (rest : List Lexeme) → tokens_of (unit_tree.prefix x rest) ≡ spell_prefix (view_prefix x) (tokens_of rest)
prefix_spelled (prefix_form.Recursive p) sure rest = refl
prefix_spelled (prefix_form.Type t) sure rest = types_spelled t sure rest

prefix_carries : (x : grammar.Prefix) → Carries (spell_prefix x)
prefix_carries grammar.Recursive a b = refl
prefix_carries (grammar.Returns t) a b = type_carries t a b

suffix_spelled : (x : Suffix) → always x ≡ true → (rest : List Lexeme) → tokens_of (unit_tree.suffix x rest) ≡ spell_suffix (view_suffix x) (tokens_of rest)
suffix_spelled (suffix_form.Bind p b) sure rest = ap (front (codes "bind")) (bind_spelled b rest)
suffix_spelled (suffix_form.Result p n) sure rest = refl

suffix_carries : (x : grammar.Suffix) → Carries (spell_suffix x)
suffix_carries (grammar.BindSuffix l) a b = ap (front (codes "bind")) (bind_carries l a b)
suffix_carries (grammar.Result n) a b = refl

dummies_spelled : (ns : Option (List Name)) (rest : List Lexeme) → tokens_of (if_there unit_tree.dummies ns rest) ≡ spell_dummies (option_map (map view_name) ns) (tokens_of rest)
dummies_spelled None rest = refl
dummies_spelled (Some ns) rest = ap (put mark.Open) (names_spelled ns (mark_of mark.Close rest))

dummies_carry : (ns : Option (List (List ℕ))) → Carries (spell_dummies ns)
dummies_carry None a b = refl
dummies_carry (Some ns) a b = ap (put mark.Open) (names_carry ns (put mark.Close a) b)

kind_is : (k : ProcedureKind) → unit_tree.procedure_word k ≡ grammar.unit_word (is_function k)
kind_is Subroutine = refl
kind_is Function = refl

pub head_spelled : (h : Head) → head_told h ≡ true → (rest : List Lexeme) → tokens_of (unit_tree.head h rest) ≡ spell_declared (view_head h) ++ token.End ∷ tokens_of rest
head_spelled h sure rest =
    let ends : List Lexeme = statement_end rest in
    let last : List Lexeme = each (map unit_tree.suffix h.suffixes) ends in
    let suffixes : List Token = spell_each spell_suffix (map view_suffix h.suffixes) [] in
    let dummies : List Token = spell_dummies (option_map (map view_name) h.dummies) suffixes in
    each_spelled unit_tree.prefix view_prefix spell_prefix prefix_told prefix_spelled h.prefixes sure (placed_word (unit_tree.procedure_word h.kind) h.place (name_of h.name (if_there unit_tree.dummies h.dummies last)))
    ∙ ap (spell_each spell_prefix (map view_prefix h.prefixes))
    (λ i. front (kind_is h.kind i) (front h.name.bytes ((dummies_spelled h.dummies last
    ∙ ap (spell_dummies (option_map (map view_name) h.dummies)) (each_spelled unit_tree.suffix view_suffix spell_suffix always suffix_spelled h.suffixes (always_all h.suffixes) ends
    ∙ each_carry spell_suffix suffix_carries (map view_suffix h.suffixes) [] (tokens_of ends))
    ∙ dummies_carry (option_map (map view_name) h.dummies) suffixes (tokens_of ends)) i)))
    ∙ each_carry spell_prefix prefix_carries (map view_prefix h.prefixes) (front (grammar.unit_word (is_function h.kind)) (front h.name.bytes dummies)) (tokens_of ends)
