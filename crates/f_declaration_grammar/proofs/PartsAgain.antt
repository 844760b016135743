-- The parts of statements are read from their tokens.
use Rattle.std.proofs.Common.{◌≡◌, ℕ, zero, suc, ◌+◌, ◌≤◌, Bool, true, false, List, [], ◌∷◌, length, Option, Some, None, refl, arith}
use Rattle.std.specs.Prelude.{codes}
use Rattle.f_lex.specs.declared.token.Mark.TheVariants as mark
use Rattle.f_lex.specs.declared.token.Token.{Token}
use Rattle.f_lex.specs.declared.token.Token.TheVariants as token
use Rattle.f_grammar.specs.Grammar.{Expr, Absent, Present, TypeOf, Integer, Logical, Character, Derived, Assumed, put, spell, spell_type, Stops, EndsType}
use Rattle.f_grammar.specs.Reading.{open_at, closed_at, comma_at, colon_at, colons_at, star_at, name_at, word_at, key_at, ends_bound, expr_at, type_at}
use Rattle.f_grammar.specs.ActionReading.{assign_at, arrow_at}
use Rattle.f_grammar.proofs.Begins.{Starts as Begins, starts_within, no_bound_end, no_star, EndsArg, ended}
use Rattle.f_grammar.proofs.Steps.{same_word, maybe_within}
use Rattle.f_grammar.proofs.Again.{expr_again, type_again}
use Rattle.f_declaration_grammar.specs.Listing.{spell_behind, spell_listed, spell_each, AreAll, AreSome, listed_at}
use Rattle.f_declaration_grammar.specs.Declarations.{Dim, Upper, Bounds, Deferred, AssumedSize, AssumedRank, Public, Private, Intent, In, Out, InOut, InOutTwoWords, Label, Attr, Parameter, Dimension, Allocatable, Pointer, Target, Optional, Value, Contiguous, Save, Accessible, Bind, For, Initial, NoInitial, Starts, Null, Entity, entity, Rename, renamed, Only, Plain, Renamed, TypeAttr, TypeBind, TypeAccess, PointerAttr, PointerSave, PointerAccess, ProcPointer, pointer, Prefix, Recursive, Returns, Suffix, BindSuffix, Result, front, spell_name, spell_dim, spell_maybe_dims, spell_intent, spell_bind, spell_attr, spell_initial, spell_entity, spell_rename, spell_only, spell_colons, spell_type_attr, spell_pointer_attr, spell_pointer, spell_prefix, spell_suffix, spell_dummies, unit_word, IsAny, FitsDim, FitsDims, FitsAttr, FitsInitial, FitsEntity, FitsPrefix, FitsDummies}
use Rattle.f_declaration_grammar.specs.DeclarationReading.{this_at, dots_at, text_at, maybe_colons_at, dim_behind, dim_at, dims_at, maybe_dims_at, label_at, bind_at, in_at, intent_by, intent_at, dimension_at, bind_attr_at, intent_attr_at, attr_by, attr_at, null_at, initial_at, entity_at, rename_at, only_at, type_attr_by, type_attr_at, pointer_attr_by, pointer_attr_at, pointer_at, prefix_at, unit_word_at, suffix_by, suffix_at, suffixes_at, dummy_names_at, dummies_at, prefixes_at}
use Rattle.f_declaration_grammar.proofs.ListingLaws.{listed_again}
use Rattle.f_declaration_grammar.proofs.DeclaredGrows.{grows_dim, grows_name}

-- ---- what may stand behind

-- the end, or a comma
abbrev pub EndsItem : List Token → Type 0
EndsItem [] = Unit {0}
EndsItem (token.Mark mark.Comma ∷ ts) = Unit {0}
EndsItem _ = ⊥

item_stops : (rest : List Token) → EndsItem rest → Stops 9 rest
item_stops [] e = tt
item_stops (token.Mark mark.Comma ∷ ts) e = omega arith
item_stops _ e = absurd e

item_assign : (rest : List Token) → EndsItem rest → assign_at rest ≡ None
unfolding assign_at
item_assign [] e = refl
item_assign (token.Mark mark.Comma ∷ ts) e = refl
item_assign _ e = absurd e

item_arrow : (rest : List Token) → EndsItem rest → arrow_at rest ≡ None
unfolding arrow_at
item_arrow [] e = refl
item_arrow (token.Mark mark.Comma ∷ ts) e = refl
item_arrow _ e = absurd e

item_open : (rest : List Token) → EndsItem rest → open_at rest ≡ None
unfolding open_at
item_open [] e = refl
item_open (token.Mark mark.Comma ∷ ts) e = refl
item_open _ e = absurd e

arg_star : (rest : List Token) → EndsArg true rest → star_at rest ≡ None
unfolding star_at
arg_star (token.Mark mark.Comma ∷ ts) e = refl
arg_star (token.Mark mark.Close ∷ ts) e = refl
arg_star _ e = absurd e

arg_bound : (rest : List Token) → EndsArg true rest → ends_bound rest ≡ true
unfolding ends_bound
arg_bound (token.Mark mark.Comma ∷ ts) e = refl
arg_bound (token.Mark mark.Close ∷ ts) e = refl
arg_bound _ e = absurd e

no_dots : (ts : List Token) → Begins ts → dots_at ts ≡ None
unfolding dots_at
no_dots (token.Mark mark.DotDot ∷ ts) s = absurd s
no_dots _ s = refl

no_single_colon : (ts : List Token) → Begins ts → colon_at ts ≡ None
unfolding colon_at
no_single_colon (token.Mark mark.Colon ∷ ts) s = absurd s
no_single_colon _ s = refl

pub this_again : (w : List ℕ) (rest : List Token) → this_at w (front w rest) ≡ Some rest
unfolding this_at name_at
this_again w rest = rw (same_word w) refl

-- ---- dimensions

with_bound : (n : ℕ) (ts : List Token) (x : Expr) (r : List Token) (d : Dim) (rest : List Token) → Begins ts → expr_at n ts ≡ Some (x, r) → dim_behind n (x, r) ≡ Some (d, rest) → dim_at n ts ≡ Some (d, rest)
unfolding dim_at
with_bound n ts x r d rest s e1 e2 = rw (no_dots ts s, no_star ts s, no_single_colon ts s, e1) e2

upper_step : (n : ℕ) (x : Expr) (rest : List Token) → colon_at rest ≡ None → dim_behind n (x, rest) ≡ Some (Upper x, rest)
unfolding dim_behind
upper_step n x rest e = rw e refl

bounds_step : (n : ℕ) (x y : Expr) (ts rest : List Token) → star_at ts ≡ None → ends_bound ts ≡ false → expr_at n ts ≡ Some (y, rest) → dim_behind n (x, put mark.Colon ts) ≡ Some (Bounds x y, rest)
unfolding dim_behind colon_at
bounds_step n x y ts rest e1 e2 e3 = rw (e1, e2, e3) refl

deferred_step : (n : ℕ) (x : Expr) (rest : List Token) → star_at rest ≡ None → ends_bound rest ≡ true → dim_behind n (x, put mark.Colon rest) ≡ Some (Deferred (Present x), rest)
unfolding dim_behind colon_at
deferred_step n x rest e1 e2 = rw (e1, e2) refl

size_step : (n : ℕ) (x : Expr) (rest : List Token) → dim_behind n (x, put mark.Colon (put mark.Star rest)) ≡ Some (AssumedSize (Present x), rest)
unfolding dim_behind colon_at star_at
size_step n x rest = refl

dim_again : (n : ℕ) (d : Dim) (rest : List Token) → FitsDim n d → EndsArg true rest → dim_at n (spell_dim d rest) ≡ Some (d, rest)
unfolding dim_at dots_at star_at colon_at
dim_again n (Upper x) rest f e =
    with_bound n (spell x rest) x rest (Upper x) rest (starts_within n x rest f) (expr_again n x rest f (ended true rest e).stops) (upper_step n x rest (ended true rest e).no_single)
dim_again n (Bounds x y) rest f e =
    let tail = put mark.Colon (spell y rest) in
    let s = starts_within n y rest f.1 in
    with_bound n (spell x tail) x tail (Bounds x y) rest (starts_within n x tail f.0) (expr_again n x tail f.0 (omega arith))
    (bounds_step n x y (spell y rest) rest (no_star (spell y rest) s) (no_bound_end (spell y rest) s) (expr_again n y rest f.1 (ended true rest e).stops))
dim_again n (Deferred Absent) rest f e = refl
dim_again n (Deferred (Present x)) rest f e =
    let tail = put mark.Colon rest in
    let w = maybe_within n x f in
    with_bound n (spell x tail) x tail (Deferred (Present x)) rest (starts_within n x tail w) (expr_again n x tail w (omega arith)) (deferred_step n x rest (arg_star rest e) (arg_bound rest e))
dim_again n (AssumedSize Absent) rest f e = refl
dim_again n (AssumedSize (Present x)) rest f e =
    let tail = put mark.Colon (put mark.Star rest) in
    let w = maybe_within n x f in
    with_bound n (spell x tail) x tail (AssumedSize (Present x)) rest (starts_within n x tail w) (expr_again n x tail w (omega arith)) (size_step n x rest)
dim_again n AssumedRank rest f e = refl

dims_step : (n : ℕ) (ts rest : List Token) (ds : List Dim) → listed_at (dim_at n) ts ≡ Some (ds, put mark.Close rest) → dims_at n ts ≡ Some (ds, rest)
unfolding dims_at closed_at
dims_step n ts rest ds e = rw e refl

pub dims_again : (n : ℕ) (ds : List Dim) (rest : List Token) → AreSome (FitsDim n) ds → dims_at n (spell_listed spell_dim ds (put mark.Close rest)) ≡ Some (ds, rest)
unfolding comma_at
dims_again n ds rest f = dims_step n (spell_listed spell_dim ds (put mark.Close rest)) rest ds
    (listed_again (dim_at n) spell_dim (FitsDim n) (EndsArg true) (λ _. tt) grows_dim (dim_again n) ds (put mark.Close rest) f tt refl)

maybe_dims_step : (n : ℕ) (ts rest : List Token) (ds : List Dim) → dims_at n ts ≡ Some (ds, rest) → maybe_dims_at n (put mark.Open ts) ≡ Some (Some ds, rest)
unfolding maybe_dims_at open_at
maybe_dims_step n ts rest ds e = rw e refl

maybe_dims_none : (n : ℕ) (ts : List Token) → open_at ts ≡ None → maybe_dims_at n ts ≡ Some (None, ts)
unfolding maybe_dims_at
maybe_dims_none n ts e = rw e refl

maybe_dims_again : (n : ℕ) (ds : Option (List Dim)) (rest : List Token) → FitsDims n ds → open_at rest ≡ None → maybe_dims_at n (spell_maybe_dims ds rest) ≡ Some (ds, rest)
maybe_dims_again n None rest f e = maybe_dims_none n rest e
maybe_dims_again n (Some ds) rest f e = maybe_dims_step n (spell_listed spell_dim ds (put mark.Close rest)) rest ds (dims_again n ds rest f)

-- ---- attributes

bind_again : (l : Label) (rest : List Token) → bind_at (spell_bind l rest) ≡ Some (l, rest)
unfolding bind_at this_at label_at text_at word_at key_at open_at closed_at comma_at name_at
bind_again None rest = refl
bind_again (Some label) rest = refl

intent_again : (i : Intent) (rest : List Token) → intent_at (put mark.Open (spell_intent i (put mark.Close rest))) ≡ Some (i, rest)
unfolding intent_at intent_by in_at this_at open_at closed_at name_at
intent_again In rest = refl
intent_again Out rest = refl
intent_again InOut rest = refl
intent_again InOutTwoWords rest = refl

dimension_step : (n : ℕ) (ts rest : List Token) (ds : List Dim) → dims_at n ts ≡ Some (ds, rest) → attr_at n (front (codes "dimension") (put mark.Open ts)) ≡ Some (Dimension ds, rest)
unfolding attr_at attr_by name_at dimension_at open_at
dimension_step n ts rest ds e = rw e refl

bind_step : (n : ℕ) (ts rest : List Token) (l : Label) → bind_at ts ≡ Some (l, rest) → attr_at n (front (codes "bind") ts) ≡ Some (Bind l, rest)
unfolding attr_at attr_by name_at bind_attr_at
bind_step n ts rest l e = rw e refl

intent_step : (n : ℕ) (ts rest : List Token) (i : Intent) → intent_at ts ≡ Some (i, rest) → attr_at n (front (codes "intent") ts) ≡ Some (For i, rest)
unfolding attr_at attr_by name_at intent_attr_at
intent_step n ts rest i e = rw e refl

pub attr_again : (n : ℕ) (a : Attr) (rest : List Token) → FitsAttr n a → IsAny rest → attr_at n (spell_attr a rest) ≡ Some (a, rest)
unfolding attr_at attr_by name_at
attr_again n Parameter rest f e = refl
attr_again n (Dimension ds) rest f e = dimension_step n (spell_listed spell_dim ds (put mark.Close rest)) rest ds (dims_again n ds rest f)
attr_again n Allocatable rest f e = refl
attr_again n Pointer rest f e = refl
attr_again n Target rest f e = refl
attr_again n Optional rest f e = refl
attr_again n Value rest f e = refl
attr_again n Contiguous rest f e = refl
attr_again n Save rest f e = refl
attr_again n (Accessible Public) rest f e = refl
attr_again n (Accessible Private) rest f e = refl
attr_again n (Bind l) rest f e = bind_step n (spell_bind l rest) rest l (bind_again l rest)
attr_again n (For i) rest f e = intent_step n (put mark.Open (spell_intent i (put mark.Close rest))) rest i (intent_again i rest)

-- ---- entities

initial_none : (n : ℕ) (rest : List Token) → assign_at rest ≡ None → arrow_at rest ≡ None → initial_at n rest ≡ Some (NoInitial, rest)
unfolding initial_at
initial_none n rest e1 e2 = rw (e1, e2) refl

initial_step : (n : ℕ) (ts rest : List Token) (x : Expr) → expr_at n ts ≡ Some (x, rest) → initial_at n (put mark.Assign ts) ≡ Some (Starts x, rest)
unfolding initial_at assign_at
initial_step n ts rest x e = rw e refl

initial_again : (n : ℕ) (i : Initial) (rest : List Token) → FitsInitial n i → EndsItem rest → initial_at n (spell_initial i rest) ≡ Some (i, rest)
unfolding initial_at null_at this_at assign_at arrow_at open_at closed_at name_at
initial_again n NoInitial rest f e = initial_none n rest (item_assign rest e) (item_arrow rest e)
initial_again n (Starts x) rest f e = initial_step n (spell x rest) rest x (expr_again n x rest f (item_stops rest e))
initial_again n Null rest f e = refl

initial_open : (i : Initial) (rest : List Token) → EndsItem rest → open_at (spell_initial i rest) ≡ None
unfolding open_at
initial_open NoInitial rest e = item_open rest e
initial_open (Starts x) rest e = refl
initial_open Null rest e = refl

entity_step : (n : ℕ) (name : List ℕ) (ts r rest : List Token) (ds : Option (List Dim)) (i : Initial) → maybe_dims_at n ts ≡ Some (ds, r) → initial_at n r ≡ Some (i, rest) → entity_at n (front name ts) ≡ Some (entity name ds i, rest)
unfolding entity_at name_at
entity_step n name ts r rest ds i e1 e2 = rw (e1, e2) refl

pub entity_again : (n : ℕ) (x : Entity) (rest : List Token) → FitsEntity n x → EndsItem rest → entity_at n (spell_entity x rest) ≡ Some (x, rest)
entity_again n (entity name ds i) rest f e =
    entity_step n name (spell_maybe_dims ds (spell_initial i rest)) (spell_initial i rest) rest ds i (maybe_dims_again n ds (spell_initial i rest) f.0 (initial_open i rest e)) (initial_again n i rest f.1 e)

-- ---- names

pub name_again : (x : List ℕ) (rest : List Token) → IsAny x → IsAny rest → name_at (spell_name x rest) ≡ Some (x, rest)
unfolding name_at
name_again x rest f e = refl

pub rename_again : (x : Rename) (rest : List Token) → IsAny x → EndsItem rest → rename_at (spell_rename x rest) ≡ Some (x, rest)
unfolding rename_at name_at arrow_at
rename_again (renamed local used) rest f e = refl

only_plain : (name : List ℕ) (rest : List Token) → arrow_at rest ≡ None → only_at (front name rest) ≡ Some (Plain name, rest)
unfolding only_at name_at
only_plain name rest e = rw e refl

pub only_again : (x : Only) (rest : List Token) → IsAny x → EndsItem rest → only_at (spell_only x rest) ≡ Some (x, rest)
unfolding only_at name_at arrow_at
only_again (Plain name) rest f e = only_plain name rest (item_arrow rest e)
only_again (Renamed (renamed local used)) rest f e = refl

type_bind_step : (ts rest : List Token) (l : Label) → bind_at ts ≡ Some (l, rest) → type_attr_at (front (codes "bind") ts) ≡ Some (TypeBind l, rest)
unfolding type_attr_at type_attr_by name_at
type_bind_step ts rest l e = rw e refl

pub type_attr_again : (x : TypeAttr) (rest : List Token) → IsAny x → IsAny rest → type_attr_at (spell_type_attr x rest) ≡ Some (x, rest)
unfolding type_attr_at type_attr_by name_at
type_attr_again (TypeBind l) rest f e = type_bind_step (spell_bind l rest) rest l (bind_again l rest)
type_attr_again (TypeAccess Public) rest f e = refl
type_attr_again (TypeAccess Private) rest f e = refl

pub pointer_attr_again : (x : PointerAttr) (rest : List Token) → IsAny x → IsAny rest → pointer_attr_at (spell_pointer_attr x rest) ≡ Some (x, rest)
unfolding pointer_attr_at pointer_attr_by name_at
pointer_attr_again PointerSave rest f e = refl
pointer_attr_again (PointerAccess Public) rest f e = refl
pointer_attr_again (PointerAccess Private) rest f e = refl

pointer_plain : (name : List ℕ) (rest : List Token) → arrow_at rest ≡ None → pointer_at (front name rest) ≡ Some (pointer name false, rest)
unfolding pointer_at name_at
pointer_plain name rest e = rw e refl

pub pointer_again : (x : ProcPointer) (rest : List Token) → IsAny x → EndsItem rest → pointer_at (spell_pointer x rest) ≡ Some (x, rest)
unfolding pointer_at name_at arrow_at null_at this_at open_at closed_at
pointer_again (pointer name false) rest f e = pointer_plain name rest (item_arrow rest e)
pointer_again (pointer name true) rest f e = refl

no_colons : (ts : List Token) → colons_at ts ≡ None → maybe_colons_at ts ≡ (false, ts)
unfolding maybe_colons_at
no_colons ts e = rw e refl

pub colons_again : (c : Bool) (ts : List Token) → colons_at ts ≡ None → maybe_colons_at (spell_colons c ts) ≡ (c, ts)
unfolding maybe_colons_at colons_at
colons_again true ts e = refl
colons_again false ts e = no_colons ts e

-- ---- prefixes and suffixes

prefix_step : (n : ℕ) (ts rest : List Token) (t : TypeOf) → this_at (codes "recursive") ts ≡ None → type_at (expr_at n) ts ≡ Some (t, rest) → prefix_at n ts ≡ Some (Returns t, rest)
unfolding prefix_at
prefix_step n ts rest t e1 e2 = rw (e1, e2) refl

no_recursive : (t : TypeOf) (rest : List Token) → this_at (codes "recursive") (spell_type t rest) ≡ None
unfolding this_at name_at
no_recursive (Integer k) rest = refl
no_recursive (Logical k) rest = refl
no_recursive (Character ps) rest = refl
no_recursive (Derived name) rest = refl
no_recursive Assumed rest = refl

prefix_again : (n : ℕ) (p : Prefix) (rest : List Token) → FitsPrefix n p → EndsType rest → prefix_at n (spell_prefix p rest) ≡ Some (p, rest)
unfolding prefix_at this_at name_at
prefix_again n Recursive rest f e = refl
prefix_again n (Returns t) rest f e = prefix_step n (spell_type t rest) rest t (no_recursive t rest) (type_again t n rest f e)

no_unit_word : (p : Prefix) (rest : List Token) → unit_word_at (spell_prefix p rest) ≡ None
unfolding unit_word_at this_at name_at
no_unit_word Recursive rest = refl
no_unit_word (Returns (Integer k)) rest = refl
no_unit_word (Returns (Logical k)) rest = refl
no_unit_word (Returns (Character ps)) rest = refl
no_unit_word (Returns (Derived name)) rest = refl
no_unit_word (Returns Assumed) rest = refl

pub prefixes_end : (ps : List Prefix) (w : List ℕ) (ts : List Token) → EndsType (spell_each spell_prefix ps (front w ts))
prefixes_end [] w ts = tt
prefixes_end (Recursive ∷ ps) w ts = tt
prefixes_end (Returns (Integer k) ∷ ps) w ts = tt
prefixes_end (Returns (Logical k) ∷ ps) w ts = tt
prefixes_end (Returns (Character qs) ∷ ps) w ts = tt
prefixes_end (Returns (Derived name) ∷ ps) w ts = tt
prefixes_end (Returns Assumed ∷ ps) w ts = tt

prefixes_none : (n k : ℕ) (is_function : Bool) (ts : List Token) → prefixes_at n (suc k) (front (unit_word is_function) ts) ≡ Some (([], is_function), ts)
unfolding prefixes_at unit_word_at this_at name_at
prefixes_none n k true ts = refl
prefixes_none n k false ts = refl

prefixes_step : (n k : ℕ) (ts r rest : List Token) (p : Prefix) (ps : List Prefix) (b : Bool) → unit_word_at ts ≡ None → prefix_at n ts ≡ Some (p, r) → prefixes_at n k r ≡ Some ((ps, b), rest) → prefixes_at n (suc k) ts ≡ Some ((p ∷ ps, b), rest)
unfolding prefixes_at
prefixes_step n k ts r rest p ps b e1 e2 e3 = rw (e1, e2, e3) refl

pub prefixes_again : (n : ℕ) (ps : List Prefix) (k : ℕ) (is_function : Bool) (ts : List Token) → AreAll (FitsPrefix n) ps → length ps + 1 ≤ k → prefixes_at n k (spell_each spell_prefix ps (front (unit_word is_function) ts)) ≡ Some ((ps, is_function), ts)
prefixes_again n ps zero is_function ts f le = absurd (omega (arith, le))
prefixes_again n [] (suc k) is_function ts f le = prefixes_none n k is_function ts
prefixes_again n (p ∷ ps) (suc k) is_function ts f le =
    let tail = spell_each spell_prefix ps (front (unit_word is_function) ts) in
    prefixes_step n k (spell_prefix p tail) tail ts p ps is_function (no_unit_word p tail) (prefix_again n p tail f.0 (prefixes_end ps (unit_word is_function) ts)) (prefixes_again n ps k is_function ts f.1 (omega (arith, le)))

bind_suffix_step : (ts rest : List Token) (l : Label) → bind_at ts ≡ Some (l, rest) → suffix_at (front (codes "bind") ts) ≡ Some (BindSuffix l, rest)
unfolding suffix_at suffix_by name_at
bind_suffix_step ts rest l e = rw e refl

result_again : (name : List ℕ) (rest : List Token) → suffix_at (front (codes "result") (put mark.Open (front name (put mark.Close rest)))) ≡ Some (Result name, rest)
unfolding suffix_at suffix_by name_at open_at closed_at
result_again name rest = refl

suffixes_step : (k : ℕ) (t : Token) (ts r : List Token) (s : Suffix) (ss : List Suffix) → suffix_at (t ∷ ts) ≡ Some (s, r) → suffixes_at k r ≡ Some ss → suffixes_at (suc k) (t ∷ ts) ≡ Some (s ∷ ss)
unfolding suffixes_at
suffixes_step k t ts r s ss e1 e2 = rw (e1, e2) refl

suffixes_none : (k : ℕ) → suffixes_at k [] ≡ Some []
unfolding suffixes_at
suffixes_none k = refl

pub suffixes_again : (ss : List Suffix) (k : ℕ) → length ss ≤ k → suffixes_at k (spell_each spell_suffix ss []) ≡ Some ss
suffixes_again [] k le = suffixes_none k
suffixes_again (s ∷ ss) zero le = absurd (omega (arith, le))
suffixes_again (BindSuffix l ∷ ss) (suc k) le =
    let tail = spell_each spell_suffix ss [] in
    suffixes_step k (token.Name (codes "bind")) (spell_bind l tail) tail (BindSuffix l) ss (bind_suffix_step (spell_bind l tail) tail l (bind_again l tail)) (suffixes_again ss k (omega (arith, le)))
suffixes_again (Result name ∷ ss) (suc k) le =
    let tail = spell_each spell_suffix ss [] in
    suffixes_step k (token.Name (codes "result")) (put mark.Open (front name (put mark.Close tail))) tail (Result name) ss (result_again name tail) (suffixes_again ss k (omega (arith, le)))

suffixes_open : (ss : List Suffix) → open_at (spell_each spell_suffix ss []) ≡ None
unfolding open_at
suffixes_open [] = refl
suffixes_open (BindSuffix l ∷ ss) = refl
suffixes_open (Result name ∷ ss) = refl

dummies_none : (ts : List Token) → open_at ts ≡ None → dummies_at false ts ≡ Some (None, ts)
unfolding dummies_at
dummies_none ts e = rw e refl

no_dummies : (is_function : Bool) (rest : List Token) → dummies_at is_function (put mark.Open (put mark.Close rest)) ≡ Some (Some [], rest)
unfolding dummies_at dummy_names_at open_at closed_at
no_dummies is_function rest = refl

dummies_step : (is_function : Bool) (name : List ℕ) (ts rest : List Token) (names : List (List ℕ)) → listed_at name_at (front name ts) ≡ Some (names, put mark.Close rest) → dummies_at is_function (put mark.Open (front name ts)) ≡ Some (Some names, rest)
unfolding dummies_at dummy_names_at open_at closed_at
dummies_step is_function name ts rest names e = rw e refl

pub dummies_again : (is_function : Bool) (d : Option (List (List ℕ))) (ss : List Suffix) → FitsDummies is_function d → dummies_at is_function (spell_dummies d (spell_each spell_suffix ss [])) ≡ Some (d, spell_each spell_suffix ss [])
unfolding comma_at
dummies_again true None ss f = absurd (cc (f))
dummies_again false None ss f = dummies_none (spell_each spell_suffix ss []) (suffixes_open ss)
dummies_again b (Some []) ss f = no_dummies b (spell_each spell_suffix ss [])
dummies_again b (Some (name ∷ names)) ss f =
    let tail = put mark.Close (spell_each spell_suffix ss []) in
    dummies_step b name (spell_behind spell_name names tail) (spell_each spell_suffix ss []) (name ∷ names)
    (listed_again name_at spell_name IsAny IsAny (λ _. tt) grows_name name_again (name ∷ names) tail (tt, all names) tt refl)
  where
    all : (names : List (List ℕ)) → AreAll IsAny names
    all [] = tt
    all (x ∷ xs) = (tt, all xs)
