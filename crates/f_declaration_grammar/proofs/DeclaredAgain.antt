-- A statement that fits is read from its tokens.
use Rattle.std.proofs.Common.{◌≡◌, ℕ, Bool, true, false, cond, List, [], ◌∷◌, length, Option, Some, None, refl, sym, ap, ◌∙◌, arith}
use Rattle.std.specs.Prelude.{codes}
use Rattle.std.specs.Str.{bytes_eq}
use Rattle.f_lex.specs.declared.token.Mark.TheVariants as mark
use Rattle.f_lex.specs.declared.token.Token.{Token}
use Rattle.f_lex.specs.declared.token.Token.TheVariants as token
use Rattle.f_grammar.specs.Grammar.{TypeOf, Integer, Logical, Character, Derived, Assumed, NoKind, kind, NoParams, params, put, spell_type, EndsType, FitsType}
use Rattle.f_grammar.specs.Reading.{◌>>=◌, open_at, closed_at, comma_at, colon_at, colons_at, name_at, behind_group, expr_at, type_at}
use Rattle.f_grammar.proofs.Again.{type_again}
use Rattle.f_declaration_grammar.specs.Listing.{spell_behind, spell_listed, spell_each, AreAll, AreSome, behind_at, listed_at}
use Rattle.f_declaration_grammar.specs.Declarations.{Public, Private, Attr, Initial, NoInitial, Starts, Null, Entity, entity, Rename, renamed, Only, Plain, Renamed, UseList, All, Renames, Onlys, TypeAttr, PointerAttr, ProcPointer, Prefix, Recursive, Returns, Suffix, Ended, OfProgram, OfModule, OfSubroutine, OfFunction, OfType, OfInterface, Declared, Program, Module, Head, Contains, Use, Import, ImplicitNone, Variables, TypeStart, InterfaceStart, Accesses, SaveAll, Procedures, End, EndOf, front, spell_name, spell_attr, spell_initial, spell_entity, spell_rename, spell_only, spell_uses, spell_colons, spell_intrinsic, spell_type_attr, spell_pointer_attr, spell_pointer, spell_prefix, spell_suffix, spell_dummies, unit_word, spell_maybe_name, spell_end, spell_declared, IsAny, FitsAttr, FitsEntity, FitsUses, FitsPrefix, FitsDummies, FitsNames, FitsEnd, FitsDeclared}
use Rattle.f_declaration_grammar.specs.DeclarationReading.{ends, this_at, maybe_colons_at, begins_name, begins_head, attr_at, entity_at, rename_at, only_at, type_attr_at, pointer_attr_at, pointer_at, suffixes_at, dummies_at, head_of, prefixes_at, head_behind, named_at, names_at, only_colon_at, onlys_at, renames_at, uses_at, module_at, use_at, implicit_at, abstract_at, variables_at, behind_type, typed_at, type_start_at, pointers_at, procedure_at, end_name_at, end_by, end_at, joined_by, type_word_at, declared_by, declared_at}
use Rattle.f_declaration_grammar.proofs.ListingLaws.{behind_all, listed_again}
use Rattle.f_declaration_grammar.proofs.DeclaredGrows.{grows_attr, grows_entity, grows_rename, grows_only, grows_name, grows_type_attr, grows_pointer_attr, grows_pointer, grows_prefixes, grows_suffixes, behind_dims, type_group, behind_type_group}
use Rattle.f_declaration_grammar.proofs.PartsAgain.{EndsItem, attr_again, entity_again, name_again, rename_again, only_again, type_attr_again, pointer_attr_again, pointer_again, colons_again, prefixes_end, prefixes_again, suffixes_again, dummies_again}

any_all : {A : Type 0} (xs : List A) → AreAll IsAny xs
any_all [] = tt
any_all (x ∷ xs) = (tt, any_all xs)

any_some : {A : Type 0} (x : A) (xs : List A) → AreSome IsAny (x ∷ xs)
any_some x xs = (tt, any_all xs)

ends_again : {A : Type 0} (x : A) → ends x [] ≡ Some x
unfolding ends
ends_again x = refl

-- ---- names

names_again : (name : List ℕ) (names : List (List ℕ)) → listed_at name_at (spell_listed spell_name (name ∷ names) []) ≡ Some (name ∷ names, [])
unfolding comma_at
names_again name names = listed_again name_at spell_name IsAny IsAny (λ _. tt) grows_name name_again (name ∷ names) [] (any_some name names) tt refl

names_none : (make : Bool → List (List ℕ) → Declared) → names_at make [] ≡ Some (make false [])
unfolding names_at
names_none make = refl

names_step : (make : Bool → List (List ℕ) → Declared) (t : Token) (ts r : List Token) (c : Bool) (names : List (List ℕ)) → maybe_colons_at (t ∷ ts) ≡ (c, r) → listed_at name_at r ≡ Some (names, []) → names_at make (t ∷ ts) ≡ Some (make c names)
unfolding names_at ends
names_step make t ts r c names e1 e2 = rw (e1, e2) refl

name_colons : (name : List ℕ) (ts : List Token) → colons_at (front name ts) ≡ None
unfolding colons_at
name_colons name ts = refl

some_names : (make : Bool → List (List ℕ) → Declared) (c : Bool) (names : List (List ℕ)) → FitsNames c names → names_at make (spell_colons c (spell_listed spell_name names [])) ≡ Some (make c names)
some_names make false [] f = names_none make
some_names make true [] f = absurd (cc (f))
some_names make true (name ∷ names) f =
    let tail = spell_listed spell_name (name ∷ names) [] in
    names_step make _ tail tail true (name ∷ names) (colons_again true tail (name_colons name _)) (names_again name names)
some_names make false (name ∷ names) f =
    let tail = spell_listed spell_name (name ∷ names) [] in
    names_step make (token.Name name) (spell_behind spell_name names []) tail false (name ∷ names) (colons_again false tail (name_colons name _)) (names_again name names)

-- ---- USE

rename_list : (r : Rename) (rs : List Rename) → listed_at rename_at (spell_listed spell_rename (r ∷ rs) []) ≡ Some (r ∷ rs, [])
unfolding comma_at
rename_list r rs = listed_again rename_at spell_rename IsAny EndsItem (λ _. tt) grows_rename rename_again (r ∷ rs) [] (any_some r rs) tt refl

only_list : (o : Only) (os : List Only) → listed_at only_at (spell_listed spell_only (o ∷ os) []) ≡ Some (o ∷ os, [])
unfolding comma_at
only_list o os = listed_again only_at spell_only IsAny EndsItem (λ _. tt) grows_only only_again (o ∷ os) [] (any_some o os) tt refl

renames_step : (ts : List Token) (rs : List Rename) → listed_at rename_at ts ≡ Some (rs, []) → renames_at ts ≡ Some (Renames rs)
unfolding renames_at ends
renames_step ts rs e = rw e refl

onlys_step : (t : Token) (ts : List Token) (os : List Only) → listed_at only_at (t ∷ ts) ≡ Some (os, []) → onlys_at (t ∷ ts) ≡ Some (Onlys os)
unfolding onlys_at ends
onlys_step t ts os e = rw e refl

onlys_again : (os : List Only) → onlys_at (spell_listed spell_only os []) ≡ Some (Onlys os)
unfolding onlys_at
onlys_again [] = refl
onlys_again (Plain name ∷ os) = onlys_step (token.Name name) (spell_behind spell_only os []) (Plain name ∷ os) (only_list (Plain name) os)
onlys_again (Renamed (renamed local used) ∷ os) = onlys_step (token.Name local) (put mark.Arrow (front used (spell_behind spell_only os []))) (Renamed (renamed local used) ∷ os) (only_list (Renamed (renamed local used)) os)

uses_only : (ts : List Token) → uses_at (put mark.Comma (front (codes "only") (put mark.Colon ts))) ≡ onlys_at ts
unfolding uses_at only_colon_at this_at comma_at colon_at name_at
uses_only ts = refl

uses_step : (ts : List Token) → only_colon_at ts ≡ None → uses_at (put mark.Comma ts) ≡ renames_at ts
unfolding uses_at comma_at
uses_step ts e = rw e refl

-- behind a name that is renamed stands `=>`
no_only : (local : List ℕ) (ts : List Token) → only_colon_at (front local (put mark.Arrow ts)) ≡ None
unfolding only_colon_at this_at name_at colon_at
no_only local ts = pick (bytes_eq local (codes "only"))
  where
    pick : (b : Bool) → (cond b (Some (put mark.Arrow ts)) None >>= colon_at) ≡ None
    pick true = refl
    pick false = refl

uses_again : (u : UseList) → FitsUses u → uses_at (spell_uses u) ≡ Some u
unfolding uses_at
uses_again All f = refl
uses_again (Renames []) f = absurd f
uses_again (Renames (renamed local used ∷ rs)) f =
    uses_step (spell_listed spell_rename (renamed local used ∷ rs) []) (no_only local _) ∙ renames_step (spell_listed spell_rename (renamed local used ∷ rs) []) (renamed local used ∷ rs) (rename_list (renamed local used) rs)
uses_again (Onlys os) f = uses_only (spell_listed spell_only os []) ∙ onlys_again os

module_step : (i c : Bool) (name : List ℕ) (ts r : List Token) (u : UseList) → maybe_colons_at ts ≡ (c, front name r) → uses_at r ≡ Some u → module_at i ts ≡ Some (Use i c name u)
unfolding module_at name_at
module_step i c name ts r u e1 e2 = rw (e1, e2) refl

module_again : (i c : Bool) (name : List ℕ) (u : UseList) → FitsUses u → module_at i (spell_colons c (front name (spell_uses u))) ≡ Some (Use i c name u)
module_again i c name u f = module_step i c name _ (spell_uses u) u (colons_again c (front name (spell_uses u)) (name_colons name (spell_uses u))) (uses_again u f)

use_intrinsic : (ts : List Token) → use_at (put mark.Comma (front (codes "intrinsic") ts)) ≡ module_at true ts
unfolding use_at this_at comma_at name_at
use_intrinsic ts = refl

use_plain : (c : Bool) (name : List ℕ) (ts : List Token) → use_at (spell_colons c (front name ts)) ≡ module_at false (spell_colons c (front name ts))
unfolding use_at comma_at
use_plain true name ts = refl
use_plain false name ts = refl

use_again : (i c : Bool) (name : List ℕ) (u : UseList) → FitsUses u → use_at (spell_intrinsic i (spell_colons c (front name (spell_uses u)))) ≡ Some (Use i c name u)
use_again true c name u f = use_intrinsic (spell_colons c (front name (spell_uses u))) ∙ module_again true c name u f
use_again false c name u f = use_plain c name (spell_uses u) ∙ module_again false c name u f

-- ---- heads

-- what begins with a name, behind parentheses that aren't there
name_stands : (ps : List Prefix) (w : List ℕ) (ts : List Token) → begins_name (spell_each spell_prefix ps (front w ts)) ≡ true
unfolding begins_name
name_stands [] w ts = refl
name_stands (Recursive ∷ ps) w ts = refl
name_stands (Returns (Integer k) ∷ ps) w ts = refl
name_stands (Returns (Logical k) ∷ ps) w ts = refl
name_stands (Returns (Character qs) ∷ ps) w ts = refl
name_stands (Returns (Derived name) ∷ ps) w ts = refl
name_stands (Returns Assumed ∷ ps) w ts = refl

no_group : (ts : List Token) → begins_name ts ≡ true → behind_group ts ≡ ts
unfolding begins_name behind_group
no_group (token.Name name ∷ ts) e = refl
no_group (token.Mark m ∷ ts) e = absurd (cc (e))
no_group (_ ∷ ts) e = absurd (cc (e))
no_group [] e = absurd (cc (e))

head_by : (w : List ℕ) (ts : List Token) → begins_name (behind_group ts) ≡ true → begins_head (front w ts) ≡ true
unfolding begins_head
head_by w ts e = e

name_follows : (ts : List Token) → begins_name ts ≡ true → begins_name (behind_group ts) ≡ true
name_follows ts e = ap begins_name (no_group ts e) ∙ e

type_follows : (n : ℕ) (t : TypeOf) (ts : List Token) → FitsType n t → begins_name ts ≡ true → begins_name (behind_group (type_group t ts)) ≡ true
type_follows n (Integer NoKind) ts f e = name_follows ts e
type_follows n (Integer (kind w x)) ts f e = ap begins_name (behind_type_group (Integer (kind w x)) n ts f tt) ∙ e
type_follows n (Logical NoKind) ts f e = name_follows ts e
type_follows n (Logical (kind w x)) ts f e = ap begins_name (behind_type_group (Logical (kind w x)) n ts f tt) ∙ e
type_follows n (Character NoParams) ts f e = name_follows ts e
type_follows n (Character (params p ps)) ts f e = ap begins_name (behind_type_group (Character (params p ps)) n ts f tt) ∙ e
type_follows n (Derived name) ts f e = ap begins_name (behind_type_group (Derived name) n ts f tt) ∙ e
type_follows n Assumed ts f e = ap begins_name (behind_type_group Assumed n ts f tt) ∙ e

head_begins : (n : ℕ) (ps : List Prefix) (is_function : Bool) (name : List ℕ) (ts : List Token) → AreAll (FitsPrefix n) ps → begins_head (spell_each spell_prefix ps (front (unit_word is_function) (front name ts))) ≡ true
unfolding begins_name
head_begins n [] is_function name ts f = head_by (unit_word is_function) (front name ts) (name_follows (front name ts) refl)
head_begins n (Recursive ∷ ps) is_function name ts f = head_by (codes "recursive") _ (name_follows _ (name_stands ps (unit_word is_function) (front name ts)))
head_begins n (Returns (Integer k) ∷ ps) is_function name ts f = head_by (codes "integer") _ (type_follows n (Integer k) _ f.0 (name_stands ps (unit_word is_function) (front name ts)))
head_begins n (Returns (Logical k) ∷ ps) is_function name ts f = head_by (codes "logical") _ (type_follows n (Logical k) _ f.0 (name_stands ps (unit_word is_function) (front name ts)))
head_begins n (Returns (Character qs) ∷ ps) is_function name ts f = head_by (codes "character") _ (type_follows n (Character qs) _ f.0 (name_stands ps (unit_word is_function) (front name ts)))
head_begins n (Returns (Derived x) ∷ ps) is_function name ts f = head_by (codes "type") _ (type_follows n (Derived x) _ f.0 (name_stands ps (unit_word is_function) (front name ts)))
head_begins n (Returns Assumed ∷ ps) is_function name ts f = head_by (codes "type") _ (type_follows n Assumed _ f.0 (name_stands ps (unit_word is_function) (front name ts)))

head_of_step : (ps : List Prefix) (b : Bool) (name : List ℕ) (ts r : List Token) (d : Option (List (List ℕ))) (ss : List Suffix) → dummies_at b ts ≡ Some (d, r) → suffixes_at (length r) r ≡ Some ss → head_of ps b (front name ts) ≡ Some (Head ps b name d ss)
unfolding head_of name_at
head_of_step ps b name ts r d ss e1 e2 = rw (e1, e2) refl

head_of_again : (ps : List Prefix) (b : Bool) (name : List ℕ) (d : Option (List (List ℕ))) (ss : List Suffix) → FitsDummies b d → head_of ps b (front name (spell_dummies d (spell_each spell_suffix ss []))) ≡ Some (Head ps b name d ss)
head_of_again ps b name d ss f =
    let tail = spell_each spell_suffix ss [] in
    head_of_step ps b name (spell_dummies d tail) tail d ss (dummies_again b d ss f) (suffixes_again ss (length tail) (omega (arith, grows_suffixes ss [])))

head_behind_step : (n : ℕ) (p : Prefix) (ts r : List Token) (ps : List Prefix) (b : Bool) → prefixes_at n (length ts) ts ≡ Some ((ps, b), r) → head_behind n p ts ≡ head_of (p ∷ ps) b r
unfolding head_behind
head_behind_step n p ts r ps b e = rw e refl

head_behind_again : (n : ℕ) (p : Prefix) (ps : List Prefix) (b : Bool) (name : List ℕ) (d : Option (List (List ℕ))) (ss : List Suffix) → AreAll (FitsPrefix n) ps → FitsDummies b d
    → head_behind n p (spell_each spell_prefix ps (front (unit_word b) (front name (spell_dummies d (spell_each spell_suffix ss []))))) ≡ Some (Head (p ∷ ps) b name d ss)
head_behind_again n p ps b name d ss f g =
    let rest = front name (spell_dummies d (spell_each spell_suffix ss [])) in
    let ts = spell_each spell_prefix ps (front (unit_word b) rest) in
    head_behind_step n p ts rest ps b (prefixes_again n ps (length ts) b rest f (omega (arith, grows_prefixes ps (front (unit_word b) rest)))) ∙ head_of_again (p ∷ ps) b name d ss g

-- ---- variables

-- what no head goes on with
initial_stands : (i : Initial) (xs : List Entity) → begins_name (behind_group (spell_initial i (spell_behind spell_entity xs []))) ≡ false
unfolding begins_name behind_group
initial_stands NoInitial [] = refl
initial_stands NoInitial (x ∷ xs) = refl
initial_stands (Starts e) xs = refl
initial_stands Null xs = refl

initial_plain : (i : Initial) (xs : List Entity) → begins_name (spell_initial i (spell_behind spell_entity xs [])) ≡ false
unfolding begins_name
initial_plain NoInitial [] = refl
initial_plain NoInitial (x ∷ xs) = refl
initial_plain (Starts e) xs = refl
initial_plain Null xs = refl

no_head_by : (w : List ℕ) (ts : List Token) → begins_name (behind_group ts) ≡ false → begins_head (front w ts) ≡ false
unfolding begins_head
no_head_by w ts e = e

entities_stand : (n : ℕ) (xs : List Entity) → AreSome (FitsEntity n) xs → begins_head (spell_listed spell_entity xs []) ≡ false
entities_stand n [] f = absurd f
entities_stand n (entity name None i ∷ xs) f = no_head_by name _ (initial_stands i xs)
entities_stand n (entity name (Some ds) i ∷ xs) f = no_head_by name _ (ap begins_name (behind_dims ds n (spell_initial i (spell_behind spell_entity xs [])) f.0.0) ∙ initial_plain i xs)

no_head : (n : ℕ) (attrs : List Attr) (c : Bool) (xs : List Entity) → AreSome (FitsEntity n) xs → begins_head (spell_behind spell_attr attrs (spell_colons c (spell_listed spell_entity xs []))) ≡ false
unfolding begins_head
no_head n [] true xs f = refl
no_head n [] false xs f = entities_stand n xs f
no_head n (a ∷ attrs) c xs f = refl

entities_comma : (c : Bool) (n : ℕ) (xs : List Entity) → AreSome (FitsEntity n) xs → comma_at (spell_colons c (spell_listed spell_entity xs [])) ≡ None
unfolding comma_at
entities_comma true n xs f = refl
entities_comma false n [] f = absurd f
entities_comma false n (entity name ds i ∷ xs) f = refl

entities_colons : (n : ℕ) (xs : List Entity) → AreSome (FitsEntity n) xs → colons_at (spell_listed spell_entity xs []) ≡ None
unfolding colons_at
entities_colons n [] f = absurd f
entities_colons n (entity name ds i ∷ xs) f = refl

entity_list : (n : ℕ) (xs : List Entity) → AreSome (FitsEntity n) xs → listed_at (entity_at n) (spell_listed spell_entity xs []) ≡ Some (xs, [])
unfolding comma_at
entity_list n xs f = listed_again (entity_at n) spell_entity (FitsEntity n) EndsItem (λ _. tt) grows_entity (entity_again n) xs [] f tt refl

variables_step : (n : ℕ) (t : TypeOf) (ts r q : List Token) (attrs : List Attr) (c : Bool) (xs : List Entity) → behind_at (attr_at n) (length ts) ts ≡ Some (attrs, r) → maybe_colons_at r ≡ (c, q) → listed_at (entity_at n) q ≡ Some (xs, []) → variables_at n t ts ≡ Some (Variables t attrs c xs)
unfolding variables_at ends
variables_step n t ts r q attrs c xs e1 e2 e3 = rw (e1, e2, e3) refl

variables_again : (n : ℕ) (t : TypeOf) (attrs : List Attr) (c : Bool) (xs : List Entity) → AreAll (FitsAttr n) attrs → AreSome (FitsEntity n) xs → variables_at n t (spell_behind spell_attr attrs (spell_colons c (spell_listed spell_entity xs []))) ≡ Some (Variables t attrs c xs)
variables_again n t attrs c xs f g =
    let q = spell_listed spell_entity xs [] in
    let r = spell_colons c q in
    variables_step n t (spell_behind spell_attr attrs r) r q attrs c xs
    (behind_all (attr_at n) spell_attr (FitsAttr n) IsAny (λ _. tt) grows_attr (attr_again n) attrs r f tt (entities_comma c n xs g))
    (colons_again c q (entities_colons n xs g)) (entity_list n xs g)

typed_step : (n : ℕ) (ts r : List Token) (t : TypeOf) → type_at (expr_at n) ts ≡ Some (t, r) → typed_at n ts ≡ behind_type n t r
unfolding typed_at
typed_step n ts r t e = rw e refl

as_variables : (n : ℕ) (t : TypeOf) (ts : List Token) → begins_head ts ≡ false → behind_type n t ts ≡ variables_at n t ts
unfolding behind_type
as_variables n t ts e = rw e refl

as_head : (n : ℕ) (t : TypeOf) (ts : List Token) → begins_head ts ≡ true → behind_type n t ts ≡ head_behind n (Returns t) ts
unfolding behind_type
as_head n t ts e = rw e refl

by_type : (n : ℕ) (t : TypeOf) (ts : List Token) → declared_at n (spell_type t ts) ≡ typed_at n (spell_type t ts)
unfolding declared_at declared_by type_word_at name_at open_at
by_type n (Integer k) ts = refl
by_type n (Logical k) ts = refl
by_type n (Character ps) ts = refl
by_type n (Derived name) ts = refl
by_type n Assumed ts = refl

variables_end : (n : ℕ) (attrs : List Attr) (c : Bool) (xs : List Entity) → AreSome (FitsEntity n) xs → EndsType (spell_behind spell_attr attrs (spell_colons c (spell_listed spell_entity xs [])))
variables_end n (a ∷ attrs) c xs f = tt
variables_end n [] true xs f = tt
variables_end n [] false [] f = absurd f
variables_end n [] false (entity name ds i ∷ xs) f = tt

-- ---- other statements

by_word : (n : ℕ) (w : List ℕ) (ts : List Token) → declared_at n (front w ts) ≡ declared_by n w ts
unfolding declared_at name_at
by_word n w ts = refl

named_again : (make : List ℕ → Declared) (name : List ℕ) → named_at make (front name []) ≡ Some (make name)
unfolding named_at name_at ends
named_again make name = refl

type_attrs_step : (ts r q : List Token) (attrs : List TypeAttr) (c : Bool) (name : List ℕ) → behind_at type_attr_at (length ts) ts ≡ Some (attrs, r) → maybe_colons_at r ≡ (c, front name []) → type_start_at ts ≡ Some (TypeStart attrs c name)
unfolding type_start_at name_at ends
type_attrs_step ts r q attrs c name e1 e2 = rw (e1, e2) refl

colons_comma : (c : Bool) (name : List ℕ) (ts : List Token) → comma_at (spell_colons c (front name ts)) ≡ None
unfolding comma_at
colons_comma true name ts = refl
colons_comma false name ts = refl

type_start_again : (attrs : List TypeAttr) (c : Bool) (name : List ℕ) → type_start_at (spell_behind spell_type_attr attrs (spell_colons c (front name []))) ≡ Some (TypeStart attrs c name)
type_start_again attrs c name =
    let r = spell_colons c (front name []) in
    type_attrs_step (spell_behind spell_type_attr attrs r) r [] attrs c name
    (behind_all type_attr_at spell_type_attr IsAny IsAny (λ _. tt) grows_type_attr type_attr_again attrs r (any_all attrs) tt (colons_comma c name []))
    (colons_again c (front name []) (name_colons name []))

type_start_open : (attrs : List TypeAttr) (c : Bool) (name : List ℕ) → open_at (spell_behind spell_type_attr attrs (spell_colons c (front name []))) ≡ None
unfolding open_at
type_start_open (a ∷ attrs) c name = refl
type_start_open [] true name = refl
type_start_open [] false name = refl

type_word_step : (n : ℕ) (ts : List Token) → open_at ts ≡ None → type_word_at n ts ≡ type_start_at ts
unfolding type_word_at
type_word_step n ts e = rw e refl

pointers_step : (name : List ℕ) (ts q : List Token) (attrs : List PointerAttr) (xs : List ProcPointer) → behind_at pointer_attr_at (length ts) ts ≡ Some (attrs, put mark.DoubleColon q) → listed_at pointer_at q ≡ Some (xs, [])
    → procedure_at (put mark.Open (front name (put mark.Close (put mark.Comma (front (codes "pointer") ts))))) ≡ Some (Procedures name attrs xs)
unfolding procedure_at pointers_at this_at open_at closed_at comma_at colons_at name_at ends
pointers_step name ts q attrs xs e1 e2 = rw (e1, e2) refl

pointers_again : (name : List ℕ) (attrs : List PointerAttr) (xs : List ProcPointer) → AreSome IsAny xs
    → procedure_at (put mark.Open (front name (put mark.Close (put mark.Comma (front (codes "pointer") (spell_behind spell_pointer_attr attrs (put mark.DoubleColon (spell_listed spell_pointer xs [])))))))) ≡ Some (Procedures name attrs xs)
unfolding comma_at
pointers_again name attrs xs f =
    let q = spell_listed spell_pointer xs [] in
    pointers_step name (spell_behind spell_pointer_attr attrs (put mark.DoubleColon q)) q attrs xs
    (behind_all pointer_attr_at spell_pointer_attr IsAny IsAny (λ _. tt) grows_pointer_attr pointer_attr_again attrs (put mark.DoubleColon q) (any_all attrs) tt refl)
    (listed_again pointer_at spell_pointer IsAny EndsItem (λ _. tt) grows_pointer pointer_again xs [] f tt refl)

end_name_again : (what : Ended) (w : Bool) (name : Option (List ℕ)) → FitsEnd what name → end_name_at what w (spell_maybe_name name) ≡ Some (EndOf what w name)
unfolding end_name_at name_at ends
end_name_again what w None f = refl
end_name_again OfProgram w (Some name) f = refl
end_name_again OfModule w (Some name) f = refl
end_name_again OfSubroutine w (Some name) f = refl
end_name_again OfFunction w (Some name) f = refl
end_name_again OfType w (Some name) f = refl
end_name_again OfInterface w (Some name) f = absurd f

end_again : (n : ℕ) (what : Ended) (w : Bool) (ts : List Token) → declared_at n (spell_end what w ts) ≡ end_name_at what w ts
unfolding declared_at declared_by joined_by end_at end_by name_at
end_again n OfProgram true ts = refl
end_again n OfModule true ts = refl
end_again n OfSubroutine true ts = refl
end_again n OfFunction true ts = refl
end_again n OfType true ts = refl
end_again n OfInterface true ts = refl
end_again n OfProgram false ts = refl
end_again n OfModule false ts = refl
end_again n OfSubroutine false ts = refl
end_again n OfFunction false ts = refl
end_again n OfType false ts = refl
end_again n OfInterface false ts = refl

head_again : (n : ℕ) (ps : List Prefix) (b : Bool) (name : List ℕ) (d : Option (List (List ℕ))) (ss : List Suffix) → AreAll (FitsPrefix n) ps → FitsDummies b d → declared_at n (spell_declared (Head ps b name d ss)) ≡ Some (Head ps b name d ss)
unfolding declared_by
head_again n [] true name d ss f g = by_word n (codes "function") _ ∙ head_of_again [] true name d ss g
head_again n [] false name d ss f g = by_word n (codes "subroutine") _ ∙ head_of_again [] false name d ss g
head_again n (Recursive ∷ ps) b name d ss f g = by_word n (codes "recursive") _ ∙ head_behind_again n Recursive ps b name d ss f.1 g
head_again n (Returns t ∷ ps) b name d ss f g =
    let rest = front name (spell_dummies d (spell_each spell_suffix ss [])) in
    let ts = spell_each spell_prefix ps (front (unit_word b) rest) in
    by_type n t ts ∙ typed_step n (spell_type t ts) ts t (type_again t n ts f.0 (prefixes_end ps (unit_word b) rest)) ∙ as_head n t ts (head_begins n ps b name _ f.1) ∙ head_behind_again n (Returns t) ps b name d ss f.1 g

pub declared_again : (n : ℕ) (d : Declared) → FitsDeclared n d → declared_at n (spell_declared d) ≡ Some d
unfolding declared_by implicit_at abstract_at this_at name_at end_at ends
declared_again n (Program name) f = by_word n (codes "program") _ ∙ named_again Program name
declared_again n (Module name) f = by_word n (codes "module") _ ∙ named_again Module name
declared_again n (Head ps b name d ss) f = head_again n ps b name d ss f.0 f.1
declared_again n Contains f = by_word n (codes "contains") []
declared_again n (Use i c name u) f = by_word n (codes "use") _ ∙ use_again i c name u f
declared_again n (Import c names) f = by_word n (codes "import") _ ∙ some_names Import c names f
declared_again n ImplicitNone f = by_word n (codes "implicit") _
declared_again n (Variables t attrs c xs) f =
    let ts = spell_behind spell_attr attrs (spell_colons c (spell_listed spell_entity xs [])) in
    by_type n t ts ∙ typed_step n (spell_type t ts) ts t (type_again t n ts f.0 (variables_end n attrs c xs f.2)) ∙ as_variables n t ts (no_head n attrs c xs f.2) ∙ variables_again n t attrs c xs f.1 f.2
declared_again n (TypeStart attrs c name) f = by_word n (codes "type") _ ∙ type_word_step n _ (type_start_open attrs c name) ∙ type_start_again attrs c name
declared_again n (InterfaceStart true) f = by_word n (codes "abstract") _
declared_again n (InterfaceStart false) f = by_word n (codes "interface") []
declared_again n (Accesses Public c names) f = by_word n (codes "public") _ ∙ some_names (Accesses Public) c names f
declared_again n (Accesses Private c names) f = by_word n (codes "private") _ ∙ some_names (Accesses Private) c names f
declared_again n SaveAll f = by_word n (codes "save") []
declared_again n (Procedures name attrs xs) f = by_word n (codes "procedure") _ ∙ pointers_again name attrs xs f
declared_again n End f = by_word n (codes "end") []
declared_again n (EndOf what w name) f = end_again n what w (spell_maybe_name name) ∙ end_name_again what w name f

declared_is : (a b : Declared) → let d : Option Declared = Some a in let e : Option Declared = Some b in d ≡ e → a ≡ b
declared_is a b e = cc

pub one_declared : (n : ℕ) (a b : Declared) → FitsDeclared n a → FitsDeclared n b → spell_declared a ≡ spell_declared b → a ≡ b
one_declared n a b f g e = declared_is a b (sym (declared_again n a f) ∙ ap (declared_at n) e ∙ declared_again n b g)
