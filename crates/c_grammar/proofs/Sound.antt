-- What is read is spelled so, and fits.
use Rattle.std.proofs.Common.{◌≡◌, ℕ, zero, suc, ◌≤◌, Bool, true, false, cond, eqb, List, [], ◌∷◌, length, Option, Some, None, Result, Ok, Err, ltb, refl, sym, ap, subst, ◌∙◌, arith}
use Rattle.std.specs.Prelude.{IfOk}
use Rattle.std.proofs.lemmas.Bool.{eqb-true, ltb-true}
use Rattle.c_tree.specs.declared.operator.SpecifierWord.TheVariants as word
use Rattle.c_tree.specs.declared.operator.PrefixOperator.{PrefixOperator}
use Rattle.c_grammar.specs.declared.token.Allowed.{Allowed}
use Rattle.c_grammar.specs.declared.token.Allowed.TheVariants.{Named, Abstract, Either}
use Rattle.c_grammar.specs.declared.token.Token.{Token}
use Rattle.c_grammar.specs.declared.token.Token.TheVariants as token
use Rattle.c_grammar.specs.declared.fault.Fault.{Fault}
use Rattle.c_grammar.specs.Grammar.{Scope, is_type, starts_type, Expr, Name, Number, Byte, Texts, Paren, Postfix, Prefix, SizeOfExpr, SizeOf, Cast, Chain, Posts, no_posts, post, Post, Index, Call, CallNothing, Member, Arrow, Increment, Decrement, Joint, Infix, Choose, Assign, Comma, Links, no_links, link, Sort, OfInfix, OfChoice, OfAssign, OfComma, sort_height, sort_of, begins_post, is_unary, is_primary, takes_operand, after_joint, after_post, sign_of_set, sign_of_prefix, spell_joint, spell_posts, spell_post, spell_texts, Joins, FitsJoint, FitsPosts, FitsPost, Typed, typed, Specs, no_specs, spec, Spec, Keyword, Members, member, Decl, decl, Core, Absent, Id, Group, Suffixes, no_suffixes, Suffix, OpenArray, Array, Function, Params, NoParams, OnlyVoid, Some_params, More, no_more, param, height_of, sign_of, after, after_typed, after_specs, after_spec, after_core, after_suffix, after_param, is_base, is_based, or, spell, spell_links, spell_typed, spell_specs, spell_spec, spell_members, spell_decl, spell_core, spell_suffixes, spell_suffix, spell_params, spell_more, spell_marks, ArePointers, Grouped, IsAParam, Fits, FitsLinks, FitsTyped, FitsSpecifiers, FitsSpecs, FitsSpec, FitsMembers, FitsDecl, FitsCore, FitsSuffixes, FitsSuffix, FitsParams, FitsMore, Within, WithinDecl, WithinTyped, Decls, another, Item, Plain, Valued, Items, after_decls, after_decl, after_item, spell_decls, spell_item, spell_items, spell_tag, spell_comma, FitsDecls, FitsItem, FitsItems}
use Rattle.c_grammar.specs.Reading.{ranked_at, ◌>>=◌, Reader, Inner, choose, closed_at, squared_at, braced_at, semi_at, comma_at, ends_braces, ends_list, void_at, run_at, marks_at, colon_at, may_join, picked, link_at, prefix_of, texts_at, paren_at, primary_at, index_at, arguments_at, call_at, post_at, posts_at, with_posts, postfix_at, prefix_at, conversion_at, size_of_at, type_size_at, size_at, cast_at, choice_at, joint_at, links_at, chain, level_at, begins_spec, members_at, struct_at, enum_at, spec_at, specs_at, specifiers_at, opens_list, takes_name, needs_name, group_at, core_at, more_at, list_at, params_at, bound_at, array_at, function_at, suffixes_at, decl_at, typed_at, inner, decls_at, struct_body_at, valued_at, item_at, next_item, items_at, last_comma, enum_body_at}
use Rattle.c_grammar.proofs.Lengths.{grows_spec}
use Rattle.c_grammar.proofs.Beginnings.{no_base, some_fit}

-- ---- steps

-- a step, and then another
pub ok_then : {A B : Type 0} (r : Result A Fault) (f : A → Result B Fault) (P : A → Type 0) (Q : B → Type 0) → IfOk r P → ((x : A) → P x → IfOk (f x) Q) → IfOk (r >>= f) Q
ok_then (Ok x) f P Q p g = g x p
ok_then (Err e) f P Q p g = tt

-- what is so is also so
pub ok_also : {A : Type 0} (r : Result A Fault) (P Q : A → Type 0) → IfOk r P → ((x : A) → P x → Q x) → IfOk r Q
ok_also (Ok x) P Q p g = g x p
ok_also (Err e) P Q p g = tt

-- a choice, either way
pub chosen : {A B : Type 0} (o : Option A) (none : Result B Fault) (some : A → Result B Fault) (P : Option A → Type 0) (Q : B → Type 0) → P o → (P None → IfOk none Q) → ((x : A) → P (Some x) → IfOk (some x) Q) → IfOk (choose o none some) Q
chosen None none some P Q p n s = n p
chosen (Some x) none some P Q p n s = s x p

-- a test, either way
pub tested : {B : Type 0} (b : Bool) (x y : Result B Fault) (Q : B → Type 0) → (b ≡ true → IfOk x Q) → (b ≡ false → IfOk y Q) → IfOk (cond b x y) Q
tested true x y Q t f = t refl
tested false x y Q t f = f refl

-- ---- single tokens

pub closed_sound : (ts : List Token) → IfOk (closed_at ts) (λ rest. ts ≡ token.Close ∷ rest)
unfolding closed_at
closed_sound (token.Close ∷ ts) = refl
closed_sound [] = tt
closed_sound (_ ∷ ts) = tt

squared_sound : (ts : List Token) → IfOk (squared_at ts) (λ rest. ts ≡ token.SquareClose ∷ rest)
unfolding squared_at
squared_sound (token.SquareClose ∷ ts) = refl
squared_sound [] = tt
squared_sound (_ ∷ ts) = tt

pub braced_sound : (ts : List Token) → IfOk (braced_at ts) (λ rest. ts ≡ token.BraceClose ∷ rest)
unfolding braced_at
braced_sound (token.BraceClose ∷ ts) = refl
braced_sound [] = tt
braced_sound (_ ∷ ts) = tt

pub semi_sound : (ts : List Token) → IfOk (semi_at ts) (λ rest. ts ≡ token.Semi ∷ rest)
unfolding semi_at
semi_sound (token.Semi ∷ ts) = refl
semi_sound [] = tt
semi_sound (_ ∷ ts) = tt

abbrev pub IsComma : List Token → Option (List Token) → Type 0
IsComma ts None = Unit {0}
IsComma ts (Some rest) = ts ≡ token.Comma ∷ rest

pub comma_sound : (ts : List Token) → IsComma ts (comma_at ts)
unfolding comma_at
comma_sound (token.Comma ∷ ts) = refl
comma_sound [] = tt
comma_sound (_ ∷ ts) = tt

abbrev IsEnd : List Token → Option (List Token) → Type 0
IsEnd ts None = Unit {0}
IsEnd ts (Some rest) = ts ≡ token.Close ∷ rest

end_sound : (ts : List Token) → IsEnd ts (ends_list ts)
unfolding ends_list
end_sound (token.Close ∷ ts) = refl
end_sound [] = tt
end_sound (_ ∷ ts) = tt

abbrev IsVoid : List Token → Option (List Token) → Type 0
IsVoid ts None = void_at ts ≡ None
IsVoid ts (Some rest) = ts ≡ token.Word word.Void ∷ token.Close ∷ rest

void_sound : (ts : List Token) → IsVoid ts (void_at ts)
unfolding void_at
void_sound (token.Word word.Void ∷ token.Close ∷ ts) = refl
void_sound _ = refl

pub colon_sound : (ts : List Token) → IfOk (colon_at ts) (λ rest. ts ≡ token.Colon ∷ rest)
unfolding colon_at
colon_sound (token.Colon ∷ ts) = refl
colon_sound [] = tt
colon_sound (_ ∷ ts) = tt

-- the token that a joint of this sort begins with
abbrev pub sign_of_sort : Sort → Token
sign_of_sort (OfInfix o) = sign_of o
sign_of_sort OfChoice = token.Question
sign_of_sort (OfAssign o) = sign_of_set o
sign_of_sort OfComma = token.Comma

abbrev IsSort : Token → Option Sort → Type 0
IsSort t None = Unit {0}
IsSort t (Some o) = t ≡ sign_of_sort o

sort_sound : (t : Token) → IsSort t (sort_of t)
sort_sound token.Star = refl
sort_sound token.Slash = refl
sort_sound token.Percent = refl
sort_sound token.Plus = refl
sort_sound token.Minus = refl
sort_sound token.ShiftLeft = refl
sort_sound token.ShiftRight = refl
sort_sound token.Less = refl
sort_sound token.Greater = refl
sort_sound token.LessEqual = refl
sort_sound token.GreaterEqual = refl
sort_sound token.Equal = refl
sort_sound token.NotEqual = refl
sort_sound token.Ampersand = refl
sort_sound token.Caret = refl
sort_sound token.Bar = refl
sort_sound token.AndAnd = refl
sort_sound token.OrOr = refl
sort_sound token.Question = refl
sort_sound token.Equals = refl
sort_sound token.StarEquals = refl
sort_sound token.SlashEquals = refl
sort_sound token.PercentEquals = refl
sort_sound token.PlusEquals = refl
sort_sound token.MinusEquals = refl
sort_sound token.ShiftLeftEquals = refl
sort_sound token.ShiftRightEquals = refl
sort_sound token.AmpersandEquals = refl
sort_sound token.CaretEquals = refl
sort_sound token.BarEquals = refl
sort_sound token.Comma = refl
sort_sound _ = tt

abbrev IsLink : ℕ → Expr → List Token → Option (Sort × List Token) → Type 0
IsLink h left ts None = Unit {0}
IsLink h left ts (Some o) = (ts ≡ sign_of_sort o.0 ∷ o.1) × (sort_height o.0 ≡ suc h) × (may_join left o.0 ≡ true)

picked_sound : (h : ℕ) (left : Expr) (t : Token) (ts : List Token) (o : Option Sort) → IsSort t o → IsLink h left (t ∷ ts) (picked h left ts o)
unfolding picked
picked_sound h left t ts None i = tt
picked_sound h left t ts (Some o) i = pick (eqb (sort_height o) (suc h)) (may_join left o) refl refl
  where
    pick : (b c : Bool) → eqb (sort_height o) (suc h) ≡ b → may_join left o ≡ c → IsLink h left (t ∷ ts) (cond b (cond c (Some (o, ts)) None) None)
    pick true true e f = (ap (λ r. r ∷ ts) i, eqb-true (sort_height o) (suc h) e, f)
    pick true false e f = tt
    pick false c e f = tt

link_sound : (h : ℕ) (left : Expr) (ts : List Token) → IsLink h left ts (link_at h left ts)
unfolding link_at
link_sound h left [] = tt
link_sound h left (t ∷ ts) = picked_sound h left t ts (sort_of t) (sort_sound t)

abbrev IsPrefix : List Token → Option (PrefixOperator × List Token) → Type 0
IsPrefix ts None = Unit {0}
IsPrefix ts (Some o) = ts ≡ sign_of_prefix o.0 ∷ o.1

prefix_sign_sound : (ts : List Token) → IsPrefix ts (prefix_of ts)
unfolding prefix_of
prefix_sign_sound (token.Increment ∷ ts) = refl
prefix_sign_sound (token.Decrement ∷ ts) = refl
prefix_sign_sound (token.Ampersand ∷ ts) = refl
prefix_sign_sound (token.Star ∷ ts) = refl
prefix_sign_sound (token.Plus ∷ ts) = refl
prefix_sign_sound (token.Minus ∷ ts) = refl
prefix_sign_sound (token.Tilde ∷ ts) = refl
prefix_sign_sound (token.Exclamation ∷ ts) = refl
prefix_sign_sound [] = tt
prefix_sign_sound (_ ∷ ts) = tt

texts_sound : (ts : List Token) → ts ≡ spell_texts (texts_at ts).0 (texts_at ts).1
unfolding texts_at
texts_sound (token.Text k ∷ ts) = ap (λ r. token.Text k ∷ r) (texts_sound ts)
texts_sound [] = refl
texts_sound (_ ∷ ts) = refl

run_sound : (ts : List Token) → ts ≡ spell_marks (run_at ts).0 (run_at ts).1
unfolding run_at
run_sound (token.Star ∷ ts) = ap (λ r. token.Star ∷ r) (run_sound ts)
run_sound (token.Word word.Const ∷ ts) = ap (λ r. token.Word word.Const ∷ r) (run_sound ts)
run_sound (token.Restrict ∷ ts) = ap (λ r. token.Restrict ∷ r) (run_sound ts)
run_sound _ = refl

marks_sound : (ts : List Token) → (ts ≡ spell_marks (marks_at ts).0 (marks_at ts).1) × ArePointers (marks_at ts).0
unfolding marks_at run_at
marks_sound (token.Star ∷ ts) = (ap (λ r. token.Star ∷ r) (run_sound ts), tt)
marks_sound [] = (refl, tt)
marks_sound (_ ∷ ts) = (refl, tt)

abbrev IsNext : List Token → Option (List Token) → Type 0
IsNext ts None = Unit {0}
IsNext ts (Some rest) = ts ≡ token.Comma ∷ rest

next_sound : (ts : List Token) → IsNext ts (next_item ts)
unfolding next_item
next_sound (token.Comma ∷ token.Name k ∷ ts) = refl
next_sound _ = tt

pub last_sound : (ts : List Token) → ts ≡ spell_comma (last_comma ts).0 (last_comma ts).1
unfolding last_comma
last_sound (token.Comma ∷ ts) = refl
last_sound _ = refl

-- ---- chains

pub fits_higher : (n h k : ℕ) (s : Scope) (e : Expr) → h ≤ k → Fits n h s e → Fits n k s e
fits_higher n h k s (Name m) le f = f
fits_higher n h k s (Number m t) le f = tt
fits_higher n h k s (Byte m) le f = tt
fits_higher n h k s (Texts m ms) le f = tt
fits_higher zero h k s (Paren e) le f = f
fits_higher (suc n) h k s (Paren e) le f = f
fits_higher n h k s (Postfix e posts) le f = f
fits_higher zero h k s (Prefix o e) le f = f
fits_higher (suc n) h k s (Prefix o e) le f = f
fits_higher zero h k s (SizeOfExpr e) le f = f
fits_higher (suc n) h k s (SizeOfExpr e) le f = f
fits_higher zero h k s (SizeOf t) le f = f
fits_higher (suc n) h k s (SizeOf t) le f = f
fits_higher zero h k s (Cast t e) le f = f
fits_higher (suc n) h k s (Cast t e) le f = f
fits_higher n h k s (Chain j first links) le f = (omega (arith, f.0), f.1, f.2, f.3)

pub chain_spell : (h : ℕ) (first : Expr) (links : Links) (rest : List Token) → spell (chain h first links) rest ≡ spell first (spell_links links rest)
chain_spell h first no_links rest = refl
chain_spell h first (link j e more) rest = refl

posts_spell : (e : Expr) (posts : Posts) (rest : List Token) → spell (with_posts e posts) rest ≡ spell e (spell_posts posts rest)
posts_spell e no_posts rest = refl
posts_spell e (post one more) rest = refl

posts_fit : (n : ℕ) (s : Scope) (e : Expr) (posts : Posts) → Fits n 0 s e → is_primary e ≡ true → FitsPosts n (after e s) posts → Fits n 0 s (with_posts e posts)
posts_fit n s e no_posts f p g = f
posts_fit n s e (post one more) f p g = (f, p, g, tt)

chain_fits : (n h : ℕ) (s : Scope) (first : Expr) (links : Links) → Fits n h s first → FitsLinks n h (after first s) first links → Fits n (suc h) s (chain h first links)
chain_fits n h s first no_links f l = fits_higher n h (suc h) s first (omega arith) f
chain_fits n h s first (link j e more) f l = (omega arith, f, l, tt)

-- ---- what is nested

paren_fits : (n h : ℕ) (s : Scope) (e : Expr) → Within n 13 s e → Fits n h s (Paren e)
paren_fits zero h s e w = w
paren_fits (suc n) h s e w = w

prefix_fits : (n h : ℕ) (s : Scope) (o : PrefixOperator) (e : Expr) → Within n 0 s e → takes_operand o e ≡ true → Fits n h s (Prefix o e)
prefix_fits zero h s o e w t = w
prefix_fits (suc n) h s o e w t = (w, t)

size_of_fits : (n h : ℕ) (s : Scope) (e : Expr) → Within n 0 s e → is_unary e ≡ true → Fits n h s (SizeOfExpr e)
size_of_fits zero h s e w t = w
size_of_fits (suc n) h s e w t = (w, t)

choice_fits : (n : ℕ) (s : Scope) (e : Expr) → Within n 13 s e → FitsJoint n s (Choose e)
choice_fits zero s e w = w
choice_fits (suc n) s e w = w

index_fits : (n : ℕ) (s : Scope) (e : Expr) → Within n 13 s e → FitsPost n s (Index e)
index_fits zero s e w = w
index_fits (suc n) s e w = w

call_fits : (n : ℕ) (s : Scope) (e : Expr) → Within n 13 s e → FitsPost n s (Call e)
call_fits zero s e w = w
call_fits (suc n) s e w = w

size_fits : (n h : ℕ) (s : Scope) (t : Typed) → WithinTyped n Abstract s t → Fits n h s (SizeOf t)
size_fits zero h s t w = w
size_fits (suc n) h s t w = w

cast_fits : (n h : ℕ) (s : Scope) (t : Typed) (e : Expr) → WithinTyped n Abstract s t → Within n 0 (after_typed t s) e → Fits n h s (Cast t e)
cast_fits zero h s t e w v = w
cast_fits (suc n) h s t e w v = (w, v)

member_fits : (n : ℕ) (s : Scope) (t : Typed) (ds : Decls) (more : Members) → WithinTyped n Named s t → FitsDecls n (after_typed t s) ds → FitsMembers n (after_decls ds (after_typed t s)) more → FitsMembers n s (member t ds more)
member_fits zero s t ds more w d m = w
member_fits (suc n) s t ds more w d m = (w, d, m)

decls_fit : (n : ℕ) (s : Scope) (d : Decl) (more : Decls) → WithinDecl n Named s d → FitsDecls n (after_decl d s) more → FitsDecls n s (another d more)
decls_fit zero s d more w m = w
decls_fit (suc n) s d more w m = (w, m)

valued_fits : (n : ℕ) (s : Scope) (k : ℕ) (e : Expr) → Within n 11 s e → FitsItem n s (Valued k e)
valued_fits zero s k e w = w
valued_fits (suc n) s k e w = w

plain_fits : (n : ℕ) (s : Scope) (k : ℕ) → FitsItem n s (Plain k)
plain_fits zero s k = tt
plain_fits (suc n) s k = tt

group_fits : (n : ℕ) (a : Allowed) (s : Scope) (d : Decl) → WithinDecl n a s d → Grouped a s d → FitsCore n a s (Group d)
group_fits zero a s d w g = w
group_fits (suc n) a s d w g = (w, g)

array_fits : (n : ℕ) (s : Scope) (e : Expr) → Within n 11 s e → FitsSuffix n s (Array e)
array_fits zero s e w = w
array_fits (suc n) s e w = w

params_fit : (n : ℕ) (s : Scope) (t : Typed) (more : More) → WithinTyped n Either s t → FitsMore n (after_param t s) more → IsAParam t more → FitsParams n s (Some_params t more)
params_fit zero s t more w m a = w
params_fit (suc n) s t more w m a = (w, m, a)

more_fits : (n : ℕ) (s : Scope) (t : Typed) (more : More) → WithinTyped n Either s t → FitsMore n (after_param t s) more → FitsMore n s (param t more)
more_fits zero s t more w m = w
more_fits (suc n) s t more w m = (w, m)

-- ---- which declarators are grouped, and what is a parameter

grouped : (a : Allowed) (s : Scope) (d : Decl) (rest : List Token) → opens_list a s (spell_decl d (token.Close ∷ rest)) ≡ false → Grouped a s d
unfolding opens_list
grouped Named s d rest e = tt
grouped Abstract s (decl [] Absent no_suffixes) rest e = absurd cc
grouped Abstract s (decl [] (Id k) ends) rest e = e
grouped Abstract s _ rest e = tt
grouped Either s (decl [] Absent no_suffixes) rest e = absurd cc
grouped Either s (decl [] (Id k) ends) rest e = e
grouped Either s _ rest e = tt

a_param : (t : Typed) (m : More) (rest : List Token) → void_at (spell_typed t (spell_more m (token.Close ∷ rest))) ≡ None → IsAParam t m
unfolding void_at
a_param (typed (spec (Keyword word.Void) no_specs) (decl [] Absent no_suffixes)) no_more rest e = absurd cc
a_param _ _ rest e = tt

takes_is : (a : Allowed) → takes_name a ≡ true → a ≡ Abstract → ⊥
takes_is Named t e = absurd cc
takes_is Abstract t e = absurd cc
takes_is Either t e = absurd cc

takes_not : (a : Allowed) → takes_name a ≡ false → a ≡ Named → ⊥
takes_not Named t e = absurd cc
takes_not Abstract t e = absurd cc
takes_not Either t e = absurd cc

needs_not : (a : Allowed) → needs_name a ≡ false → a ≡ Named → ⊥
needs_not Named t e = absurd cc
needs_not Abstract t e = absurd cc
needs_not Either t e = absurd cc

opens_not : (a : Allowed) (s : Scope) (ts : List Token) → opens_list a s ts ≡ true → a ≡ Named → ⊥
unfolding opens_list
opens_not Named s ts t e = absurd cc
opens_not Abstract s ts t e = absurd cc
opens_not Either s ts t e = absurd cc

none_begins : (based : Bool) (s : Scope) (ts : List Token) → length ts ≤ 0 → begins_spec based s ts ≡ false
unfolding begins_spec
none_begins true s [] le = refl
none_begins false s [] le = refl
none_begins based s (t ∷ ts) le = absurd (omega (arith, le))

begins_name : (based : Bool) (s : Scope) (k : ℕ) (ts : List Token) → begins_spec based s (token.Name k ∷ ts) ≡ true → (based ≡ false) × (is_type s k ≡ true)
unfolding begins_spec
begins_name true s k ts e = absurd cc
begins_name false s k ts e = (refl, e)

-- ---- all of it, given what reads the nested parts

pub record SoundInner (r : Inner) (n : ℕ) : Type 0 where
  pub expr : (h : ℕ) (s : Scope) (ts : List Token) → IfOk (r.expr h s ts) (λ x. (ts ≡ spell x.0 x.1) × Within n h s x.0)
  pub decl : (a : Allowed) (s : Scope) (ts : List Token) → IfOk (r.decl a s ts) (λ x. (ts ≡ spell_decl x.0 x.1) × WithinDecl n a s x.0)
  pub typed : (a : Allowed) (s : Scope) (ts : List Token) → IfOk (r.typed a s ts) (λ x. (ts ≡ spell_typed x.0 x.1) × WithinTyped n a s x.0)

abbrev pub IsRead : ℕ → ℕ → Scope → List Token → Expr × List Token → Type 0
IsRead n h s ts x = (ts ≡ spell x.0 x.1) × Fits n h s x.0

module _ (r : Inner) (n : ℕ) (i : SoundInner r n) where
  abbrev InExpr : ℕ → Scope → List Token → Expr × List Token → Type 0
  InExpr h s ts x = (ts ≡ spell x.0 x.1) × Within n h s x.0

  abbrev InTyped : Allowed → Scope → List Token → Typed × List Token → Type 0
  InTyped a s ts x = (ts ≡ spell_typed x.0 x.1) × WithinTyped n a s x.0

  abbrev InDecl : Allowed → Scope → List Token → Decl × List Token → Type 0
  InDecl a s ts x = (ts ≡ spell_decl x.0 x.1) × WithinDecl n a s x.0

  abbrev IsPrimary : Scope → List Token → Expr × List Token → Type 0
  IsPrimary s ts x = (ts ≡ spell x.0 x.1) × Fits n 0 s x.0 × (is_primary x.0 ≡ true)

  paren_sound : (s : Scope) (ts : List Token) → IfOk (paren_at r s ts) (IsPrimary s (token.Open ∷ ts))
  unfolding paren_at
  paren_sound s ts =
      ok_then (r.expr 13 s ts) _ (InExpr 13 s ts) _ (i.expr 13 s ts) (λ x p.
      ok_then (closed_at x.1) _ (λ rest. x.1 ≡ token.Close ∷ rest) _ (closed_sound x.1) (λ rest c.
      (ap (λ r. token.Open ∷ r) (p.0 ∙ ap (spell x.0) c), paren_fits n 0 s x.0 p.1, refl)))

  primary_sound : (s : Scope) (ts : List Token) → IfOk (primary_at r s ts) (IsPrimary s ts)
  unfolding primary_at
  primary_sound s (token.Name k ∷ ts) = tested (is_type s k) _ _ _ (λ e. tt) (λ e. (refl, e, refl))
  primary_sound s (token.Number k t ∷ ts) = (refl, tt, refl)
  primary_sound s (token.Byte k ∷ ts) = (refl, tt, refl)
  primary_sound s (token.Text k ∷ ts) = (ap (λ r. token.Text k ∷ r) (texts_sound ts), tt, refl)
  primary_sound s (token.Open ∷ ts) = paren_sound s ts
  primary_sound s [] = tt
  primary_sound s (_ ∷ ts) = tt

  abbrev pub IsPost : Scope → List Token → Post × List Token → Type 0
  IsPost s ts x = (ts ≡ spell_post x.0 x.1) × FitsPost n s x.0

  index_sound : (s : Scope) (ts : List Token) → IfOk (index_at r s ts) (IsPost s (token.SquareOpen ∷ ts))
  unfolding index_at
  index_sound s ts =
      ok_then (r.expr 13 s ts) _ (InExpr 13 s ts) _ (i.expr 13 s ts) (λ x p.
      ok_then (squared_at x.1) _ (λ rest. x.1 ≡ token.SquareClose ∷ rest) _ (squared_sound x.1) (λ rest c.
      (ap (λ r. token.SquareOpen ∷ r) (p.0 ∙ ap (spell x.0) c), index_fits n s x.0 p.1)))

  arguments_sound : (s : Scope) (ts : List Token) → IfOk (arguments_at r s ts) (IsPost s (token.Open ∷ ts))
  unfolding arguments_at
  arguments_sound s ts =
      ok_then (r.expr 13 s ts) _ (InExpr 13 s ts) _ (i.expr 13 s ts) (λ x p.
      ok_then (closed_at x.1) _ (λ rest. x.1 ≡ token.Close ∷ rest) _ (closed_sound x.1) (λ rest c.
      (ap (λ r. token.Open ∷ r) (p.0 ∙ ap (spell x.0) c), call_fits n s x.0 p.1)))

  call_sound : (s : Scope) (ts : List Token) → IfOk (call_at r s ts) (IsPost s (token.Open ∷ ts))
  unfolding call_at
  call_sound s (token.Close ∷ ts) = (refl, nothing_fits n s)
    where
      nothing_fits : (n : ℕ) (s : Scope) → FitsPost n s CallNothing
      nothing_fits zero s = tt
      nothing_fits (suc n) s = tt
  call_sound s ts = arguments_sound s ts

  pub post_sound : (s : Scope) (ts : List Token) → IfOk (post_at r s ts) (IsPost s ts)
  unfolding post_at
  post_sound s (token.SquareOpen ∷ ts) = index_sound s ts
  post_sound s (token.Open ∷ ts) = call_sound s ts
  post_sound s (token.Dot ∷ token.Name k ∷ ts) = (refl, fit n)
    where
      fit : (n : ℕ) → FitsPost n s (Member k)
      fit zero = tt
      fit (suc n) = tt
  post_sound s (token.Arrow ∷ token.Name k ∷ ts) = (refl, fit n)
    where
      fit : (n : ℕ) → FitsPost n s (Arrow k)
      fit zero = tt
      fit (suc n) = tt
  post_sound s (token.Increment ∷ ts) = (refl, fit n)
    where
      fit : (n : ℕ) → FitsPost n s Increment
      fit zero = tt
      fit (suc n) = tt
  post_sound s (token.Decrement ∷ ts) = (refl, fit n)
    where
      fit : (n : ℕ) → FitsPost n s Decrement
      fit zero = tt
      fit (suc n) = tt
  post_sound s _ = tt

  abbrev ArePostsOf : Scope → List Token → Posts × List Token → Type 0
  ArePostsOf s ts y = (ts ≡ spell_posts y.0 y.1) × FitsPosts n s y.0

  posts_sound : (k : ℕ) (s : Scope) (ts : List Token) → IfOk (posts_at r k s ts) (ArePostsOf s ts)
  unfolding posts_at
  posts_sound zero s ts = (refl, tt)
  posts_sound (suc k) s ts =
      tested (begins_post ts) _ _ _ (λ e.
      ok_then (post_at r s ts) _ (IsPost s ts) _ (post_sound s ts) (λ x p.
      ok_then (posts_at r k (after_post x.0 s) x.1) _ (ArePostsOf (after_post x.0 s) x.1) _ (posts_sound k (after_post x.0 s) x.1) (λ y q.
      (p.0 ∙ ap (spell_post x.0) q.0, (p.1, q.1)))))
      (λ e. (refl, tt))

  postfix_sound : (s : Scope) (ts : List Token) → IfOk (postfix_at r s ts) (IsRead n 0 s ts)
  unfolding postfix_at
  postfix_sound s ts =
      ok_then (primary_at r s ts) _ (IsPrimary s ts) _ (primary_sound s ts) (λ x p.
      ok_then (posts_at r (length x.1) (after x.0 s) x.1) _ (ArePostsOf (after x.0 s) x.1) _ (posts_sound (length x.1) (after x.0 s) x.1) (λ y q.
      (p.0 ∙ ap (spell x.0) q.0 ∙ sym (posts_spell x.0 y.0 y.1), posts_fit n s x.0 y.0 p.1 p.2 q.1)))

  prefix_sound : (o : PrefixOperator) (s : Scope) (ts : List Token) → IfOk (prefix_at r o s ts) (IsRead n 0 s (sign_of_prefix o ∷ ts))
  unfolding prefix_at
  prefix_sound o s ts =
      ok_then (r.expr 0 s ts) _ (InExpr 0 s ts) _ (i.expr 0 s ts) (λ x p.
      tested (takes_operand o x.0) _ _ _ (λ e. (ap (λ r. sign_of_prefix o ∷ r) p.0, prefix_fits n 0 s o x.0 p.1 e)) (λ e. tt))

  conversion_sound : (s : Scope) (ts : List Token) → IfOk (conversion_at r s ts) (IsRead n 0 s (token.Open ∷ ts))
  unfolding conversion_at
  conversion_sound s ts =
      ok_then (r.typed Abstract s ts) _ (InTyped Abstract s ts) _ (i.typed Abstract s ts) (λ x p.
      ok_then (closed_at x.1) _ (λ rest. x.1 ≡ token.Close ∷ rest) _ (closed_sound x.1) (λ rest c.
      ok_then (r.expr 0 (after_typed x.0 s) rest) _ (InExpr 0 (after_typed x.0 s) rest) _ (i.expr 0 (after_typed x.0 s) rest) (λ y q.
      (ap (λ r. token.Open ∷ r) (p.0 ∙ ap (spell_typed x.0) (c ∙ ap (λ r. token.Close ∷ r) q.0)), cast_fits n 0 s x.0 y.0 p.1 q.1))))

  size_of_sound : (s : Scope) (ts : List Token) → IfOk (size_of_at r s ts) (IsRead n 0 s (token.Sizeof ∷ ts))
  unfolding size_of_at
  size_of_sound s ts =
      ok_then (r.expr 0 s ts) _ (InExpr 0 s ts) _ (i.expr 0 s ts) (λ x p.
      tested (is_unary x.0) _ _ _ (λ e. (ap (λ r. token.Sizeof ∷ r) p.0, size_of_fits n 0 s x.0 p.1 e)) (λ e. tt))

  type_size_sound : (s : Scope) (ts : List Token) → IfOk (type_size_at r s ts) (IsRead n 0 s (token.Sizeof ∷ token.Open ∷ ts))
  unfolding type_size_at
  type_size_sound s ts =
      ok_then (r.typed Abstract s ts) _ (InTyped Abstract s ts) _ (i.typed Abstract s ts) (λ x p.
      ok_then (closed_at x.1) _ (λ rest. x.1 ≡ token.Close ∷ rest) _ (closed_sound x.1) (λ rest c.
      (ap (λ r. token.Sizeof ∷ token.Open ∷ r) (p.0 ∙ ap (spell_typed x.0) c), size_fits n 0 s x.0 p.1)))

  size_sound : (s : Scope) (ts : List Token) → IfOk (size_at r s ts) (IsRead n 0 s (token.Sizeof ∷ ts))
  unfolding size_at
  size_sound s (token.Open ∷ ts) = tested (starts_type s ts) _ _ _ (λ e. type_size_sound s ts) (λ e. size_of_sound s (token.Open ∷ ts))
  size_sound s ts = size_of_sound s ts

  operand_sound : (s : Scope) (ts : List Token) → IfOk (choose (prefix_of ts) (postfix_at r s ts) (λ o. prefix_at r o.0 s o.1)) (IsRead n 0 s ts)
  operand_sound s ts =
      chosen (prefix_of ts) _ _ (IsPrefix ts) _ (prefix_sign_sound ts) (λ _. postfix_sound s ts) (λ o e.
      subst (λ t. IfOk (prefix_at r o.0 s o.1) (IsRead n 0 s t)) (sym e) (prefix_sound o.0 s o.1))

  cast_sound : (s : Scope) (ts : List Token) → IfOk (cast_at r s ts) (IsRead n 0 s ts)
  unfolding cast_at
  cast_sound s (token.Open ∷ ts) = tested (starts_type s ts) _ _ _ (λ e. conversion_sound s ts) (λ e. postfix_sound s (token.Open ∷ ts))
  cast_sound s (token.Sizeof ∷ ts) = size_sound s ts
  cast_sound s ts = operand_sound s ts

  abbrev IsJoint : Sort → Scope → List Token → Joint × List Token → Type 0
  IsJoint o s ts x = (sign_of_sort o ∷ ts ≡ spell_joint x.0 x.1) × FitsJoint n s x.0 × (sort_height o ≡ height_of x.0) × ((left : Expr) → may_join left o ≡ true → Joins left x.0)

  choice_sound : (s : Scope) (ts : List Token) → IfOk (choice_at r s ts) (IsJoint OfChoice s ts)
  unfolding choice_at
  choice_sound s ts =
      ok_then (r.expr 13 s ts) _ (InExpr 13 s ts) _ (i.expr 13 s ts) (λ x p.
      ok_then (colon_at x.1) _ (λ rest. x.1 ≡ token.Colon ∷ rest) _ (colon_sound x.1) (λ rest c.
      (ap (λ r. token.Question ∷ r) (p.0 ∙ ap (spell x.0) c), choice_fits n s x.0 p.1, refl, λ left e. tt)))

  joint_sound : (o : Sort) (s : Scope) (ts : List Token) → IfOk (joint_at r o s ts) (IsJoint o s ts)
  unfolding joint_at
  joint_sound (OfInfix o) s ts = (refl, fit n, refl, λ left e. tt)
    where
      fit : (n : ℕ) → FitsJoint n s (Infix o)
      fit zero = tt
      fit (suc n) = tt
  joint_sound OfChoice s ts = choice_sound s ts
  joint_sound (OfAssign o) s ts = (refl, fit n, refl, λ left e. e)
    where
      fit : (n : ℕ) → FitsJoint n s (Assign o)
      fit zero = tt
      fit (suc n) = tt
  joint_sound OfComma s ts = (refl, fit n, refl, λ left e. tt)
    where
      fit : (n : ℕ) → FitsJoint n s Comma
      fit zero = tt
      fit (suc n) = tt

  abbrev AreLinks : ℕ → Expr → Scope → List Token → Links × List Token → Type 0
  AreLinks h left s ts y = (ts ≡ spell_links y.0 y.1) × FitsLinks n h s left y.0

  links_sound : (lower : Reader Expr) (h : ℕ) → ((s : Scope) (ts : List Token) → IfOk (lower s ts) (IsRead n h s ts)) → (k : ℕ) (left : Expr) (s : Scope) (ts : List Token) → IfOk (links_at r lower h k left s ts) (AreLinks h left s ts)
  unfolding links_at
  links_sound lower h sound zero left s ts = (refl, tt)
  links_sound lower h sound (suc k) left s ts =
      chosen (link_at h left ts) _ _ (IsLink h left ts) _ (link_sound h left ts) (λ _. (refl, tt)) (λ o l.
      ok_then (joint_at r o.0 s o.1) _ (IsJoint o.0 s o.1) _ (joint_sound o.0 s o.1) (λ j m.
      ok_then (lower (after_joint j.0 s) j.1) _ (IsRead n h (after_joint j.0 s) j.1) _ (sound (after_joint j.0 s) j.1) (λ x p.
      ok_then (links_at r lower h k x.0 (after x.0 (after_joint j.0 s)) x.1) _ (AreLinks h x.0 (after x.0 (after_joint j.0 s)) x.1) _ (links_sound lower h sound k x.0 (after x.0 (after_joint j.0 s)) x.1) (λ y q.
      (l.0 ∙ m.0 ∙ ap (spell_joint j.0) (p.0 ∙ ap (spell x.0) q.0), (sym m.2 ∙ l.1, m.3 left l.2, m.1, p.1, q.1))))))

  pub level_sound : (h : ℕ) (s : Scope) (ts : List Token) → IfOk (level_at r h s ts) (IsRead n h s ts)
  unfolding level_at
  level_sound zero s ts = cast_sound s ts
  level_sound (suc h) s ts =
      ok_then (level_at r h s ts) _ (IsRead n h s ts) _ (level_sound h s ts) (λ x p.
      ok_then (links_at r (level_at r h) h (length x.1) x.0 (after x.0 s) x.1) _ (AreLinks h x.0 (after x.0 s) x.1) _ (links_sound (level_at r h) h (level_sound h) (length x.1) x.0 (after x.0 s) x.1) (λ y q.
      (p.0 ∙ ap (spell x.0) q.0 ∙ sym (chain_spell h x.0 y.0 y.1), chain_fits n h s x.0 y.0 p.1 q.1)))

  -- specifiers

  abbrev pub AreDecls : Scope → List Token → Decls × List Token → Type 0
  AreDecls s ts y = (ts ≡ spell_decls y.0 y.1) × FitsDecls n s y.0

  pub decls_sound : (k : ℕ) (s : Scope) (ts : List Token) → IfOk (decls_at r k s ts) (AreDecls s ts)
  unfolding decls_at
  decls_sound zero s ts = (refl, tt)
  decls_sound (suc k) s ts =
      chosen (comma_at ts) _ _ (IsComma ts) _ (comma_sound ts) (λ _. (refl, tt)) (λ rest c.
      ok_then (r.decl Named s rest) _ (InDecl Named s rest) _ (i.decl Named s rest) (λ x p.
      ok_then (decls_at r k (after_decl x.0 s) x.1) _ (AreDecls (after_decl x.0 s) x.1) _ (decls_sound k (after_decl x.0 s) x.1) (λ y q.
      (c ∙ ap (λ r. token.Comma ∷ r) (p.0 ∙ ap (spell_decl x.0) q.0), decls_fit n s x.0 y.0 p.1 q.1))))

  abbrev AreMembers : Scope → List Token → Members × List Token → Type 0
  AreMembers s ts y = (ts ≡ spell_members y.0 y.1) × FitsMembers n s y.0

  members_sound : (k : ℕ) (s : Scope) (ts : List Token) → IfOk (members_at r k s ts) (AreMembers s ts)
  unfolding members_at
  members_sound zero s ts = (refl, tt)
  members_sound (suc k) s ts =
      tested (ends_braces ts) _ _ _ (λ e. (refl, tt)) (λ e.
      ok_then (r.typed Named s ts) _ (InTyped Named s ts) _ (i.typed Named s ts) (λ x p.
      ok_then (decls_at r (length x.1) (after_typed x.0 s) x.1) _ (AreDecls (after_typed x.0 s) x.1) _ (decls_sound (length x.1) (after_typed x.0 s) x.1) (λ d m.
      ok_then (semi_at d.1) _ (λ rest. d.1 ≡ token.Semi ∷ rest) _ (semi_sound d.1) (λ rest c.
      ok_then (members_at r k (after_decls d.0 (after_typed x.0 s)) rest) _ (AreMembers (after_decls d.0 (after_typed x.0 s)) rest) _ (members_sound k (after_decls d.0 (after_typed x.0 s)) rest) (λ y q.
      (p.0 ∙ ap (spell_typed x.0) (m.0 ∙ ap (spell_decls d.0) (c ∙ ap (λ r. token.Semi ∷ r) q.0)), member_fits n s x.0 d.0 y.0 p.1 m.1 q.1))))))

  abbrev pub IsSpec : Bool → Scope → List Token → Spec × List Token → Type 0
  IsSpec based s ts x = (ts ≡ spell_spec x.0 x.1) × FitsSpec n based s x.0

  struct_body_sound : (based : Bool) (tag : Option ℕ) (s : Scope) (ts : List Token) → IfOk (struct_body_at r tag s ts) (IsSpec based s (token.Struct ∷ spell_tag tag (token.BraceOpen ∷ ts)))
  unfolding struct_body_at
  struct_body_sound based tag s ts =
      ok_then (members_at r (length ts) s ts) _ (AreMembers s ts) _ (members_sound (length ts) s ts) (λ x p.
      ok_then (braced_at x.1) _ (λ rest. x.1 ≡ token.BraceClose ∷ rest) _ (braced_sound x.1) (λ rest c.
      (ap (λ r. token.Struct ∷ spell_tag tag (token.BraceOpen ∷ r)) (p.0 ∙ ap (spell_members x.0) c), p.1)))

  struct_sound : (based : Bool) (s : Scope) (ts : List Token) → IfOk (struct_at r s ts) (IsSpec based s (token.Struct ∷ ts))
  unfolding struct_at
  struct_sound based s (token.BraceOpen ∷ ts) = struct_body_sound based None s ts
  struct_sound based s (token.Name k ∷ token.BraceOpen ∷ ts) = struct_body_sound based (Some k) s ts
  struct_sound based s (token.Name k ∷ []) = (refl, tt)
  struct_sound based s (token.Name k ∷ _ ∷ ts) = (refl, tt)
  struct_sound based s [] = tt
  struct_sound based s (_ ∷ ts) = tt

  abbrev pub IsItem : Scope → List Token → Item × List Token → Type 0
  IsItem s ts x = (ts ≡ spell_item x.0 x.1) × FitsItem n s x.0

  valued_sound : (k : ℕ) (s : Scope) (ts : List Token) → IfOk (valued_at r k s ts) (IsItem s (token.Name k ∷ token.Equals ∷ ts))
  unfolding valued_at
  valued_sound k s ts =
      ok_then (r.expr 11 s ts) _ (InExpr 11 s ts) _ (i.expr 11 s ts) (λ x p. (ap (λ r. token.Name k ∷ token.Equals ∷ r) p.0, valued_fits n s k x.0 p.1))

  pub item_sound : (s : Scope) (ts : List Token) → IfOk (item_at r s ts) (IsItem s ts)
  unfolding item_at
  item_sound s (token.Name k ∷ token.Equals ∷ ts) = valued_sound k s ts
  item_sound s (token.Name k ∷ []) = (refl, plain_fits n s k)
  item_sound s (token.Name k ∷ _ ∷ ts) = (refl, plain_fits n s k)
  item_sound s [] = tt
  item_sound s (_ ∷ ts) = tt

  abbrev AreItems : Scope → List Token → Items × List Token → Type 0
  AreItems s ts y = (ts ≡ spell_items y.0 y.1) × FitsItems n s y.0

  items_sound : (k : ℕ) (s : Scope) (ts : List Token) → IfOk (items_at r k s ts) (AreItems s ts)
  unfolding items_at
  items_sound zero s ts = (refl, tt)
  items_sound (suc k) s ts =
      chosen (next_item ts) _ _ (IsNext ts) _ (next_sound ts) (λ _. (refl, tt)) (λ rest c.
      ok_then (item_at r s rest) _ (IsItem s rest) _ (item_sound s rest) (λ x p.
      ok_then (items_at r k (after_item x.0 s) x.1) _ (AreItems (after_item x.0 s) x.1) _ (items_sound k (after_item x.0 s) x.1) (λ y q.
      (c ∙ ap (λ r. token.Comma ∷ r) (p.0 ∙ ap (spell_item x.0) q.0), (p.1, q.1)))))

  enum_body_sound : (based : Bool) (tag : Option ℕ) (s : Scope) (ts : List Token) → IfOk (enum_body_at r tag s ts) (IsSpec based s (token.Enum ∷ spell_tag tag (token.BraceOpen ∷ ts)))
  unfolding enum_body_at
  enum_body_sound based tag s ts =
      ok_then (item_at r s ts) _ (IsItem s ts) _ (item_sound s ts) (λ x p.
      ok_then (items_at r (length x.1) (after_item x.0 s) x.1) _ (AreItems (after_item x.0 s) x.1) _ (items_sound (length x.1) (after_item x.0 s) x.1) (λ y q.
      ok_then (braced_at (last_comma y.1).1) _ (λ rest. (last_comma y.1).1 ≡ token.BraceClose ∷ rest) _ (braced_sound (last_comma y.1).1) (λ rest c.
      (ap (λ r. token.Enum ∷ spell_tag tag (token.BraceOpen ∷ r)) (p.0 ∙ ap (spell_item x.0) (q.0 ∙ ap (spell_items y.0) (last_sound y.1 ∙ ap (spell_comma (last_comma y.1).0) c))), (p.1, q.1)))))

  enum_sound : (based : Bool) (s : Scope) (ts : List Token) → IfOk (enum_at r s ts) (IsSpec based s (token.Enum ∷ ts))
  unfolding enum_at
  enum_sound based s (token.BraceOpen ∷ ts) = enum_body_sound based None s ts
  enum_sound based s (token.Name k ∷ token.BraceOpen ∷ ts) = enum_body_sound based (Some k) s ts
  enum_sound based s (token.Name k ∷ []) = (refl, tt)
  enum_sound based s (token.Name k ∷ _ ∷ ts) = (refl, tt)
  enum_sound based s [] = tt
  enum_sound based s (_ ∷ ts) = tt

  ranked_sound : (based : Bool) (s : Scope) (ts : List Token) → IfOk (ranked_at s ts) (IsSpec based s (token.DescriptorOfRank ∷ ts))
  unfolding ranked_at
  ranked_sound based s (token.Open ∷ token.Number k t ∷ token.Close ∷ ts) = tested (ltb k 16) _ _ _ (λ e. (refl, ltb-true k 16 e)) (λ e. tt)
  ranked_sound based s _ = tt

  pub spec_sound : (based : Bool) (s : Scope) (ts : List Token) → begins_spec based s ts ≡ true → IfOk (spec_at r s ts) (IsSpec based s ts)
  unfolding spec_at
  spec_sound based s (token.Name k ∷ ts) e = (refl, begins_name based s k ts e)
  spec_sound based s (token.Word w ∷ ts) e = (refl, tt)
  spec_sound based s (token.Struct ∷ ts) e = struct_sound based s ts
  spec_sound based s (token.Enum ∷ ts) e = enum_sound based s ts
  spec_sound based s (token.DescriptorOfRank ∷ ts) e = ranked_sound based s ts
  spec_sound based s [] e = tt
  spec_sound based s (_ ∷ ts) e = tt

  abbrev pub AreSpecs : Bool → Scope → List Token → Specs × List Token → Type 0
  AreSpecs based s ts y = (ts ≡ spell_specs y.0 y.1) × FitsSpecs n based s y.0 × (begins_spec (is_based based y.0) (after_specs y.0 s) y.1 ≡ false)

  pub specs_sound : (k : ℕ) (based : Bool) (s : Scope) (ts : List Token) → length ts ≤ k → IfOk (specs_at r k based s ts) (AreSpecs based s ts)
  unfolding specs_at
  specs_sound zero based s ts le = (refl, tt, none_begins based s ts le)
  specs_sound (suc k) based s ts le =
      tested (begins_spec based s ts) _ _ _ (λ e.
      ok_then (spec_at r s ts) _ (IsSpec based s ts) _ (spec_sound based s ts e) (λ x p.
      ok_then (specs_at r k (or based (is_base x.0)) (after_spec x.0 s) x.1) _ (AreSpecs (or based (is_base x.0)) (after_spec x.0 s) x.1) _ (specs_sound k (or based (is_base x.0)) (after_spec x.0 s) x.1 (omega (arith, le, ap length p.0, grows_spec x.0 x.1))) (λ y q.
      (p.0 ∙ ap (spell_spec x.0) q.0, (p.1, q.1), q.2))))
      (λ e. (refl, tt, e))

  abbrev pub AreSpecifiers : Scope → List Token → Specs × List Token → Type 0
  AreSpecifiers s ts y = (ts ≡ spell_specs y.0 y.1) × FitsSpecifiers n s y.0 × (begins_spec (is_based false y.0) (after_specs y.0 s) y.1 ≡ false)

  pub specifiers_sound : (s : Scope) (ts : List Token) → IfOk (specifiers_at r s ts) (AreSpecifiers s ts)
  unfolding specifiers_at
  specifiers_sound s ts =
      tested (starts_type s ts) _ _ _
      (λ b. ok_also (specs_at r (length ts) false s ts) (AreSpecs false s ts) (AreSpecifiers s ts) (specs_sound (length ts) false s ts (omega arith)) (λ y p. (p.0, some_fit n s y.0 ts y.1 b p.0 p.1 p.2, p.2)))
      (λ b. tt)

  -- declarators

  abbrev IsCore : Allowed → Scope → List Token → Core × List Token → Type 0
  IsCore a s ts x = (ts ≡ spell_core x.0 x.1) × FitsCore n a s x.0

  group_sound : (a : Allowed) (s : Scope) (ts : List Token) → opens_list a s ts ≡ false → IfOk (group_at r a s ts) (IsCore a s (token.Open ∷ ts))
  unfolding group_at
  group_sound a s ts e =
      ok_then (r.decl a s ts) _ (InDecl a s ts) _ (i.decl a s ts) (λ x p.
      ok_then (closed_at x.1) _ (λ rest. x.1 ≡ token.Close ∷ rest) _ (closed_sound x.1) (λ rest c.
      (let spelled = p.0 ∙ ap (spell_decl x.0) c in
      (ap (λ r. token.Open ∷ r) spelled, group_fits n a s x.0 p.1 (grouped a s x.0 rest (ap (opens_list a s) (sym spelled) ∙ e))))))

  core_sound : (a : Allowed) (s : Scope) (ts : List Token) → IfOk (core_at r a s ts) (IsCore a s ts)
  unfolding core_at
  core_sound a s (token.Name k ∷ ts) = tested (takes_name a) _ _ _ (λ e. (refl, takes_is a e)) (λ e. (refl, takes_not a e))
  core_sound a s (token.Open ∷ ts) = tested (opens_list a s ts) _ _ _ (λ e. (refl, opens_not a s ts e)) (λ e. group_sound a s ts e)
  core_sound a s _ = tested (needs_name a) _ _ _ (λ e. tt) (λ e. (refl, needs_not a e))

  abbrev AreMore : Scope → List Token → More × List Token → Type 0
  AreMore s ts y = (ts ≡ spell_more y.0 y.1) × FitsMore n s y.0

  more_sound : (k : ℕ) (s : Scope) (ts : List Token) → IfOk (more_at r k s ts) (AreMore s ts)
  unfolding more_at
  more_sound zero s ts = (refl, tt)
  more_sound (suc k) s ts =
      chosen (comma_at ts) _ _ (IsComma ts) _ (comma_sound ts) (λ _. (refl, tt)) (λ rest c.
      ok_then (r.typed Either s rest) _ (InTyped Either s rest) _ (i.typed Either s rest) (λ x p.
      ok_then (more_at r k (after_param x.0 s) x.1) _ (AreMore (after_param x.0 s) x.1) _ (more_sound k (after_param x.0 s) x.1) (λ y q.
      (c ∙ ap (λ r. token.Comma ∷ r) (p.0 ∙ ap (spell_typed x.0) q.0), more_fits n s x.0 y.0 p.1 q.1))))

  abbrev AreParams : Scope → List Token → Params × List Token → Type 0
  AreParams s ts x = (ts ≡ spell_params x.0 (token.Close ∷ x.1)) × FitsParams n s x.0

  list_sound : (s : Scope) (ts : List Token) → void_at ts ≡ None → IfOk (list_at r s ts) (AreParams s ts)
  unfolding list_at
  list_sound s ts e =
      ok_then (r.typed Either s ts) _ (InTyped Either s ts) _ (i.typed Either s ts) (λ x p.
      ok_then (more_at r (length x.1) (after_param x.0 s) x.1) _ (AreMore (after_param x.0 s) x.1) _ (more_sound (length x.1) (after_param x.0 s) x.1) (λ y q.
      ok_then (closed_at y.1) _ (λ rest. y.1 ≡ token.Close ∷ rest) _ (closed_sound y.1) (λ rest c.
      (let spelled = p.0 ∙ ap (spell_typed x.0) (q.0 ∙ ap (spell_more y.0) c) in
      (spelled, params_fit n s x.0 y.0 p.1 q.1 (a_param x.0 y.0 rest (ap void_at (sym spelled) ∙ e)))))))

  params_sound : (s : Scope) (ts : List Token) → IfOk (params_at r s ts) (AreParams s ts)
  unfolding params_at
  params_sound s ts =
      chosen (ends_list ts) _ _ (IsEnd ts) _ (end_sound ts)
      (λ _. chosen (void_at ts) _ _ (IsVoid ts) _ (void_sound ts) (λ e. list_sound s ts e) (λ rest e. (e, no_fit n s)))
      (λ rest e. (e, none_fit n s))
    where
      no_fit : (n : ℕ) (s : Scope) → FitsParams n s OnlyVoid
      no_fit zero s = tt
      no_fit (suc n) s = tt

      none_fit : (n : ℕ) (s : Scope) → FitsParams n s NoParams
      none_fit zero s = tt
      none_fit (suc n) s = tt

  abbrev pub IsSuffix : Scope → List Token → Suffix × List Token → Type 0
  IsSuffix s ts x = (ts ≡ spell_suffix x.0 x.1) × FitsSuffix n s x.0

  bound_sound : (s : Scope) (ts : List Token) → IfOk (bound_at r s ts) (IsSuffix s (token.SquareOpen ∷ ts))
  unfolding bound_at
  bound_sound s ts =
      ok_then (r.expr 11 s ts) _ (InExpr 11 s ts) _ (i.expr 11 s ts) (λ x p.
      ok_then (squared_at x.1) _ (λ rest. x.1 ≡ token.SquareClose ∷ rest) _ (squared_sound x.1) (λ rest c.
      (ap (λ r. token.SquareOpen ∷ r) (p.0 ∙ ap (spell x.0) c), array_fits n s x.0 p.1)))

  pub array_sound : (s : Scope) (ts : List Token) → IfOk (array_at r s ts) (IsSuffix s (token.SquareOpen ∷ ts))
  unfolding array_at
  array_sound s (token.SquareClose ∷ ts) = (refl, open_fits n s)
    where
      open_fits : (n : ℕ) (s : Scope) → FitsSuffix n s OpenArray
      open_fits zero s = tt
      open_fits (suc n) s = tt
  array_sound s ts = bound_sound s ts

  pub function_sound : (s : Scope) (ts : List Token) → IfOk (function_at r s ts) (IsSuffix s (token.Open ∷ ts))
  unfolding function_at
  function_sound s ts = ok_then (params_at r s ts) _ (AreParams s ts) _ (params_sound s ts) (λ x p. (ap (λ r. token.Open ∷ r) p.0, fits n s x.0 p.1))
    where
      fits : (n : ℕ) (s : Scope) (ps : Params) → FitsParams n s ps → FitsSuffix n s (Function ps)
      fits zero s ps f = f
      fits (suc n) s ps f = f

  abbrev AreSuffixes : Scope → List Token → Suffixes × List Token → Type 0
  AreSuffixes s ts y = (ts ≡ spell_suffixes y.0 y.1) × FitsSuffixes n s y.0

  suffixes_sound : (k : ℕ) (s : Scope) (ts : List Token) → IfOk (suffixes_at r k s ts) (AreSuffixes s ts)
  unfolding suffixes_at
  suffixes_sound zero s ts = (refl, tt)
  suffixes_sound (suc k) s (token.SquareOpen ∷ ts) =
      ok_then (array_at r s ts) _ (IsSuffix s (token.SquareOpen ∷ ts)) _ (array_sound s ts) (λ x p.
      ok_then (suffixes_at r k (after_suffix x.0 s) x.1) _ (AreSuffixes (after_suffix x.0 s) x.1) _ (suffixes_sound k (after_suffix x.0 s) x.1) (λ y q.
      (p.0 ∙ ap (spell_suffix x.0) q.0, (p.1, q.1))))
  suffixes_sound (suc k) s (token.Open ∷ ts) =
      ok_then (function_at r s ts) _ (IsSuffix s (token.Open ∷ ts)) _ (function_sound s ts) (λ x p.
      ok_then (suffixes_at r k (after_suffix x.0 s) x.1) _ (AreSuffixes (after_suffix x.0 s) x.1) _ (suffixes_sound k (after_suffix x.0 s) x.1) (λ y q.
      (p.0 ∙ ap (spell_suffix x.0) q.0, (p.1, q.1))))
  suffixes_sound (suc k) s [] = (refl, tt)
  suffixes_sound (suc k) s (_ ∷ ts) = (refl, tt)

  pub decl_sound : (a : Allowed) (s : Scope) (ts : List Token) → IfOk (decl_at r a s ts) (λ x. (ts ≡ spell_decl x.0 x.1) × FitsDecl n a s x.0)
  unfolding decl_at
  decl_sound a s ts =
      let m = marks_sound ts in
      ok_then (core_at r a s (marks_at ts).1) _ (IsCore a s (marks_at ts).1) _ (core_sound a s (marks_at ts).1) (λ x p.
      ok_then (suffixes_at r (length x.1) (after_core x.0 s) x.1) _ (AreSuffixes (after_core x.0 s) x.1) _ (suffixes_sound (length x.1) (after_core x.0 s) x.1) (λ y q.
      (m.0 ∙ ap (spell_marks (marks_at ts).0) (p.0 ∙ ap (spell_core x.0) q.0), (m.1, p.1, q.1))))

  pub typed_sound : (a : Allowed) (s : Scope) (ts : List Token) → IfOk (typed_at r a s ts) (λ x. (ts ≡ spell_typed x.0 x.1) × FitsTyped n a s x.0)
  unfolding typed_at
  typed_sound a s ts =
      ok_then (specifiers_at r s ts) _ (AreSpecifiers s ts) _ (specifiers_sound s ts) (λ x p.
      ok_then (decl_at r a (after_specs x.0 s) x.1) _ (λ y. (x.1 ≡ spell_decl y.0 y.1) × FitsDecl n a (after_specs x.0 s) y.0) _ (decl_sound a (after_specs x.0 s) x.1) (λ y q.
      (p.0 ∙ ap (spell_specs x.0) q.0, (p.1, q.1, no_base (is_based false x.0) (after_specs x.0 s) y.0 y.1 (ap (begins_spec (is_based false x.0) (after_specs x.0 s)) (sym q.0) ∙ p.2)))))

pub inner_sound : (n : ℕ) → SoundInner (inner n) n
unfolding inner
inner_sound zero = record { expr = λ h s ts. tt; decl = λ a s ts. tt; typed = λ a s ts. tt }
inner_sound (suc n) = record { expr = λ h s ts. level_sound (inner n) n (inner_sound n) h s ts; decl = λ a s ts. decl_sound (inner n) n (inner_sound n) a s ts; typed = λ a s ts. typed_sound (inner n) n (inner_sound n) a s ts }
