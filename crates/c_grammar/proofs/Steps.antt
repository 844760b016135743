-- One step of each reader, by what its parts read.
use Rattle.std.proofs.Common.{◌≡◌, ℕ, zero, suc, ◌≤◌, ◌<◌, Bool, true, false, List, [], ◌∷◌, length, Option, Some, None, Ok, refl, subst, ◌∙◌, arith, ⊎_elim}
use Rattle.std.proofs.lemmas.Bool.{eq-eqb, lt-ltb, cases_lt}
use Rattle.c_tree.specs.declared.operator.ConstantType.{ConstantType}
use Rattle.c_tree.specs.declared.operator.SpecifierWord.{SpecifierWord}
use Rattle.c_tree.specs.declared.operator.SpecifierWord.TheVariants as word
use Rattle.c_tree.specs.declared.operator.PointerMark.{PointerMark}
use Rattle.c_tree.specs.declared.operator.BinaryOperator.{BinaryOperator}
use Rattle.c_tree.specs.declared.operator.AssignOperator.{AssignOperator}
use Rattle.c_tree.specs.declared.operator.PrefixOperator.{PrefixOperator}
use Rattle.c_tree.specs.declared.operator.PrefixOperator.TheVariants as pre
use Rattle.c_grammar.specs.declared.token.Allowed.{Allowed}
use Rattle.c_grammar.specs.declared.token.Allowed.TheVariants.{Named, Abstract, Either}
use Rattle.c_grammar.specs.declared.token.Token.{Token}
use Rattle.c_grammar.specs.declared.token.Token.TheVariants as token
use Rattle.c_grammar.specs.Grammar.{Ranked, Scope, is_type, starts_type, Expr, Name, Number, Byte, Texts, Paren, Postfix, Prefix, SizeOfExpr, SizeOf, Cast, Chain, Posts, no_posts, post, Post, Index, Call, CallNothing, Member, Arrow, Increment, Decrement, Joint, Infix, Choose, Assign, Comma, Links, no_links, link, Sort, OfInfix, OfChoice, OfAssign, OfComma, sort_height, begins_post, is_unary, is_primary, takes_operand, after_joint, after_post, sign_of_prefix, spell_joint, spell_texts, Joins, ArePosts, NoText, Typed, typed, Specs, no_specs, spec, Spec, Keyword, TypeName, Struct, Members, no_members, member, Decl, decl, Core, Absent, Id, Group, Suffixes, no_suffixes, suffix, Suffix, OpenArray, Array, Function, Params, NoParams, OnlyVoid, Some_params, More, no_more, param, height_of, after, after_typed, after_specs, after_spec, after_core, after_suffix, after_param, is_base, or, spell, spell_suffixes, IsLinked, Fits, FitsSuffixes, Stops, Ends, StructTag, EnumTag, Enum, Decls, no_decls, another, Item, Plain, Valued, Items, no_items, item, after_decls, after_decl, after_item, spell_item, spell_tag, spell_comma, NoBraces}
use Rattle.c_grammar.specs.Reading.{ranked_at, Reader, Inner, closed_at, squared_at, braced_at, semi_at, comma_at, ends_braces, ends_list, void_at, marks_at, colon_at, may_join, picked, link_at, prefix_of, texts_at, paren_at, primary_at, index_at, arguments_at, call_at, post_at, posts_at, with_posts, postfix_at, prefix_at, conversion_at, size_of_at, type_size_at, size_at, cast_at, choice_at, joint_at, links_at, chain, level_at, begins_spec, members_at, struct_at, enum_at, spec_at, specs_at, specifiers_at, opens_list, group_at, core_at, more_at, list_at, params_at, bound_at, array_at, function_at, suffixes_at, decl_at, typed_at, decls_at, struct_body_at, valued_at, item_at, next_item, items_at, last_comma, enum_body_at}
use Rattle.c_grammar.proofs.Beginnings.{primary_first, opens_params, takes, needs}
use Rattle.c_grammar.proofs.Stopping.{stops_lower, no_link, sort_of_sign, sort_of_set, NoEquals}

abbrev pub sort_of_joint : Joint → Sort
sort_of_joint (Infix o) = OfInfix o
sort_of_joint (Choose v) = OfChoice
sort_of_joint (Assign o) = OfAssign o
sort_of_joint Comma = OfComma

-- what stands behind a joint's first token
abbrev pub joint_rest : Joint → List Token → List Token
joint_rest (Choose v) rest = spell v (token.Colon ∷ rest)
joint_rest _ rest = rest

pub picked_again : (h : ℕ) (left : Expr) (ts : List Token) (o : Sort) → sort_height o ≡ suc h → may_join left o ≡ true → picked h left ts (Some o) ≡ Some (o, ts)
unfolding picked
picked_again h left ts o e m = rw (eq-eqb (sort_height o) (suc h) e, m) refl

pub link_again : (h : ℕ) (left : Expr) (j : Joint) (rest : List Token) → height_of j ≡ suc h → Joins left j → link_at h left (spell_joint j rest) ≡ Some (sort_of_joint j, joint_rest j rest)
unfolding link_at
link_again h left (Infix o) rest e m = rw (sort_of_sign o) (picked_again h left rest (OfInfix o) e refl)
link_again h left (Choose v) rest e m = picked_again h left _ OfChoice e refl
link_again h left (Assign o) rest e m = rw (sort_of_set o) (picked_again h left rest (OfAssign o) e m)
link_again h left Comma rest e m = picked_again h left rest OfComma e refl

pub choice_step : (r : Inner) (s : Scope) (v : Expr) (ts rest : List Token) → r.expr 13 s ts ≡ Ok (v, token.Colon ∷ rest) → choice_at r s ts ≡ Ok (Choose v, rest)
unfolding choice_at colon_at
choice_step r s v ts rest e = rw e refl

pub joint_infix : (r : Inner) (o : BinaryOperator) (s : Scope) (rest : List Token) → joint_at r (OfInfix o) s rest ≡ Ok (Infix o, rest)
unfolding joint_at
joint_infix r o s rest = refl

pub joint_assign : (r : Inner) (o : AssignOperator) (s : Scope) (rest : List Token) → joint_at r (OfAssign o) s rest ≡ Ok (Assign o, rest)
unfolding joint_at
joint_assign r o s rest = refl

pub joint_comma : (r : Inner) (s : Scope) (rest : List Token) → joint_at r OfComma s rest ≡ Ok (Comma, rest)
unfolding joint_at
joint_comma r s rest = refl

pub joint_choice : (r : Inner) (s : Scope) (v : Expr) (ts rest : List Token) → r.expr 13 s ts ≡ Ok (v, token.Colon ∷ rest) → joint_at r OfChoice s ts ≡ Ok (Choose v, rest)
unfolding joint_at
joint_choice r s v ts rest e = choice_step r s v ts rest e

pub link_stop : (r : Inner) (lower : Reader Expr) (h m : ℕ) (left : Expr) (s : Scope) (ts : List Token) → link_at h left ts ≡ None → links_at r lower h m left s ts ≡ Ok (no_links, ts)
unfolding links_at
link_stop r lower h zero left s ts e = refl
link_stop r lower h (suc m) left s ts e = rw e refl

pub link_step : (r : Inner) (lower : Reader Expr) (h m : ℕ) (left : Expr) (s : Scope) (ts r0 r1 r2 rest : List Token) (o : Sort) (j : Joint) (e : Expr) (more : Links) → link_at h left ts ≡ Some (o, r0) → joint_at r o s r0 ≡ Ok (j, r1) → lower (after_joint j s) r1 ≡ Ok (e, r2) → links_at r lower h m e (after e (after_joint j s)) r2 ≡ Ok (more, rest) → links_at r lower h (suc m) left s ts ≡ Ok (link j e more, rest)
unfolding links_at
link_step r lower h m left s ts r0 r1 r2 rest o j e more e1 e2 e3 e4 = rw (e1, e2, e3, e4) refl

pub chain_step : (r : Inner) (h : ℕ) (s : Scope) (ts mid rest : List Token) (first : Expr) (links : Links) → level_at r h s ts ≡ Ok (first, mid) → links_at r (level_at r h) h (length mid) first (after first s) mid ≡ Ok (links, rest) → level_at r (suc h) s ts ≡ Ok (chain h first links, rest)
unfolding level_at
chain_step r h s ts mid rest first links e1 e2 = rw (e1, e2) refl

-- what a height reads, a greater one reads too
pub lift : (r : Inner) (k h : ℕ) (s : Scope) (e : Expr) (ts rest : List Token) → level_at r k s ts ≡ Ok (e, rest) → k ≤ h → Stops h rest → level_at r h s ts ≡ Ok (e, rest)
lift r k zero s e ts rest q le stop = let z : k ≡ 0 = omega arith in subst (λ j. level_at r j s ts ≡ Ok (e, rest)) z q
lift r k (suc h) s e ts rest q le stop =
    ⊎_elim
    (λ lt. let low : k ≤ h = omega (arith, lt) in
    chain_step r h s ts rest rest e no_links (lift r k h s e ts rest q low (stops_lower (suc h) h rest (omega arith) stop)) (link_stop r (level_at r h) h (length rest) e (after e s) rest (no_link h e rest stop)))
    (λ ge. let z : k ≡ suc h = omega (arith, ge, le) in subst (λ j. level_at r j s ts ≡ Ok (e, rest)) z q)
    (cases_lt k (suc h))

pub low : (r : Inner) (h : ℕ) (s : Scope) (e : Expr) (ts rest : List Token) → Stops h rest → cast_at r s ts ≡ Ok (e, rest) → level_at r h s ts ≡ Ok (e, rest)
unfolding level_at
low r h s e ts rest stop q = lift r 0 h s e ts rest q (omega arith) stop

pub chain_is : (h : ℕ) (first : Expr) (links : Links) → IsLinked links → chain h first links ≡ Chain h first links
chain_is h first no_links c = absurd c
chain_is h first (link j e more) c = refl

pub name_step : (r : Inner) (s : Scope) (k : ℕ) (rest : List Token) → is_type s k ≡ false → primary_at r s (token.Name k ∷ rest) ≡ Ok (Name k, rest)
unfolding primary_at
name_step r s k rest e = rw e refl

pub number_step : (r : Inner) (s : Scope) (k : ℕ) (t : ConstantType) (rest : List Token) → primary_at r s (token.Number k t ∷ rest) ≡ Ok (Number k t, rest)
unfolding primary_at
number_step r s k t rest = refl

pub byte_step : (r : Inner) (s : Scope) (k : ℕ) (rest : List Token) → primary_at r s (token.Byte k ∷ rest) ≡ Ok (Byte k, rest)
unfolding primary_at
byte_step r s k rest = refl

pub texts_again : (ks : List ℕ) (rest : List Token) → NoText rest → texts_at (spell_texts ks rest) ≡ (ks, rest)
unfolding texts_at
texts_again [] (token.Text k ∷ ts) n = absurd n
texts_again [] [] n = refl
texts_again [] (_ ∷ ts) n = refl
texts_again (k ∷ ks) rest n = rw (texts_again ks rest n) refl

pub texts_step : (r : Inner) (s : Scope) (k : ℕ) (ks : List ℕ) (rest : List Token) → NoText rest → primary_at r s (spell (Texts k ks) rest) ≡ Ok (Texts k ks, rest)
unfolding primary_at
texts_step r s k ks rest n = rw (texts_again ks rest n) refl

pub paren_step : (r : Inner) (s : Scope) (ts rest : List Token) (e : Expr) → r.expr 13 s ts ≡ Ok (e, token.Close ∷ rest) → primary_at r s (token.Open ∷ ts) ≡ Ok (Paren e, rest)
unfolding primary_at paren_at closed_at
paren_step r s ts rest e e1 = rw e1 refl

pub posts_stop : (r : Inner) (m : ℕ) (s : Scope) (rest : List Token) → begins_post rest ≡ false → posts_at r m s rest ≡ Ok (no_posts, rest)
unfolding posts_at
posts_stop r zero s rest e = refl
posts_stop r (suc m) s rest e = rw e refl

pub posts_step : (r : Inner) (m : ℕ) (s : Scope) (ts mid rest : List Token) (one : Post) (more : Posts) → begins_post ts ≡ true → post_at r s ts ≡ Ok (one, mid) → posts_at r m (after_post one s) mid ≡ Ok (more, rest) → posts_at r (suc m) s ts ≡ Ok (post one more, rest)
unfolding posts_at
posts_step r m s ts mid rest one more e1 e2 e3 = rw (e1, e2, e3) refl

pub index_step : (r : Inner) (s : Scope) (ts rest : List Token) (e : Expr) → r.expr 13 s ts ≡ Ok (e, token.SquareClose ∷ rest) → post_at r s (token.SquareOpen ∷ ts) ≡ Ok (Index e, rest)
unfolding post_at index_at squared_at
index_step r s ts rest e e1 = rw e1 refl

pub arguments_step : (r : Inner) (s : Scope) (ts rest : List Token) (e : Expr) → r.expr 13 s ts ≡ Ok (e, token.Close ∷ rest) → arguments_at r s ts ≡ Ok (Call e, rest)
unfolding arguments_at closed_at
arguments_step r s ts rest e e1 = rw e1 refl

pub call_step : (r : Inner) (s : Scope) (ts rest : List Token) (one : Post) → call_at r s ts ≡ Ok (one, rest) → post_at r s (token.Open ∷ ts) ≡ Ok (one, rest)
unfolding post_at
call_step r s ts rest one e = e

pub simple_post : (r : Inner) (s : Scope) (rest : List Token) → (post_at r s (token.Open ∷ token.Close ∷ rest) ≡ Ok (CallNothing, rest)) × (post_at r s (token.Increment ∷ rest) ≡ Ok (Increment, rest)) × (post_at r s (token.Decrement ∷ rest) ≡ Ok (Decrement, rest))
unfolding post_at call_at
simple_post r s rest = (refl, refl, refl)

pub member_post : (r : Inner) (s : Scope) (k : ℕ) (rest : List Token) → (post_at r s (token.Dot ∷ token.Name k ∷ rest) ≡ Ok (Member k, rest)) × (post_at r s (token.Arrow ∷ token.Name k ∷ rest) ≡ Ok (Arrow k, rest))
unfolding post_at
member_post r s k rest = (refl, refl)

pub postfix_step : (r : Inner) (s : Scope) (ts mid rest : List Token) (e : Expr) (posts : Posts) → primary_at r s ts ≡ Ok (e, mid) → posts_at r (length mid) (after e s) mid ≡ Ok (posts, rest) → postfix_at r s ts ≡ Ok (with_posts e posts, rest)
unfolding postfix_at
postfix_step r s ts mid rest e posts e1 e2 = rw (e1, e2) refl

pub posts_is : (e : Expr) (posts : Posts) → ArePosts posts → with_posts e posts ≡ Postfix e posts
posts_is e no_posts c = absurd c
posts_is e (post one more) c = refl

-- a primary expression with no postfix operator
pub alone : (r : Inner) (n h : ℕ) (s : Scope) (e : Expr) (rest : List Token) → Fits n h s e → is_primary e ≡ true → Stops h rest → primary_at r s (spell e rest) ≡ Ok (e, rest) → cast_at r s (spell e rest) ≡ Ok (e, rest)
alone r n h s e rest f p stop q = primary_first r n h s e rest f p ∙ postfix_step r s (spell e rest) rest rest e no_posts q (posts_stop r (length rest) (after e s) rest stop.0)

pub prefix_step : (r : Inner) (o : PrefixOperator) (s : Scope) (ts rest : List Token) (e : Expr) → r.expr 0 s ts ≡ Ok (e, rest) → takes_operand o e ≡ true → prefix_at r o s ts ≡ Ok (Prefix o e, rest)
unfolding prefix_at
prefix_step r o s ts rest e e1 e2 = rw (e1, e2) refl

pub prefix_first : (r : Inner) (o : PrefixOperator) (s : Scope) (ts : List Token) → cast_at r s (sign_of_prefix o ∷ ts) ≡ prefix_at r o s ts
unfolding cast_at prefix_of
prefix_first r pre.Increment s ts = refl
prefix_first r pre.Decrement s ts = refl
prefix_first r pre.Address s ts = refl
prefix_first r pre.Dereference s ts = refl
prefix_first r pre.Plus s ts = refl
prefix_first r pre.Minus s ts = refl
prefix_first r pre.Complement s ts = refl
prefix_first r pre.Not s ts = refl

pub size_of_step : (r : Inner) (s : Scope) (ts rest : List Token) (e : Expr) → r.expr 0 s ts ≡ Ok (e, rest) → is_unary e ≡ true → size_of_at r s ts ≡ Ok (SizeOfExpr e, rest)
unfolding size_of_at
size_of_step r s ts rest e e1 e2 = rw (e1, e2) refl

pub size_first : (r : Inner) (s : Scope) (ts : List Token) → cast_at r s (token.Sizeof ∷ ts) ≡ size_at r s ts
unfolding cast_at
size_first r s ts = refl

pub size_step : (r : Inner) (s : Scope) (ts rest : List Token) (t : Typed) → starts_type s ts ≡ true → r.typed Abstract s ts ≡ Ok (t, token.Close ∷ rest) → cast_at r s (token.Sizeof ∷ token.Open ∷ ts) ≡ Ok (SizeOf t, rest)
unfolding cast_at size_at type_size_at closed_at
size_step r s ts rest t e1 e2 = rw (e1, e2) refl

pub cast_step : (r : Inner) (s : Scope) (ts mid rest : List Token) (t : Typed) (e : Expr) → starts_type s ts ≡ true → r.typed Abstract s ts ≡ Ok (t, token.Close ∷ mid) → r.expr 0 (after_typed t s) mid ≡ Ok (e, rest) → cast_at r s (token.Open ∷ ts) ≡ Ok (Cast t e, rest)
unfolding cast_at conversion_at closed_at
cast_step r s ts mid rest t e e1 e2 e3 = rw (e1, e2, e3) refl

pub specs_stop : (r : Inner) (m : ℕ) (based : Bool) (s : Scope) (ts : List Token) → begins_spec based s ts ≡ false → specs_at r m based s ts ≡ Ok (no_specs, ts)
unfolding specs_at
specs_stop r zero based s ts none = refl
specs_stop r (suc m) based s ts none = rw none refl

pub specs_step : (r : Inner) (m : ℕ) (based : Bool) (s : Scope) (ts mid rest : List Token) (one : Spec) (more : Specs) → begins_spec based s ts ≡ true → spec_at r s ts ≡ Ok (one, mid) → specs_at r m (or based (is_base one)) (after_spec one s) mid ≡ Ok (more, rest) → specs_at r (suc m) based s ts ≡ Ok (spec one more, rest)
unfolding specs_at
specs_step r m based s ts mid rest one more e1 e2 e3 = rw (e1, e2, e3) refl

pub word_step : (r : Inner) (s : Scope) (w : SpecifierWord) (rest : List Token) → spec_at r s (token.Word w ∷ rest) ≡ Ok (Keyword w, rest)
unfolding spec_at
word_step r s w rest = refl

pub type_step : (r : Inner) (s : Scope) (k : ℕ) (rest : List Token) → spec_at r s (token.Name k ∷ rest) ≡ Ok (TypeName k, rest)
unfolding spec_at
type_step r s k rest = refl

pub struct_body_step : (r : Inner) (tag : Option ℕ) (s : Scope) (ts rest : List Token) (ms : Members) → members_at r (length ts) s ts ≡ Ok (ms, token.BraceClose ∷ rest) → struct_body_at r tag s ts ≡ Ok (Struct tag ms, rest)
unfolding struct_body_at braced_at
struct_body_step r tag s ts rest ms e1 = rw e1 refl

pub struct_step : (r : Inner) (tag : Option ℕ) (s : Scope) (ts : List Token) → spec_at r s (token.Struct ∷ spell_tag tag (token.BraceOpen ∷ ts)) ≡ struct_body_at r tag s ts
unfolding spec_at struct_at
struct_step r None s ts = refl
struct_step r (Some k) s ts = refl

pub struct_tag_step : (r : Inner) (k : ℕ) (s : Scope) (rest : List Token) → NoBraces rest → spec_at r s (token.Struct ∷ token.Name k ∷ rest) ≡ Ok (StructTag k, rest)
unfolding spec_at struct_at
struct_tag_step r k s (token.BraceOpen ∷ ts) b = absurd b
struct_tag_step r k s [] b = refl
struct_tag_step r k s (_ ∷ ts) b = refl

pub enum_step : (r : Inner) (tag : Option ℕ) (s : Scope) (ts : List Token) → spec_at r s (token.Enum ∷ spell_tag tag (token.BraceOpen ∷ ts)) ≡ enum_body_at r tag s ts
unfolding spec_at enum_at
enum_step r None s ts = refl
enum_step r (Some k) s ts = refl

pub enum_tag_step : (r : Inner) (k : ℕ) (s : Scope) (rest : List Token) → NoBraces rest → spec_at r s (token.Enum ∷ token.Name k ∷ rest) ≡ Ok (EnumTag k, rest)
unfolding spec_at enum_at
enum_tag_step r k s (token.BraceOpen ∷ ts) b = absurd b
enum_tag_step r k s [] b = refl
enum_tag_step r k s (_ ∷ ts) b = refl

pub ranked_step : (r : Inner) (k : ℕ) (t : ConstantType) (s : Scope) (rest : List Token) → k < 16 → spec_at r s (token.DescriptorOfRank ∷ token.Open ∷ token.Number k t ∷ token.Close ∷ rest) ≡ Ok (Ranked k t, rest)
unfolding spec_at ranked_at
ranked_step r k t s rest f = rw (lt-ltb k 16 f) refl

pub last_again : (c : Bool) (rest : List Token) → last_comma (spell_comma c (token.BraceClose ∷ rest)) ≡ (c, token.BraceClose ∷ rest)
unfolding last_comma
last_again true rest = refl
last_again false rest = refl

pub enum_body_step : (r : Inner) (tag : Option ℕ) (s : Scope) (ts mid t2 rest : List Token) (i : Item) (is : Items) (c : Bool) → item_at r s ts ≡ Ok (i, mid) → items_at r (length mid) (after_item i s) mid ≡ Ok (is, t2) → last_comma t2 ≡ (c, token.BraceClose ∷ rest) → enum_body_at r tag s ts ≡ Ok (Enum tag i is c, rest)
unfolding enum_body_at braced_at
enum_body_step r tag s ts mid t2 rest i is c e1 e2 e3 = rw (e1, e2, e3) refl

pub plain_step : (r : Inner) (s : Scope) (k : ℕ) (rest : List Token) → NoEquals rest → item_at r s (token.Name k ∷ rest) ≡ Ok (Plain k, rest)
unfolding item_at
plain_step r s k (token.Equals ∷ ts) n = absurd n
plain_step r s k [] n = refl
plain_step r s k (_ ∷ ts) n = refl

pub valued_step : (r : Inner) (s : Scope) (k : ℕ) (ts rest : List Token) (e : Expr) → r.expr 11 s ts ≡ Ok (e, rest) → item_at r s (token.Name k ∷ token.Equals ∷ ts) ≡ Ok (Valued k e, rest)
unfolding item_at valued_at
valued_step r s k ts rest e e1 = rw e1 refl

pub items_stop : (r : Inner) (m : ℕ) (s : Scope) (c : Bool) (rest : List Token) → items_at r m s (spell_comma c (token.BraceClose ∷ rest)) ≡ Ok (no_items, spell_comma c (token.BraceClose ∷ rest))
unfolding items_at next_item
items_stop r zero s c rest = refl
items_stop r (suc m) s true rest = refl
items_stop r (suc m) s false rest = refl

pub next_again : (i : Item) (rest : List Token) → next_item (token.Comma ∷ spell_item i rest) ≡ Some (spell_item i rest)
unfolding next_item
next_again (Plain k) rest = refl
next_again (Valued k e) rest = refl

pub items_step : (r : Inner) (m : ℕ) (s : Scope) (ts t1 mid rest : List Token) (i : Item) (more : Items) → next_item ts ≡ Some t1 → item_at r s t1 ≡ Ok (i, mid) → items_at r m (after_item i s) mid ≡ Ok (more, rest) → items_at r (suc m) s ts ≡ Ok (item i more, rest)
unfolding items_at
items_step r m s ts t1 mid rest i more e1 e2 e3 = rw (e1, e2, e3) refl

pub decls_stop : (r : Inner) (m : ℕ) (s : Scope) (rest : List Token) → decls_at r m s (token.Semi ∷ rest) ≡ Ok (no_decls, token.Semi ∷ rest)
unfolding decls_at comma_at
decls_stop r zero s rest = refl
decls_stop r (suc m) s rest = refl

pub decls_step : (r : Inner) (m : ℕ) (s : Scope) (ts mid rest : List Token) (d : Decl) (more : Decls) → r.decl Named s ts ≡ Ok (d, mid) → decls_at r m (after_decl d s) mid ≡ Ok (more, rest) → decls_at r (suc m) s (token.Comma ∷ ts) ≡ Ok (another d more, rest)
unfolding decls_at comma_at
decls_step r m s ts mid rest d more e1 e2 = rw (e1, e2) refl

pub members_stop : (r : Inner) (m : ℕ) (s : Scope) (rest : List Token) → members_at r m s (token.BraceClose ∷ rest) ≡ Ok (no_members, token.BraceClose ∷ rest)
unfolding members_at ends_braces
members_stop r zero s rest = refl
members_stop r (suc m) s rest = refl

pub members_step : (r : Inner) (m : ℕ) (s : Scope) (ts t1 mid rest : List Token) (t : Typed) (ds : Decls) (more : Members) → ends_braces ts ≡ false → r.typed Named s ts ≡ Ok (t, t1) → decls_at r (length t1) (after_typed t s) t1 ≡ Ok (ds, token.Semi ∷ mid) → members_at r m (after_decls ds (after_typed t s)) mid ≡ Ok (more, rest) → members_at r (suc m) s ts ≡ Ok (member t ds more, rest)
unfolding members_at semi_at
members_step r m s ts t1 mid rest t ds more e1 e2 e3 e4 = rw (e1, e2, e3, e4) refl

pub specifiers_step : (r : Inner) (s : Scope) (ts rest : List Token) (specs : Specs) → starts_type s ts ≡ true → specs_at r (length ts) false s ts ≡ Ok (specs, rest) → specifiers_at r s ts ≡ Ok (specs, rest)
unfolding specifiers_at
specifiers_step r s ts rest specs e1 e2 = rw (e1, e2) refl

pub typed_step : (r : Inner) (a : Allowed) (s : Scope) (ts mid rest : List Token) (specs : Specs) (d : Decl) → starts_type s ts ≡ true → specs_at r (length ts) false s ts ≡ Ok (specs, mid) → decl_at r a (after_specs specs s) mid ≡ Ok (d, rest) → typed_at r a s ts ≡ Ok (typed specs d, rest)
unfolding typed_at specifiers_at
typed_step r a s ts mid rest specs d e1 e2 e3 = rw (e1, e2, e3) refl

pub decl_step : (r : Inner) (a : Allowed) (s : Scope) (ts t1 t2 rest : List Token) (ms : List PointerMark) (core : Core) (ends : Suffixes) → marks_at ts ≡ (ms, t1) → core_at r a s t1 ≡ Ok (core, t2) → suffixes_at r (length t2) (after_core core s) t2 ≡ Ok (ends, rest) → decl_at r a s ts ≡ Ok (decl ms core ends, rest)
unfolding decl_at
decl_step r a s ts t1 t2 rest ms core ends e1 e2 e3 = rw (e1, e2, e3) refl

pub id_step : (r : Inner) (a : Allowed) (s : Scope) (k : ℕ) (rest : List Token) → (a ≡ Abstract → ⊥) → core_at r a s (token.Name k ∷ rest) ≡ Ok (Id k, rest)
unfolding core_at
id_step r a s k rest ne = rw (takes a ne) refl

pub group_step : (r : Inner) (a : Allowed) (s : Scope) (ts rest : List Token) (d : Decl) → opens_list a s ts ≡ false → r.decl a s ts ≡ Ok (d, token.Close ∷ rest) → core_at r a s (token.Open ∷ ts) ≡ Ok (Group d, rest)
unfolding core_at group_at closed_at
group_step r a s ts rest d e1 e2 = rw (e1, e2) refl

pub absent_end : (r : Inner) (a : Allowed) (s : Scope) (rest : List Token) → (a ≡ Named → ⊥) → Ends rest → core_at r a s rest ≡ Ok (Absent, rest)
unfolding core_at
absent_end r a s [] ne e = rw (needs a ne) refl
absent_end r a s (token.Close ∷ ts) ne e = rw (needs a ne) refl
absent_end r a s (token.Comma ∷ ts) ne e = rw (needs a ne) refl
absent_end r a s (token.Semi ∷ ts) ne e = rw (needs a ne) refl
absent_end r a s (token.Equals ∷ ts) ne e = rw (needs a ne) refl
absent_end r a s (token.BraceOpen ∷ ts) ne e = rw (needs a ne) refl
absent_end r a s _ ne e = absurd e

pub absent_step : (n : ℕ) (r : Inner) (a : Allowed) (s : Scope) (ends : Suffixes) (rest : List Token) → (a ≡ Named → ⊥) → FitsSuffixes n s ends → Ends rest → core_at r a s (spell_suffixes ends rest) ≡ Ok (Absent, spell_suffixes ends rest)
unfolding core_at
absent_step n r a s no_suffixes rest ne f e = absent_end r a s rest ne e
absent_step n r a s (suffix OpenArray more) rest ne f e = rw (needs a ne) refl
absent_step n r a s (suffix (Array x) more) rest ne f e = rw (needs a ne) refl
absent_step n r a s (suffix (Function ps) more) rest ne f e = rw (opens_params n a s ps (spell_suffixes more rest) ne f.0) refl

pub suffix_stop : (r : Inner) (m : ℕ) (s : Scope) (rest : List Token) → Ends rest → suffixes_at r m s rest ≡ Ok (no_suffixes, rest)
unfolding suffixes_at
suffix_stop r zero s rest e = refl
suffix_stop r (suc m) s (token.SquareOpen ∷ ts) e = absurd e
suffix_stop r (suc m) s (token.Open ∷ ts) e = absurd e
suffix_stop r (suc m) s [] e = refl
suffix_stop r (suc m) s (_ ∷ ts) e = refl

pub array_step : (r : Inner) (m : ℕ) (s : Scope) (ts mid rest : List Token) (one : Suffix) (more : Suffixes) → array_at r s ts ≡ Ok (one, mid) → suffixes_at r m (after_suffix one s) mid ≡ Ok (more, rest) → suffixes_at r (suc m) s (token.SquareOpen ∷ ts) ≡ Ok (suffix one more, rest)
unfolding suffixes_at
array_step r m s ts mid rest one more e1 e2 = rw (e1, e2) refl

pub function_step : (r : Inner) (m : ℕ) (s : Scope) (ts mid rest : List Token) (ps : Params) (more : Suffixes) → params_at r s ts ≡ Ok (ps, mid) → suffixes_at r m s mid ≡ Ok (more, rest) → suffixes_at r (suc m) s (token.Open ∷ ts) ≡ Ok (suffix (Function ps) more, rest)
unfolding suffixes_at function_at
function_step r m s ts mid rest ps more e1 e2 = rw (e1, e2) refl

pub open_step : (r : Inner) (s : Scope) (rest : List Token) → array_at r s (token.SquareClose ∷ rest) ≡ Ok (OpenArray, rest)
unfolding array_at
open_step r s rest = refl

pub bound_step : (r : Inner) (s : Scope) (ts rest : List Token) (e : Expr) → r.expr 11 s ts ≡ Ok (e, token.SquareClose ∷ rest) → bound_at r s ts ≡ Ok (Array e, rest)
unfolding bound_at squared_at
bound_step r s ts rest e e1 = rw e1 refl

pub params_none : (r : Inner) (s : Scope) (rest : List Token) → params_at r s (token.Close ∷ rest) ≡ Ok (NoParams, rest)
unfolding params_at ends_list
params_none r s rest = refl

pub params_void : (r : Inner) (s : Scope) (rest : List Token) → params_at r s (token.Word word.Void ∷ token.Close ∷ rest) ≡ Ok (OnlyVoid, rest)
unfolding params_at ends_list void_at
params_void r s rest = refl

pub params_step : (r : Inner) (s : Scope) (ts mid rest : List Token) (t : Typed) (more : More) → ends_list ts ≡ None → void_at ts ≡ None → r.typed Either s ts ≡ Ok (t, mid) → more_at r (length mid) (after_param t s) mid ≡ Ok (more, token.Close ∷ rest) → params_at r s ts ≡ Ok (Some_params t more, rest)
unfolding params_at list_at closed_at
params_step r s ts mid rest t more e1 e2 e3 e4 = rw (e1, e2, e3, e4) refl

pub more_stop : (r : Inner) (m : ℕ) (s : Scope) (rest : List Token) → more_at r m s (token.Close ∷ rest) ≡ Ok (no_more, token.Close ∷ rest)
unfolding more_at comma_at
more_stop r zero s rest = refl
more_stop r (suc m) s rest = refl

pub more_step : (r : Inner) (m : ℕ) (s : Scope) (ts mid rest : List Token) (t : Typed) (more : More) → r.typed Either s ts ≡ Ok (t, mid) → more_at r m (after_param t s) mid ≡ Ok (more, rest) → more_at r (suc m) s (token.Comma ∷ ts) ≡ Ok (param t more, rest)
unfolding more_at comma_at
more_step r m s ts mid rest t more e1 e2 = rw (e1, e2) refl
