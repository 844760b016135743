-- One turn of each loop that reads elements.
use Rattle.std.proofs.Common.{◌≡◌, ℕ, zero, suc, Bool, true, false, List, [], ◌∷◌, ◌++◌, length, Ok, Err, Result, Option, Some, None, refl, sym, ap, subst, ◌∙◌}
use Rattle.c_tree.specs.declared.operator.AssignOperator.{AssignOperator}
use Rattle.c_tree.specs.declared.operator.BinaryOperator.{BinaryOperator}
use Rattle.c_grammar.specs.declared.token.Allowed.TheVariants.{Named, Either}
use Rattle.c_grammar.specs.declared.token.Token.{Token}
use Rattle.c_grammar.specs.declared.token.Token.TheVariants as token
use Rattle.c_grammar.specs.declared.fault.Fault.{Fault}
use Rattle.c_grammar.specs.declared.fault.ReadError.{ReadError}
use Rattle.c_grammar.specs.declared.fault.ReadError.TheVariants as errors
use Rattle.c_grammar.specs.Grammar.{Scope, starts_type, begins_post, Expr, Name, Post, no_posts, post, Joint, Infix, Choose, Assign, Comma, Links, no_links, link, Sort, OfInfix, OfChoice, OfAssign, OfComma, Typed, Decl, Decls, no_decls, another, Members, no_members, member, Item, Items, no_items, item, Spec, Specs, no_specs, spec, Suffix, Suffixes, no_suffixes, suffix, More, no_more, param, is_base, or, after, after_joint, after_links, after_post, after_posts, after_decl, after_decls, after_typed, after_members, after_item, after_items, after_spec, after_specs, after_suffix, after_suffixes, after_param, after_more}
use Rattle.c_grammar.specs.Reading.{◌>>=◌, Read, Inner, Fails, post_at, posts_at, link_at, links_at, level_at, joint_at, choice_at, comma_at, decls_at, ends_braces, members_at, semi_at, next_item, item_at, items_at, begins_spec, spec_at, specs_at, specifiers_at, array_at, function_at, suffixes_at, more_at}
use Rattle.c_expression_read.specs.Gives.{together_at, begins_suffix, suffix_at}
use Rattle.c_expression_read.specs.Views.{linked, comma, members}
use Rattle.c_expression_read.proofs.Heights.{not-eleven-10, not-eleven-12}
use Rattle.c_expression_read.proofs.Loops.{Next}
use Rattle.c_expression_read.proofs.Levels.{links_any}

-- ---- postfix operators

pub posts_next : (r : Inner) (s t : Scope) (ts after : List Token) (x : Post) → begins_post ts ≡ true → post_at r s ts ≡ Ok (x, after) → t ≡ after_post x s → Next post (posts_at r) s ts x t after
unfolding posts_at
posts_next r s t ts after x b e1 e2 = λ k. rw (b, e1, e2) refl

pub posts_fails : (r : Inner) (s : Scope) (ts : List Token) (e : ReadError) → begins_post ts ≡ true → Fails e (post_at r s ts) → (k : ℕ) → Fails e (posts_at r (suc k) s ts)
unfolding posts_at
posts_fails r s ts errors.Memory b f = λ k. tt
posts_fails r s ts (errors.Fault d) b f = λ k. rw (b, f) refl

pub posts_stops : (r : Inner) (s : Scope) (ts : List Token) → begins_post ts ≡ false → (k : ℕ) → posts_at r (suc k) s ts ≡ Ok (no_posts, ts)
unfolding posts_at
posts_stops r s ts b = λ k. rw b refl

pub posts_zero : (r : Inner) (s : Scope) (ts : List Token) → posts_at r zero s ts ≡ Ok (no_posts, ts)
unfolding posts_at
posts_zero r s ts = refl

-- ---- links whose left operand is no matter

abbrev pub any_links : Inner → ℕ → ℕ → Scope → List Token → Read Links
any_links r h k s ts = links_at r (level_at r h) h k (Name 0) s ts

-- and links whose left operand matters
abbrev pub left_links : Inner → ℕ → ℕ → Expr × Scope → List Token → Read Links
left_links r h k ls ts = links_at r (level_at r h) h k ls.0 ls.1 ts

abbrev put : Joint → Expr → Read Links → Read Links
put j e read = read >>= λ y. Ok (link j e y.0, y.1)

pub links_next : (r : Inner) (h : ℕ) (s t : Scope) (ts behind rest : List Token) (op : BinaryOperator) (e : Expr) (x : Joint × Expr) → (h ≡ 11 → ⊥) → x ≡ (Infix op, e) → link_at h (Name 0) ts ≡ Some (OfInfix op, behind) → level_at r h s behind ≡ Ok (e, rest) → t ≡ after e s → Next linked (any_links r h) s ts x t rest
unfolding links_at joint_at
links_next r h s t ts behind rest op e x ne is e1 e2 e3 =
    let next : Next linked (any_links r h) s ts (Infix op, e) t rest = λ k. rw (e1, e2) (ap (put (Infix op) e) (links_any r h k e (Name 0) (after e s) rest ne ∙ ap (λ u. any_links r h k u rest) (sym e3))) in
    subst (λ (y : Joint × Expr). Next linked (any_links r h) s ts y t rest) (sym is) next

pub links_fails : (r : Inner) (h : ℕ) (s : Scope) (ts behind : List Token) (op : BinaryOperator) (e : ReadError) → link_at h (Name 0) ts ≡ Some (OfInfix op, behind) → Fails e (level_at r h s behind) → (k : ℕ) → Fails e (any_links r h (suc k) s ts)
unfolding links_at joint_at
links_fails r h s ts behind op errors.Memory e1 f = λ k. tt
links_fails r h s ts behind op (errors.Fault d) e1 f = λ k. rw (e1, f) refl

pub links_stops : (r : Inner) (h : ℕ) (s : Scope) (ts : List Token) → link_at h (Name 0) ts ≡ None → (k : ℕ) → any_links r h (suc k) s ts ≡ Ok (no_links, ts)
unfolding links_at
links_stops r h s ts e = λ k. rw e refl

pub links_zero : (r : Inner) (h : ℕ) (s : Scope) (ts : List Token) → any_links r h zero s ts ≡ Ok (no_links, ts)
unfolding links_at
links_zero r h s ts = refl

-- ---- what is chosen between

pub choice_next : (r : Inner) (s t u : Scope) (ts behind mid rest : List Token) (v e : Expr) → link_at 10 (Name 0) ts ≡ Some (OfChoice, behind) → choice_at r s behind ≡ Ok (Choose v, mid) → t ≡ after v s → level_at r 10 t mid ≡ Ok (e, rest) → u ≡ after e t → Next linked (any_links r 10) s ts (Choose v, e) u rest
unfolding links_at joint_at
choice_next r s t u ts behind mid rest v e e1 e2 e3 e4 e5 =
    let e4' : level_at r 10 (after v s) mid ≡ Ok (e, rest) = ap (λ w. level_at r 10 w mid) (sym e3) ∙ e4 in
    let e5' : u ≡ after e (after v s) = e5 ∙ ap (after e) e3 in
    λ k. rw (e1, e2, e4') (ap (put (Choose v) e) (links_any r 10 k e (Name 0) (after e (after v s)) rest not-eleven-10 ∙ ap (λ w. any_links r 10 k w rest) (sym e5')))

pub choice_fails : (r : Inner) (s : Scope) (ts behind : List Token) (e : ReadError) → link_at 10 (Name 0) ts ≡ Some (OfChoice, behind) → Fails e (choice_at r s behind) → (k : ℕ) → Fails e (any_links r 10 (suc k) s ts)
unfolding links_at joint_at
choice_fails r s ts behind errors.Memory e1 f = λ k. tt
choice_fails r s ts behind (errors.Fault d) e1 f = λ k. rw (e1, f) refl

pub chosen_fails : (r : Inner) (s t : Scope) (ts behind mid : List Token) (v : Expr) (e : ReadError) → link_at 10 (Name 0) ts ≡ Some (OfChoice, behind) → choice_at r s behind ≡ Ok (Choose v, mid) → t ≡ after v s → Fails e (level_at r 10 t mid) → (k : ℕ) → Fails e (any_links r 10 (suc k) s ts)
unfolding links_at joint_at
chosen_fails r s t ts behind mid v errors.Memory e1 e2 e3 f = λ k. tt
chosen_fails r s t ts behind mid v (errors.Fault d) e1 e2 e3 f =
    let f' : level_at r 10 (after v s) mid ≡ Err d = ap (λ w. level_at r 10 w mid) (sym e3) ∙ f in
    λ k. rw (e1, e2, f') refl

-- ---- what is assigned to

pub target_next : (r : Inner) (s t : Scope) (ts behind rest : List Token) (left : Expr) (op : AssignOperator) (e : Expr) → link_at 11 left ts ≡ Some (OfAssign op, behind) → level_at r 11 s behind ≡ Ok (e, rest) → t ≡ after e s → Next linked (left_links r 11) (left, s) ts (Assign op, e) (e, t) rest
unfolding links_at joint_at
target_next r s t ts behind rest left op e e1 e2 e3 = λ k. rw (e1, e2, e3) refl

pub target_fails : (r : Inner) (s : Scope) (ts behind : List Token) (left : Expr) (op : AssignOperator) (e : ReadError) → link_at 11 left ts ≡ Some (OfAssign op, behind) → Fails e (level_at r 11 s behind) → (k : ℕ) → Fails e (left_links r 11 (suc k) (left, s) ts)
unfolding links_at joint_at
target_fails r s ts behind left op errors.Memory e1 f = λ k. tt
target_fails r s ts behind left op (errors.Fault d) e1 f = λ k. rw (e1, f) refl

pub target_stops : (r : Inner) (s : Scope) (ts : List Token) (left : Expr) → link_at 11 left ts ≡ None → (k : ℕ) → left_links r 11 (suc k) (left, s) ts ≡ Ok (no_links, ts)
unfolding links_at
target_stops r s ts left e = λ k. rw e refl

pub target_zero : (r : Inner) (s : Scope) (ts : List Token) (left : Expr) → left_links r 11 zero (left, s) ts ≡ Ok (no_links, ts)
unfolding links_at
target_zero r s ts left = refl

-- ---- expressions behind commas

pub commas_next : (r : Inner) (s t : Scope) (ts behind rest : List Token) (e : Expr) → link_at 12 (Name 0) ts ≡ Some (OfComma, behind) → level_at r 12 s behind ≡ Ok (e, rest) → t ≡ after e s → Next comma (any_links r 12) s ts e t rest
unfolding links_at joint_at
commas_next r s t ts behind rest e e1 e2 e3 = λ k. rw (e1, e2) (ap (put Comma e) (links_any r 12 k e (Name 0) (after e s) rest not-eleven-12 ∙ ap (λ w. any_links r 12 k w rest) (sym e3)))

pub commas_fails : (r : Inner) (s : Scope) (ts behind : List Token) (e : ReadError) → link_at 12 (Name 0) ts ≡ Some (OfComma, behind) → Fails e (level_at r 12 s behind) → (k : ℕ) → Fails e (any_links r 12 (suc k) s ts)
unfolding links_at joint_at
commas_fails r s ts behind errors.Memory e1 f = λ k. tt
commas_fails r s ts behind (errors.Fault d) e1 f = λ k. rw (e1, f) refl

-- ---- declarators of members

pub decls_next : (r : Inner) (s t : Scope) (ts behind rest : List Token) (d : Decl) → comma_at ts ≡ Some behind → r.decl Named s behind ≡ Ok (d, rest) → t ≡ after_decl d s → Next another (decls_at r) s ts d t rest
unfolding decls_at
decls_next r s t ts behind rest d e1 e2 e3 = λ k. rw (e1, e2, e3) refl

pub decls_fails : (r : Inner) (s : Scope) (ts behind : List Token) (e : ReadError) → comma_at ts ≡ Some behind → Fails e (r.decl Named s behind) → (k : ℕ) → Fails e (decls_at r (suc k) s ts)
unfolding decls_at
decls_fails r s ts behind errors.Memory e1 f = λ k. tt
decls_fails r s ts behind (errors.Fault d) e1 f = λ k. rw (e1, f) refl

pub decls_stops : (r : Inner) (s : Scope) (ts : List Token) → comma_at ts ≡ None → (k : ℕ) → decls_at r (suc k) s ts ≡ Ok (no_decls, ts)
unfolding decls_at
decls_stops r s ts e = λ k. rw e refl

pub decls_zero : (r : Inner) (s : Scope) (ts : List Token) → decls_at r zero s ts ≡ Ok (no_decls, ts)
unfolding decls_at
decls_zero r s ts = refl

-- ---- members

abbrev ended : Typed → Decls → Result (List Token) Fault → Read (Typed × Decls)
ended t d w = w >>= λ rest. Ok ((t, d), rest)

abbrev put_member : Typed → Decls → Read Members → Read Members
put_member t d read = read >>= λ y. Ok (member t d y.0, y.1)

abbrev put_members : Specs × List Decl → Read Members → Read Members
put_members x read = read >>= λ y. Ok (members x y.0, y.1)

abbrev and_then : (Typed → Decls → List Token → Read Members) → Read (Typed × Decls) → Read Members
and_then K read = read >>= λ p. K p.0.0 p.0.1 p.1

module _ (K : Typed → Decls → List Token → Read Members) where
  by_end : (t : Typed) (d : Decls) (w : Result (List Token) Fault) → and_then K (ended t d w) ≡ (w >>= λ rest. K t d rest)
  by_end t d (Ok rest) = refl
  by_end t d (Err e) = refl

  by_decls : (t : Typed) (m : Read Decls) → and_then K (m >>= λ d. ended t d.0 (semi_at d.1)) ≡ (m >>= λ d. semi_at d.1 >>= λ rest. K t d.0 rest)
  by_decls t (Ok d) = by_end t d.0 (semi_at d.1)
  by_decls t (Err e) = refl

  by_typed : (m : Read Typed) (f : Typed × List Token → Read Decls) → and_then K (m >>= λ x. f x >>= λ d. ended x.0 d.0 (semi_at d.1)) ≡ (m >>= λ x. f x >>= λ d. semi_at d.1 >>= λ rest. K x.0 d.0 rest)
  by_typed (Ok x) f = by_decls x.0 (f x)
  by_typed (Err e) f = refl

abbrev go_on : Inner → ℕ → Scope → Typed → Decls → List Token → Read Members
go_on r k s t d rest = put_member t d (members_at r k (after_decls d (after_typed t s)) rest)

members_step : (r : Inner) (k : ℕ) (s : Scope) (ts : List Token) → ends_braces ts ≡ false → members_at r (suc k) s ts ≡ and_then (go_on r k s) (together_at r s ts)
unfolding members_at
members_step r k s ts b = rw b (sym (by_typed (go_on r k s) (r.typed Named s ts) (λ x. decls_at r (length x.1) (after_typed x.0 s) x.1)))

pub members_next : (r : Inner) (s u : Scope) (ts rest : List Token) (t : Typed) (d : Decls) (x : Specs × List Decl) → ends_braces ts ≡ false → together_at r s ts ≡ Ok ((t, d), rest) → u ≡ after_decls d (after_typed t s) → ((more : Members) → members x more ≡ member t d more) → Next members (members_at r) s ts x u rest
members_next r s u ts rest t d x b e1 e2 made =
    λ k. members_step r k s ts b ∙ ap (and_then (go_on r k s)) e1 ∙ ap (λ (w : Scope). put_member t d (members_at r k w rest)) (sym e2) ∙ put_in (members_at r k u rest)
  where
    put_in : (m : Read Members) → put_member t d m ≡ put_members x m
    put_in (Ok y) = ap (λ (z : Members). Ok (z, y.1)) (sym (made y.0))
    put_in (Err e) = refl

pub members_fails : (r : Inner) (s : Scope) (ts : List Token) (e : ReadError) → ends_braces ts ≡ false → Fails e (together_at r s ts) → (k : ℕ) → Fails e (members_at r (suc k) s ts)
members_fails r s ts errors.Memory b f = λ k. tt
members_fails r s ts (errors.Fault d) b f = λ k. members_step r k s ts b ∙ ap (and_then (go_on r k s)) f

pub members_stops : (r : Inner) (s : Scope) (ts : List Token) → ends_braces ts ≡ true → (k : ℕ) → members_at r (suc k) s ts ≡ Ok (no_members, ts)
unfolding members_at
members_stops r s ts b = λ k. rw b refl

pub members_zero : (r : Inner) (s : Scope) (ts : List Token) → members_at r zero s ts ≡ Ok (no_members, ts)
unfolding members_at
members_zero r s ts = refl

-- ---- enumerators

pub items_next : (r : Inner) (s t : Scope) (ts behind rest : List Token) (i : Item) → next_item ts ≡ Some behind → item_at r s behind ≡ Ok (i, rest) → t ≡ after_item i s → Next item (items_at r) s ts i t rest
unfolding items_at
items_next r s t ts behind rest i e1 e2 e3 = λ k. rw (e1, e2, e3) refl

pub items_fails : (r : Inner) (s : Scope) (ts behind : List Token) (e : ReadError) → next_item ts ≡ Some behind → Fails e (item_at r s behind) → (k : ℕ) → Fails e (items_at r (suc k) s ts)
unfolding items_at
items_fails r s ts behind errors.Memory e1 f = λ k. tt
items_fails r s ts behind (errors.Fault d) e1 f = λ k. rw (e1, f) refl

pub items_stops : (r : Inner) (s : Scope) (ts : List Token) → next_item ts ≡ None → (k : ℕ) → items_at r (suc k) s ts ≡ Ok (no_items, ts)
unfolding items_at
items_stops r s ts e = λ k. rw e refl

pub items_zero : (r : Inner) (s : Scope) (ts : List Token) → items_at r zero s ts ≡ Ok (no_items, ts)
unfolding items_at
items_zero r s ts = refl

-- ---- specifiers

abbrev pub based_specs : Inner → ℕ → Bool × Scope → List Token → Read Specs
based_specs r k bs ts = specs_at r k bs.0 bs.1 ts

pub specs_next : (r : Inner) (b c : Bool) (s t : Scope) (ts rest : List Token) (x : Spec) → begins_spec b s ts ≡ true → spec_at r s ts ≡ Ok (x, rest) → c ≡ or b (is_base x) → t ≡ after_spec x s → Next spec (based_specs r) (b, s) ts x (c, t) rest
unfolding specs_at
specs_next r b c s t ts rest x e1 e2 e3 e4 = λ k. rw (e1, e2, e3, e4) refl

pub specs_fails : (r : Inner) (b : Bool) (s : Scope) (ts : List Token) (e : ReadError) → begins_spec b s ts ≡ true → Fails e (spec_at r s ts) → (k : ℕ) → Fails e (based_specs r (suc k) (b, s) ts)
unfolding specs_at
specs_fails r b s ts errors.Memory e1 f = λ k. tt
specs_fails r b s ts (errors.Fault d) e1 f = λ k. rw (e1, f) refl

pub specs_stops : (r : Inner) (b : Bool) (s : Scope) (ts : List Token) → begins_spec b s ts ≡ false → (k : ℕ) → based_specs r (suc k) (b, s) ts ≡ Ok (no_specs, ts)
unfolding specs_at
specs_stops r b s ts e = λ k. rw e refl

pub specs_zero : (r : Inner) (b : Bool) (s : Scope) (ts : List Token) → based_specs r zero (b, s) ts ≡ Ok (no_specs, ts)
unfolding specs_at
specs_zero r b s ts = refl

-- where one specifier begins, there are specifiers
pub specs_begun : (r : Inner) (s : Scope) (ts : List Token) → starts_type s ts ≡ true → specs_at r (length ts) false s ts ≡ specifiers_at r s ts
unfolding specifiers_at
specs_begun r s ts e = rw e refl

-- ---- arrays and functions

suffixes_step : (r : Inner) (k : ℕ) (s : Scope) (ts : List Token) → begins_suffix ts ≡ true → suffixes_at r (suc k) s ts ≡ (suffix_at r s ts >>= λ x. suffixes_at r k (after_suffix x.0 s) x.1 >>= λ y. Ok (suffix x.0 y.0, y.1))
unfolding suffixes_at
suffixes_step r k s (token.SquareOpen ∷ ts) b = refl
suffixes_step r k s (token.Open ∷ ts) b = refl
suffixes_step r k s ts b = absurd cc

pub suffixes_next : (r : Inner) (s t : Scope) (ts rest : List Token) (x : Suffix) → begins_suffix ts ≡ true → suffix_at r s ts ≡ Ok (x, rest) → t ≡ after_suffix x s → Next suffix (suffixes_at r) s ts x t rest
suffixes_next r s t ts rest x b e1 e2 = λ k. suffixes_step r k s ts b ∙ rw (e1, e2) refl

pub suffixes_fails : (r : Inner) (s : Scope) (ts : List Token) (e : ReadError) → begins_suffix ts ≡ true → Fails e (suffix_at r s ts) → (k : ℕ) → Fails e (suffixes_at r (suc k) s ts)
suffixes_fails r s ts errors.Memory b f = λ k. tt
suffixes_fails r s ts (errors.Fault d) b f = λ k. suffixes_step r k s ts b ∙ rw f refl

pub suffixes_stops : (r : Inner) (s : Scope) (ts : List Token) → begins_suffix ts ≡ false → (k : ℕ) → suffixes_at r (suc k) s ts ≡ Ok (no_suffixes, ts)
unfolding suffixes_at
suffixes_stops r s (token.SquareOpen ∷ ts) b = absurd cc
suffixes_stops r s (token.Open ∷ ts) b = absurd cc
suffixes_stops r s ts b = λ k. refl

pub suffixes_zero : (r : Inner) (s : Scope) (ts : List Token) → suffixes_at r zero s ts ≡ Ok (no_suffixes, ts)
unfolding suffixes_at
suffixes_zero r s ts = refl

-- ---- parameters

pub more_next : (r : Inner) (s t : Scope) (ts behind rest : List Token) (x : Typed) → comma_at ts ≡ Some behind → r.typed Either s behind ≡ Ok (x, rest) → t ≡ after_param x s → Next param (more_at r) s ts x t rest
unfolding more_at
more_next r s t ts behind rest x e1 e2 e3 = λ k. rw (e1, e2, e3) refl

pub more_fails : (r : Inner) (s : Scope) (ts behind : List Token) (e : ReadError) → comma_at ts ≡ Some behind → Fails e (r.typed Either s behind) → (k : ℕ) → Fails e (more_at r (suc k) s ts)
unfolding more_at
more_fails r s ts behind errors.Memory e1 f = λ k. tt
more_fails r s ts behind (errors.Fault d) e1 f = λ k. rw (e1, f) refl

pub more_stops : (r : Inner) (s : Scope) (ts : List Token) → comma_at ts ≡ None → (k : ℕ) → more_at r (suc k) s ts ≡ Ok (no_more, ts)
unfolding more_at
more_stops r s ts e = λ k. rw e refl

pub more_zero : (r : Inner) (s : Scope) (ts : List Token) → more_at r zero s ts ≡ Ok (no_more, ts)
unfolding more_at
more_zero r s ts = refl
