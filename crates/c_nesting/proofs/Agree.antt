-- Expressions, specifiers and declarators are read the same with more nestings, unless a nesting too many stopped the reading.
use Rattle.std.proofs.Common.{ℕ, zero, suc, Bool, true, false, cond, List, [], ◌∷◌, length, Option, Some, None, Result, Ok, Err, refl, sym, ap, subst, inl, inr}
use Rattle.c_tree.specs.declared.operator.PrefixOperator.{PrefixOperator}
use Rattle.c_grammar.specs.declared.token.Allowed.{Allowed}
use Rattle.c_grammar.specs.declared.token.Allowed.TheVariants.{Named, Abstract, Either}
use Rattle.c_grammar.specs.declared.token.Token.{Token}
use Rattle.c_grammar.specs.declared.token.Token.TheVariants as token
use Rattle.c_grammar.specs.declared.fault.Fault.{Fault}
use Rattle.c_grammar.specs.Grammar.{Scope, starts_type, begins_post, Expr, Sort, OfInfix, OfChoice, OfAssign, OfComma, is_base, or, after, after_joint, after_post, after_typed, after_spec, after_specs, after_decl, after_decls, after_item, after_core, after_suffix, after_param}
use Rattle.c_grammar.specs.Reading.{◌>>=◌, Reader, Inner, choose, closed_at, semi_at, comma_at, ends_braces, ends_list, void_at, marks_at, link_at, prefix_of, paren_at, primary_at, index_at, arguments_at, call_at, post_at, posts_at, postfix_at, prefix_at, conversion_at, size_of_at, type_size_at, size_at, cast_at, choice_at, joint_at, links_at, level_at, begins_spec, decls_at, members_at, struct_body_at, struct_at, valued_at, item_at, next_item, items_at, enum_body_at, enum_at, spec_at, specs_at, specifiers_at, opens_list, group_at, core_at, more_at, list_at, params_at, bound_at, array_at, function_at, suffixes_at, decl_at, typed_at, inner}
use Rattle.c_nesting.specs.Agreeing.{Agrees}

-- ---- steps

pub same : {A : Type 0} (m : Result A Fault) → Agrees m m
same m = inl refl

-- a step, and then another
pub both : {A B : Type 0} (m n : Result A Fault) (f g : A → Result B Fault) → Agrees m n → ((x : A) → Agrees (f x) (g x)) → Agrees (m >>= f) (n >>= g)
both (Ok x) n f g (inl e) h = subst (λ (k : Result _ Fault). Agrees (f x) (k >>= g)) (sym e) (h x)
both (Err d) n f g (inl e) h = inl (ap (λ (k : Result _ Fault). k >>= g) e)
both m n f g (inr (left, e)) h = inr (left, ap (λ (k : Result _ Fault). k >>= f) e)

-- a choice, either way
pub chosen : {A B : Type 0} (o : Option A) (m n : Result B Fault) (f g : A → Result B Fault) → Agrees m n → ((x : A) → Agrees (f x) (g x)) → Agrees (choose o m f) (choose o n g)
chosen None m n f g e h = e
chosen (Some x) m n f g e h = h x

-- a test, either way
pub tested : {B : Type 0} (b : Bool) (m n k l : Result B Fault) → Agrees m n → Agrees k l → Agrees (cond b m k) (cond b n l)
tested true m n k l d e = d
tested false m n k l d e = e

-- what reads the nested parts agrees
pub record Nested (r q : Inner) : Type 0 where
  pub expr : (h : ℕ) (s : Scope) (ts : List Token) → Agrees (r.expr h s ts) (q.expr h s ts)
  pub decl : (a : Allowed) (s : Scope) (ts : List Token) → Agrees (r.decl a s ts) (q.decl a s ts)
  pub typed : (a : Allowed) (s : Scope) (ts : List Token) → Agrees (r.typed a s ts) (q.typed a s ts)

module _ (r q : Inner) (i : Nested r q) where
  -- ---- expressions

  paren : (s : Scope) (ts : List Token) → Agrees (paren_at r s ts) (paren_at q s ts)
  unfolding paren_at
  paren s ts = both (r.expr 13 s ts) (q.expr 13 s ts) _ _ (i.expr 13 s ts) (λ x. inl refl)

  primary : (s : Scope) (ts : List Token) → Agrees (primary_at r s ts) (primary_at q s ts)
  unfolding primary_at
  primary s (token.Open ∷ ts) = paren s ts
  primary s (token.Name k ∷ ts) = inl refl
  primary s (token.Number k t ∷ ts) = inl refl
  primary s (token.Byte k ∷ ts) = inl refl
  primary s (token.Text k ∷ ts) = inl refl
  primary s [] = inl refl
  primary s (_ ∷ ts) = inl refl

  index : (s : Scope) (ts : List Token) → Agrees (index_at r s ts) (index_at q s ts)
  unfolding index_at
  index s ts = both (r.expr 13 s ts) (q.expr 13 s ts) _ _ (i.expr 13 s ts) (λ x. inl refl)

  arguments : (s : Scope) (ts : List Token) → Agrees (arguments_at r s ts) (arguments_at q s ts)
  unfolding arguments_at
  arguments s ts = both (r.expr 13 s ts) (q.expr 13 s ts) _ _ (i.expr 13 s ts) (λ x. inl refl)

  call : (s : Scope) (ts : List Token) → Agrees (call_at r s ts) (call_at q s ts)
  unfolding call_at
  call s (token.Close ∷ ts) = inl refl
  call s ts = arguments s ts

  one_post : (s : Scope) (ts : List Token) → Agrees (post_at r s ts) (post_at q s ts)
  unfolding post_at
  one_post s (token.SquareOpen ∷ ts) = index s ts
  one_post s (token.Open ∷ ts) = call s ts
  one_post s (token.Dot ∷ token.Name k ∷ ts) = inl refl
  one_post s (token.Arrow ∷ token.Name k ∷ ts) = inl refl
  one_post s (token.Increment ∷ ts) = inl refl
  one_post s (token.Decrement ∷ ts) = inl refl
  one_post s _ = inl refl

  posts : (k : ℕ) (s : Scope) (ts : List Token) → Agrees (posts_at r k s ts) (posts_at q k s ts)
  unfolding posts_at
  posts zero s ts = inl refl
  posts (suc k) s ts =
      tested (begins_post ts) _ _ _ _
      (both (post_at r s ts) (post_at q s ts) _ _ (one_post s ts) (λ x.
      both (posts_at r k (after_post x.0 s) x.1) (posts_at q k (after_post x.0 s) x.1) _ _ (posts k (after_post x.0 s) x.1) (λ y. inl refl)))
      (inl refl)

  postfix : (s : Scope) (ts : List Token) → Agrees (postfix_at r s ts) (postfix_at q s ts)
  unfolding postfix_at
  postfix s ts =
      both (primary_at r s ts) (primary_at q s ts) _ _ (primary s ts) (λ x.
      both (posts_at r (length x.1) (after x.0 s) x.1) (posts_at q (length x.1) (after x.0 s) x.1) _ _ (posts (length x.1) (after x.0 s) x.1) (λ y. inl refl))

  prefixed : (o : PrefixOperator) (s : Scope) (ts : List Token) → Agrees (prefix_at r o s ts) (prefix_at q o s ts)
  unfolding prefix_at
  prefixed o s ts = both (r.expr 0 s ts) (q.expr 0 s ts) _ _ (i.expr 0 s ts) (λ x. inl refl)

  conversion : (s : Scope) (ts : List Token) → Agrees (conversion_at r s ts) (conversion_at q s ts)
  unfolding conversion_at
  conversion s ts =
      both (r.typed Abstract s ts) (q.typed Abstract s ts) _ _ (i.typed Abstract s ts) (λ x.
      both (closed_at x.1) (closed_at x.1) _ _ (same (closed_at x.1)) (λ rest.
      both (r.expr 0 (after_typed x.0 s) rest) (q.expr 0 (after_typed x.0 s) rest) _ _ (i.expr 0 (after_typed x.0 s) rest) (λ y. inl refl)))

  size_of : (s : Scope) (ts : List Token) → Agrees (size_of_at r s ts) (size_of_at q s ts)
  unfolding size_of_at
  size_of s ts = both (r.expr 0 s ts) (q.expr 0 s ts) _ _ (i.expr 0 s ts) (λ x. inl refl)

  type_size : (s : Scope) (ts : List Token) → Agrees (type_size_at r s ts) (type_size_at q s ts)
  unfolding type_size_at
  type_size s ts = both (r.typed Abstract s ts) (q.typed Abstract s ts) _ _ (i.typed Abstract s ts) (λ x. inl refl)

  size : (s : Scope) (ts : List Token) → Agrees (size_at r s ts) (size_at q s ts)
  unfolding size_at
  size s (token.Open ∷ ts) = tested (starts_type s ts) _ _ _ _ (type_size s ts) (size_of s (token.Open ∷ ts))
  size s ts = size_of s ts

  cast : (s : Scope) (ts : List Token) → Agrees (cast_at r s ts) (cast_at q s ts)
  unfolding cast_at
  cast s (token.Open ∷ ts) = tested (starts_type s ts) _ _ _ _ (conversion s ts) (postfix s (token.Open ∷ ts))
  cast s (token.Sizeof ∷ ts) = size s ts
  cast s ts = chosen (prefix_of ts) _ _ _ _ (postfix s ts) (λ o. prefixed o.0 s o.1)

  choice : (s : Scope) (ts : List Token) → Agrees (choice_at r s ts) (choice_at q s ts)
  unfolding choice_at
  choice s ts = both (r.expr 13 s ts) (q.expr 13 s ts) _ _ (i.expr 13 s ts) (λ x. inl refl)

  joint : (o : Sort) (s : Scope) (ts : List Token) → Agrees (joint_at r o s ts) (joint_at q o s ts)
  unfolding joint_at
  joint (OfInfix o) s ts = inl refl
  joint OfChoice s ts = choice s ts
  joint (OfAssign o) s ts = inl refl
  joint OfComma s ts = inl refl

  links : (lower higher : Reader Expr) → ((s : Scope) (ts : List Token) → Agrees (lower s ts) (higher s ts)) → (h k : ℕ) (left : Expr) (s : Scope) (ts : List Token) → Agrees (links_at r lower h k left s ts) (links_at q higher h k left s ts)
  unfolding links_at
  links lower higher agree h zero left s ts = inl refl
  links lower higher agree h (suc k) left s ts =
      chosen (link_at h left ts) _ _ _ _ (inl refl) (λ o.
      both (joint_at r o.0 s o.1) (joint_at q o.0 s o.1) _ _ (joint o.0 s o.1) (λ j.
      both (lower (after_joint j.0 s) j.1) (higher (after_joint j.0 s) j.1) _ _ (agree (after_joint j.0 s) j.1) (λ x.
      both (links_at r lower h k x.0 (after x.0 (after_joint j.0 s)) x.1) (links_at q higher h k x.0 (after x.0 (after_joint j.0 s)) x.1) _ _ (links lower higher agree h k x.0 (after x.0 (after_joint j.0 s)) x.1) (λ y. inl refl))))

  pub level : (h : ℕ) (s : Scope) (ts : List Token) → Agrees (level_at r h s ts) (level_at q h s ts)
  unfolding level_at
  level zero s ts = cast s ts
  level (suc h) s ts =
      both (level_at r h s ts) (level_at q h s ts) _ _ (level h s ts) (λ x.
      both (links_at r (level_at r h) h (length x.1) x.0 (after x.0 s) x.1) (links_at q (level_at q h) h (length x.1) x.0 (after x.0 s) x.1) _ _ (links (level_at r h) (level_at q h) (level h) h (length x.1) x.0 (after x.0 s) x.1) (λ y. inl refl))

  -- ---- specifiers

  decls : (k : ℕ) (s : Scope) (ts : List Token) → Agrees (decls_at r k s ts) (decls_at q k s ts)
  unfolding decls_at
  decls zero s ts = inl refl
  decls (suc k) s ts =
      chosen (comma_at ts) _ _ _ _ (inl refl) (λ rest.
      both (r.decl Named s rest) (q.decl Named s rest) _ _ (i.decl Named s rest) (λ x.
      both (decls_at r k (after_decl x.0 s) x.1) (decls_at q k (after_decl x.0 s) x.1) _ _ (decls k (after_decl x.0 s) x.1) (λ y. inl refl)))

  members : (k : ℕ) (s : Scope) (ts : List Token) → Agrees (members_at r k s ts) (members_at q k s ts)
  unfolding members_at
  members zero s ts = inl refl
  members (suc k) s ts =
      tested (ends_braces ts) _ _ _ _ (inl refl)
      (both (r.typed Named s ts) (q.typed Named s ts) _ _ (i.typed Named s ts) (λ x.
      both (decls_at r (length x.1) (after_typed x.0 s) x.1) (decls_at q (length x.1) (after_typed x.0 s) x.1) _ _ (decls (length x.1) (after_typed x.0 s) x.1) (λ d.
      both (semi_at d.1) (semi_at d.1) _ _ (same (semi_at d.1)) (λ rest.
      both (members_at r k (after_decls d.0 (after_typed x.0 s)) rest) (members_at q k (after_decls d.0 (after_typed x.0 s)) rest) _ _ (members k (after_decls d.0 (after_typed x.0 s)) rest) (λ y. inl refl)))))

  struct_body : (tag : Option ℕ) (s : Scope) (ts : List Token) → Agrees (struct_body_at r tag s ts) (struct_body_at q tag s ts)
  unfolding struct_body_at
  struct_body tag s ts = both (members_at r (length ts) s ts) (members_at q (length ts) s ts) _ _ (members (length ts) s ts) (λ x. inl refl)

  structure : (s : Scope) (ts : List Token) → Agrees (struct_at r s ts) (struct_at q s ts)
  unfolding struct_at
  structure s (token.BraceOpen ∷ ts) = struct_body None s ts
  structure s (token.Name k ∷ token.BraceOpen ∷ ts) = struct_body (Some k) s ts
  structure s (token.Name k ∷ ts) = inl refl
  structure s _ = inl refl

  valued : (k : ℕ) (s : Scope) (ts : List Token) → Agrees (valued_at r k s ts) (valued_at q k s ts)
  unfolding valued_at
  valued k s ts = both (r.expr 11 s ts) (q.expr 11 s ts) _ _ (i.expr 11 s ts) (λ x. inl refl)

  one_item : (s : Scope) (ts : List Token) → Agrees (item_at r s ts) (item_at q s ts)
  unfolding item_at
  one_item s (token.Name k ∷ token.Equals ∷ ts) = valued k s ts
  one_item s (token.Name k ∷ ts) = inl refl
  one_item s _ = inl refl

  items : (k : ℕ) (s : Scope) (ts : List Token) → Agrees (items_at r k s ts) (items_at q k s ts)
  unfolding items_at
  items zero s ts = inl refl
  items (suc k) s ts =
      chosen (next_item ts) _ _ _ _ (inl refl) (λ rest.
      both (item_at r s rest) (item_at q s rest) _ _ (one_item s rest) (λ x.
      both (items_at r k (after_item x.0 s) x.1) (items_at q k (after_item x.0 s) x.1) _ _ (items k (after_item x.0 s) x.1) (λ y. inl refl)))

  enum_body : (tag : Option ℕ) (s : Scope) (ts : List Token) → Agrees (enum_body_at r tag s ts) (enum_body_at q tag s ts)
  unfolding enum_body_at
  enum_body tag s ts =
      both (item_at r s ts) (item_at q s ts) _ _ (one_item s ts) (λ x.
      both (items_at r (length x.1) (after_item x.0 s) x.1) (items_at q (length x.1) (after_item x.0 s) x.1) _ _ (items (length x.1) (after_item x.0 s) x.1) (λ y. inl refl))

  enumeration : (s : Scope) (ts : List Token) → Agrees (enum_at r s ts) (enum_at q s ts)
  unfolding enum_at
  enumeration s (token.BraceOpen ∷ ts) = enum_body None s ts
  enumeration s (token.Name k ∷ token.BraceOpen ∷ ts) = enum_body (Some k) s ts
  enumeration s (token.Name k ∷ ts) = inl refl
  enumeration s _ = inl refl

  one_spec : (s : Scope) (ts : List Token) → Agrees (spec_at r s ts) (spec_at q s ts)
  unfolding spec_at
  one_spec s (token.Struct ∷ ts) = structure s ts
  one_spec s (token.Enum ∷ ts) = enumeration s ts
  one_spec s (token.Name k ∷ ts) = inl refl
  one_spec s (token.Word w ∷ ts) = inl refl
  one_spec s (token.DescriptorOfRank ∷ ts) = inl refl
  one_spec s [] = inl refl
  one_spec s (_ ∷ ts) = inl refl

  pub specs : (k : ℕ) (based : Bool) (s : Scope) (ts : List Token) → Agrees (specs_at r k based s ts) (specs_at q k based s ts)
  unfolding specs_at
  specs zero based s ts = inl refl
  specs (suc k) based s ts =
      tested (begins_spec based s ts) _ _ _ _
      (both (spec_at r s ts) (spec_at q s ts) _ _ (one_spec s ts) (λ x.
      both (specs_at r k (or based (is_base x.0)) (after_spec x.0 s) x.1) (specs_at q k (or based (is_base x.0)) (after_spec x.0 s) x.1) _ _ (specs k (or based (is_base x.0)) (after_spec x.0 s) x.1) (λ y. inl refl)))
      (inl refl)

  pub specifiers : (s : Scope) (ts : List Token) → Agrees (specifiers_at r s ts) (specifiers_at q s ts)
  unfolding specifiers_at
  specifiers s ts = tested (starts_type s ts) _ _ _ _ (specs (length ts) false s ts) (inl refl)

  -- ---- declarators

  group : (a : Allowed) (s : Scope) (ts : List Token) → Agrees (group_at r a s ts) (group_at q a s ts)
  unfolding group_at
  group a s ts = both (r.decl a s ts) (q.decl a s ts) _ _ (i.decl a s ts) (λ x. inl refl)

  core : (a : Allowed) (s : Scope) (ts : List Token) → Agrees (core_at r a s ts) (core_at q a s ts)
  unfolding core_at
  core a s (token.Name k ∷ ts) = inl refl
  core a s (token.Open ∷ ts) = tested (opens_list a s ts) _ _ _ _ (inl refl) (group a s ts)
  core a s [] = inl refl
  core a s (_ ∷ ts) = inl refl

  more : (k : ℕ) (s : Scope) (ts : List Token) → Agrees (more_at r k s ts) (more_at q k s ts)
  unfolding more_at
  more zero s ts = inl refl
  more (suc k) s ts =
      chosen (comma_at ts) _ _ _ _ (inl refl) (λ rest.
      both (r.typed Either s rest) (q.typed Either s rest) _ _ (i.typed Either s rest) (λ x.
      both (more_at r k (after_param x.0 s) x.1) (more_at q k (after_param x.0 s) x.1) _ _ (more k (after_param x.0 s) x.1) (λ y. inl refl)))

  listed : (s : Scope) (ts : List Token) → Agrees (list_at r s ts) (list_at q s ts)
  unfolding list_at
  listed s ts =
      both (r.typed Either s ts) (q.typed Either s ts) _ _ (i.typed Either s ts) (λ x.
      both (more_at r (length x.1) (after_param x.0 s) x.1) (more_at q (length x.1) (after_param x.0 s) x.1) _ _ (more (length x.1) (after_param x.0 s) x.1) (λ y. inl refl))

  params : (s : Scope) (ts : List Token) → Agrees (params_at r s ts) (params_at q s ts)
  unfolding params_at
  params s ts = chosen (ends_list ts) _ _ _ _ (chosen (void_at ts) _ _ _ _ (listed s ts) (λ rest. inl refl)) (λ rest. inl refl)

  bound : (s : Scope) (ts : List Token) → Agrees (bound_at r s ts) (bound_at q s ts)
  unfolding bound_at
  bound s ts = both (r.expr 11 s ts) (q.expr 11 s ts) _ _ (i.expr 11 s ts) (λ x. inl refl)

  array : (s : Scope) (ts : List Token) → Agrees (array_at r s ts) (array_at q s ts)
  unfolding array_at
  array s (token.SquareClose ∷ ts) = inl refl
  array s ts = bound s ts

  function : (s : Scope) (ts : List Token) → Agrees (function_at r s ts) (function_at q s ts)
  unfolding function_at
  function s ts = both (params_at r s ts) (params_at q s ts) _ _ (params s ts) (λ x. inl refl)

  suffixes : (k : ℕ) (s : Scope) (ts : List Token) → Agrees (suffixes_at r k s ts) (suffixes_at q k s ts)
  unfolding suffixes_at
  suffixes zero s ts = inl refl
  suffixes (suc k) s (token.SquareOpen ∷ ts) =
      both (array_at r s ts) (array_at q s ts) _ _ (array s ts) (λ x.
      both (suffixes_at r k (after_suffix x.0 s) x.1) (suffixes_at q k (after_suffix x.0 s) x.1) _ _ (suffixes k (after_suffix x.0 s) x.1) (λ y. inl refl))
  suffixes (suc k) s (token.Open ∷ ts) =
      both (function_at r s ts) (function_at q s ts) _ _ (function s ts) (λ x.
      both (suffixes_at r k (after_suffix x.0 s) x.1) (suffixes_at q k (after_suffix x.0 s) x.1) _ _ (suffixes k (after_suffix x.0 s) x.1) (λ y. inl refl))
  suffixes (suc k) s ts = inl refl

  pub declarator : (a : Allowed) (s : Scope) (ts : List Token) → Agrees (decl_at r a s ts) (decl_at q a s ts)
  unfolding decl_at
  declarator a s ts =
      both (core_at r a s (marks_at ts).1) (core_at q a s (marks_at ts).1) _ _ (core a s (marks_at ts).1) (λ x.
      both (suffixes_at r (length x.1) (after_core x.0 s) x.1) (suffixes_at q (length x.1) (after_core x.0 s) x.1) _ _ (suffixes (length x.1) (after_core x.0 s) x.1) (λ y. inl refl))

  pub specified : (a : Allowed) (s : Scope) (ts : List Token) → Agrees (typed_at r a s ts) (typed_at q a s ts)
  unfolding typed_at
  specified a s ts =
      both (specifiers_at r s ts) (specifiers_at q s ts) _ _ (specifiers s ts) (λ x.
      both (decl_at r a (after_specs x.0 s) x.1) (decl_at q a (after_specs x.0 s) x.1) _ _ (declarator a (after_specs x.0 s) x.1) (λ y. inl refl))

-- one nesting more
pub one_more : (n : ℕ) → Nested (inner n) (inner (suc n))
unfolding inner
one_more zero = record { expr = λ h s ts. inr (length ts, refl); decl = λ a s ts. inr (length ts, refl); typed = λ a s ts. inr (length ts, refl) }
one_more (suc n) = record { expr = λ h s ts. level (inner n) (inner (suc n)) (one_more n) h s ts; decl = λ a s ts. declarator (inner n) (inner (suc n)) (one_more n) a s ts; typed = λ a s ts. specified (inner n) (inner (suc n)) (one_more n) a s ts }
