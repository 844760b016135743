-- Operands that group to the right, one more of them.
use Rattle.std.proofs.Common.{◌≡◌, List, [], ◌∷◌, ◌++◌, map, refl, sym, ap, subst, ◌∙◌}
use Rattle.c_tree.specs.declared.operator.BinaryOperator.{BinaryOperator}
use Rattle.c_grammar.specs.Grammar.{Scope, Expr, Joint, Infix, Links, no_links, link, Members, no_members, member, Specs, Decl, Decls, Typed, after, after_joint, after_links, after_members, after_typed, after_decl, after_decls, after_specs}
use Rattle.c_expression_read.specs.Gives.{onto}
use Rattle.c_expression_read.specs.Views.{linked, links_of, first_of, shifted, members, decls_of}
use Rattle.c_expression_read.proofs.Loops.{map-last, after-last}

shifted-last : (xs : List (Expr × Joint)) (last next : Expr) (j : Joint) → shifted (xs ++ (last, j) ∷ []) next ≡ shifted xs last ++ (j, next) ∷ []
shifted-last [] last next j = refl
shifted-last (x ∷ []) last next j = refl
shifted-last (x ∷ y ∷ xs) last next j = ap (λ (ls : List (Joint × Expr)). (x.1, y.0) ∷ ls) (shifted-last (y ∷ xs) last next j)

first-last : (xs : List (Expr × Joint)) (last next : Expr) (j : Joint) → first_of (xs ++ (last, j) ∷ []) next ≡ first_of xs last
first-last [] last next j = refl
first-last (x ∷ xs) last next j = refl

module _ {X : Type 0} (see : X → Expr × Joint) (xs : List X) (x : X) (last next : Expr) (j : Joint) (is : see x ≡ (last, j)) where
  all : map see (xs ++ x ∷ []) ≡ map see xs ++ (last, j) ∷ []
  all = map-last see xs x ∙ ap (λ (y : Expr × Joint). map see xs ++ y ∷ []) is

  pub shift_on : shifted (map see (xs ++ x ∷ [])) next ≡ shifted (map see xs) last ++ (j, next) ∷ []
  shift_on = ap (λ (ys : List (Expr × Joint)). shifted ys next) all ∙ shifted-last (map see xs) last next j

  pub first_on : first_of (map see (xs ++ x ∷ [])) next ≡ first_of (map see xs) last
  first_on = ap (λ (ys : List (Expr × Joint)). first_of ys next) all ∙ first-last (map see xs) last next j

  pub shift_declares : (s0 s u : Scope) → s ≡ after_links (links_of (shifted (map see xs) last)) s0 → u ≡ after next (after_joint j s) → u ≡ after_links (links_of (shifted (map see (xs ++ x ∷ [])) next)) s0
  shift_declares s0 s u before one =
      one ∙ ap (λ (t : Scope). after next (after_joint j t)) before
      ∙ sym (after-last no_links linked after_links (λ y t. after y.1 (after_joint y.0 t)) (λ t. refl) (λ y l t. refl) (shifted (map see xs) last) (j, next) s0)
      ∙ ap (λ (ls : List (Joint × Expr)). after_links (links_of ls) s0) (sym shift_on)

-- a link declares what its operand does
pub link_declares : (x : Joint × Expr) (o : BinaryOperator) (e : Expr) (s t : Scope) → x ≡ (Infix o, e) → t ≡ after e s → t ≡ after x.1 (after_joint x.0 s)
link_declares x o e s t is d = subst (λ (y : Joint × Expr). t ≡ after y.1 (after_joint y.0 s)) (sym is) d

-- ---- members that are declared together

abbrev pub step_members : Specs × List Decl → Scope → Scope
step_members (specs, []) s = s
step_members (specs, d ∷ ds) s = after_decls (decls_of ds) (after_decl d (after_specs specs s))

pub after-members : (x : Specs × List Decl) (l : Members) (s : Scope) → after_members (members x l) s ≡ after_members l (step_members x s)
after-members (specs, []) l s = refl
after-members (specs, d ∷ ds) l s = refl

pub members_declare : (x : Specs × List Decl) (t : Typed) (ds : Decls) (s u : Scope) → ((more : Members) → members x more ≡ member t ds more) → u ≡ after_decls ds (after_typed t s) → u ≡ step_members x s
members_declare x t ds s u made d = d ∙ sym (ap (λ (m : Members). after_members m s) (made no_members)) ∙ after-members x no_members s
