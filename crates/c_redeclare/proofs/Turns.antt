-- What trees declare, by what the lists in them declare.
use Rattle.std.proofs.Common.{◌≡◌, ℕ, List, [], ◌∷◌, refl, sym}
use Rattle.c_grammar.specs.Grammar.{Scope, Expr, Joint, after, after_joint, after_links, after_post}
use Rattle.c_expression_read.specs.Views.{call_of, commas_of, links_of, first_of, shifted, to_the_right}
use Rattle.c_redeclare.specs.Again.{after_each, after_fronts}

-- expressions behind commas
pub after_commas : (es : List Expr) (s : Scope) → after_each es s ≡ after_links (commas_of es) s
after_commas [] s = refl
after_commas (e ∷ es) s = after_commas es (after e s)

-- the arguments of a call
pub after_call : (es : List Expr) (s : Scope) → after_each es s ≡ after_post (call_of es) s
after_call [] s = refl
after_call (e ∷ []) s = refl
after_call (e ∷ f ∷ es) s = after_commas (f ∷ es) (after e s)

-- operands that group to the right
pub after_right : (h : ℕ) (xs : List (Expr × Joint)) (last : Expr) (s : Scope) → after last (after_fronts xs s) ≡ after (to_the_right h xs last) s
after_right h [] last s = refl
after_right h (x ∷ xs) last s = after_right h xs last (after_joint x.1 (after x.0 s))

pub after_shifted : (xs : List (Expr × Joint)) (last : Expr) (s : Scope) → after_links (links_of (shifted xs last)) (after (first_of xs last) s) ≡ after last (after_fronts xs s)
after_shifted xs last s = sym (after_right 10 xs last s)
