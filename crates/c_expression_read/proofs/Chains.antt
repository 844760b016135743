-- A chain with a link is one.
use Rattle.std.proofs.Common.{◌≡◌, ℕ, ◌≤◌, List, [], ◌∷◌, length, map, refl, arith}
use Rattle.c_tree.specs.declared.expression.Expr.{Expr as TreeExpr}
use Rattle.c_tree.specs.declared.expression.Link.{Link}
use Rattle.c_tree.specs.declared.expression.Postfix.{Postfix as TreePostfix}
use Rattle.c_grammar.specs.Grammar.{Expr, Chain, Postfix}
use Rattle.c_grammar.specs.Reading.{chain, with_posts}
use Rattle.c_expression_read.specs.Views.{view, view_link, view_postfix, links_of, commas_of, posts_of}

pub chain_linked : (h : ℕ) (e : Expr) (ls : List Link) → 1 ≤ length ls → Chain h e (links_of (map view_link ls)) ≡ chain h e (links_of (map view_link ls))
chain_linked h e [] le = absurd (omega (arith, le))
chain_linked h e (l ∷ ls) le = refl

pub chain_listed : (h : ℕ) (e : Expr) (es : List TreeExpr) → 1 ≤ length es → Chain h e (commas_of (map view es)) ≡ chain h e (commas_of (map view es))
chain_listed h e [] le = absurd (omega (arith, le))
chain_listed h e (x ∷ es) le = refl

pub posts_some : (e : Expr) (ps : List TreePostfix) → 1 ≤ length ps → Postfix e (posts_of (map view_postfix ps)) ≡ with_posts e (posts_of (map view_postfix ps))
posts_some e [] le = absurd (omega (arith, le))
posts_some e (p ∷ ps) le = refl
