-- A chain with a link is one.
use Rattle.std.proofs.Common.{◌≡◌, ℕ, ◌≤◌, List, [], ◌∷◌, length, map, Option, Some, None, refl, arith}
use Rattle.f_tree.specs.declared.expression.Sign.{Sign}
use Rattle.f_tree.specs.declared.expression.Link.{Link}
use Rattle.f_grammar.specs.Grammar.{Expr, Chain}
use Rattle.f_grammar.specs.Reading.{chain}
use Rattle.f_expr_read.specs.Views.{view_link, links_of, mark_of}

pub chain_linked : (h : ℕ) (s : Option Sign) (e : Expr) (ls : List Link) → 1 ≤ length ls → chain h (mark_of s) e (links_of (map view_link ls)) ≡ Chain h (mark_of s) e (links_of (map view_link ls))
chain_linked h s e [] le = absurd (omega (arith, le))
chain_linked h None e (l ∷ ls) le = refl
chain_linked h (Some s) e (l ∷ ls) le = refl
