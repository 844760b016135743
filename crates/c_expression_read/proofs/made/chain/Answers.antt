use Rattle.std.proofs.Common.{◌≡◌, ◌≤◌, List, length, subst, IfOk}
use Rattle.c_tree.specs.Heights.{rank}
use Rattle.c_grammar.specs.Grammar.{Expr}
use Rattle.c_expression_read.specs.Views.{view}
use Rattle.c_expression_read.proofs.Chains.{chain_linked}
use Rattle.c_expression_read.proofs.made.chain.Goals as goal

pub returns-in-len1-up : goal.returns-in-len1-up
returns-in-len1-up c = subst (λ (x : Expr). IfOk c.linked.result (λ e. view e ≡ x)) (chain_linked (rank c.args.height) (view c.args.first) c.args.links.items (subst (λ (ys : List _). 1 ≤ length ys) c.as_slice.ensures.value c.in-len1-up.len_at_least)) c.linked.ensures
