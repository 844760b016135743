use Rattle.std.proofs.Common.{◌≡◌, ◌≤◌, List, length, subst, IfOk}
use Rattle.c_grammar.specs.Grammar.{Expr}
use Rattle.c_expression_read.specs.Views.{view}
use Rattle.c_expression_read.proofs.Chains.{posts_some}
use Rattle.c_expression_read.proofs.made.postfix.Goals as goal

pub returns-in-len1-up : goal.returns-in-len1-up
returns-in-len1-up c = subst (λ (x : Expr). IfOk c.postfixed.result (λ e. view e ≡ x)) (posts_some (view c.args.operand) c.args.suffixes.items (subst (λ (ys : List _). 1 ≤ length ys) c.as_slice.ensures.value c.in-len1-up.len_at_least)) c.postfixed.ensures
