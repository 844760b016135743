use Rattle.std.proofs.Common.{◌≡◌, ◌≤◌, List, length, subst, IfOk}
use Rattle.c_grammar.specs.Grammar.{Expr}
use Rattle.c_expression_read.specs.Views.{view}
use Rattle.c_expression_read.proofs.Chains.{chain_listed}
use Rattle.c_expression_read.proofs.made.commas.Goals as goal

pub returns-in-len1-up : goal.returns-in-len1-up
returns-in-len1-up c = subst (λ (x : Expr). IfOk c.listed.result (λ e. view e ≡ x)) (chain_listed 12 (view c.args.first) c.args.others.items (subst (λ (ys : List _). 1 ≤ length ys) c.as_slice.ensures.value c.in-len1-up.len_at_least)) c.listed.ensures
