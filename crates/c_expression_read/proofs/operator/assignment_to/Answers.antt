use Rattle.std.proofs.Common.{sym, ◌∙◌}
use Rattle.c_expression_read.specs.Views.{view}
use Rattle.c_expression_read.proofs.Heights.{assign_found, assign_other, assign_none}
use Rattle.c_expression_read.proofs.operator.assignment_to.Goals as goal

pub returns-in-None : goal.returns-in-None
returns-in-None c = λ rest. assign_none (view c.args.place.now) rest c.args.token (sym c.assign_of.ensures ∙ c.in-None.is)

pub returns-then-is_unary : goal.returns-then-is_unary
returns-then-is_unary c = λ rest. assign_found (view c.args.place.now) rest c.args.token c.in-Some.operator (sym c.assign_of.ensures ∙ c.in-Some.is) (sym c.is_unary.ensures ∙ c.if-is_unary.true)

pub returns-else-is_unary : goal.returns-else-is_unary
returns-else-is_unary c = λ rest. assign_other (view c.args.place.now) rest c.args.token c.in-Some.operator (sym c.assign_of.ensures ∙ c.in-Some.is) (sym c.is_unary.ensures ∙ c.if-is_unary.false)
