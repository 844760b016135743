use Rattle.std.proofs.Common.{sym, ◌∙◌}
use Rattle.c_expression_read.proofs.Heights.{binary_found_by, binary_other_by, binary_none}
use Rattle.c_expression_read.proofs.operator.binary_of_height.Goals as goal

pub returns-in-None : goal.returns-in-None
returns-in-None c = λ left rest. binary_none c.args.height left rest c.args.token (sym c.binary_of.ensures ∙ c.in-None.is)

pub returns-then-is_of_height : goal.returns-then-is_of_height
returns-then-is_of_height c = λ left rest. binary_found_by c.args.height left rest c.args.token c.in-Some.operator (sym c.binary_of.ensures ∙ c.in-Some.is) (sym c.is_of_height.ensures ∙ c.if-is_of_height.true)

pub returns-else-is_of_height : goal.returns-else-is_of_height
returns-else-is_of_height c = λ left rest. binary_other_by c.args.height left rest c.args.token c.in-Some.operator (sym c.binary_of.ensures ∙ c.in-Some.is) (sym c.is_of_height.ensures ∙ c.if-is_of_height.false)
