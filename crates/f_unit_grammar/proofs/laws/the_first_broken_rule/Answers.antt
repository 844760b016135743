use Rattle.f_unit_grammar.proofs.FirstRule.{rule_is_first}
use Rattle.f_unit_grammar.proofs.laws.the_first_broken_rule.Goals as goal

pub returns : goal.returns
returns c = rule_is_first
