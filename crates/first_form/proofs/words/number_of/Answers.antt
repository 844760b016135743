use Rattle.std.proofs.Common.{rules}
use Rattle.first_form.proofs.Numerals.{value_is_read, not_plain}
use Rattle.first_form.proofs.words.number_of.Goals as goal

pub returns-then-is_plain_numeral : goal.returns-then-is_plain_numeral
returns-then-is_plain_numeral c = value_is_read c.args.digits.now c.value_of.result (c.if-is_plain_numeral.ensures.0 (search rules)) c.value_of.ensures

pub returns-else-is_plain_numeral : goal.returns-else-is_plain_numeral
returns-else-is_plain_numeral c = λ n. not_plain c.args.digits.now n (λ h. search (rules, c.if-is_plain_numeral.ensures.1 h))
