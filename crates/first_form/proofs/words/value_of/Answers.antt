use Rattle.first_form.proofs.Numerals.{plain_utf8, refused}
use Rattle.first_form.proofs.words.value_of.Goals as goal

pub returns-in_default : goal.returns-in_default
returns-in_default c = λ _. c.in_default.ensures.cases.0 (plain_utf8 c.args.digits.now c.requires)

pub returns-in_default-parse-2 : goal.returns-in_default-parse-2
returns-in_default-parse-2 c = refused c.in-Ok.text.now c.args.digits.now c.parse.result c.in_default-parse.field-0 c.in-Ok.ensures.cases.0 c.parse.ensures.value.0 c.in_default-parse.is c.requires
