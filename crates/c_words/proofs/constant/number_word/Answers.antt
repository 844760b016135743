use Rattle.std.proofs.Common.{sym, ap, ◌∙◌}
use Rattle.c_grammar.specs.declared.token.Token.TheVariants.{Number}
use Rattle.c_words.proofs.Constants.{number_is, number_isnt}
use Rattle.c_words.proofs.constant.number_word.Goals as goal

pub returns-in-None : goal.returns-in-None
returns-in-None c = sym (number_isnt c.args.spelling.now c.in-None.ensures)

pub returns-in-Some : goal.returns-in-Some
returns-in-Some c = ap (Number c.in-Some.constant.value) c.kind.ensures ∙ sym (number_is c.args.spelling.now c.in-Some.constant c.in-Some.ensures)
