use Rattle.c_words.proofs.Constants.{number_is, number_isnt}
use Rattle.c_words.proofs.laws.integer_constants_have_values_and_types.Goals as goal

pub returns-clause-constant : goal.returns-clause-constant
returns-clause-constant c = number_is

pub returns-clause-none : goal.returns-clause-none
returns-clause-none c = number_isnt
