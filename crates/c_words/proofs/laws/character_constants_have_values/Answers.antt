use Rattle.c_words.proofs.Constants.{byte_is, byte_isnt}
use Rattle.c_words.proofs.laws.character_constants_have_values.Goals as goal

pub returns-clause-constant : goal.returns-clause-constant
returns-clause-constant c = byte_is

pub returns-clause-none : goal.returns-clause-none
returns-clause-none c = byte_isnt
