use Rattle.c_words.proofs.Constants.{strings_read}
use Rattle.c_words.proofs.laws.string_literals_are_joined.Goals as goal

pub returns : goal.returns
returns c = strings_read
