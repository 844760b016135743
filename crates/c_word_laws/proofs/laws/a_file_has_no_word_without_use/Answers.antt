use Rattle.c_word_laws.proofs.Units.{no_file}
use Rattle.c_word_laws.proofs.laws.a_file_has_no_word_without_use.Goals as goal

pub returns : goal.returns
returns c = no_file
