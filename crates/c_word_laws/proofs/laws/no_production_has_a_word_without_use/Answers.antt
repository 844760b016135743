use Rattle.c_word_laws.proofs.Units.{used_ext}
use Rattle.c_word_laws.proofs.laws.no_production_has_a_word_without_use.Goals as goal

pub returns : goal.returns
returns c = used_ext
