use Rattle.c_unit_grammar.proofs.Sound.{ext_sound}
use Rattle.c_unit_grammar.proofs.laws.what_is_read_is_external.Goals as goal

pub returns : goal.returns
returns c = ext_sound
