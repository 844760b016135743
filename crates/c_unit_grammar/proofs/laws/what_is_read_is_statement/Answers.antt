use Rattle.c_unit_grammar.proofs.Sound.{in_sound}
use Rattle.c_unit_grammar.proofs.laws.what_is_read_is_statement.Goals as goal

pub returns : goal.returns
returns c = in_sound
