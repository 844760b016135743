use Rattle.f_line_grammar.proofs.LineSound.{line_sound}
use Rattle.f_line_grammar.proofs.laws.line_that_is_read_fits.Goals as goal

pub returns : goal.returns
returns c = line_sound
