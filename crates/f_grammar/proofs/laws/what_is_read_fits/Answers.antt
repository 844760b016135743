use Rattle.f_grammar.proofs.Sound.{expr_sound}
use Rattle.f_grammar.proofs.laws.what_is_read_fits.Goals as goal

pub returns : goal.returns
returns c = expr_sound
