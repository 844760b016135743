use Rattle.f_declaration_grammar.proofs.DeclaredSound.{declared_sound}
use Rattle.f_declaration_grammar.proofs.laws.declaration_that_is_read_fits.Goals as goal

pub returns : goal.returns
returns c = declared_sound
