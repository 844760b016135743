use Rattle.f_declaration_grammar.proofs.DeclaredAgain.{declared_again}
use Rattle.f_declaration_grammar.proofs.laws.declaration_that_fits_is_read.Goals as goal

pub returns : goal.returns
returns c = declared_again
