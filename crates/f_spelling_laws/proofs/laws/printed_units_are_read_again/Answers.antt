use Rattle.f_spelling_laws.proofs.Texts.{texts}
use Rattle.f_spelling_laws.proofs.laws.printed_units_are_read_again.Goals as goal

pub returns : goal.returns
returns c = texts
