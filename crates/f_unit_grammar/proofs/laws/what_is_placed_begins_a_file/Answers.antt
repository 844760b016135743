use Rattle.f_unit_grammar.proofs.Viable.{placed_begins}
use Rattle.f_unit_grammar.proofs.laws.what_is_placed_begins_a_file.Goals as goal

pub returns : goal.returns
returns c = placed_begins
