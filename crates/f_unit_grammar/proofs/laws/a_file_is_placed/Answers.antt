use Rattle.f_unit_grammar.proofs.Placed.{file_placed}
use Rattle.f_unit_grammar.proofs.laws.a_file_is_placed.Goals as goal

pub returns : goal.returns
returns c = file_placed
