use Rattle.f_unit_grammar.proofs.Begun.{placed_is_file}
use Rattle.f_unit_grammar.proofs.laws.what_is_placed_is_a_file.Goals as goal

pub returns : goal.returns
returns c = placed_is_file
