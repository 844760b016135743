use Rattle.f_unit_grammar.proofs.Unique.{one_file}
use Rattle.f_unit_grammar.proofs.laws.one_file.Goals as goal

pub returns : goal.returns
returns c = one_file
