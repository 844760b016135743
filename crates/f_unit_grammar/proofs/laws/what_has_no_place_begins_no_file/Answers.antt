use Rattle.f_unit_grammar.proofs.Begun.{broken_for_all}
use Rattle.f_unit_grammar.proofs.laws.what_has_no_place_begins_no_file.Goals as goal

pub returns : goal.returns
returns c = broken_for_all
