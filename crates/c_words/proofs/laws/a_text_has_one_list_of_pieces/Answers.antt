use Rattle.c_words.proofs.Joining.{are_pieces, one_list}
use Rattle.c_words.proofs.laws.a_text_has_one_list_of_pieces.Goals as goal

pub returns-clause-there : goal.returns-clause-there
returns-clause-there c = are_pieces

pub returns-clause-only : goal.returns-clause-only
returns-clause-only c = one_list
