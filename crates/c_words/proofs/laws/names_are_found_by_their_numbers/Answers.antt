use Rattle.c_words.proofs.Numbered.{found_by_number}
use Rattle.c_words.proofs.laws.names_are_found_by_their_numbers.Goals as goal

pub returns : goal.returns
returns c = found_by_number
