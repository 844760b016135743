use Rattle.first_form.specs.Words.{reserved_words, keywords, library_functions}
use Rattle.first_form.proofs.Members.{found_exactly}
use Rattle.first_form.proofs.words.is_reserved.Goals as goal

pub returns : goal.returns
unfolding keywords library_functions
returns c = found_exactly c.args.word.now reserved_words c.is_among.result c.is_among.ensures
