use Rattle.f_spelling_laws.proofs.Files.{files}
use Rattle.f_spelling_laws.proofs.laws.lexemes_are_a_file.Goals as goal

pub returns : goal.returns
returns c = files
