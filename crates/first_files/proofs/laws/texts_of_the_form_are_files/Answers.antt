use Rattle.first_files.proofs.FormTexts.{form_texts}
use Rattle.first_files.proofs.laws.texts_of_the_form_are_files.Goals as goal

pub returns : goal.returns
returns c = form_texts
