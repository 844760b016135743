use Rattle.first_c_files.proofs.FormFiles.{c_form_files}
use Rattle.first_c_files.proofs.laws.texts_of_the_form_are_files.Goals as goal

pub returns : goal.returns
returns c = c_form_files
