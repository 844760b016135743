use Rattle.fcc_core.proofs.Forming.{of_the_form}
use Rattle.fcc_core.proofs.laws.files_of_the_form_are_a_program.Goals as goal

pub returns : goal.returns
returns c = of_the_form
