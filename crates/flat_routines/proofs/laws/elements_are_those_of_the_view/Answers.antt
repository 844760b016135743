use Rattle.flat_routines.proofs.Views.{is_view}
use Rattle.flat_routines.proofs.laws.elements_are_those_of_the_view.Goals as goal

pub returns : goal.returns
returns c base dims strides = is_view base dims strides
