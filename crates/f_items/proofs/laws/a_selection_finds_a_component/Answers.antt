use Rattle.f_items.proofs.Selected.{selects_some}
use Rattle.f_items.proofs.laws.a_selection_finds_a_component.Goals as goal

pub returns : goal.returns
returns c = selects_some
