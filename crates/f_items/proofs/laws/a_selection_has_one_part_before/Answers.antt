use Rattle.f_items.proofs.Selected.{part_before_one}
use Rattle.f_items.proofs.laws.a_selection_has_one_part_before.Goals as goal

pub returns : goal.returns
returns c = part_before_one
