use Rattle.f_items.proofs.Selected.{part_type_one}
use Rattle.f_items.proofs.laws.a_part_has_one_type.Goals as goal

pub returns : goal.returns
returns c = part_type_one
