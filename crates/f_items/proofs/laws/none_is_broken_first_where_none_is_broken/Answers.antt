use Rattle.f_items.proofs.Single.{none_first}
use Rattle.f_items.proofs.laws.none_is_broken_first_where_none_is_broken.Goals as goal

pub returns : goal.returns
returns c = none_first
