use Rattle.f_items.proofs.Single.{declares_none_used}
use Rattle.f_items.proofs.laws.a_scope_declares_no_used_name.Goals as goal

pub returns : goal.returns
returns c = declares_none_used
