use Rattle.f_items.proofs.Single.{declares_once}
use Rattle.f_items.proofs.laws.a_scope_declares_a_name_once.Goals as goal

pub returns : goal.returns
returns c = declares_once
