use Rattle.f_items.proofs.Single.{finds_some}
use Rattle.f_items.proofs.laws.a_reference_finds_a_declaration.Goals as goal

pub returns : goal.returns
returns c = finds_some
