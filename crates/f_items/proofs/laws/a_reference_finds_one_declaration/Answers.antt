use Rattle.f_items.proofs.Single.{finds_one}
use Rattle.f_items.proofs.laws.a_reference_finds_one_declaration.Goals as goal

pub returns : goal.returns
returns c = finds_one
