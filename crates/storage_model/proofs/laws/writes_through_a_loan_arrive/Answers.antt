use Rattle.std.proofs.Common.{refl}
use Rattle.storage_model.proofs.Lawful.{cell_arrives}
use Rattle.storage_model.proofs.laws.writes_through_a_loan_arrive.Goals as goal

pub returns : goal.returns
returns c = record { written = cell_arrives; unwritten = λ s l q. refl }
