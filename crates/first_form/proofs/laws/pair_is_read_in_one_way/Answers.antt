use Rattle.first_form.proofs.OneReading.{one_reading}
use Rattle.first_form.proofs.laws.pair_is_read_in_one_way.Goals as goal

pub returns : goal.returns
returns c = one_reading
