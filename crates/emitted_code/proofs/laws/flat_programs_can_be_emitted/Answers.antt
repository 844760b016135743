use Rattle.emitted_code.proofs.Asks.{can_emit}
use Rattle.emitted_code.proofs.laws.flat_programs_can_be_emitted.Goals as goal

pub returns : goal.returns
returns c p hs x = can_emit p hs x
