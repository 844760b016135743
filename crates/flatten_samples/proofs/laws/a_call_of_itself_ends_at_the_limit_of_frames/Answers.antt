use Rattle.std.proofs.Common.{refl}
use Rattle.flatten.specs.Code.{code}
use Rattle.flatten_samples.proofs.laws.a_call_of_itself_ends_at_the_limit_of_frames.Goals as goal

pub returns-clause-blocks_fit : goal.returns-clause-blocks_fit
unfolding code
returns-clause-blocks_fit c = refl

pub returns-clause-blocks_end : goal.returns-clause-blocks_end
unfolding code
returns-clause-blocks_end c = refl
