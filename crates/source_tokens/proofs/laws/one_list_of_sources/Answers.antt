use Rattle.source_tokens.proofs.OneList.{one_list}
use Rattle.source_tokens.proofs.laws.one_list_of_sources.Goals as goal

pub returns : goal.returns
returns c = one_list
