use Rattle.source_tokens.proofs.OneList.{none_broken}
use Rattle.source_tokens.proofs.laws.no_broken_rule_beside_sources.Goals as goal

pub returns : goal.returns
returns c = none_broken
