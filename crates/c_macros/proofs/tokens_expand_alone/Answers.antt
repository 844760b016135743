use Rattle.c_macros.proofs.Functional.{expansion_append}
use Rattle.c_macros.proofs.tokens_expand_alone.Goals as goal

pub returns : goal.returns
returns c = expansion_append
