use Rattle.c_external_read.proofs.Counting.{some_tokens}
use Rattle.c_external_read.proofs.made.tokens_in.Goals as goal

pub total-requires : goal.total-requires
total-requires c = rw (c.front.ensures, c.behind.ensures) (some_tokens c.args.counts.now c.args.first c.args.words _ c.requires)
