use Rattle.std.proofs.Common.{length}
use Rattle.c_external_read.proofs.Counting.{recounted}
use Rattle.c_external_read.proofs.Entries.{external_found, external_only}
use Rattle.c_external_read.proofs.read.read_external.Goals as goal

pub returns-clause-found : goal.returns-clause-found
returns-clause-found c = external_found _ c.external.result c.args.depth c.args.scope.now c.args.tokens.now c.external.ensures.read

pub returns-clause-only : goal.returns-clause-only
returns-clause-only c = external_only _ c.external.result c.args.depth c.args.scope.now c.args.tokens.now c.external.ensures.read

pub returns-clause-counted : goal.returns-clause-counted
returns-clause-counted c = recounted (λ x. x.0) (λ x. length x.1.now) c.external.result c.args.counts.now c.args.end (length c.args.tokens.now) c.requires.within c.external.ensures.counted
