use Rattle.std.proofs.Common.{refl}
use Rattle.c_external_read.specs.Views.{view_external}
use Rattle.c_external_read.proofs.Counting.{shorter}
use Rattle.c_external_read.proofs.file.next_external.Goals as goal

pub returns-in-Ok-clause-counted : goal.returns-in-Ok-clause-counted
returns-in-Ok-clause-counted c = (c.in-Ok.read.1.now, c.in-Ok.ensures.found.0, c.in-Ok.ensures.counted, refl)

pub returns-in-Ok-clause-shorter : goal.returns-in-Ok-clause-shorter
returns-in-Ok-clause-shorter c = shorter (view_external c.in-Ok.read.0) c.args.tokens.now c.in-Ok.read.1.now c.in-Ok.ensures.found.0
