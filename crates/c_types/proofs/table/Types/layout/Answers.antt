use Rattle.std.proofs.Common.{sym}
use Rattle.c_types.proofs.table.Types.layout.Goals as goal

pub returns-in-Some-clause-sound : goal.returns-in-Some-clause-sound
returns-in-Some-clause-sound c = rw (← c.self.view_is) (c.self.invariant.sound c.args.s c.in-Some.layout.now (rw c.as_slice.ensures.value at (sym c.in-Some.ensures)))
