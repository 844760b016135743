use Rattle.std.proofs.Common.{subst}
use Rattle.flatten.specs.declared.blocks.BlockProgram.{BlockProgram}
use Rattle.emitted_code.specs.Room.{HasRoom}
use Rattle.back_end.proofs.tests.runs.image_of.Goals as goal

pub image_of_flat-requires-clause-room : goal.image_of_flat-requires-clause-room
image_of_flat-requires-clause-room c = subst (λ (q : BlockProgram). HasRoom q) c.in_ok-q.ensures.code (c.has_room.ensures c.if-not-has_room.false)
