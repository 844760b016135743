use Rattle.std.proofs.Common.{sym, ◌∙◌}
use Rattle.back_end.proofs.Sufficing.{room}
use Rattle.back_end.proofs.tests.room.has_room.Goals as goal

pub returns : goal.returns
returns c = λ e. room c.args.q.now (sym c.suffices.ensures ∙ e)
