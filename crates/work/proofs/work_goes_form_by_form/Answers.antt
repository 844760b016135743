use Rattle.work.proofs.Whole.{free_over, free_do, free_call, free_loop, whole_is}
use Rattle.work.proofs.work_goes_form_by_form.Goals as goal

pub returns : goal.returns
returns g c = record { outcome = free_over; act = free_do; call = free_call; turn = free_loop; program = whole_is }
