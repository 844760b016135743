use Rattle.first_form.specs.Forms.{program_lines}
use Rattle.first_form.proofs.Fronts.{tail_of}
use Rattle.first_form.proofs.fortran.opening.Goals as goal

pub returns-in_err-text : goal.returns-in_err-text
unfolding program_lines
returns-in_err-text c = rw c.from_residual-in_err-text.ensures (λ name rest e. c.in_err-text.ensures _ (tail_of c.in_ok-line.ensures.lines e))

pub returns-in_err-text-2 : goal.returns-in_err-text-2
unfolding program_lines
returns-in_err-text-2 c = rw c.from_residual-in_err-text-2.ensures (λ name rest e. c.in_err-text-2.ensures _ (tail_of c.in_ok-text.ensures (tail_of c.in_ok-line.ensures.lines e)))

pub returns-in_err-text-3 : goal.returns-in_err-text-3
unfolding program_lines
returns-in_err-text-3 c =
    rw c.from_residual-in_err-text-3.ensures (λ name rest e. c.in_err-text-3.ensures _ (tail_of c.in_ok-text-2.ensures (tail_of c.in_ok-text.ensures (tail_of c.in_ok-line.ensures.lines e))))
