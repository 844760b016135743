use Rattle.first_form.specs.Forms.{interface_lines}
use Rattle.first_form.proofs.Fronts.{tail_of, head_of}
use Rattle.first_form.proofs.fortran.interface.Goals as goal

pub returns-in_err-label : goal.returns-in_err-label
unfolding interface_lines
returns-in_err-label c = rw c.from_residual-in_err-label.ensures (λ label rest e. c.in_err-label.ensures label (head_of c.in_ok-line.ensures.lines e))

pub returns-in_err-text : goal.returns-in_err-text
unfolding interface_lines
returns-in_err-text c = rw c.from_residual-in_err-text.ensures (λ label rest e. c.in_err-text.ensures _ (tail_of c.in_ok-line.ensures.lines e))

pub returns-in_err-text-2 : goal.returns-in_err-text-2
unfolding interface_lines
returns-in_err-text-2 c = rw c.from_residual-in_err-text-2.ensures (λ label rest e. c.in_err-text-2.ensures _ (tail_of c.in_ok-text.ensures (tail_of c.in_ok-line.ensures.lines e)))

pub returns-in_err-text-3 : goal.returns-in_err-text-3
unfolding interface_lines
returns-in_err-text-3 c =
    rw c.from_residual-in_err-text-3.ensures
    (λ label rest e. c.in_err-text-3.ensures _ (tail_of c.in_ok-text-2.ensures (tail_of c.in_ok-text.ensures (tail_of c.in_ok-line.ensures.lines e))))

pub returns-in_err-text-4 : goal.returns-in_err-text-4
unfolding interface_lines
returns-in_err-text-4 c =
    rw c.from_residual-in_err-text-4.ensures
    (λ label rest e. c.in_err-text-4.ensures _ (tail_of c.in_ok-text-3.ensures (tail_of c.in_ok-text-2.ensures (tail_of c.in_ok-text.ensures (tail_of c.in_ok-line.ensures.lines e)))))
