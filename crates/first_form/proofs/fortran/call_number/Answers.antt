use Rattle.first_form.proofs.CallLines.{call_rest, call_is}
use Rattle.first_form.proofs.fortran.call_number.Goals as goal

pub returns-in_err-digits : goal.returns-in_err-digits
returns-in_err-digits c =
    rw c.from_residual-in_err-digits.ensures
    (λ n small e. c.in_err-digits.ensures _ (call_rest c.args.line.now c.args.label.now c.in_ok-after.field-0.now c.in_ok-rest.rest.now c.in_ok-after.ensures c.in_ok-rest.ensures n e))

pub returns : goal.returns
returns c =
    call_is c.args.line.now c.args.label.now c.in_ok-after.field-0.now c.in_ok-rest.rest.now c.in_ok-digits.digits.now c.number_of.result
    c.in_ok-after.ensures c.in_ok-rest.ensures c.in_ok-digits.ensures c.number_of.ensures
