use Rattle.std.proofs.Common.{◌∙◌}
use Rattle.first_form.proofs.PutTexts.{put_shape, no_parenthesis, put_parts, put_is_there}
use Rattle.first_form.proofs.c.first_put.Goals as goal

pub returns-in_err-text-clause-statement : goal.returns-in_err-text-clause-statement
returns-in_err-text-clause-statement c = rw c.from_residual.ensures (λ a rest is e. c.in_err-text.ensures _ (e ∙ put_shape a rest))

pub returns-in_err-argument-clause-statement : goal.returns-in_err-argument-clause-statement
returns-in_err-argument-clause-statement c =
    rw c.from_residual-in_err-argument.ensures (no_parenthesis c.args.text.now c.in_ok-text.text.now c.in_ok-text.ensures c.in_err-argument.ensures)

pub returns-in_err-rest-clause-statement : goal.returns-in_err-rest-clause-statement
returns-in_err-rest-clause-statement c =
    rw c.from_residual-in_err-rest.ensures
    (λ a rest is e. c.in_err-rest.ensures rest
    (put_parts c.args.text.now c.in_ok-text.text.now c.in_ok-argument.argument.now c.in_ok-argument.text.now c.in_ok-text.ensures c.in_ok-argument.ensures.0 c.in_ok-argument.ensures.1 a rest is e).1)

pub returns-in_err-argument-2-clause-statement : goal.returns-in_err-argument-2-clause-statement
returns-in_err-argument-2-clause-statement c =
    rw c.from_residual-in_err-argument-2.ensures
    (λ a rest is e. c.in_err-argument-2.ensures a is
    (put_parts c.args.text.now c.in_ok-text.text.now c.in_ok-argument.argument.now c.in_ok-argument.text.now c.in_ok-text.ensures c.in_ok-argument.ensures.0 c.in_ok-argument.ensures.1 a rest is e).0)

pub returns-clause-statement : goal.returns-clause-statement
returns-clause-statement c = (
  c.in_ok-argument-2.ensures.0,
  put_is_there c.args.text.now c.in_ok-text.text.now c.in_ok-argument.argument.now c.in_ok-argument.text.now c.in_ok-rest.rest.now c.in_ok-text.ensures c.in_ok-argument.ensures.0 c.in_ok-rest.ensures
      c.in_ok-argument-2.argument c.in_ok-argument-2.ensures.1,
)
