use Rattle.f_value.proofs.Squares.{power_of_zero, half_too_large, square_too_large, is_square, is_square_times}
use Rattle.f_value.proofs.integer.+size_of_power.Goals as goal

pub returns-then-size-eq0 : goal.returns-then-size-eq0
returns-then-size-eq0 t c = power_of_zero c.args.size c.args.n c.if-n-eq0.false c.if-size-eq0.true

pub returns-in-None : goal.returns-in-None
returns-in-None t c = half_too_large c.args.size c.args.n c.if-size-eq0.false c.in-None.ensures

pub returns-in-None-checked_mul : goal.returns-in-None-checked_mul
returns-in-None-checked_mul t c = square_too_large c.args.size c.args.n c.in-Some.half c.if-size-eq0.false c.in-Some.ensures.1 c.in-None-checked_mul.ensures

pub returns-then-n-eq1 : goal.returns-then-n-eq1
returns-then-n-eq1 t c = is_square_times c.args.size c.args.n c.in-Some.half c.in-Some-checked_mul.square c.checked_mul-then-n-eq1.result c.in-Some.ensures.1 c.in-Some-checked_mul.ensures.1 c.if-n-eq1.true c.checked_mul-then-n-eq1.ensures

pub returns-else-n-eq1 : goal.returns-else-n-eq1
returns-else-n-eq1 t c = is_square c.args.size c.args.n c.in-Some.half c.in-Some-checked_mul.square c.in-Some.ensures.1 c.in-Some-checked_mul.ensures.0 c.in-Some-checked_mul.ensures.1 c.if-n-eq1.false
