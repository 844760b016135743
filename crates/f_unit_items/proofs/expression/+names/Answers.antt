use Rattle.std.proofs.Common.{◌≡◌, ◌<◌, ◌+◌, ◌-◌, get_or, length, sym, ◌∙◌, arith}
use Rattle.f_unit_items.specs.declared.expression.PartRole.TheVariants.{Selected}
use Rattle.f_unit_items.specs.Expressions.{expression, link, part, argument, parameter}
use Rattle.f_unit_items.proofs.Steps.{each-step, given-step}
use Rattle.f_unit_items.proofs.expression.+names.Goals as goal

pub put_expressions-loop-left-preserved : goal.put_expressions-loop-left-preserved
put_expressions-loop-left-preserved t c =
    let left = c.loop-left.left in
    let xs = c.args.all.now in
    let item = c.index-all-left.result in
    let one : left - 1 + 1 ≡ left = omega arith in
    let bound = c.loop-left.invariant.within in
    let within : left - 1 < length xs = omega arith in
    let here : get_or xs (left - 1) item ≡ item = sym c.index-all-left.is in
    record { within = omega arith; so_far = rw (c.in_ok-put_expression.ensures) (each-step expression xs left (left - 1) item c.loop-left.out one within here ∙ c.loop-left.invariant.so_far) }

pub put_links-loop-left-preserved : goal.put_links-loop-left-preserved
put_links-loop-left-preserved t c =
    let left = c.loop-left.left in
    let xs = c.args.links.now in
    let item = c.index-links-left.result in
    let one : left - 1 + 1 ≡ left = omega arith in
    let bound = c.loop-left.invariant.within in
    let within : left - 1 < length xs = omega arith in
    let here : get_or xs (left - 1) item ≡ item = sym c.index-links-left.is in
    record { within = omega arith; so_far = rw (c.in_ok-put_link.ensures) (each-step link xs left (left - 1) item c.loop-left.out one within here ∙ c.loop-left.invariant.so_far) }

pub put_selected-loop-left-preserved : goal.put_selected-loop-left-preserved
put_selected-loop-left-preserved t c =
    let left = c.loop-left.left in
    let xs = c.args.parts.now in
    let item = c.index-parts-left.result in
    let one : left - 1 + 1 ≡ left = omega arith in
    let bound = c.loop-left.invariant.within in
    let within : left - 1 < length xs = omega arith in
    let here : get_or xs (left - 1) item ≡ item = sym c.index-parts-left.is in
    record { within = omega arith; so_far = rw (c.in_ok-put_part.ensures) (given-step Selected part xs left (left - 1) item c.loop-left.out one within here ∙ c.loop-left.invariant.so_far) }

pub put_arguments-loop-left-preserved : goal.put_arguments-loop-left-preserved
put_arguments-loop-left-preserved t c =
    let left = c.loop-left.left in
    let xs = c.args.arguments.now in
    let item = c.index-arguments-left.result in
    let one : left - 1 + 1 ≡ left = omega arith in
    let bound = c.loop-left.invariant.within in
    let within : left - 1 < length xs = omega arith in
    let here : get_or xs (left - 1) item ≡ item = sym c.index-arguments-left.is in
    record { within = omega arith; so_far = rw (c.in_ok-put_argument.ensures) (each-step argument xs left (left - 1) item c.loop-left.out one within here ∙ c.loop-left.invariant.so_far) }

pub put_parameters-loop-left-preserved : goal.put_parameters-loop-left-preserved
put_parameters-loop-left-preserved t c =
    let left = c.loop-left.left in
    let xs = c.args.parameters.now in
    let item = c.index-parameters-left.result in
    let one : left - 1 + 1 ≡ left = omega arith in
    let bound = c.loop-left.invariant.within in
    let within : left - 1 < length xs = omega arith in
    let here : get_or xs (left - 1) item ≡ item = sym c.index-parameters-left.is in
    record { within = omega arith; so_far = rw (c.in_ok-put_parameter.ensures) (each-step parameter xs left (left - 1) item c.loop-left.out one within here ∙ c.loop-left.invariant.so_far) }
