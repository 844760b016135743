use Rattle.std.proofs.Common.{◌≡◌, ◌<◌, ◌+◌, ◌-◌, get_or, length, sym, ◌∙◌, arith}
use Rattle.f_unit_items.specs.Units.{declaration, interface_body}
use Rattle.f_unit_items.proofs.Steps.{each-step, given-step}
use Rattle.f_unit_items.proofs.specification.+specifications.Goals as goal

pub put_declarations-loop-left-preserved : goal.put_declarations-loop-left-preserved
put_declarations-loop-left-preserved t c =
    let left = c.loop-left.left in
    let xs = c.args.declarations.now in
    let item = c.index-declarations-left.result in
    let one : left - 1 + 1 ≡ left = omega arith in
    let bound = c.loop-left.invariant.within in
    let within : left - 1 < length xs = omega arith in
    let here : get_or xs (left - 1) item ≡ item = sym c.index-declarations-left.is in
    record { within = omega arith; so_far = rw (c.in_ok-put_declaration.ensures) (each-step declaration xs left (left - 1) item c.loop-left.out one within here ∙ c.loop-left.invariant.so_far) }

pub put_bodies-loop-left-preserved : goal.put_bodies-loop-left-preserved
put_bodies-loop-left-preserved t c =
    let left = c.loop-left.left in
    let xs = c.args.bodies.now in
    let item = c.index-bodies-left.result in
    let one : left - 1 + 1 ≡ left = omega arith in
    let bound = c.loop-left.invariant.within in
    let within : left - 1 < length xs = omega arith in
    let here : get_or xs (left - 1) item ≡ item = sym c.index-bodies-left.is in
    record { within = omega arith; so_far = rw (c.in_ok-put_body.ensures) (given-step c.args.class interface_body xs left (left - 1) item c.loop-left.out one within here ∙ c.loop-left.invariant.so_far) }
