use Rattle.std.proofs.Common.{◌≡◌, ◌<◌, ◌+◌, ◌-◌, get_or, length, sym, ◌∙◌, arith}
use Rattle.f_unit_items.proofs.Steps.{each-step}
use Rattle.f_unit_items.proofs.put.put_each.Goals as goal

pub loop-left-preserved : goal.loop-left-preserved
loop-left-preserved g c =
    let left = c.loop-left.left in
    let xs = c.args.list.now in
    let item = c.index-list-left.result in
    let one : left - 1 + 1 ≡ left = omega arith in
    let bound = c.loop-left.invariant.within in
    let within : left - 1 < length xs = omega arith in
    let here : get_or xs (left - 1) item ≡ item = sym c.index-list-left.is in
    record { within = omega arith; so_far = rw (c.in_ok-put.ensures) (each-step g.T.HasItems.items xs left (left - 1) item c.loop-left.out one within here ∙ c.loop-left.invariant.so_far) }
