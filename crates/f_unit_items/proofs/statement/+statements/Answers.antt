use Rattle.std.proofs.Common.{◌≡◌, ◌<◌, ◌+◌, ◌-◌, get_or, length, sym, ◌∙◌, arith}
use Rattle.f_unit_items.specs.Statements.{statement, else_if, case_block, rank_block}
use Rattle.f_unit_items.proofs.Steps.{each-step}
use Rattle.f_unit_items.proofs.statement.+statements.Goals as goal

pub put_statements-loop-left-preserved : goal.put_statements-loop-left-preserved
put_statements-loop-left-preserved t c =
    let left = c.loop-left.left in
    let xs = c.args.body.now in
    let item = c.index-body-left.result in
    let one : left - 1 + 1 ≡ left = omega arith in
    let bound = c.loop-left.invariant.within in
    let within : left - 1 < length xs = omega arith in
    let here : get_or xs (left - 1) item ≡ item = sym c.index-body-left.is in
    record { within = omega arith; so_far = rw (c.in_ok-put_statement.ensures) (each-step statement xs left (left - 1) item c.loop-left.out one within here ∙ c.loop-left.invariant.so_far) }

pub put_else_ifs-loop-left-preserved : goal.put_else_ifs-loop-left-preserved
put_else_ifs-loop-left-preserved t c =
    let left = c.loop-left.left in
    let xs = c.args.parts.now in
    let item = c.index-parts-left.result in
    let one : left - 1 + 1 ≡ left = omega arith in
    let bound = c.loop-left.invariant.within in
    let within : left - 1 < length xs = omega arith in
    let here : get_or xs (left - 1) item ≡ item = sym c.index-parts-left.is in
    record { within = omega arith; so_far = rw (c.in_ok-put_else_if.ensures) (each-step else_if xs left (left - 1) item c.loop-left.out one within here ∙ c.loop-left.invariant.so_far) }

pub put_cases-loop-left-preserved : goal.put_cases-loop-left-preserved
put_cases-loop-left-preserved t c =
    let left = c.loop-left.left in
    let xs = c.args.cases.now in
    let item = c.index-cases-left.result in
    let one : left - 1 + 1 ≡ left = omega arith in
    let bound = c.loop-left.invariant.within in
    let within : left - 1 < length xs = omega arith in
    let here : get_or xs (left - 1) item ≡ item = sym c.index-cases-left.is in
    record { within = omega arith; so_far = rw (c.in_ok-put_case.ensures) (each-step case_block xs left (left - 1) item c.loop-left.out one within here ∙ c.loop-left.invariant.so_far) }

pub put_ranks-loop-left-preserved : goal.put_ranks-loop-left-preserved
put_ranks-loop-left-preserved t c =
    let left = c.loop-left.left in
    let xs = c.args.ranks.now in
    let item = c.index-ranks-left.result in
    let one : left - 1 + 1 ≡ left = omega arith in
    let bound = c.loop-left.invariant.within in
    let within : left - 1 < length xs = omega arith in
    let here : get_or xs (left - 1) item ≡ item = sym c.index-ranks-left.is in
    record { within = omega arith; so_far = rw (c.in_ok-put_rank.ensures) (each-step rank_block xs left (left - 1) item c.loop-left.out one within here ∙ c.loop-left.invariant.so_far) }
