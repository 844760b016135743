use Rattle.std.proofs.Common.{arith, reverse}
use Rattle.c_macros.proofs.Steps.{opened, put_out, too_much}
use Rattle.c_macros.proofs.expander.step.Goals as goal

pub returns-in_ok-push-in-Some : goal.returns-in_ok-push-in-Some
returns-in_ok-push-in-Some c =
    λ bodies. opened bodies c.args.limit c.in-Some.name c.args.token c.args.place c.args.on.now c.shut.new.on c.args.stack.now.items c.push.new.self.items c.args.out.now.items
    c.in-Some.ensures.some.0 c.in-Some.ensures.some.1 c.shut.ensures c.in_ok-push-in-Some.ensures.items

pub returns-in_ok-push-in-None : goal.returns-in_ok-push-in-None
returns-in_ok-push-in-None c =
    λ bodies. rw c.in_ok-push-in-None.ensures.items (put_out bodies c.args.limit c.args.token c.args.place c.args.on.now (reverse c.args.stack.now.items) c.args.out.now.items (c.in-None.ensures.none bodies) (let k = c.args.out.now.ok.0 in omega arith))

pub returns-else-len-limit : goal.returns-else-len-limit
returns-else-len-limit c = λ bodies. too_much bodies c.args.limit c.args.token c.args.on.now c.args.out.now.items (c.in-None.ensures.none bodies) (let k = c.args.out.now.ok.0 in omega arith)
