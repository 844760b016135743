use Rattle.c_macros.specs.Stack.{texts}
use Rattle.c_macros.proofs.Steps.{full_of, moves_of, full_first, begun, left_top, on_top, over_top}
use Rattle.c_macros.proofs.expander.expand.Goals as goal

pub returns-then-not-branch : goal.returns-then-not-branch
returns-then-not-branch c = full_first _ _ _ _ _ (full_of _ _ _ _ c.in_ok-step.field-0 _ _ _ _ _ _ c.if-not-branch.true (c.in_ok-step.ensures (texts c.args.bodies.now)))

pub loop-frame-init : goal.loop-frame-init
loop-frame-init c =
    begun (texts c.args.bodies.now) c.args.limit c.args.token c.args.place c.args.on.now c.args.out.now.items _ _ _
    (let m = moves_of _ _ _ _ c.in_ok-step.field-0 _ _ _ _ _ _ c.if-not-branch.false (c.in_ok-step.ensures (texts c.args.bodies.now)) in
    rw c.new-stack.ensures.items at m) c.requires

pub loop-frame-preserved-in-None : goal.loop-frame-preserved-in-None
loop-frame-preserved-in-None c =
    (left_top (texts c.args.bodies.now) c.args.limit c.args.token c.args.place c.args.on.now c.args.out.now.items c.loop-frame.on c.loop-frame.out.items c.loop-frame.stack.items c.pop.new.self.items c.in-Some.frame
    c.in-Some.ensures.items c.loop-frame.invariant c.set.new.flags c.in-None.ensures.token c.set.ensures).0

pub returns-then-not-branch-2 : goal.returns-then-not-branch-2
returns-then-not-branch-2 c =
    over_top (texts c.args.bodies.now) c.args.limit c.args.token c.args.place c.args.on.now c.args.out.now.items c.loop-frame.on c.loop-frame.out.items c.loop-frame.stack.items c.pop.new.self.items c.in-Some.frame
    c.in-Some.ensures.items c.loop-frame.invariant c.in-Some-token_at.next c.push.new.self.items c.step-in-Some-token_at.new.stack.items c.in_ok-step-in-Some-token_at.field-0 c.step-in-Some-token_at.new.on c.step-in-Some-token_at.new.out.items c.in-Some-token_at.ensures.token c.in_ok-push-in-Some-token_at.ensures.items
    (c.in_ok-step-in-Some-token_at.ensures (texts c.args.bodies.now)) c.if-not-branch-2.true

pub loop-frame-smaller : goal.loop-frame-smaller
loop-frame-smaller c =
    (on_top (texts c.args.bodies.now) c.args.limit c.args.token c.args.place c.args.on.now c.args.out.now.items c.loop-frame.on c.loop-frame.out.items c.loop-frame.stack.items c.pop.new.self.items c.in-Some.frame
    c.in-Some.ensures.items c.loop-frame.invariant c.in-Some-token_at.next c.push.new.self.items c.step-in-Some-token_at.new.stack.items c.in_ok-step-in-Some-token_at.field-0 c.step-in-Some-token_at.new.on c.step-in-Some-token_at.new.out.items c.in-Some-token_at.ensures.token c.in_ok-push-in-Some-token_at.ensures.items
    (c.in_ok-step-in-Some-token_at.ensures (texts c.args.bodies.now)) c.if-not-branch-2.false).1

pub loop-frame-preserved : goal.loop-frame-preserved
loop-frame-preserved c =
    (on_top (texts c.args.bodies.now) c.args.limit c.args.token c.args.place c.args.on.now c.args.out.now.items c.loop-frame.on c.loop-frame.out.items c.loop-frame.stack.items c.pop.new.self.items c.in-Some.frame
    c.in-Some.ensures.items c.loop-frame.invariant c.in-Some-token_at.next c.push.new.self.items c.step-in-Some-token_at.new.stack.items c.in_ok-step-in-Some-token_at.field-0 c.step-in-Some-token_at.new.on c.step-in-Some-token_at.new.out.items c.in-Some-token_at.ensures.token c.in_ok-push-in-Some-token_at.ensures.items
    (c.in_ok-step-in-Some-token_at.ensures (texts c.args.bodies.now)) c.if-not-branch-2.false).0
