use Rattle.std.proofs.Common.{reverse, ◌∷◌, ◌++◌, [], arith, ap, ◌∙◌}
use Rattle.c_macros.specs.Stack.{texts}
use Rattle.c_macros.specs.Remembering.{opened}
use Rattle.c_macros.proofs.Remembered.{first_void, first_plain, first_full, first_open, takes_top, over_top, closes_top, level_popped}
use Rattle.c_macros.proofs.quick.expand_quick.Goals as goal

pub returns-in-Void-clause-tokens : goal.returns-in-Void-clause-tokens
returns-in-Void-clause-tokens c = first_void (texts c.args.bodies.now) c.args.limit c.args.token c.args.place c.args.on.now c.args.void.now c.args.out.now.items c.requires.room c.requires.void c.in-Void.ensures

pub returns-then-len-limit-clause-tokens : goal.returns-then-len-limit-clause-tokens
returns-then-len-limit-clause-tokens c =
    let k = c.args.out.now.ok.0 in let e = c.len.ensures in
    first_plain (texts c.args.bodies.now) c.args.limit c.args.token c.args.place c.args.on.now c.args.void.now c.args.out.now.items c.requires.room c.requires.void c.in-Plain.ensures c.push.new.self.items
    c.in_ok-push-in-Plain.ensures.items (omega arith)

pub returns-in-Plain-clause-tokens : goal.returns-in-Plain-clause-tokens
returns-in-Plain-clause-tokens c =
    let k = c.args.out.now.ok.0 in let e = c.len.ensures in
    first_full (texts c.args.bodies.now) c.args.limit c.args.token c.args.place c.args.on.now c.args.void.now c.args.out.now.items c.requires.room c.requires.void c.in-Plain.ensures (omega arith)

pub loop-level-init : goal.loop-level-init
loop-level-init c = (
  first_open (texts c.args.bodies.now) c.args.limit c.args.token c.args.place c.args.on.now c.args.void.now c.args.out.now.items c.requires.room c.requires.void c.in-Open.name c.shut.new.on (reverse c.push-in-Open.new.self.items)
      c.in-Open.ensures c.shut.ensures (level_popped c.push-in-Open.new.self.items [] (opened c.in-Open.name) (c.in_ok-push-in-Open.ensures.items ∙ ap (λ l. l ++ opened c.in-Open.name ∷ []) c.new-stack.ensures.items)),
  c.requires.tracked,
)

pub loop-level-preserved-in_ok-close-in-None : goal.loop-level-preserved-in_ok-close-in-None
loop-level-preserved-in_ok-close-in-None c = (
  (closes_top (texts c.args.bodies.now) c.args.limit c.args.token c.args.place c.args.on.now c.args.out.now.items c.loop-level.on c.loop-level.void c.loop-level.out.items c.loop-level.stack.items c.pop.new.self.items c.in-Some.level
      c.in-Some.ensures.items c.loop-level.invariant.0 c.close.new.on c.close.new.void (reverse c.close.new.stack.items) c.in-None.ensures.token c.close.ensures.macros c.in_ok-close-in-None.ensures.void c.in_ok-close-in-None.ensures.stack).0,
  c.close.ensures.tracked c.loop-level.invariant.1,
)

pub loop-level-preserved : goal.loop-level-preserved
loop-level-preserved c = (
  (takes_top (texts c.args.bodies.now) c.args.limit c.args.token c.args.place c.args.on.now c.args.out.now.items c.loop-level.on c.loop-level.void c.loop-level.out.items c.loop-level.stack.items c.pop.new.self.items c.in-Some.level
      c.in-Some.ensures.items c.loop-level.invariant.0 c.in-Some-token_at.next c.in_ok-take-in-Some-token_at.field-0 c.take.new.on (reverse c.take.new.stack.items) c.take.new.out.items c.in-Some-token_at.ensures.token c.in_ok-take-in-Some-token_at.ensures c.if-not-branch.false).0,
  c.loop-level.invariant.1,
)

pub loop-level-smaller : goal.loop-level-smaller
loop-level-smaller c =
    (takes_top (texts c.args.bodies.now) c.args.limit c.args.token c.args.place c.args.on.now c.args.out.now.items c.loop-level.on c.loop-level.void c.loop-level.out.items c.loop-level.stack.items c.pop.new.self.items c.in-Some.level
    c.in-Some.ensures.items c.loop-level.invariant.0 c.in-Some-token_at.next c.in_ok-take-in-Some-token_at.field-0 c.take.new.on (reverse c.take.new.stack.items) c.take.new.out.items c.in-Some-token_at.ensures.token c.in_ok-take-in-Some-token_at.ensures c.if-not-branch.false).1

pub returns-then-not-branch-clause-tokens : goal.returns-then-not-branch-clause-tokens
returns-then-not-branch-clause-tokens c =
    over_top (texts c.args.bodies.now) c.args.limit c.args.token c.args.place c.args.on.now c.args.out.now.items c.loop-level.on c.loop-level.void c.loop-level.out.items c.loop-level.stack.items c.pop.new.self.items c.in-Some.level
    c.in-Some.ensures.items c.loop-level.invariant.0 c.in-Some-token_at.next c.in_ok-take-in-Some-token_at.field-0 c.take.new.on (reverse c.take.new.stack.items) c.take.new.out.items c.in-Some-token_at.ensures.token c.in_ok-take-in-Some-token_at.ensures c.if-not-branch.true
