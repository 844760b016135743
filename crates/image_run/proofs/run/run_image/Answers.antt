use Rattle.std.proofs.Common.{◌∙◌, refl, add-one}
use Rattle.image_run.proofs.Turns.{over_gives}
use Rattle.image_run.proofs.run.run_image.Goals as goal

pub returns-in-Over-clause-gives : goal.returns-in-Over-clause-gives
returns-in-Over-clause-gives g c = λ bytes told.
    over_gives _ c.loop-turn._turn c.args.steps c.loop-turn-test.true _ _ _ _ c.in-Over.ended
    (c.in-Over.ensures.gives _ _ (c.loop-turn.invariant.at bytes told))

pub loop-turn-preserved : goal.loop-turn-preserved
loop-turn-preserved g c = record {
  ready = c.in-Went.ensures.ready refl;
  source = c.in-Went.ensures.cause.0 ∙ c.loop-turn.invariant.source;
  sink = c.in-Went.ensures.cause.1 ∙ c.loop-turn.invariant.sink;
  at = λ bytes told. rw (add-one c.loop-turn._turn) ((c.in-Went.ensures.gives _ _ (c.loop-turn.invariant.at bytes told)).0);
}
