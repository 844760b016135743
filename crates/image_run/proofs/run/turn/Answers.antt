use Rattle.std.proofs.Common.{None, refl, rules, w32, SFits}
use Rattle.std.proofs.lemmas.Int.{to_z-of_z}
use Rattle.rv_machine.proofs.Laws.{mode_is}
use Rattle.image_run.proofs.Turns.{stays, gives, takes}
use Rattle.image_run.proofs.run.turn.Goals as goal

pub take-requires : goal.take-requires
take-requires g c = mode_is _ _ _ None c.requires c.in-WantByte.ensures

pub returns-in-Ran-clause-gives : goal.returns-in-Ran-clause-gives
returns-in-Ran-clause-gives g c = λ r base at. stays r base _ _ _ _ at c.requires _ c.in-Ran.ensures refl

pub returns-in-WantByte-clause-gives : goal.returns-in-WantByte-clause-gives
returns-in-WantByte-clause-gives g c =
    λ r base at. takes r base _ _ _ _ at c.requires c.take.result _ _ c.in-WantByte.ensures (c.take.ensures.gives r at.rest) c.take.ensures.ready

pub returns-in-GiveByte-clause-gives : goal.returns-in-GiveByte-clause-gives
returns-in-GiveByte-clause-gives g c =
    λ r base at. gives r base _ _ _ _ at c.requires _ c.give.result _ c.in-GiveByte.ensures c.give.ensures.gives

pub returns-in-Exit-clause-gives : goal.returns-in-Exit-clause-gives
returns-in-Exit-clause-gives g c =
    let fits : SFits w32 c.in-Exit.code = search rules in
    λ r base at. rw (to_z-of_z w32 c.in-Exit.code fits) (stays r base _ _ _ _ at c.requires _ c.in-Exit.ensures refl)

pub returns-in-Limited-clause-gives : goal.returns-in-Limited-clause-gives
returns-in-Limited-clause-gives g c = λ r base at. stays r base _ _ _ _ at c.requires _ c.in-Limited.ensures refl

pub returns-in-Trap-clause-gives : goal.returns-in-Trap-clause-gives
returns-in-Trap-clause-gives g c = λ r base at. stays r base _ _ _ _ at c.requires _ c.in-Trap.ensures refl

pub returns-in-Ran-clause-ready : goal.returns-in-Ran-clause-ready
returns-in-Ran-clause-ready g c = λ went. mode_is _ _ _ None c.requires c.in-Ran.ensures

pub returns-in-GiveByte-clause-ready : goal.returns-in-GiveByte-clause-ready
returns-in-GiveByte-clause-ready g c = λ went. mode_is _ _ _ None c.requires c.in-GiveByte.ensures
