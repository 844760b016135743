use Rattle.std.proofs.Common.{sym, ◌∙◌, arith}
use Rattle.std.proofs.Common.{ap, w64}
use Rattle.std.proofs.lemmas.Int.{to_z-of_z}
use Rattle.storage_model.specs.Access.{offset_of}
use Rattle.storage_model.specs.Model.{model}
use Rattle.storage_model.proofs.Points.{access_dead, access_outside, access_inside}
use Rattle.storage_model.proofs.storage.Storage.reach_in.Goals as goal
use Rattle.storage_model.proofs.storage.Storage.reach_in.Goals.{else-n-size-via-then-n-size+else-start-size, else-n-size-via-else-n-size}

pub returns-then-not-is_live-clause-answer : goal.returns-then-not-is_live-clause-answer
returns-then-not-is_live-clause-answer c points =
    access_dead (model c.args.self.now) c.args.self.now.held.sound points c.args.view c.args.offset c.args.n (sym c.is_live.ensures ∙ c.if-not-is_live.true)

pub returns-then-start-size-clause-answer : goal.returns-then-start-size-clause-answer
returns-then-start-size-clause-answer c points =
    access_inside (model c.args.self.now) c.args.self.now.held.sound points c.args.view c.args.offset c.in-Some.start c.args.n
    (sym c.is_live.ensures ∙ c.if-not-is_live.false) (omega arith) (ap offset_of (sym (to_z-of_z w64 c.args.offset c.ranges.offset)) ∙ sym c.start_of.ensures ∙ c.in-Some.is)
    (omega (arith, c.size_of-size.ensures.value))

pub returns-else-n-size-clause-answer : goal.returns-else-n-size-clause-answer
returns-else-n-size-clause-answer c points =
    access_outside (model c.args.self.now) c.args.self.now.held.sound points c.args.view c.args.offset c.in-Some.start c.args.n
    (sym c.is_live.ensures ∙ c.if-not-is_live.false) (omega arith) (ap offset_of (sym (to_z-of_z w64 c.args.offset c.ranges.offset)) ∙ sym c.start_of.ensures ∙ c.in-Some.is)
    (elim c.else-n-size.branch [
      | else-n-size-via-then-n-size+else-start-size w ↦ omega (arith, c.size_of-size.ensures.value)
      | else-n-size-via-else-n-size w ↦ omega (arith, c.size_of-size.ensures.value)
    ])
