use Rattle.std.proofs.Common.{◌≡◌, sym, ◌∙◌, ap, arith, w64}
use Rattle.std.specs.Prelude.{Some, None, pos}
use Rattle.std.proofs.lemmas.Int.{to_z-of_z}
use Rattle.storage_model.specs.Access.{offset_of, peek_at, by_offset}
use Rattle.storage_model.specs.Model.{model}
use Rattle.storage_model.proofs.Points.{offset_some, peek_good, peek_dead, peek_outside}
use Rattle.storage_model.proofs.storage.Storage.peek_in.Goals as goal
use Rattle.storage_model.proofs.storage.Storage.peek_in.Goals.{else-is_live-via-then-is_live+else-start-size_of, else-is_live-via-else-is_live}

pub returns-then-start-size_of : goal.returns-then-start-size_of
returns-then-start-size_of c =
    let m = model c.args.self.now in
    let z : c.args.offset ≡ pos c.in-Some.start = offset_some _ _ (ap offset_of (sym (to_z-of_z w64 c.args.offset c.ranges.offset)) ∙ sym c.start_of.ensures ∙ c.in-Some.is) in
    sym (ap (by_offset (λ k. peek_at m c.args.view k) None) z
    ∙ peek_good m c.args.self.now.held.sound c.args.view c.in-Some.start
    (record { live = sym c.is_live.ensures ∙ c.if-is_live.true; within = omega (arith, c.size_of.ensures.value) })
    ∙ ap Some (sym c.cell_under.ensures))

pub returns-else-is_live : goal.returns-else-is_live
returns-else-is_live c =
    let m = model c.args.self.now in
    let z : c.args.offset ≡ pos c.in-Some.start = offset_some _ _ (ap offset_of (sym (to_z-of_z w64 c.args.offset c.ranges.offset)) ∙ sym c.start_of.ensures ∙ c.in-Some.is) in
    sym (ap (by_offset (λ k. peek_at m c.args.view k) None) z
    ∙ elim c.else-is_live.branch [
      | else-is_live-via-then-is_live+else-start-size_of w ↦ peek_outside m c.args.self.now.held.sound c.args.view c.in-Some.start (omega (arith, w.size_of.ensures.value))
      | else-is_live-via-else-is_live w ↦ peek_dead m c.args.self.now.held.sound c.args.view c.in-Some.start (sym c.is_live.ensures ∙ w.if-is_live.false)
    ])
