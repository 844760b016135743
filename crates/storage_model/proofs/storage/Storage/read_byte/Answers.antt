use Rattle.std.proofs.Common.{◌≡◌, ◌+◌, ◌<◌, ◌≤◌, refl, sym, ◌∙◌, ap, subst, arith, length, get_or}
use Rattle.storage_model.specs.declared.held.Cover.{Cover}
use Rattle.storage_model.specs.Storage.{Good}
use Rattle.storage_model.specs.Chain.{home_of}
use Rattle.storage_model.specs.Held.{stack_at}
use Rattle.storage_model.specs.Model.{model}
use Rattle.storage_model.proofs.Steps.{get_or_any}
use Rattle.storage_model.proofs.Reading.{Marked, marked_skip, marked_put, marked_all, good_with_read}
use Rattle.storage_model.proofs.storage.Storage.read_byte.Goals as goal
use Rattle.storage_model.proofs.storage.Storage.read_byte.Goals.{then-is_beside, else-is_beside}

pub is_beside-requires-clause-good : goal.is_beside-requires-clause-good
is_beside-requires-clause-good c =
    subst (λ x. Good x c.args.from) (sym c.loop-i.invariant.marked.same) (good_with_read (model c.args.self.now) _ c.args.from c.requires)

pub is_beside-requires-clause-home : goal.is_beside-requires-clause-home
is_beside-requires-clause-home c = c.walk.ensures.home ∙ sym (ap (λ x. home_of x c.args.from) c.loop-i.invariant.marked.same)

pub loop-i-preserved : goal.loop-i-preserved
loop-i-preserved c =
    let s = c.args.self.now in
    let h = c.walk.result.home in
    let i = c.loop-i.i in
    let xs = stack_at s.covers.items h in
    let none : Cover = record { loan = 0; byte = 0 } in
    let x = get_or c.stack.result.now i none in
    let ex : c.stack.result.now ≡ xs = c.stack.ensures ∙ ap (λ v. stack_at v.items h) c.loop-i.invariant.covers in
    let lt : i < length xs = omega (arith, ap length c.stack-count.ensures) in
    let is : (d : Cover) → get_or xs i d ≡ x = λ d. get_or_any xs i d none lt ∙ sym (ap (λ ys. get_or ys i none) ex) in
    record {
      covers = elim c.if-is_beside.branch [
        | then-is_beside w ↦ ap (λ y. y.covers) w.self-is ∙ w.set_read.ensures.covers ∙ c.loop-i.invariant.covers
        | else-is_beside w ↦ ap (λ y. y.covers) w.self-is ∙ c.loop-i.invariant.covers
      ];
      marked = elim c.if-is_beside.branch [
        | then-is_beside w ↦ marked_put (model s) (model c.loop-i.self) c.args.from xs i c.loop-i.invariant.marked x lt is
            (sym c.is_beside.ensures ∙ w.if-is_beside.true) (model c.if-is_beside.self) (ap model w.self-is ∙ w.set_read.ensures.marks)
        | else-is_beside w ↦ subst (λ y. Marked (model s) (model y) c.args.from xs (i + 1)) (sym w.self-is)
            (marked_skip (model s) (model c.loop-i.self) c.args.from xs i c.loop-i.invariant.marked x lt is (sym c.is_beside.ensures ∙ w.if-is_beside.false))
      ];
    }

pub returns : goal.returns
returns c =
    let s = c.args.self.now in
    let h = c.walk.result.home in
    let xs = stack_at s.covers.items h in
    let all : length xs ≤ c.loop-i.i = omega (arith, ap length c.stack-count.ensures) in
    marked_all s (model c.loop-i.self) c.args.from h c.walk.ensures.home xs refl c.loop-i.i all c.loop-i.invariant.marked
