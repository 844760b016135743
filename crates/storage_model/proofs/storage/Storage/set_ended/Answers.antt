use Rattle.std.proofs.Common.{refl}
use Rattle.std.specs.Prelude.{false}
use Rattle.storage_model.specs.declared.held.HeldObject.{HeldObject}
use Rattle.storage_model.proofs.Ending.{held_end, end_facts}
use Rattle.storage_model.proofs.Keeps.{object_alive}
use Rattle.storage_model.proofs.storage.Storage.set_ended.Goals as goal

pub invariant_of-self : goal.invariant_of-self
invariant_of-self c =
    let s = c.args.self.now in
    let x = c.index_mut-held.result.now in
    let x' : HeldObject = record x { alive = false } in
    record {
      held = held_end s.objects.items c.args.object x x' (object_alive s.objects.items c.args.object c.requires.live) c.index_mut-held.ensures.value
          refl refl refl refl s.loans.items s.covers.items c.requires.alone s.held;
    }

pub returns : goal.returns
returns c =
    let s = c.args.self.now in
    let x = c.index_mut-held.result.now in
    let x' : HeldObject = record x { alive = false } in
    end_facts s.objects.items c.args.object x x' (object_alive s.objects.items c.args.object c.requires.live) c.index_mut-held.ensures.value refl refl refl refl s.loans.items
