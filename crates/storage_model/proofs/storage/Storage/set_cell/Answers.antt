use Rattle.std.proofs.Common.{refl, arith}
use Rattle.std.specs.Vec.{with_item}
use Rattle.std.proofs.lemmas.List.{length-set}
use Rattle.storage_model.specs.declared.held.HeldObject.{HeldObject}
use Rattle.storage_model.proofs.Keeps.{held_cell, object_there, cell_there}
use Rattle.storage_model.proofs.Updates.{cell_facts}
use Rattle.storage_model.proofs.storage.Storage.set_cell.Goals as goal

pub index_mut-held-requires : goal.index_mut-held-requires
index_mut-held-requires c = omega (arith, object_there c.args.self.now.objects.items c.args.object c.args.byte c.requires.within, c.args.self.now.objects.ok.0)

pub index_mut-requires : goal.index_mut-requires
index_mut-requires c =
    let s = c.args.self.now in
    let there = object_there s.objects.items c.args.object c.args.byte c.requires.within in
    omega (
      arith,
      cell_there s.objects.items c.args.object c.args.byte c.index_mut-held.result.now c.requires.within c.requires.memory c.index_mut-held.ensures.value
          (s.held.sized c.args.object c.index_mut-held.result.now there c.index_mut-held.ensures.value),
      c.index_mut-held.result.now.cells.ok.0,
    )

pub invariant_of-self : goal.invariant_of-self
invariant_of-self c =
    let s = c.args.self.now in
    let x = c.index_mut-held.result.now in
    let there = object_there s.objects.items c.args.object c.args.byte c.requires.within in
    let x' : HeldObject = record x { cells = with_item x.cells c.args.byte c.args.cell } in
    record {
      held = held_cell s.objects.items s.loans.items s.covers.items s.held c.args.object c.args.byte c.args.cell x x' there c.index_mut-held.ensures.value
          (length-set x.cells.items c.args.byte c.args.cell) refl refl
          (cell_facts s.objects.items c.args.object c.args.byte x x' c.args.cell there c.index_mut-held.ensures.value
          (cell_there s.objects.items c.args.object c.args.byte x c.requires.within c.requires.memory c.index_mut-held.ensures.value (s.held.sized c.args.object x there c.index_mut-held.ensures.value))
          refl refl refl refl s.loans.items);
    }

pub returns-clause-cells : goal.returns-clause-cells
returns-clause-cells c =
    let s = c.args.self.now in
    let x = c.index_mut-held.result.now in
    let there = object_there s.objects.items c.args.object c.args.byte c.requires.within in
    let x' : HeldObject = record x { cells = with_item x.cells c.args.byte c.args.cell } in
    cell_facts s.objects.items c.args.object c.args.byte x x' c.args.cell there c.index_mut-held.ensures.value
    (cell_there s.objects.items c.args.object c.args.byte x c.requires.within c.requires.memory c.index_mut-held.ensures.value (s.held.sized c.args.object x there c.index_mut-held.ensures.value))
    refl refl refl refl s.loans.items
