use Rattle.std.proofs.Common.{sym, ◌∙◌, ap, arith}
use Rattle.storage_model.specs.declared.cell.Cell.TheVariants.{Undefined}
use Rattle.storage_model.specs.Storage.{cell_at, at}
use Rattle.storage_model.specs.Model.{model}
use Rattle.storage_model.proofs.Nth.{nth_object_at, nth_object_past}
use Rattle.storage_model.proofs.Steps.{get_or_any, get_or_past}
use Rattle.storage_model.proofs.storage.Storage.cell_at.Goals as goal

pub returns-then-home-len : goal.returns-then-home-len
returns-then-home-len c =
    let h = c.index-object.result.now.cells.ok.0 in
    sym (ap (λ v. cell_at (model c.args.self.now) (at v c.args.home.offset)) c.in-Home.is
    ∙ ap (λ y. y.cells c.args.home.offset) (nth_object_at c.args.self.now.objects.items c.in-Home.o c.index-object.result.now (omega arith) c.index-object.ensures)
    ∙ get_or_any c.index-object.result.now.cells.items c.args.home.offset Undefined c.index.result.now (omega (arith, h)) ∙ sym c.index.ensures)

pub returns-else-home-len : goal.returns-else-home-len
returns-else-home-len c =
    let h = c.index-object.result.now.cells.ok.0 in
    sym (ap (λ v. cell_at (model c.args.self.now) (at v c.args.home.offset)) c.in-Home.is
    ∙ ap (λ y. y.cells c.args.home.offset) (nth_object_at c.args.self.now.objects.items c.in-Home.o c.index-object.result.now (omega arith) c.index-object.ensures)
    ∙ get_or_past c.index-object.result.now.cells.items c.args.home.offset Undefined (omega (arith, h)))

pub returns-else-o-len : goal.returns-else-o-len
returns-else-o-len c =
    sym (ap (λ v. cell_at (model c.args.self.now) (at v c.args.home.offset)) c.in-Home.is
    ∙ ap (λ y. y.cells c.args.home.offset) (nth_object_past c.args.self.now.objects.items c.in-Home.o (omega arith)))
