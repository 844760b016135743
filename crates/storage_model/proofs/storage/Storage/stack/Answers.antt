use Rattle.std.proofs.Common.{sym, ◌∙◌, ap, arith}
use Rattle.storage_model.specs.Storage.{at}
use Rattle.storage_model.specs.Held.{stack_at, nth_stack}
use Rattle.storage_model.proofs.Nth.{nth_table_at, nth_table_past, nth_stack_at, nth_stack_past}
use Rattle.storage_model.proofs.storage.Storage.stack.Goals as goal

pub returns-then-home-len : goal.returns-then-home-len
returns-then-home-len c = c.as_slice.ensures.value
    ∙ sym (ap (λ v. stack_at c.args.self.now.covers.items (at v c.args.home.offset)) c.in-Home.is
    ∙ ap (λ t. nth_stack t c.args.home.offset) (nth_table_at c.args.self.now.covers.items c.in-Home.o c.index-table.result.now
    (omega (arith, c.args.self.now.covers.ok.0)) c.index-table.ensures)
    ∙ nth_stack_at c.index-table.result.now.items c.args.home.offset c.index.result.now (omega (arith, c.index-table.result.now.ok.0)) c.index.ensures)

pub returns-else-home-len : goal.returns-else-home-len
returns-else-home-len c =
    sym (ap (λ v. stack_at c.args.self.now.covers.items (at v c.args.home.offset)) c.in-Home.is
    ∙ ap (λ t. nth_stack t c.args.home.offset) (nth_table_at c.args.self.now.covers.items c.in-Home.o c.index-table.result.now
    (omega (arith, c.args.self.now.covers.ok.0)) c.index-table.ensures)
    ∙ nth_stack_past c.index-table.result.now.items c.args.home.offset (omega (arith, c.index-table.result.now.ok.0)))

pub returns-else-o-len : goal.returns-else-o-len
returns-else-o-len c =
    sym (ap (λ v. stack_at c.args.self.now.covers.items (at v c.args.home.offset)) c.in-Home.is
    ∙ ap (λ t. nth_stack t c.args.home.offset) (nth_table_past c.args.self.now.covers.items c.in-Home.o (omega (arith, c.args.self.now.covers.ok.0))))
