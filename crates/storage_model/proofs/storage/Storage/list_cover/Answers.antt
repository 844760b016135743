use Rattle.std.proofs.Common.{◌≡◌, ◌<◌, sym, ◌∙◌, ap, subst, arith, length}
use Rattle.std.specs.Prelude.{true}
use Rattle.storage_model.specs.Storage.{is_live}
use Rattle.storage_model.specs.Held.{in_stack}
use Rattle.storage_model.specs.Model.{model}
use Rattle.storage_model.proofs.Keeps.{held_covers, object_alive}
use Rattle.storage_model.proofs.Stacks.{tables_kept, on_ok, stack_set}
use Rattle.storage_model.proofs.storage.Storage.list_cover.Goals as goal

pub invariant_of-self : goal.invariant_of-self
invariant_of-self c =
    let s = c.args.self.now in
    let alive = object_alive s.objects.items c.in-Home.o (sym (ap (is_live (model s)) c.in-Home.is) ∙ c.requires.live) in
    let there : c.in-Home.o < length s.covers.items = (let p = s.held.parallel in omega (arith, p, alive)) in
    let keep = tables_kept s.covers.items c.in-Home.o c.index_mut-table.result.now c.push_cover.new.table there c.index_mut-table.ensures.value c.push_cover.ensures.kept in
    record { held = held_covers s.objects.items s.loans.items s.covers.items _ keep.longer (λ l k h o. keep.kept h l k) s.held }

pub returns-clause-kept : goal.returns-clause-kept
returns-clause-kept c =
    let s = c.args.self.now in
    let alive = object_alive s.objects.items c.in-Home.o (sym (ap (is_live (model s)) c.in-Home.is) ∙ c.requires.live) in
    let there : c.in-Home.o < length s.covers.items = (let p = s.held.parallel in omega (arith, p, alive)) in
    tables_kept s.covers.items c.in-Home.o c.index_mut-table.result.now c.push_cover.new.table there c.index_mut-table.ensures.value c.push_cover.ensures.kept

pub returns-clause-listed : goal.returns-clause-listed
returns-clause-listed c =
    let s = c.args.self.now in
    let alive = object_alive s.objects.items c.in-Home.o (sym (ap (is_live (model s)) c.in-Home.is) ∙ c.requires.live) in
    let there : c.in-Home.o < length s.covers.items = (let p = s.held.parallel in omega (arith, p, alive)) in
    on_ok c.push_cover.result _ _
    (λ e. subst (λ xs. in_stack c.args.cover.loan c.args.cover.byte xs ≡ true)
    (sym (stack_set s.covers.items c.args.home c.in-Home.o c.push_cover.new.table c.in-Home.is there)) e)
    c.push_cover.ensures.listed
