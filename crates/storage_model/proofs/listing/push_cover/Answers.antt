use Rattle.std.proofs.Common.{◌≡◌, sym, ◌∙◌, ap, subst, arith}
use Rattle.std.specs.Prelude.{true}
use Rattle.storage_model.specs.Held.{in_stack, nth_stack}
use Rattle.storage_model.proofs.Stacks.{stack_pushed, table_set, set_stack_here, in_longer, in_end}
use Rattle.storage_model.proofs.listing.push_cover.Goals as goal

pub loop-alloc-preserved : goal.loop-alloc-preserved
loop-alloc-preserved c i =
    ap (λ xs. nth_stack xs i) c.in_ok-push.ensures.items ∙ stack_pushed c.loop-alloc.table.items c.new.result c.new.ensures.items i ∙ c.loop-alloc.invariant i

pub returns-in_err-push-2-clause-kept : goal.returns-in_err-push-2-clause-kept
returns-in_err-push-2-clause-kept c = record {
  kept = λ i l k e. table_set c.loop-alloc.table.items c.args.byte c.index_mut.result.now c.push-2.new.self l k
      (omega (arith, c.loop-alloc.table.ok.0)) c.index_mut.ensures.value
      (λ h. subst (λ xs. in_stack l k xs ≡ true) (sym c.in_err-push-2.ensures.items) h)
      i (subst (λ xs. in_stack l k xs ≡ true) (sym (c.loop-alloc.invariant i)) e);
}

pub returns-clause-kept : goal.returns-clause-kept
returns-clause-kept c = record {
  kept = λ i l k e. table_set c.loop-alloc.table.items c.args.byte c.index_mut.result.now c.push-2.new.self l k
      (omega (arith, c.loop-alloc.table.ok.0)) c.index_mut.ensures.value
      (λ h. subst (λ xs. in_stack l k xs ≡ true) (sym c.in_ok-push-2.ensures.items) (in_longer l k c.index_mut.result.now.items c.args.cover h))
      i (subst (λ xs. in_stack l k xs ≡ true) (sym (c.loop-alloc.invariant i)) e);
}

pub returns-clause-listed : goal.returns-clause-listed
returns-clause-listed c =
    subst (λ xs. in_stack c.args.cover.loan c.args.cover.byte xs ≡ true)
    (sym (set_stack_here c.loop-alloc.table.items c.args.byte c.push-2.new.self (omega (arith, c.loop-alloc.table.ok.0)) ∙ c.in_ok-push-2.ensures.items))
    (in_end c.index_mut.result.now.items c.args.cover)
