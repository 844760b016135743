use Rattle.std.proofs.Common.{◌≡◌, ◌+◌, ◌≤◌, ℕ, suc, List, map, length, replicate, [], sym, ap, ◌∙◌, subst, arith}
use Rattle.std.proofs.lemmas.List.{length-replicate}
use Rattle.f_names.proofs.Walking.{ListsBelow, lists_none, lists_next, lists_all, length_unit}
use Rattle.f_names.proofs.lists.unit_places.Goals as goal

pub items-init : goal.items-init
items-init c =
    let is : c.in_ok-lists.lists.items ≡ replicate c.args.program.now.scopes [] = c.in_ok-lists.ensures ∙ ap (λ n. replicate n []) c.scope_count.ensures in
    let P : List (List ℕ) → Type 0 = λ l. ListsBelow c.args.program.now.items l 0 in
    record {
      within = omega arith;
      long = ap length is ∙ length-replicate c.args.program.now.scopes [];
      below = subst P (sym is) (lists_none c.args.program.now.items c.args.program.now.scopes);
    }

pub items-preserved : goal.items-preserved
items-preserved c =
    let test = c.items-test.true in
    let next : suc c.items.place ≡ c.items.place + 1 = omega arith in
    let P : List (List ℕ) → Type 0 = λ l. ListsBelow c.args.program.now.items l (suc c.items.place) in
    let Q : ℕ → Type 0 = λ n. ListsBelow c.args.program.now.items c.put_unit.new.lists.items n in
    record {
      within = omega (arith, test);
      long = ap length c.in_ok-put_unit.ensures ∙ length_unit c.items.lists.items c.unit_at.result c.items.place ∙ c.items.invariant.long;
      below = subst Q next (subst P (sym c.in_ok-put_unit.ensures) (lists_next c.args.program.now c.args.units.now c.requires c.items.lists.items c.items.place c.items.invariant.long c.items.invariant.below c.unit_at.result c.unit_at.ensures));
    }

pub returns : goal.returns
returns c =
    let test = c.items-test.false in
    let count = c.item_count-count.ensures in
    lists_all c.args.program.now.items c.items.lists.items c.items.place (omega (arith, test, count)) c.items.invariant.below
