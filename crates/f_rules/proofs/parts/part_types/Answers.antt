use Rattle.std.proofs.Common.{◌≡◌, ◌+◌, ◌++◌, ◌∷◌, ℕ, suc, List, [], length, sym, ap, ◌∙◌, subst, arith}
use Rattle.std.proofs.lemmas.List.{length-append}
use Rattle.f_scope.specs.Program.{Outline}
use Rattle.f_rules.specs.declared.declared_types.PartType.{PartType}
use Rattle.f_rules.specs.PartTypes.{PartLevels, AreLevels}
use Rattle.f_rules.proofs.Levels.{TypesBelow, types_none, types_next, types_all, levels_none, some_item}
use Rattle.f_rules.proofs.parts.part_types.Goals as goal

pub items-init : goal.items-init
items-init c =
    let p = c.args.program.now.items in
    let empty = c.new-types.ensures.items in
    let T : List PartType → Type 0 = λ ts. TypesBelow p ts 0 in
    let L : PartLevels → Type 0 = λ s. AreLevels p 0 s in
    record {
      within = omega arith;
      long = ap length empty;
      levels = subst L (sym c.new-levels.ensures) (levels_none p);
      below = subst T (sym empty) (types_none p);
    }

pub items-preserved : goal.items-preserved
items-preserved c =
    let p = c.args.program.now.items in
    let n = c.items.place in
    let test = c.items-test.true in
    let N : Outline → ℕ = λ o. length o.items in
    let count = c.item_count-count.ensures ∙ ap N (c.program.ensures ∙ c.stated.ensures) in
    let item = some_item p n (omega (arith, test, count)) in
    let next : suc n ≡ n + 1 = omega arith in
    let L : ℕ → Type 0 = λ k. AreLevels p k c.advance.new.levels in
    let T : ℕ → Type 0 = λ k. TypesBelow p c.push.new.self.items k in
    let long = c.items.invariant.long in
    let pushed = c.in_ok-push.ensures.items ∙ ap (λ t. c.items.types.items ++ t ∷ []) c.current.ensures in
    let more = length-append c.items.types.items (c.items.levels.current ∷ []) in
    let grown : length c.push.new.self.items ≡ length (c.items.types.items ++ c.items.levels.current ∷ []) = ap length pushed in
    record {
      within = omega (arith, test);
      long = omega (arith, grown, more, long);
      levels = subst L next (c.in_ok-advance.ensures item.0 item.1);
      below = subst T next (types_next p c.items.types.items c.push.new.self.items c.items.levels n long c.items.invariant.below c.items.invariant.levels pushed);
    }

pub returns : goal.returns
returns c =
    let p = c.args.program.now.items in
    let test = c.items-test.false in
    let N : Outline → ℕ = λ o. length o.items in
    let count = c.item_count-count.ensures ∙ ap N (c.program.ensures ∙ c.stated.ensures) in
    types_all p c.items.types.items c.items.place (omega (arith, test, count)) c.items.invariant.below
