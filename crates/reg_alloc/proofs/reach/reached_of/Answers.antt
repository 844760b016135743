use Rattle.std.proofs.Common.{◌∙◌, ◌+◌, ◌≡◌, ◌++◌, ◌∷◌, [], List, Bool, ℕ, refl, sym, ap, subst, arith, rules, length, length-append}
use Rattle.flatten.specs.declared.blocks.BlockEnd.{BlockEnd}
use Rattle.flatten.specs.Paths.{goes_to}
use Rattle.reg_alloc.specs.Trace.{Reaching, entered, entering, unreached}
use Rattle.reg_alloc.proofs.Reached.{top_reached, targets_below, left_more, entering_falls, all_found}
use Rattle.reg_alloc.proofs.reach.reached_of.Goals as goal

pub bounds-blocks-b : goal.bounds-blocks-b
bounds-blocks-b c =
    let t = top_reached c.args.p.now c.loop-b.reached.items c.loop-b.stack.items c.pop.new.self.items c.in-Some.b c.in-Some.ensures.items c.loop-b.invariant in
    let n = ap length c.as_slice-blocks.ensures in
    omega (arith, t, n)

pub enter_all-requires : goal.enter_all-requires
enter_all-requires c = targets_below c.args.p.now c.loop-b.reached.items c.loop-b.stack.items c.pop.new.self.items c.in-Some.b c.in-Some.ensures.items c.loop-b.invariant c.requires.named c.as_slice-blocks.result.now c.as_slice-blocks.ensures c.index-blocks-b.result c.index-blocks-b.is

pub loop-b-preserved : goal.loop-b-preserved
loop-b-preserved c = left_more c.args.p.now c.loop-b.reached.items c.loop-b.stack.items c.pop.new.self.items c.in-Some.b c.in-Some.ensures.items c.loop-b.invariant c.requires.named c.as_slice-blocks.result.now c.as_slice-blocks.ensures c.index-blocks-b.result c.index-blocks-b.is c.enter_all.new.reached.items c.enter_all.new.stack.items c.in_ok-enter_all.ensures.reached c.in_ok-enter_all.ensures.stack

pub loop-b-smaller : goal.loop-b-smaller
loop-b-smaller c =
    let r = c.loop-b.reached.items in
    let s = c.pop.new.self.items in
    let ts = goes_to c.index-blocks-b.result.end in
    let w = targets_below c.args.p.now r c.loop-b.stack.items s c.in-Some.b c.in-Some.ensures.items c.loop-b.invariant c.requires.named c.as_slice-blocks.result.now c.as_slice-blocks.ensures c.index-blocks-b.result c.index-blocks-b.is in
    let f = entering_falls ts r s w in
    let a = ap (λ (l : List Bool). unreached l) c.in_ok-enter_all.ensures.reached in
    let b = ap (λ (l : List ℕ). length l) c.in_ok-enter_all.ensures.stack in
    let n = ap (λ (l : List ℕ). length l) c.in-Some.ensures.items in
    let k = length-append s (c.in-Some.b ∷ []) in
    omega (arith, f, a, b, n, k)

pub returns : goal.returns
returns c =
    let e : c.loop-b.stack.items ≡ [] = search rules in
    all_found c.args.p.now c.loop-b.reached.items (subst (λ (l : List ℕ). Reaching c.args.p.now c.loop-b.reached.items l) e c.loop-b.invariant)
