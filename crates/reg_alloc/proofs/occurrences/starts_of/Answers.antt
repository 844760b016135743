use Rattle.std.proofs.Common.{◌≡◌, ◌∙◌, ◌+◌, ◌∷◌, [], ◌++◌, ℕ, List, sym, ap, subst, arith, length, take, below_more, length-append}
use Rattle.std.specs.Prelude.{slice_index}
use Rattle.std.proofs.lemmas.List.{get_or_append_left, get_or_push}
use Rattle.block_homes.specs.Held.{total}
use Rattle.reg_alloc.proofs.Collecting.{next_start}
use Rattle.reg_alloc.proofs.occurrences.starts_of.Goals as goal

pub overflow_cast-start : goal.overflow_cast-start
overflow_cast-start c =
    let h = next_start c.args.p.now.blocks c.as_slice-block-items.result.now c.loop-block.block-index c.loop-block.start c.block-item.result c.as_slice-block-items.ensures c.block-item.is c.loop-block-test.true c.loop-block.invariant.so_far in
    omega (arith, h.1, c.len-in-loop-block.ensures, c.requires.size)

pub overflow_add-start : goal.overflow_add-start
overflow_add-start c =
    let h = next_start c.args.p.now.blocks c.as_slice-block-items.result.now c.loop-block.block-index c.loop-block.start c.block-item.result c.as_slice-block-items.ensures c.block-item.is c.loop-block-test.true c.loop-block.invariant.so_far in
    omega (arith, h.1, c.len-in-loop-block.ensures, c.requires.size)

pub overflow_add-start-in-loop-block : goal.overflow_add-start-in-loop-block
overflow_add-start-in-loop-block c =
    let h = next_start c.args.p.now.blocks c.as_slice-block-items.result.now c.loop-block.block-index c.loop-block.start c.block-item.result c.as_slice-block-items.ensures c.block-item.is c.loop-block-test.true c.loop-block.invariant.so_far in
    omega (arith, h.1, c.len-in-loop-block.ensures, c.requires.size)

pub loop-block-preserved : goal.loop-block-preserved
loop-block-preserved c =
    let bs = c.args.p.now.blocks in
    let i = c.loop-block.block-index in
    let k = c.loop-block.start in
    let h = next_start bs c.as_slice-block-items.result.now i k c.block-item.result c.as_slice-block-items.ensures c.block-item.is c.loop-block-test.true c.loop-block.invariant.so_far in
    let old = c.loop-block.starts.items in
    let new = c.push.new.self.items in
    let e : new ≡ old ++ k ∷ [] = c.in_ok-push.ensures.items in
    let n = c.loop-block.invariant.count in
    let m = length-append old (k ∷ []) in
    let l = ap (λ (x : List ℕ). length x) e in
    record {
      so_far = omega (arith, h.0, c.len-in-loop-block.ensures);
      count = omega (arith, l, m, n);
      each = below_more (λ b. slice_index new b ≡ total (take b bs)) i (λ b lt. ap (λ (x : List ℕ). slice_index x b) e ∙ get_or_append_left old (k ∷ []) 0 b (omega (arith, lt, n)) ∙ c.loop-block.invariant.each b lt) (ap (λ (x : List ℕ). slice_index x i) e ∙ get_or_push old k 0 i n ∙ c.loop-block.invariant.so_far);
    }
