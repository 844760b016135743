use Rattle.std.proofs.Common.{◌≡◌, ◌∙◌, ◌+◌, ◌++◌, ℕ, List, false, sym, ap, subst, arith, length, drop}
use Rattle.flatten.specs.Named.{AllBelow}
use Rattle.flatten.specs.Paths.{goes_to}
use Rattle.flatten.specs.declared.blocks.Block.{Block}
use Rattle.block_homes.specs.Valid.{BlockBelow}
use Rattle.reg_alloc.specs.declared.occurrences.Occurrence.{Occurrence}
use Rattle.reg_alloc.specs.Occurs.{occurrence, row, add_all, named, ends_to}
use Rattle.reg_alloc.proofs.Collecting.{next_start, ends_more, blocks_le_total}
use Rattle.reg_alloc.proofs.Occurring.{row_add_all}
use Rattle.reg_alloc.proofs.occurrences.sources_of.Goals as goal

pub overflow_cast-end : goal.overflow_cast-end
overflow_cast-end c =
    let h = next_start c.args.p.now.blocks c.as_slice-block-items.result.now c.loop-b.b c.loop-b.start c.block-item.result c.as_slice-block-items.ensures c.block-item.is c.loop-b-test.true c.loop-b.invariant.so_far in
    omega (arith, h.1, c.len-in-loop-b.ensures, c.requires.size)

pub overflow_add-end : goal.overflow_add-end
overflow_add-end c =
    let h = next_start c.args.p.now.blocks c.as_slice-block-items.result.now c.loop-b.b c.loop-b.start c.block-item.result c.as_slice-block-items.ensures c.block-item.is c.loop-b-test.true c.loop-b.invariant.so_far in
    omega (arith, h.1, c.len-in-loop-b.ensures, c.requires.size)

pub overflow_cast-last : goal.overflow_cast-last
overflow_cast-last c =
    let h = next_start c.args.p.now.blocks c.as_slice-block-items.result.now c.loop-b.b c.loop-b.start c.block-item.result c.as_slice-block-items.ensures c.block-item.is c.loop-b-test.true c.loop-b.invariant.so_far in
    let n = blocks_le_total c.args.p.now.blocks in
    omega (arith, h.2, n, c.requires.size)

pub overflow_add-start : goal.overflow_add-start
overflow_add-start c =
    let h = next_start c.args.p.now.blocks c.as_slice-block-items.result.now c.loop-b.b c.loop-b.start c.block-item.result c.as_slice-block-items.ensures c.block-item.is c.loop-b-test.true c.loop-b.invariant.so_far in
    omega (arith, h.1, c.len-in-loop-b.ensures, c.requires.size)

pub loop-b-preserved : goal.loop-b-preserved
loop-b-preserved c =
    let bs = c.args.p.now.blocks in
    let b = c.loop-b.b in
    let k = c.loop-b.start in
    let block = c.block-item.result in
    let h = next_start bs c.as_slice-block-items.result.now b k block c.as_slice-block-items.ensures c.block-item.is c.loop-b-test.true c.loop-b.invariant.so_far in
    let count = c.loop-b.invariant.count in
    let w = c.requires.named.blocks b block h.2 in
    let below = subst (λ (x : Block). BlockBelow c.args.p.now.values (length bs) x) (sym h.3) w in
    let rows = c.loop-b.rows.items in
    let e : c.add_targets.new.rows.items ≡ add_all b (k + length block.insns) (goes_to block.end) rows = c.in_ok-add_targets.ensures.rows ∙ ap (λ n. add_all b (k + n) (goes_to block.end) rows) c.len-in-loop-b.ensures in
    let step : (t : ℕ) → row c.add_targets.new.rows.items t ≡ row rows t ++ named (occurrence b (k + length block.insns) false t) t (goes_to block.end) = λ t. ap (λ (r : List (List Occurrence)). row r t) e ∙ row_add_all b (k + length block.insns) (goes_to block.end) t rows (subst (λ n. AllBelow n (goes_to block.end)) (sym count) below.2) in
    let n : k + c.len-in-loop-b.result + 1 ≡ k + (length block.insns + 1) = omega (arith, c.len-in-loop-b.ensures) in
    record {
      so_far = omega (arith, h.0, c.len-in-loop-b.ensures);
      count = c.in_ok-add_targets.ensures.len ∙ count;
      each = λ t. ap (λ m. row c.add_targets.new.rows.items t ++ ends_to t (b + 1) m (drop (b + 1) bs)) n ∙ ends_more t b k bs block (row rows t) (row c.add_targets.new.rows.items t) (ends_to t 0 0 bs) h.3 h.2 (step t) (c.loop-b.invariant.each t);
    }
