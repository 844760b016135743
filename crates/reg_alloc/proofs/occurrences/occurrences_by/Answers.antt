use Rattle.std.proofs.Common.{refl, ◌<◌, ◌≡◌, ◌∙◌, ◌+◌, ◌++◌, ℕ, List, sym, ap, subst, arith, length, drop}
use Rattle.std.specs.Prelude.{All}
use Rattle.flatten.specs.Named.{AllBelow}
use Rattle.flatten.specs.Paths.{end_uses}
use Rattle.block_homes.specs.Valid.{InsnBelow, BlockBelow}
use Rattle.reg_alloc.specs.declared.occurrences.Occurrence.{Occurrence}
use Rattle.flatten.specs.declared.blocks.Block.{Block}
use Rattle.flatten.specs.declared.blocks.BlockInsn.{BlockInsn}
use Rattle.reg_alloc.specs.Occurs.{row, insns_by, in_insns_by, in_blocks_by}
use Rattle.reg_alloc.specs.Rows.{Places}
use Rattle.reg_alloc.proofs.Collecting.{next_start, row_insns, collected_more, blocks_le_total}
use Rattle.reg_alloc.proofs.occurrences.occurrences_by.Goals as goal

pub overflow_cast-b : goal.overflow_cast-b
overflow_cast-b c =
    let h = next_start c.args.p.now.blocks c.as_slice-block-items.result.now c.loop-b.b c.loop-b.start c.block-item.result c.as_slice-block-items.ensures c.block-item.is c.loop-b-test.true c.loop-b.invariant.so_far in
    let n = blocks_le_total c.args.p.now.blocks in
    omega (arith, h.2, n, c.requires.size)

pub note_block-requires-clause-size : goal.note_block-requires-clause-size
note_block-requires-clause-size c =
    let h = next_start c.args.p.now.blocks c.as_slice-block-items.result.now c.loop-b.b c.loop-b.start c.block-item.result c.as_slice-block-items.ensures c.block-item.is c.loop-b-test.true c.loop-b.invariant.so_far in
    let n = ap (λ (l : List BlockInsn). length l) c.as_slice.ensures in
    omega (arith, h.1, n, c.requires.size)

pub overflow_cast-start : goal.overflow_cast-start
overflow_cast-start c =
    let h = next_start c.args.p.now.blocks c.as_slice-block-items.result.now c.loop-b.b c.loop-b.start c.block-item.result c.as_slice-block-items.ensures c.block-item.is c.loop-b-test.true c.loop-b.invariant.so_far in
    omega (arith, h.1, c.len.ensures, c.requires.size)

pub overflow_add-start : goal.overflow_add-start
overflow_add-start c =
    let h = next_start c.args.p.now.blocks c.as_slice-block-items.result.now c.loop-b.b c.loop-b.start c.block-item.result c.as_slice-block-items.ensures c.block-item.is c.loop-b-test.true c.loop-b.invariant.so_far in
    omega (arith, h.1, c.len.ensures, c.requires.size)

pub overflow_add-start-in-loop-b : goal.overflow_add-start-in-loop-b
overflow_add-start-in-loop-b c =
    let h = next_start c.args.p.now.blocks c.as_slice-block-items.result.now c.loop-b.b c.loop-b.start c.block-item.result c.as_slice-block-items.ensures c.block-item.is c.loop-b-test.true c.loop-b.invariant.so_far in
    omega (arith, h.1, c.len.ensures, c.requires.size)

pub loop-b-preserved : goal.loop-b-preserved
loop-b-preserved c =
    let bs = c.args.p.now.blocks in
    let keys = c.args.keys.now in
    let b = c.loop-b.b in
    let k = c.loop-b.start in
    let block = c.block-item.result in
    let h = next_start bs c.as_slice-block-items.result.now b k block c.as_slice-block-items.ensures c.block-item.is c.loop-b-test.true c.loop-b.invariant.so_far in
    let count = c.loop-b.invariant.count in
    let w = c.requires.named.blocks b block h.2 in
    let below = subst (λ (x : Block). BlockBelow c.args.p.now.values (length bs) x) (sym h.3) w in
    let n = c.requires.keys.count in
    let rows = c.loop-b.rows.items in
    let pl : Places (length keys) (length rows) keys = record { count = refl; each = λ v lt. let m = c.requires.keys.each v (omega (arith, lt, n)) in omega (arith, m, count) } in
    let e : c.note_block.new.rows.items ≡ insns_by keys b k block.insns block.end rows = c.in_ok-note_block.ensures.rows ∙ ap (λ (l : List BlockInsn). insns_by keys b k l block.end rows) c.as_slice.ensures in
    let step : (v : ℕ) → row c.note_block.new.rows.items v ≡ row rows v ++ in_insns_by keys v b k block.insns block.end = λ v. ap (λ (r : List (List Occurrence)). row r v) e ∙ row_insns keys b v k block.insns block.end rows (subst (λ n. All (InsnBelow n) block.insns) (sym n) below.0) (subst (λ n. AllBelow n (end_uses block.end)) (sym n) below.1) pl in
    let m : k + (c.len.result + 1) ≡ k + (length block.insns + 1) = omega (arith, c.len.ensures) in
    record {
      so_far = omega (arith, h.0, c.len.ensures);
      count = c.in_ok-note_block.ensures.len ∙ count;
      each = λ v. ap (λ m. row c.note_block.new.rows.items v ++ in_blocks_by keys v (b + 1) m (drop (b + 1) bs)) m ∙ collected_more keys v b k bs block (row rows v) (row c.note_block.new.rows.items v) (in_blocks_by keys v 0 0 bs) h.3 h.2 (step v) (c.loop-b.invariant.each v);
    }
