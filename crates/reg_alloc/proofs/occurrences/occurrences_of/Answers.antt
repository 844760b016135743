use Rattle.std.proofs.Common.{◌≡◌, ◌∙◌, ℕ, ◌<◌, List, sym, ap, subst, length, arith}
use Rattle.std.specs.Prelude.{slice_index}
use Rattle.reg_alloc.specs.Rows.{Places}
use Rattle.reg_alloc.proofs.Occurring.{own_blocks}
use Rattle.reg_alloc.proofs.occurrences.occurrences_of.Goals as goal

pub occurrences_by-requires-clause-keys : goal.occurrences_by-requires-clause-keys
occurrences_by-requires-clause-keys c =
    let e = c.as_slice.ensures.value in
    let keys = c.in_ok-own.own.items in
    let ok : Places c.args.p.now.values c.args.p.now.values keys = record { count = c.in_ok-own.ensures.len; each = λ v lt. (let q = c.in_ok-own.ensures.each v lt in omega (arith, q, lt)) } in
    subst (λ (l : List ℕ). Places c.args.p.now.values c.args.p.now.values l) (sym e) ok

pub returns : goal.returns
returns c =
    let n = c.args.p.now.values in
    let keys = c.as_slice.result.now in
    let own : (w : ℕ) → w < n → slice_index keys w ≡ w = λ w lt. ap (λ (l : List ℕ). slice_index l w) c.as_slice.ensures.value ∙ c.in_ok-own.ensures.each w lt in
    record {
      count = c.in_ok-rows.ensures.counted;
      each = λ v lt. c.in_ok-rows.ensures.each v lt ∙ own_blocks keys n v own (length c.args.p.now.blocks) 0 0 c.args.p.now.blocks c.requires.named.blocks;
    }
