use Rattle.std.proofs.Common.{ℕ, ◌∙◌, sym, ap, subst, arith, length, length-append, below_more, List, get_or, ◌++◌, ◌∷◌, []}
use Rattle.std.specs.Prelude.{slice_index_or}
use Rattle.std.proofs.Math.ListN.{get_or-append}
use Rattle.std.proofs.Math.Seq.{get_or-append_seam}
use Rattle.reg_alloc.specs.declared.ranges.Range.{Range}
use Rattle.reg_alloc.specs.Ranges.{RangeOf}
use Rattle.reg_alloc.specs.Scan.{no_range}
use Rattle.reg_alloc.proofs.ranges.ranges_of.Goals as goal

pub loop-v-preserved : goal.loop-v-preserved
loop-v-preserved c =
    let old = c.loop-v.ranges.items in
    let r = c.in_ok-range_of.field-0 in
    let e = c.in_ok-push.ensures.items in
    record {
      so_far = (let a = ap length e in let b = length-append old (r ∷ []) in let i = c.loop-v.invariant.so_far in omega (arith, a, b, i));
      each = below_more (λ u. RangeOf c.args.p.now u (slice_index_or c.push.new.self.items u no_range)) c.loop-v.v (λ u lt. subst (λ (x : Range). RangeOf c.args.p.now u x) (sym (ap (λ (l : List Range). get_or l u no_range) e ∙ get_or-append old (r ∷ []) no_range u (let i = c.loop-v.invariant.so_far in omega (arith, lt, i)))) (c.loop-v.invariant.each u lt)) (subst (λ (x : Range). RangeOf c.args.p.now c.loop-v.v x) (sym (ap (λ (l : List Range). get_or l c.loop-v.v no_range) e ∙ ap (λ (n : ℕ). get_or (old ++ r ∷ []) n no_range) (sym c.loop-v.invariant.so_far) ∙ get_or-append_seam old r [] no_range)) c.in_ok-range_of.ensures.range);
      count = c.in_ok-range_of.ensures.count;
      under = c.in_ok-range_of.ensures.marks;
    }
