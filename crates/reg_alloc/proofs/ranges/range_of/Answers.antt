use Rattle.std.proofs.Common.{◌≡◌, ◌∙◌, ◌+◌, ◌++◌, ◌∷◌, [], ℕ, List, refl, sym, ap, subst, arith, rules, length, length-append}
use Rattle.std.proofs.lemmas.List.{get_or_read}
use Rattle.std.specs.Prelude.{slice_index}
use Rattle.reg_alloc.specs.declared.occurrences.Occurrence.{Occurrence}
use Rattle.reg_alloc.specs.Occurs.{marked, stacked, unmarked, hull, widened, in_blocks, ends_to}
use Rattle.reg_alloc.specs.declared.ranges.Range.{Range}
use Rattle.reg_alloc.specs.Ranges.{Covers, Search}
use Rattle.reg_alloc.proofs.Searching.{hull_wider, covers_wider, widened_wider, search_falls}
use Rattle.reg_alloc.proofs.Reaching.{begin, left, range_exact, same_search, named_within, sources_within, top_within}
use Rattle.reg_alloc.proofs.ranges.range_of.Goals as goal

pub visit_all-requires : goal.visit_all-requires
visit_all-requires c = named_within c.args.p.now c.args.v c.args.marks.now.items c.args.occurrences.now c.requires.count c.requires.occurrences

pub loop-t-init : goal.loop-t-init
loop-t-init c =
    let p = c.args.p.now in
    let v = c.args.v in
    let m = v + 1 in
    let os = in_blocks v 0 0 p.blocks in
    let r = c.range_at_start-range.result in
    let marks = c.args.marks.now.items in
    let b = begin p v m (omega arith) (omega (arith, c.requires.size)) marks r (λ k. let u = c.requires.marks k in omega (arith, u)) c.requires.count c.range_at_start-range.ensures.ok in
    record {
      search = same_search p v m os (marked m os marks) (stacked m os marks []) (hull os r) c.visit_all.new.marks.items c.visit_all.new.stack.items c.visit_all.new.range (c.in_ok-visit_all.ensures.marks ∙ ap (λ (l : List Occurrence). marked m l marks) c.requires.occurrences) (c.in_ok-visit_all.ensures.stack ∙ ap (λ (l : List Occurrence). stacked m l marks c.new-stack.result.items) c.requires.occurrences ∙ ap (λ (l : List ℕ). stacked m os marks l) c.new-stack.ensures.items) (c.in_ok-visit_all.ensures.range ∙ ap (λ (l : List Occurrence). hull l r) c.requires.occurrences) b;
      param = λ h. (let k = c.range_at_start-range.ensures.param h in subst (λ (x : Range). Covers x 0) (sym (c.in_ok-visit_all.ensures.range)) (covers_wider r (hull c.args.occurrences.now r) 0 (hull_wider c.args.occurrences.now r) k));
    }

pub bounds-starts-t : goal.bounds-starts-t
bounds-starts-t c =
    let v = c.args.v in
    let os = in_blocks v 0 0 c.args.p.now.blocks in
    let s = subst (λ (l : List ℕ). Search c.args.p.now v (v + 1) os c.loop-t.marks.items l c.loop-t.range) c.in-Some.ensures.items c.loop-t.invariant.search in
    let w = top_within c.args.p.now v (v + 1) c.in-Some.t os c.loop-t.marks.items c.pop.new.self.items c.loop-t.range s in
    omega (arith, w, c.requires.starts.count)

pub bounds-sources-t : goal.bounds-sources-t
bounds-sources-t c =
    let v = c.args.v in
    let os = in_blocks v 0 0 c.args.p.now.blocks in
    let s = subst (λ (l : List ℕ). Search c.args.p.now v (v + 1) os c.loop-t.marks.items l c.loop-t.range) c.in-Some.ensures.items c.loop-t.invariant.search in
    let w = top_within c.args.p.now v (v + 1) c.in-Some.t os c.loop-t.marks.items c.pop.new.self.items c.loop-t.range s in
    omega (arith, w, c.requires.sources.count)

pub returns-clause-range : goal.returns-clause-range
returns-clause-range c =
    let v = c.args.v in
    let os = in_blocks v 0 0 c.args.p.now.blocks in
    let e : c.loop-t.stack.items ≡ [] = search rules in
    let s = subst (λ (l : List ℕ). Search c.args.p.now v (v + 1) os c.loop-t.marks.items l c.loop-t.range) e c.loop-t.invariant.search in
    range_exact c.args.p.now v (v + 1) (omega arith) (omega (arith, c.requires.size)) c.loop-t.marks.items c.loop-t.range s c.loop-t.invariant.param

pub visit_all-requires-in-Some : goal.visit_all-requires-in-Some
visit_all-requires-in-Some c =
    let p = c.args.p.now in
    let v = c.args.v in
    let t = c.in-Some.t in
    let os = in_blocks v 0 0 p.blocks in
    let s = subst (λ (l : List ℕ). Search p v (v + 1) os c.loop-t.marks.items l c.loop-t.range) c.in-Some.ensures.items c.loop-t.invariant.search in
    let w = top_within p v (v + 1) t os c.loop-t.marks.items c.pop.new.self.items c.loop-t.range s in
    let e : c.as_slice.result.now ≡ ends_to t 0 0 p.blocks = c.as_slice.ensures ∙ get_or_read c.args.sources.now t c.index-sources-t.result (omega (arith, w, c.requires.sources.count)) c.index-sources-t.is [] ∙ c.requires.sources.each t w in
    sources_within p t c.loop-t.marks.items c.as_slice.result.now c.loop-t.invariant.search.count e

pub loop-t-preserved : goal.loop-t-preserved
loop-t-preserved c =
    let p = c.args.p.now in
    let v = c.args.v in
    let m = v + 1 in
    let t = c.in-Some.t in
    let os = in_blocks v 0 0 p.blocks in
    let marks = c.loop-t.marks.items in
    let stack = c.pop.new.self.items in
    let ss = ends_to t 0 0 p.blocks in
    let start = slice_index c.args.starts.now t in
    let s = subst (λ (l : List ℕ). Search p v m os marks l c.loop-t.range) c.in-Some.ensures.items c.loop-t.invariant.search in
    let w = top_within p v m t os marks stack c.loop-t.range s in
    let e : c.as_slice.result.now ≡ ss = c.as_slice.ensures ∙ get_or_read c.args.sources.now t c.index-sources-t.result (omega (arith, w, c.requires.sources.count)) c.index-sources-t.is [] ∙ c.requires.sources.each t w in
    let r = widened c.loop-t.range start in
    let er : c.visit_all-in-Some.new.range ≡ hull ss r = c.in_ok-visit_all-2.ensures.range ∙ ap (λ (l : List Occurrence). hull l c.widen.new.range) e ∙ ap (λ (x : Range). hull ss x) c.widen.ensures in
    let b = left p v m (omega arith) (omega (arith, c.requires.size)) marks stack t start c.loop-t.range s (λ lt. c.requires.starts.each t lt) in
    record {
      search = same_search p v m os (marked m ss marks) (stacked m ss marks stack) (hull ss r) c.visit_all-in-Some.new.marks.items c.visit_all-in-Some.new.stack.items c.visit_all-in-Some.new.range (c.in_ok-visit_all-2.ensures.marks ∙ ap (λ (l : List Occurrence). marked m l marks) e) (c.in_ok-visit_all-2.ensures.stack ∙ ap (λ (l : List Occurrence). stacked m l marks stack) e) er b;
      param = λ h. subst (λ (x : Range). Covers x 0) (sym er) (covers_wider r (hull ss r) 0 (hull_wider ss r) (covers_wider c.loop-t.range r 0 (widened_wider c.loop-t.range start) (c.loop-t.invariant.param h)));
    }

pub loop-t-smaller : goal.loop-t-smaller
loop-t-smaller c =
    let p = c.args.p.now in
    let v = c.args.v in
    let m = v + 1 in
    let t = c.in-Some.t in
    let os = in_blocks v 0 0 p.blocks in
    let marks = c.loop-t.marks.items in
    let stack = c.pop.new.self.items in
    let ss = ends_to t 0 0 p.blocks in
    let s = subst (λ (l : List ℕ). Search p v m os marks l c.loop-t.range) c.in-Some.ensures.items c.loop-t.invariant.search in
    let w = top_within p v m t os marks stack c.loop-t.range s in
    let e : c.as_slice.result.now ≡ ss = c.as_slice.ensures ∙ get_or_read c.args.sources.now t c.index-sources-t.result (omega (arith, w, c.requires.sources.count)) c.index-sources-t.is [] ∙ c.requires.sources.each t w in
    let f = search_falls m ss marks stack (sources_within p t marks ss c.loop-t.invariant.search.count refl) in
    let a = ap (λ (l : List ℕ). unmarked m l) (c.in_ok-visit_all-2.ensures.marks ∙ ap (λ (l : List Occurrence). marked m l marks) e) in
    let b = ap (λ (l : List ℕ). length l) (c.in_ok-visit_all-2.ensures.stack ∙ ap (λ (l : List Occurrence). stacked m l marks stack) e) in
    let n = ap (λ (l : List ℕ). length l) c.in-Some.ensures.items in
    let k = length-append stack (t ∷ []) in
    omega (arith, f, a, b, n, k)
