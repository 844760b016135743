use Rattle.std.proofs.Common.{◌≡◌, ℕ, ◌+◌, ◌<◌, List, [], ◌∷◌, ◌++◌, length, refl, sym, ap, ◌∙◌, subst, arith}
use Rattle.std.specs.Prelude.{nat_eq, slice_get, slice_index, Some}
use Rattle.std.specs.HashMap.{get}
use Rattle.std.proofs.lemmas.Option.{slice_get_read}
use Rattle.std.proofs.lemmas.List.{length-append}
use Rattle.rv_assemble.specs.declared.unit.AsmLine.{AsmLine}
use Rattle.rv_assemble.specs.Places.{target_by}
use Rattle.rv_assemble.proofs.Found.{each-more, targets-all}
use Rattle.rv_assemble.proofs.labels.targets.Goals as goal

pub loop-line-preserved : goal.loop-line-preserved
loop-line-preserved c =
    let lines = c.args.lines.now in
    let n = c.loop-line.line-index in
    let here = c.line-item.result in
    let found = c.in_ok-found.found in
    let xs = c.loop-line.targets.items in
    let y = c.target.result in
    let inv = c.loop-line.invariant in
    let g = slice_get_read lines (length lines) n here refl (omega arith) c.line-item.is in
    let items : c.push.new.self.items ≡ xs ++ y ∷ [] = c.in_ok-push.ensures.items in
    record {
      count = ap (λ (ys : List ℕ). length ys) items ∙ simp length-append (omega (arith, inv.count));
      each = subst (λ (ys : List ℕ). (k : ℕ) (line : AsmLine) → k < n + 1 → slice_get lines k ≡ Some line → slice_index ys k ≡ target_by (λ q. get nat_eq found q) line) (sym items)
          (each-more lines xs (λ line. target_by (λ q. get nat_eq found q) line) n y here inv.count inv.each g c.target.ensures);
    }

pub returns : goal.returns
returns c =
    let lines = c.args.lines.now in
    let inv = c.loop-line.invariant in
    let n : c.loop-line.line-index ≡ length lines = omega arith in
    targets-all lines (λ q. get nat_eq c.in_ok-found.found q) c.in_ok-found.ensures c.loop-line.targets.items c.requires (inv.count ∙ n)
    (λ k line l g. inv.each k line (omega arith) g)
