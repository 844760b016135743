use Rattle.std.proofs.Common.{ℕ, ◌+◌, ◌<◌, length, refl, sym, ◌∙◌, subst, arith}
use Rattle.std.proofs.lemmas.Option.{slice_get_read, slice_get_within}
use Rattle.linker.proofs.Firsts.{FirstTo, first_then, first_else}
use Rattle.linker.proofs.fault.first_of.Goals as goal
use Rattle.linker.proofs.fault.first_of.Goals.{then-is_before, else-is_before}

pub loop-i-preserved : goal.loop-i-preserved
loop-i-preserved c =
    let names = c.args.names.now in
    let i = c.loop-i.i in
    let a = c.index-names-i.result in
    let b = c.index-names-first.result in
    let ga = slice_get_read names (length names) i a refl (omega arith) c.index-names-i.is in
    let gb = slice_get_read names (length names) c.loop-i.first b refl c.loop-i.invariant.0 c.index-names-first.is in
    let first = c.if-is_before.first in
    elim c.if-is_before.branch [
      | then-is_before w ↦ (
        subst (λ (m : ℕ). m < length names) (sym w.first-is) (omega arith),
        subst (λ (m : ℕ). FirstTo names (i + 1) m) (sym w.first-is) (first_then names i c.loop-i.first a b ga gb c.loop-i.invariant.1 (sym c.is_before.ensures ∙ w.if-is_before.true)),
      )
      | else-is_before w ↦ (
        subst (λ (m : ℕ). m < length names) (sym w.first-is) c.loop-i.invariant.0,
        subst (λ (m : ℕ). FirstTo names (i + 1) m) (sym w.first-is) (first_else names i c.loop-i.first a b ga gb c.loop-i.invariant.1 (sym c.is_before.ensures ∙ w.if-is_before.false)),
      )
    ]

pub returns : goal.returns
returns c =
    let names = c.args.names.now in
    let b = c.index-names-first-2.result in
    let gb = slice_get_read names (length names) c.loop-i.first b refl c.loop-i.invariant.0 c.index-names-first-2.is in
    ((c.loop-i.first, gb), λ other h. c.loop-i.invariant.1 b other h.0 gb h.1 (let w = slice_get_within names h.0 other h.1 in omega (arith, w)))
