use Rattle.std.proofs.Common.{◌≡◌, ℕ, List, length, refl, sym, ap, ◌∙◌, subst, arith}
use Rattle.std.specs.Prelude.{slice_get, Some}
use Rattle.std.proofs.lemmas.Option.{slice_get_read}
use Rattle.rv_assemble.specs.declared.object.ObjUnit.{ObjUnit}
use Rattle.rv_assemble.specs.declared.object.Relocation.{Relocation}
use Rattle.linker.specs.Resolving.{IsDone}
use Rattle.linker.proofs.Done.{done-more, done-next}
use Rattle.linker.proofs.resolve.resolve_unit.Goals as goal

pub resolve-requires-clause-can : goal.resolve-requires-clause-can
resolve-requires-clause-can c =
    let units = c.args.units.now in
    let k = c.args.k in
    let u = c.index-units-k.result in
    let gu = slice_get_read units (length units) k u refl c.requires.unit c.index-units-k.is in
    let rs = c.as_slice-r-items.result.now in
    let j = c.loop-r.r-index in
    let r = c.r-item.result in
    let e = c.as_slice-r-items.ensures ∙ ap (λ (w : ObjUnit). w.relocations) (sym c.index-units-k.is) in
    let gr = subst (λ (xs : List Relocation). slice_get xs j ≡ Some r) e (slice_get_read rs (length rs) j r refl c.loop-r-test.true c.r-item.is) in
    let can = c.requires.linkable k u gu in
    record {
      unit = u;
      stands = gu;
      inside = can.inside j r gr;
      defined = c.requires.answered k j u r gu gr;
      within = λ i place v d. can.targets j i place r v gr d;
    }

pub loop-r-preserved : goal.loop-r-preserved
loop-r-preserved c =
    let units = c.args.units.now in
    let k = c.args.k in
    let u = c.index-units-k.result in
    let gu = slice_get_read units (length units) k u refl c.requires.unit c.index-units-k.is in
    let rs = c.as_slice-r-items.result.now in
    let j = c.loop-r.r-index in
    let r = c.r-item.result in
    let e = c.as_slice-r-items.ensures ∙ ap (λ (w : ObjUnit). w.relocations) (sym c.index-units-k.is) in
    let gr = subst (λ (xs : List Relocation). slice_get xs j ≡ Some r) e (slice_get_read rs (length rs) j r refl c.loop-r-test.true c.r-item.is) in
    done-more units c.loop-r.bytes c.resolve.new.bytes k j u r c.requires.linkable gu gr c.loop-r.invariant (c.resolve.ensures u gu)

pub returns : goal.returns
returns c =
    let units = c.args.units.now in
    let k = c.args.k in
    let u = c.index-units-k.result in
    let gu = slice_get_read units (length units) k u refl c.requires.unit c.index-units-k.is in
    let e = ap (λ (xs : List Relocation). length xs) (c.as_slice-r-items.ensures ∙ ap (λ (w : ObjUnit). w.relocations) (sym c.index-units-k.is)) in
    let past = c.loop-r-test.false in
    let within = c.loop-r.auto.r-index-end in
    let all : c.loop-r.r-index ≡ length u.relocations = omega (arith, e, past, within) in
    done-next units c.loop-r.bytes k u gu (subst (λ (n : ℕ). IsDone units c.loop-r.bytes k n) all c.loop-r.invariant)
