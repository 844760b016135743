use Rattle.std.proofs.Common.{ℕ, List, [], ◌∷◌, ◌++◌, length, take, refl, sym, ap, ◌∙◌, subst, arith}
use Rattle.std.proofs.lemmas.Option.{slice_get_read}
use Rattle.std.proofs.lemmas.List.{append_assoc}
use Rattle.linker.specs.Names.{asked_names}
use Rattle.linker.specs.Table.{AreMissed}
use Rattle.linker.proofs.Tabled.{names-more}
use Rattle.linker.proofs.names.ask_unit.Goals as goal

pub loop-r-preserved : goal.loop-r-preserved
loop-r-preserved c = λ asked h.
    let rs = c.args.relocations.now in
    let i = c.loop-r.r-index in
    let r = c.r-item.result in
    let g = slice_get_read rs (length rs) i r refl (omega arith) c.r-item.is in
    let e = append_assoc asked (asked_names (take i rs)) (r.name ∷ []) ∙ ap (λ (t : List (List ℕ)). asked ++ t) (sym (names-more i rs r g)) in
    subst (λ (t : List (List ℕ)). AreMissed t c.args.table.now c.ask.new.missing.items) e (c.in_ok-ask.ensures (asked ++ asked_names (take i rs)) (c.loop-r.invariant asked h))
