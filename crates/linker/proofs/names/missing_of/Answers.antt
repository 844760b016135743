use Rattle.std.proofs.Common.{ℕ, List, ◌++◌, length, take, refl, sym, ap, ◌∙◌, subst, arith}
use Rattle.std.proofs.lemmas.Option.{slice_get_read}
use Rattle.rv_assemble.specs.declared.object.Relocation.{Relocation}
use Rattle.linker.specs.Names.{asked_names, asked_of_units}
use Rattle.linker.specs.Table.{AreMissed}
use Rattle.linker.proofs.Tabled.{asked-more}
use Rattle.linker.proofs.names.missing_of.Goals as goal

pub loop-u-preserved : goal.loop-u-preserved
loop-u-preserved c =
    let units = c.args.units.now in
    let k = c.loop-u.u-index in
    let u = c.u-item.result in
    let g = slice_get_read units (length units) k u refl (omega arith) c.u-item.is in
    let e = ap (λ (t : List Relocation). asked_of_units (take k units) ++ asked_names t) c.as_slice.ensures ∙ sym (asked-more k units u g) in
    subst (λ (t : List (List ℕ)). AreMissed t c.args.table.now c.ask_unit.new.missing.items) e (c.in_ok-ask_unit.ensures (asked_of_units (take k units)) c.loop-u.invariant)
