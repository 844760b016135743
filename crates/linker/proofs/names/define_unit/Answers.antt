use Rattle.std.proofs.Common.{List, [], ◌∷◌, ◌++◌, length, take, refl, sym, ap, ◌∙◌, subst, arith}
use Rattle.std.proofs.lemmas.Option.{slice_get_read}
use Rattle.std.proofs.lemmas.List.{append_assoc}
use Rattle.linker.specs.Names.{Entry, unit_entries}
use Rattle.linker.specs.Table.{IsTable}
use Rattle.linker.proofs.Tabled.{unit-more, definition}
use Rattle.linker.proofs.names.define_unit.Goals as goal

pub loop-name-preserved : goal.loop-name-preserved
loop-name-preserved c = λ entries h.
    let names = c.args.names.now in
    let i = c.loop-name.name-index in
    let n = c.loop-name-item.result in
    let k = c.args.unit in
    let g = slice_get_read names (length names) i n refl (omega arith) c.loop-name-item.is in
    let e = append_assoc entries (unit_entries k (take i names)) ((n.0, definition k n.1) ∷ []) ∙ ap (λ (t : List Entry). entries ++ t) (sym (unit-more k i names n g)) in
    subst (λ (t : List Entry). IsTable t c.define.new.table c.define.new.twice.items) e (c.in_ok-define.ensures (entries ++ unit_entries k (take i names)) (c.loop-name.invariant entries h))
