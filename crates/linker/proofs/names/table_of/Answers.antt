use Rattle.std.proofs.Common.{◌≡◌, ℕ, ◌+◌, List, ◌++◌, length, take, refl, sym, ap, ◌∙◌, subst, arith}
use Rattle.std.proofs.lemmas.Option.{slice_get_read}
use Rattle.linker.specs.Names.{Entry, unit_entries, entries_from}
use Rattle.linker.specs.Table.{IsTable}
use Rattle.linker.proofs.Tabled.{from-more}
use Rattle.linker.proofs.names.table_of.Goals as goal

pub loop-k-preserved : goal.loop-k-preserved
loop-k-preserved c =
    let units = c.args.units.now in
    let k = c.loop-k.k in
    let u = c.index-units-k.result in
    let g = slice_get_read units (length units) k u refl (omega arith) c.index-units-k.is in
    let zero : 0 + k ≡ k = omega arith in
    let e = ap (λ (t : List (List ℕ × ℕ)). entries_from 0 (take k units) ++ unit_entries k t) c.as_slice.ensures
    ∙ ap (λ (m : ℕ). entries_from 0 (take k units) ++ unit_entries m u.names) (sym zero) ∙ sym (from-more 0 k units u g) in
    subst (λ (t : List Entry). IsTable t c.define_unit.new.table c.define_unit.new.twice.items) e (c.in_ok-define_unit.ensures (entries_from 0 (take k units)) c.loop-k.invariant)
