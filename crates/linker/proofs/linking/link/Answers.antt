use Rattle.std.proofs.Common.{◌≡◌, ℕ, ◌<◌, List, ◌++◌, length, take, drop, sym, ap, ◌∙◌, subst, arith}
use Rattle.std.specs.Prelude.{Option}
use Rattle.std.proofs.Math.Seq.{take-append_seam}
use Rattle.linker.specs.declared.offsets.Start.{Start}
use Rattle.linker.specs.declared.fault.LinkFault.{LinkFault}
use Rattle.linker.specs.Names.{entry_name}
use Rattle.linker.specs.Starts.{AreStarts}
use Rattle.linker.specs.Told.{Tells}
use Rattle.linker.specs.Linked.{IsLinked}
use Rattle.linker.proofs.Found.{table-defines, all-answered, entry-defined}
use Rattle.linker.proofs.Outcome.{told, none-told, linked}
use Rattle.linker.proofs.linking.link.Goals as goal

-- the fault's lists are those that were made
listed : (missing missing' twice twice' : List (List ℕ)) (fault : Option LinkFault) → missing ≡ missing' → twice ≡ twice' → Tells missing twice fault → Tells missing' twice' fault
listed missing missing' twice twice' fault e f h = subst (λ (t : List (List ℕ)). Tells missing' t fault) f (subst (λ (m : List (List ℕ)). Tells m twice fault) e h)

-- the bytes that a slice leaves in its vector
whole : (new old : List ℕ) (len : ℕ) → len ≡ length new → take len (new ++ drop (length new) old) ≡ new
whole new old len e = ap (λ (n : ℕ). take n (new ++ drop (length new) old)) e ∙ take-append_seam new (drop (length new) old)

pub returns-in-Some-clause-fault : goal.returns-in-Some-clause-fault
returns-in-Some-clause-fault c =
    let units = c.args.units.now in
    let missing = c.in_ok-missing.missing.items in
    let twice = c.in_ok-table.twice.items in
    let tells = listed c.as_slice.result.now missing c.as_slice-2.result.now twice c.in_ok-fault.field-0 c.as_slice.ensures.value c.as_slice-2.ensures.value c.in_ok-fault.ensures in
    told units c.in_ok-table.table twice missing c.in_ok-table.ensures c.in_ok-missing.ensures c.in-Some.fault (subst (λ (o : Option LinkFault). Tells missing twice o) c.in-Some.is tells)

pub resolve_all-requires-clause-ready : goal.resolve_all-requires-clause-ready
resolve_all-requires-clause-ready c =
    let units = c.args.units.now in
    record {
      small = subst (λ (b : List ℕ). length b < 2000000000) c.in_ok-bytes.ensures.bytes c.in_ok-bytes.ensures.small;
      begin = subst (λ (s : List Start). AreStarts units s) (sym c.as_slice-3.ensures.value) c.in_ok-starts.ensures;
      defines = table-defines units c.in_ok-table.table c.in_ok-table.twice.items c.in_ok-table.ensures;
    }

pub resolve_all-requires-clause-answered : goal.resolve_all-requires-clause-answered
resolve_all-requires-clause-answered c =
    let missing = c.in_ok-missing.missing.items in
    let twice = c.in_ok-table.twice.items in
    let tells = listed c.as_slice.result.now missing c.as_slice-2.result.now twice c.in_ok-fault.field-0 c.as_slice.ensures.value c.as_slice-2.ensures.value c.in_ok-fault.ensures in
    let none = subst (λ (o : Option LinkFault). Tells missing twice o) c.in_default.is tells in
    all-answered c.args.units.now c.in_ok-table.table missing c.in_ok-missing.ensures none.0

pub target_of-entry-requires-clause-ready : goal.target_of-entry-requires-clause-ready
target_of-entry-requires-clause-ready c =
    let units = c.args.units.now in
    record {
      small = subst (λ (b : List ℕ). length b < 2000000000) c.in_ok-bytes.ensures.bytes c.in_ok-bytes.ensures.small;
      begin = subst (λ (s : List Start). AreStarts units s) (sym c.as_slice-4.ensures.value) c.in_ok-starts.ensures;
      defines = table-defines units c.in_ok-table.table c.in_ok-table.twice.items c.in_ok-table.ensures;
    }

pub target_of-entry-requires-clause-defined : goal.target_of-entry-requires-clause-defined
target_of-entry-requires-clause-defined c =
    let missing = c.in_ok-missing.missing.items in
    let twice = c.in_ok-table.twice.items in
    let tells = listed c.as_slice.result.now missing c.as_slice-2.result.now twice c.in_ok-fault.field-0 c.as_slice.ensures.value c.as_slice-2.ensures.value c.in_ok-fault.ensures in
    let none = subst (λ (o : Option LinkFault). Tells missing twice o) c.in_default.is tells in
    entry-defined c.args.units.now c.in_ok-table.table missing c.in_ok-missing.ensures none.0

pub target_of-entry-requires-clause-within : goal.target_of-entry-requires-clause-within
target_of-entry-requires-clause-within c = λ k place v d. let le = (c.requires k v d.0).names d.1.0 place entry_name d.1.1 in omega (arith, le)

pub returns-clause-linked : goal.returns-clause-linked
returns-clause-linked c =
    let units = c.args.units.now in
    let entry = c.target_of-entry.result in
    let made = linked units c.resolve_all.new.bytes c.in_ok-bytes.code_len entry c.resolve_all.ensures c.in_ok-bytes.ensures.code c.target_of-entry.ensures in
    let new = c.resolve_all.new.bytes in
    let len = c.in_ok-bytes.bytes.ok.0 ∙ ap (λ (b : List ℕ). length b) c.in_ok-bytes.ensures.bytes ∙ sym c.resolve_all.ensures.len in
    let items = c.from_vec.ensures ∙ whole new c.in_ok-bytes.bytes.items c.in_ok-bytes.bytes.len len in
    subst (λ (b : List ℕ). IsLinked units (record { bytes = b; code_len = c.in_ok-bytes.code_len; entry = entry })) (sym items) made

pub returns-clause-sound : goal.returns-clause-sound
returns-clause-sound c =
    let missing = c.in_ok-missing.missing.items in
    let twice = c.in_ok-table.twice.items in
    let tells = listed c.as_slice.result.now missing c.as_slice-2.result.now twice c.in_ok-fault.field-0 c.as_slice.ensures.value c.as_slice-2.ensures.value c.in_ok-fault.ensures in
    let none = subst (λ (o : Option LinkFault). Tells missing twice o) c.in_default.is tells in
    none-told c.args.units.now c.in_ok-table.table twice missing c.in_ok-table.ensures c.in_ok-missing.ensures none

pub returns-clause-small : goal.returns-clause-small
returns-clause-small c =
    let new = c.resolve_all.new.bytes in
    let len = c.in_ok-bytes.bytes.ok.0 ∙ ap (λ (b : List ℕ). length b) c.in_ok-bytes.ensures.bytes ∙ sym c.resolve_all.ensures.len in
    let items = c.from_vec.ensures ∙ whole new c.in_ok-bytes.bytes.items c.in_ok-bytes.bytes.len len in
    let all = ap (λ (b : List ℕ). length b) c.in_ok-bytes.ensures.bytes in
    let same = c.resolve_all.ensures.len in
    let small = c.in_ok-bytes.ensures.small in
    let new_small : length new < 2000000000 = omega (arith, all, same, small) in
    subst (λ (b : List ℕ). length b < 2000000000) (sym items) new_small
