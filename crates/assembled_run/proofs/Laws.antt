-- The laws of lines.
use Rattle.std.proofs.Common.{◌≡◌, ℕ, zero, suc, ◌+◌, ◌-◌, ◌%◌, ◌<◌, List, length, min, refl, ap, ◌∙◌, subst, arith, lit<, length-append}
use Rattle.std.specs.Prelude.{slice_get, slice_index, Some, replicate}
use Rattle.std.proofs.lemmas.List.{take-append-le}
use Rattle.std.proofs.lemmas.Option.{slice_get_within}
use Rattle.program_image.specs.declared.Image.{Image}
use Rattle.rv_isa.specs.declared.insn.Insn.{Insn}
use Rattle.rv_isa.specs.declared.insn.Insn.TheVariants.{Jal, Addi}
use Rattle.rv_isa.specs.Encode.{encode_of, IsEncodable}
use Rattle.rv_assemble.specs.declared.unit.AsmLine.TheVariants.{Label, Plain, Branch, Call, Address}
use Rattle.rv_assemble.specs.declared.unit.AsmUnit.{AsmUnit}
use Rattle.rv_assemble.specs.declared.object.ObjUnit.{ObjUnit}
use Rattle.rv_assemble.specs.Lines.{MakesDistance, distance, asked_by_fix}
use Rattle.linker.specs.Layout.{offset_of}
use Rattle.linker.proofs.Sites.{code_before, length-laid}
use Rattle.rv_machine.specs.State.{State, set_register}
use Rattle.rv_machine.specs.Loaded.{loaded, memory_size}
use Rattle.rv_machine.specs.Step.{one}
use Rattle.rv_machine.specs.Exec.{Run}
use Rattle.rv_machine.proofs.Laws.{IsAtWord, one_at}
use Rattle.rv_machine.proofs.Keeps.{steps}
use Rattle.assembled_run.specs.Program.{AreLinked, UnitAt, line_address, name_address}
use Rattle.assembled_run.specs.Machine.{IsAt, moved_to, Leads}
use Rattle.assembled_run.specs.Theorems.{Begins, KeepsCode, AreInCode, LabelStays, PlainSteps, JumpLeads, BranchLeads, CallLeads, AddressLeads, FixHolds}
use Rattle.assembled_run.proofs.Follows.{within}
use Rattle.assembled_run.proofs.Asked.{asked_fix}
use Rattle.assembled_run.proofs.Held.{insn_here, code_kept}
use Rattle.assembled_run.proofs.Jumps.{IsPlace, jumps, takes, passes, pair_jumps, pair_adds, pair_skips, set_twice}
use Rattle.assembled_run.proofs.Standing.{place_at, place_whole, place_small, plain_stands, label_place, jump_stands, branch_stands, call_stands, address_stands, offset_code, name_lies, code_fits}

pub keeps_code : KeepsCode
keeps_code image s given h = code_kept image s (one s given).0 (steps s given) h

pub label_stays : LabelStays
label_stays us os image made i w k label g = let e = label_place us os image made i w k label g in omega (arith, e)

pub are_in_code : AreInCode
are_in_code us os image made i w k le =
    let a = place_whole us os image made i w k le in
    let b = code_fits us os image made i w in
    let c = within w.unit w.object w.assembled k le in
    (omega (arith, a), omega arith, omega (arith, b, c))

-- an instruction of the unit, in the machine
pub plain_at : (us : List AsmUnit) (os : List ObjUnit) (image : Image) (made : AreLinked us os image) (i : ℕ) (w : UnitAt us os i) (k : ℕ) (insn : Insn) → slice_get w.unit.lines k ≡ Some (Plain insn)
    → (s : State) → IsAt image s (line_address w k) → IsAtWord s (encode_of insn) × IsEncodable insn
plain_at us os image made i w k insn g s h =
    let st = plain_stands us os image made i w k insn g in
    let p = place_at us os image made i w k (slice_get_within w.unit.lines k (Plain insn) g) in
    let n = st.0 in
    let inside = p.inside in
    (insn_here image s (code_before os i + slice_index w.assembled.places k) insn h p.whole (omega (arith, n, inside)) st.1, st.1.word.encodable)

pub plain_steps : PlainSteps
plain_steps us os image made i w k insn g =
    let st = plain_stands us os image made i w k insn g in
    let n = st.0 in (
      omega (arith, n),
      λ s given h. (let a = plain_at us os image made i w k insn g s h in one_at s insn given a.0 a.1),
    )

pub jump_leads : JumpLeads
jump_leads us os image made i w k rd imm to g =
    let st = jump_stands us os image made i w k rd imm to g in
    let p = place_at us os image made i w k (slice_get_within w.unit.lines k (Branch (Jal rd imm) to) g) in
    let lt = slice_get_within w.unit.lines st.0 (Label to) st.1 in
    let low = place_small us os image made i w st.0 (omega (arith, lt)) in
    (st.0, st.1, λ r h. jumps image r rd _ _ _ h p (omega (arith, low)) (place_whole us os image made i w st.0 (omega (arith, lt))) st.2)

pub branch_leads : BranchLeads
branch_leads us os image made i w k insn to can g =
    let st = branch_stands us os image made i w k insn to can g in
    let here = slice_get_within w.unit.lines k (Branch insn to) g in
    let p = place_at us os image made i w k here in
    let lt = slice_get_within w.unit.lines st.0 (Label to) st.1 in
    let low = place_small us os image made i w st.0 (omega (arith, lt)) in
    let even = place_whole us os image made i w st.0 (omega (arith, lt)) in
    let next_even = place_whole us os image made i w (k + 1) (omega (arith, here)) in (
      st.0,
      st.1,
      λ r h so. takes image r insn _ _ _ can h p (omega (arith, low)) even next_even st.2 so,
      λ r h so. passes image r insn _ _ _ can h p (omega (arith, low)) even next_even st.2 so,
    )

-- the first line of a unit that has code is where its name lies
first_line : (us : List AsmUnit) (os : List ObjUnit) (image : Image) (made : AreLinked us os image) (j : ℕ) (d : UnitAt us os j) → 0 < length d.object.code
    → offset_of os j d.object 0 ≡ code_before os j + slice_index d.assembled.places 0
first_line us os image made j d some =
    let e = offset_code us os image made j d 0 some in
    let z = d.assembled.begins in
    omega (arith, e, z)

pub call_leads : CallLeads
call_leads us os image made i w k name g j d is some r h =
    let st = call_stands us os image made i w k name j d g is in
    let here = slice_get_within w.unit.lines k (Call name) g in
    let p = place_at us os image made i w k here in
    let n = st.0 in
    let low = st.1 in
    let first = first_line us os image made j d some in
    let even : offset_of os j d.object 0 % 4 ≡ 0 = (let w = place_whole us os image made j d 0 (omega arith) in omega (arith, w, first)) in
    let at : ℕ = code_before os i + slice_index w.assembled.places k in
    let done = pair_jumps image r at _ 1 (offset_of os j d.object 0) h p (omega (arith, n)) (omega (arith, low)) (lit< tt) (lit< tt) 1 even st.2 in
    let back : 65536 + (at + 8) ≡ line_address w (k + 1) = omega (arith, n) in
    let to : 65536 + offset_of os j d.object 0 ≡ line_address d 0 = omega (arith, first) in
    subst (λ (t : ℕ). Leads 2 r (moved_to r (set_register r.state.registers 1 (line_address w (k + 1))) t)) to
    (subst (λ (b : ℕ). Leads 2 r (moved_to r (set_register r.state.registers 1 b) (65536 + offset_of os j d.object 0))) back
    (subst (λ (rs : List ℕ). Leads 2 r (moved_to r rs (65536 + offset_of os j d.object 0))) (set_twice r.state.registers 1 done.0 (65536 + (at + 8)) (lit< tt)) done.1))

-- the same for each register
address_by : (image : Image) (r : Run) (at next rd target : ℕ) → rd < 32 → IsAt image r.state (65536 + at) → IsPlace image at next → next ≡ at + 8 → target < 2000000000 → MakesDistance image.bytes at rd (distance at target) (λ low. Addi rd rd low)
    → Leads 2 r (moved_to r (set_register r.state.registers rd (65536 + target)) (65536 + (at + 8)))
address_by image r at next zero target few h p n low m = pair_skips image r at next (distance at target) h p (omega (arith, n)) m
address_by image r at next (suc rd) target few h p n low m = pair_adds image r at next (suc rd) target h p (omega (arith, n)) (omega (arith, low)) (omega arith) few m

pub address_leads : AddressLeads
address_leads us os image made i w k rd name offset g j d is r h =
    let few : rd < 32 = (made.assembled.proper i w.unit w.is_unit).lines k (Address rd name offset) g in
    let st = address_stands us os image made i w k rd name offset j d few g is in
    let here = slice_get_within w.unit.lines k (Address rd name offset) g in
    let p = place_at us os image made i w k here in
    let n = st.0 in
    let at : ℕ = code_before os i + slice_index w.assembled.places k in
    let next : code_before os i + slice_index w.assembled.places (k + 1) ≡ at + 8 = omega (arith, n) in
    let back : 65536 + (at + 8) ≡ line_address w (k + 1) = omega (arith, n) in
    subst (λ (t : ℕ). Leads 2 r (moved_to r (set_register r.state.registers rd (name_address d offset)) t)) back (address_by image r at _ rd (offset_of os j d.object offset) few h p next st.1 st.2)

pub begins : Begins
unfolding loaded
begins us os image made i w is some limits =
    let long = length-laid os in
    let count = made.linked.count in
    let code = made.linked.code_len in
    let small = made.small in
    let rest : List ℕ = replicate (memory_size image limits - length image.bytes) 0 in
    let all = length-append image.bytes rest in
    let len : min image.code_len (length image.bytes) ≡ image.code_len = omega (arith, long, count, code) in
    let lies = name_lies us os image made i w i w _ 0 image.entry is made.linked.entry in
    let first = first_line us os image made i w some in
    let low = place_small us os image made i w 0 (omega arith) in
    record {
      ready = refl;
      has = record {
        len = len;
        long = omega (arith, len, long, count, code, all);
        bytes = take-append-le (min image.code_len (length image.bytes)) image.bytes rest (omega arith);
      };
      count = refl;
      place = omega (arith, lies, first, low);
    }

pub fix_holds : FixHolds
fix_holds us os image made i w k fix g j d is =
    let f = asked_fix w.unit w.object w.assembled k fix g in
    let done = made.linked.resolved i f.0 w.object (asked_by_fix (length w.object.code) fix) w.is_object f.1 in
    let there = name_lies us os image made i w j d fix.name fix.offset done.target is done.lies in
    done.has ∙ ap (λ (t : ℕ). 65536 + t) there
