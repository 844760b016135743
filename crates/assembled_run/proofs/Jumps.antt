-- Pairs, jumps and conditional branches that stand in an image, done by a machine.
use Rattle.std.proofs.Common.{◌≡◌, ℕ, zero, suc, ◌+◌, ◌*◌, ◌/◌, ◌%◌, ◌^◌, ◌<◌, ◌≤◌, inl, inr, List, length, Bool, true, false, refl, sym, ap, ◌∙◌, subst, arith, lit<}
use Rattle.std.specs.Prelude.{slice_index, not, nat_eq}
use Rattle.std.proofs.lemmas.Bool.{cond-false, ne_eqb}
use Rattle.std.proofs.lemmas.List.{length-set, get_or-set_same, set-set, set-get_or}
use Rattle.std.proofs.Math.ListN.{set}
use Rattle.program_image.specs.declared.Image.{Image}
use Rattle.rv_isa.specs.declared.insn.Insn.{Insn}
use Rattle.rv_isa.specs.declared.insn.Insn.TheVariants.{Auipc, Jal, Jalr, Addi, Beq, Bne, Blt, Bge, Bltu, Bgeu}
use Rattle.rv_machine.specs.State.{State, register, set_register}
use Rattle.rv_machine.specs.Alu.{sum_of}
use Rattle.rv_machine.specs.Step.{act, branch}
use Rattle.rv_machine.specs.Exec.{Run}
use Rattle.rv_machine.proofs.Rows.{auipc_turn, jal_turn, jalr_turn, addi_turn, taken_turn, passed_turn}
use Rattle.rv_assemble.specs.Lines.{Stands, MakesDistance, Jumps, Branches, distance, aimed, opposite}
use Rattle.rv_assemble.specs.Places.{IsConditional}
use Rattle.assembled_run.specs.Machine.{IsAt, is_taken, moved_to, Leads, Within}
use Rattle.assembled_run.proofs.Held.{insn_here, next_here}
use Rattle.assembled_run.proofs.Leads.{leads_one, leads_then, at_moved}

-- registers with a value in one of them
set_is : (registers : List ℕ) (rd v : ℕ) → 0 < rd → set_register registers rd v ≡ set registers rd v
set_is registers rd v some = cond-false (nat_eq rd 0) registers (set registers rd v) (ne_eqb rd 0 (λ e. omega arith))

pub count_set : (registers : List ℕ) (rd v : ℕ) → length (set_register registers rd v) ≡ length registers
count_set registers zero v = refl
count_set registers (suc rd) v = ap (λ (l : List ℕ). length l) (set_is registers (suc rd) v (omega arith)) ∙ length-set registers (suc rd) v

pub set_twice : (registers : List ℕ) (rd x v : ℕ) → 0 < rd → set_register (set_register registers rd x) rd v ≡ set_register registers rd v
set_twice registers rd x v some =
    ap (λ (l : List ℕ). set_register l rd v) (set_is registers rd x some)
    ∙ set_is (set registers rd x) rd v some
    ∙ set-set registers rd x v
    ∙ sym (set_is registers rd v some)

read_set : (registers : List ℕ) (rd v : ℕ) → 0 < rd → rd < length registers → slice_index (set_register registers rd v) rd ≡ v
read_set registers rd v some lt = ap (λ (l : List ℕ). slice_index l rd) (set_is registers rd v some) ∙ get_or-set_same registers rd v 0 lt

-- a place of the image, as those of its code are
pub record IsPlace (image : Image) (at next : ℕ) : Type 0 where
  pub whole : at % 4 ≡ 0
  pub inside : next ≤ image.code_len
  pub small : image.code_len < 2000000000

-- how far it is to a place of the image
sum_distance : (at target : ℕ) → at < 2000000000 → target < 4000000000 → (65536 + at + distance at target) % 2 ^ 64 ≡ 65536 + target
sum_distance at target a t = omega arith

module _ (image : Image) where
  -- an AUIPC that stands in the image
  auipc_leads : (r : Run) (at next rd imm : ℕ) → IsAt image r.state (65536 + at) → IsPlace image at next → at + 4 ≤ next → Stands image.bytes at (Auipc rd imm)
      → Leads 1 r (moved_to r (set_register r.state.registers rd (sum_of (65536 + at) imm)) (65536 + (at + 4)))
  auipc_leads r at next rd imm h p le st =
      let inside = p.inside in
      let small = p.small in
      leads_one r _ _ h.ready (auipc_turn r rd imm (sum_of (65536 + at) imm) (65536 + (at + 4)) (insn_here image r.state at (Auipc rd imm) h p.whole (omega (arith, le, inside)) st) st.word.encodable
      (ap (λ (x : ℕ). sum_of x imm) h.place) (next_here r.state.pc at h.place (omega (arith, le, inside, small))))

  module _ (r : Run) (at next rs1 target : ℕ) (h : IsAt image r.state (65536 + at)) (p : IsPlace image at next) (le : at + 8 ≤ next) (low_target : target < 4000000000) (some : 0 < rs1) (few : rs1 < 32) where
    -- the machine behind the AUIPC
    abbrev between : ℕ → Run
    between v = moved_to r (set_register r.state.registers rs1 v) (65536 + (at + 4))

    at_between : (v : ℕ) → IsAt image (between v).state (65536 + (at + 4))
    at_between v = at_moved image r (65536 + at) (set_register r.state.registers rs1 v) (65536 + (at + 4)) h (count_set r.state.registers rs1 v)

    holds : (v : ℕ) → register (between v).state rs1 ≡ v
    holds v = let c = h.count in read_set r.state.registers rs1 v some (omega (arith, c, few))

    next_small : next < 2000000000
    next_small = let a = p.inside in let b = p.small in omega (arith, a, b)

    second_inside : at + 4 + 4 ≤ image.code_len
    second_inside = let a = p.inside in omega (arith, a, le)

    second_whole : (at + 4) % 4 ≡ 0
    second_whole = let w = p.whole in omega (arith, w)

    -- both parts together
    parts : (high low : ℕ) → (high + low) % 2 ^ 64 ≡ distance at target → sum_of (sum_of (65536 + at) high) low ≡ 65536 + target
    parts high low e =
        let n = next_small in
        joined (65536 + at) high low (distance at target) (65536 + target) e (sum_distance at target (omega (arith, n, le)) low_target)
      where
        joined : (a x y d t : ℕ) → (x + y) % 2 ^ 64 ≡ d → (a + d) % 2 ^ 64 ≡ t → ((a + x) % 2 ^ 64 + y) % 2 ^ 64 ≡ t
        joined a x y d t e f = omega arith

    -- a far jump
    pub pair_jumps : (rd : ℕ) → target % 4 ≡ 0 → MakesDistance image.bytes at rs1 (distance at target) (λ low. Jalr rd rs1 low)
        → (x : ℕ) × Leads 2 r (moved_to r (set_register (set_register r.state.registers rs1 x) rd (65536 + (at + 8))) (65536 + target))
    pair_jumps rd whole m =
        let v = sum_of (65536 + at) m.high in
        let w = between v in
        let n = next_small in
        let first = auipc_leads r at next rs1 m.high h p (omega (arith, le)) m.first in
        let sum = parts m.high m.low m.sum in
        let to : sum_of (register w.state rs1) m.low / 2 * 2 ≡ 65536 + target =
        (let read = holds v in
        let e : sum_of (register w.state rs1) m.low ≡ 65536 + target = ap (λ (y : ℕ). sum_of y m.low) read ∙ sum in
        omega (arith, e, whole)) in
        let back : 65536 + (at + 4 + 4) ≡ 65536 + (at + 8) = omega arith in
        let goes = jalr_turn w rd rs1 m.low (65536 + target) (65536 + (at + 8)) (insn_here image w.state (at + 4) (Jalr rd rs1 m.low) (at_between v) second_whole second_inside m.second) m.second.word.encodable to (omega (arith, whole))
        (next_here (65536 + (at + 4)) (at + 4) refl (omega (arith, n, le)) ∙ back) in
        (v, leads_then 1 1 r w _ first (leads_one w _ _ refl goes))

    -- an address
    pub pair_adds : MakesDistance image.bytes at rs1 (distance at target) (λ low. Addi rs1 rs1 low)
        → Leads 2 r (moved_to r (set_register r.state.registers rs1 (65536 + target)) (65536 + (at + 8)))
    pair_adds m =
        let v = sum_of (65536 + at) m.high in
        let w = between v in
        let n = next_small in
        let first = auipc_leads r at next rs1 m.high h p (omega (arith, le)) m.first in
        let sum = parts m.high m.low m.sum in
        let back : 65536 + (at + 4 + 4) ≡ 65536 + (at + 8) = omega arith in
        let goes = addi_turn w rs1 rs1 m.low (65536 + target) (65536 + (at + 8)) (insn_here image w.state (at + 4) (Addi rs1 rs1 m.low) (at_between v) second_whole second_inside m.second) m.second.word.encodable
        (ap (λ (y : ℕ). sum_of y m.low) (holds v) ∙ sum) (next_here (65536 + (at + 4)) (at + 4) refl (omega (arith, n, le)) ∙ back) in
        let whole_pair = leads_then 1 1 r w _ first (leads_one w _ _ refl goes) in
        subst (λ (rs : List ℕ). Leads 2 r (moved_to r rs (65536 + (at + 8)))) (set_twice r.state.registers rs1 v (65536 + target) some) whole_pair

  -- a pair for x0 leaves the registers
  pub pair_skips : (r : Run) (at next far : ℕ) → IsAt image r.state (65536 + at) → IsPlace image at next → at + 8 ≤ next → MakesDistance image.bytes at 0 far (λ low. Addi 0 0 low)
      → Leads 2 r (moved_to r r.state.registers (65536 + (at + 8)))
  pair_skips r at next far h p le m =
      let w = moved_to r r.state.registers (65536 + (at + 4)) in
      let inside = p.inside in
      let small = p.small in
      let even = p.whole in
      let first = auipc_leads r at next 0 m.high h p (omega (arith, le)) m.first in
      let there : IsAt image w.state (65536 + (at + 4)) = at_moved image r (65536 + at) r.state.registers (65536 + (at + 4)) h refl in
      let back : 65536 + (at + 4 + 4) ≡ 65536 + (at + 8) = omega arith in
      let goes = addi_turn w 0 0 m.low (sum_of (register w.state 0) m.low) (65536 + (at + 8)) (insn_here image w.state (at + 4) (Addi 0 0 m.low) there (omega (arith, even)) (omega (arith, inside, le)) m.second) m.second.word.encodable
      refl (next_here (65536 + (at + 4)) (at + 4) refl (omega (arith, inside, small, le)) ∙ back) in
      leads_then 1 1 r w _ first (leads_one w _ _ refl goes)

  -- a jump, in either form: x6 may change, and then rd has the place behind it
  pub jumps : (r : Run) (rd at next target : ℕ) → IsAt image r.state (65536 + at) → IsPlace image at next → target < 4000000000 → target % 4 ≡ 0 → Jumps image.bytes rd at next target
      → (x : ℕ) × Within 2 r (moved_to r (set_register (set_register r.state.registers 6 x) rd (65536 + next)) (65536 + target))
  jumps r rd at next target h p low whole (inl j) =
      let inside = p.inside in
      let small = p.small in
      let n = j.0 in
      let to : sum_of r.state.pc (distance at target) ≡ 65536 + target = ap (λ (x : ℕ). sum_of x (distance at target)) h.place ∙ sum_distance at target (omega (arith, n, inside, small)) low in
      let same : set_register r.state.registers 6 (register r.state 6) ≡ r.state.registers = set-get_or r.state.registers 6 0 in
      let behind : 65536 + (at + 4) ≡ 65536 + next = omega (arith, n) in
      let goes = jal_turn r rd (distance at target) (65536 + target) (65536 + next) (insn_here image r.state at (Jal rd (distance at target)) h p.whole (omega (arith, n, inside)) j.1) j.1.word.encodable to (omega (arith, whole))
      (next_here r.state.pc at h.place (omega (arith, n, inside, small)) ∙ behind) in (
        register r.state 6,
        record {
          count = 1;
          some = omega arith;
          few = omega arith;
          leads = subst (λ (rs : List ℕ). Leads 1 r (moved_to r (set_register rs rd (65536 + next)) (65536 + target))) (sym same) (leads_one r _ _ h.ready goes);
        },
      )
  jumps r rd at next target h p low whole (inr j) =
      let n = j.0 in
      let f = pair_jumps r at next 6 target h p (omega (arith, n)) low (lit< tt) (lit< tt) rd whole j.1 in
      let e : at + 8 ≡ next = sym n in (
        f.0,
        record {
          count = 2;
          some = omega arith;
          few = omega arith;
          leads = subst (λ (q : ℕ). Leads 2 r (moved_to r (set_register (set_register r.state.registers 6 f.0) rd (65536 + q)) (65536 + target))) e f.1;
        },
      )

-- what a conditional branch does, and one on the opposite condition
not_not : (b : Bool) → not (not b) ≡ b
not_not true = refl
not_not false = refl

aimed_acts : (i : Insn) (far : ℕ) (s : State) → IsConditional i → act (aimed i far) s ≡ branch s (is_taken i s) far
unfolding act
aimed_acts (Beq rs1 rs2 imm) far s h = refl
aimed_acts (Bne rs1 rs2 imm) far s h = refl
aimed_acts (Blt rs1 rs2 imm) far s h = refl
aimed_acts (Bge rs1 rs2 imm) far s h = refl
aimed_acts (Bltu rs1 rs2 imm) far s h = refl
aimed_acts (Bgeu rs1 rs2 imm) far s h = refl
aimed_acts i far s h = absurd h

opposite_acts : (i : Insn) (far : ℕ) (s : State) → IsConditional i → act (aimed (opposite i) far) s ≡ branch s (not (is_taken i s)) far
unfolding act
opposite_acts (Beq rs1 rs2 imm) far s h = refl
opposite_acts (Bne rs1 rs2 imm) far s h = ap (λ b. branch s b far) (sym (not_not _))
opposite_acts (Blt rs1 rs2 imm) far s h = refl
opposite_acts (Bge rs1 rs2 imm) far s h = ap (λ b. branch s b far) (sym (not_not _))
opposite_acts (Bltu rs1 rs2 imm) far s h = refl
opposite_acts (Bgeu rs1 rs2 imm) far s h = ap (λ b. branch s b far) (sym (not_not _))
opposite_acts i far s h = absurd h

module _ (image : Image) (r : Run) (i : Insn) (at next target : ℕ) (can : IsConditional i) (h : IsAt image r.state (65536 + at)) (p : IsPlace image at next) (low : target < 4000000000) (whole : target % 4 ≡ 0) (next_whole : next % 4 ≡ 0) where
  at_small : at + 4 ≤ next → at < 2000000000
  at_small le = let inside = p.inside in let small = p.small in omega (arith, le, inside, small)

  -- where the condition doesn't hold
  pub passes : Branches image.bytes i at next target → is_taken i r.state ≡ false → Leads 1 r (moved_to r r.state.registers (65536 + next))
  passes (inl j) not_so =
      let n = j.0 in
      let inside = p.inside in
      let small = p.small in
      let behind : 65536 + (at + 4) ≡ 65536 + next = omega (arith, n) in
      leads_one r _ _ h.ready (passed_turn r (aimed i (distance at target)) (is_taken i r.state) (distance at target) (65536 + next)
      (insn_here image r.state at (aimed i (distance at target)) h p.whole (omega (arith, n, inside)) j.1) j.1.word.encodable (aimed_acts i (distance at target) r.state can) not_so
      (next_here r.state.pc at h.place (omega (arith, n, inside, small)) ∙ behind))
  passes (inr j) not_so =
      let inside = p.inside in
      let small = p.small in
      let le = after_first j.1 in
      let to : sum_of r.state.pc (distance at next) ≡ 65536 + next = ap (λ (x : ℕ). sum_of x (distance at next)) h.place ∙ sum_distance at next (at_small le) (omega (arith, inside, small)) in
      leads_one r _ _ h.ready (taken_turn r (aimed (opposite i) (distance at next)) (not (is_taken i r.state)) (distance at next) (65536 + next)
      (insn_here image r.state at (aimed (opposite i) (distance at next)) h p.whole (omega (arith, le, inside)) j.0) j.0.word.encodable (opposite_acts i (distance at next) r.state can) (ap not not_so) to
      (omega (arith, next_whole)))
    where
      after_first : Jumps image.bytes 0 (at + 4) next target → at + 4 ≤ next
      after_first (inl k) = let n = k.0 in omega (arith, n)
      after_first (inr k) = let n = k.0 in omega (arith, n)

  -- and where it holds
  pub takes : Branches image.bytes i at next target → is_taken i r.state ≡ true → (x : ℕ) × Within 3 r (moved_to r (set_register r.state.registers 6 x) (65536 + target))
  takes (inl j) so =
      let n = j.0 in
      let inside = p.inside in
      let to : sum_of r.state.pc (distance at target) ≡ 65536 + target = ap (λ (x : ℕ). sum_of x (distance at target)) h.place ∙ sum_distance at target (at_small (omega (arith, n))) low in
      let same : set_register r.state.registers 6 (register r.state 6) ≡ r.state.registers = set-get_or r.state.registers 6 0 in
      let goes = taken_turn r (aimed i (distance at target)) (is_taken i r.state) (distance at target) (65536 + target)
      (insn_here image r.state at (aimed i (distance at target)) h p.whole (omega (arith, n, inside)) j.1) j.1.word.encodable (aimed_acts i (distance at target) r.state can) so to (omega (arith, whole)) in (
        register r.state 6,
        record {
          count = 1;
          some = omega arith;
          few = omega arith;
          leads = subst (λ (rs : List ℕ). Leads 1 r (moved_to r rs (65536 + target))) (sym same) (leads_one r _ _ h.ready goes);
        },
      )
  takes (inr j) so =
      let inside = p.inside in
      let small = p.small in
      let even = p.whole in
      let le = after_first j.1 in
      let w = moved_to r r.state.registers (65536 + (at + 4)) in
      let first = leads_one r _ _ h.ready (passed_turn r (aimed (opposite i) (distance at next)) (not (is_taken i r.state)) (distance at next) (65536 + (at + 4))
      (insn_here image r.state at (aimed (opposite i) (distance at next)) h p.whole (omega (arith, le, inside)) j.0) j.0.word.encodable (opposite_acts i (distance at next) r.state can) (ap not so)
      (next_here r.state.pc at h.place (omega (arith, le, inside, small)))) in
      let there : IsAt image w.state (65536 + (at + 4)) = at_moved image r (65536 + at) r.state.registers (65536 + (at + 4)) h refl in
      let rest = jumps image w 0 (at + 4) next target there (record { whole = omega (arith, even); inside = inside; small = small }) low whole j.1 in
      let some = rest.1.some in
      let few = rest.1.few in (
        rest.0,
        record { count = 1 + rest.1.count; some = omega (arith, some); few = omega (arith, few); leads = leads_then 1 rest.1.count r w _ first rest.1.leads },
      )
    where
      after_first : Jumps image.bytes 0 (at + 4) next target → at + 4 ≤ next
      after_first (inl k) = let n = k.0 in omega (arith, n)
      after_first (inr k) = let n = k.0 in omega (arith, n)
