-- What every step leaves as it was: the mode of a step that does no more than its instruction, the code and its length, the memory's length, and x0.
use Rattle.std.proofs.Common.{◌≡◌, ◌≤◌, ℕ, ◌+◌, ◌-◌, ◌*◌, ◌/◌, ◌%◌, ◌^◌, List, length, take, slice_index, Bool, true, false, ◌&&◌, nat_eq, nat_le, Option, Result, Ok, Err, refl, sym, ap, ◌∙◌, inl, inr, arith}
use Rattle.std.specs.Prelude.{if◌then◌else◌, ◌==◌, not, nat_lt, int_lt}
use Rattle.std.specs.Int.{Width, w8, w16, w32, w64, byte_len}
use Rattle.std.proofs.lemmas.Bool.{cases_Bool, cond-true, cond-false, and_parts, leb-true, eqb-false}
use Rattle.std.proofs.Common.{take-take}
use Rattle.std.proofs.lemmas.List.{take-append-le, length-take-le}
use Rattle.std.proofs.lemmas.List.{length-set, get_or-set_other}
use lib.ListN.{set}
use Rattle.rv_isa.specs.declared.insn.Insn.{Insn}
use Rattle.rv_isa.specs.declared.insn.Insn.TheVariants as insn
use Rattle.rv_machine.specs.declared.event.Mode.{Mode}
use Rattle.rv_machine.specs.declared.event.Mode.TheVariants as mode
use Rattle.rv_machine.specs.declared.event.Event.{Event}
use Rattle.rv_machine.specs.declared.event.Event.TheVariants as event
use Rattle.rv_machine.specs.declared.event.TrapKind.{TrapKind}
use Rattle.rv_machine.specs.declared.event.TrapKind.TheVariants as trap
use Rattle.rv_machine.specs.Alu.{signed, sum_of}
use Rattle.rv_machine.specs.State.{State, register, set_register, next_pc}
use Rattle.rv_machine.specs.Memory.{place_of, stored}
use Rattle.rv_machine.specs.Keeps.{Keeps}
use Rattle.rv_machine.specs.Step.{act, act_fetched, fetched, ready_step, jump, branch, load, load_at, store, store_at, ecall, answer, settled, step_in, one}
use Rattle.rv_machine.proofs.Kept.{length-stored}

-- and that both are in one mode
pub record KeepsMode (s t : State) : Type 0 where
  pub mode : t.mode ≡ s.mode
  pub keeps : Keeps s t

pub same : (s : State) → KeepsMode s s
same s = record { mode = refl; keeps = record { code = refl; long = refl; words = refl; count = refl; zero = refl } }

count_set : (registers : List ℕ) (rd v : ℕ) → length (set_register registers rd v) ≡ length registers
count_set registers rd v =
    elim (cases_Bool (nat_eq rd 0)) [
      | inl first ↦ ap length (cond-true (nat_eq rd 0) registers (set registers rd v) first)
      | inr other ↦ ap length (cond-false (nat_eq rd 0) registers (set registers rd v) other) ∙ length-set registers rd v
    ]

zero_set : (registers : List ℕ) (rd v : ℕ) → slice_index (set_register registers rd v) 0 ≡ slice_index registers 0
zero_set registers rd v =
    elim (cases_Bool (nat_eq rd 0)) [
      | inl first ↦ ap (λ l. slice_index l 0) (cond-true (nat_eq rd 0) registers (set registers rd v) first)
      | inr other ↦ ap (λ l. slice_index l 0) (cond-false (nat_eq rd 0) registers (set registers rd v) other)
          ∙ get_or-set_other registers rd 0 v 0 (λ e. eqb-false rd 0 other (sym e))
    ]

-- a register and a place change
pub moves : (s : State) (rd v pc : ℕ) → KeepsMode s (record s { registers = set_register s.registers rd v; pc = pc })
moves s rd v pc = record { mode = refl; keeps = record { code = refl; long = refl; words = refl; count = count_set s.registers rd v; zero = zero_set s.registers rd v } }

goes : (s : State) (pc : ℕ) → KeepsMode s (record s { pc = pc })
goes s pc = record { mode = refl; keeps = record { code = refl; long = refl; words = refl; count = refl; zero = refl } }

either : (b : Bool) (s : State) (x y : State × Event) → KeepsMode s x.0 → KeepsMode s y.0 → KeepsMode s (if b then x else y).0
either true s x y p q = p
either false s x y p q = q

jumps : (s : State) (rd target : ℕ) → KeepsMode s (jump s rd target).0
jumps s rd target = either (target % 4 == 0) s _ _ (moves s rd (next_pc s) target) (same s)

branches : (s : State) (taken : Bool) (imm : ℕ) → KeepsMode s (branch s taken imm).0
branches s taken imm =
    either taken s _ _ (either ((s.pc + imm) % 2 ^ 64 % 4 == 0) s _ _ (goes s ((s.pc + imm) % 2 ^ 64)) (same s)) (goes s (next_pc s))

loads_at : (s : State) (w : Width) (is_signed : Bool) (rd : ℕ) (r : Result ℕ TrapKind) → KeepsMode s (load_at s w is_signed rd r).0
loads_at s w is_signed rd (Ok at) = moves s rd _ _
loads_at s w is_signed rd (Err kind) = same s

loads : (s : State) (w : Width) (is_signed : Bool) (rd address : ℕ) → KeepsMode s (load s w is_signed rd address).0
loads s w is_signed rd address = loads_at s w is_signed rd (place_of s.memory 0 (byte_len w) address)

-- a store behind the code leaves it
words_stored : (memory : List ℕ) (code n at value : ℕ) → code ≤ at → at ≤ length memory → take code (stored memory at n value) ≡ take code memory
words_stored memory code n at value behind fits =
    let front : length (take at memory) ≡ at = length-take-le at memory fits in
    take-append-le code (take at memory) _ (omega (arith, front)) ∙ take-take code at memory behind

found_by : (whole inside : Bool) (x at : ℕ) → (if whole then (if inside then Ok x else Err trap.Range) else Err trap.Align) ≡ Ok at → (inside ≡ true) × (x ≡ at)
found_by true true x at e = (refl, cc)
found_by true false x at e = absurd (cc)
found_by false inside x at e = absurd (cc)

-- what a place that was found is
place_found : (memory : List ℕ) (from n address at : ℕ) → place_of memory from n address ≡ Ok at → (from ≤ at) × (at + n ≤ length memory)
place_found memory from n address at found =
    let tests = found_by (address % n == 0) (nat_le (65536 + from) address && nat_le (address + n) (65536 + length memory)) (address - 65536) at found in
    let both = and_parts (nat_le (65536 + from) address) (nat_le (address + n) (65536 + length memory)) tests.0 in
    let low : 65536 + from ≤ address = leb-true (65536 + from) address both.0 in
    let high : address + n ≤ 65536 + length memory = leb-true (address + n) (65536 + length memory) both.1 in
    let is : address - 65536 ≡ at = tests.1 in
    (omega arith, omega arith)

stores_at : (s : State) (w : Width) (value : ℕ) (r : Result ℕ TrapKind) → ((at : ℕ) → r ≡ Ok at → (s.code ≤ at) × (at + byte_len w ≤ length s.memory)) → KeepsMode s (store_at s w value r).0
stores_at s w value (Ok at) found =
    let there = found at refl in
    let behind : s.code ≤ at = there.0 in
    let fits : at + byte_len w ≤ length s.memory = there.1 in
    record {
      mode = refl;
      keeps = record {
        code = refl;
        long = length-stored s.memory (byte_len w) at value fits;
        words = words_stored s.memory s.code (byte_len w) at value behind (omega arith);
        count = refl;
        zero = refl;
      };
    }
stores_at s w value (Err kind) found = same s

stores : (s : State) (w : Width) (address value : ℕ) → KeepsMode s (store s w address value).0
stores s w address value =
    stores_at s w value (place_of s.memory s.code (byte_len w) address) (λ at. place_found s.memory s.code (byte_len w) address at)

asks : (s : State) → KeepsMode s (ecall s).0
asks s =
    either (register s 17 == 63) s _ _ (same s)
    (either (register s 17 == 64) s _ _ (goes s (next_pc s))
    (either (register s 17 == 93) s _ _ (same s)
    (either (register s 17 == 94 && nat_le (register s 10) 1) s _ _ (same s) (same s))))

-- so does each instruction
pub acts : (i : Insn) (s : State) → KeepsMode s (act i s).0
unfolding act
acts (insn.Lui rd imm) s = moves s rd _ _
acts (insn.Auipc rd imm) s = moves s rd _ _
acts (insn.Jal rd imm) s = jumps s rd (sum_of s.pc imm)
acts (insn.Jalr rd rs1 imm) s = jumps s rd (sum_of (register s rs1) imm / 2 * 2)
acts (insn.Beq rs1 rs2 imm) s = branches s (register s rs1 == register s rs2) imm
acts (insn.Bne rs1 rs2 imm) s = branches s (not (register s rs1 == register s rs2)) imm
acts (insn.Blt rs1 rs2 imm) s = branches s (int_lt (signed (register s rs1)) (signed (register s rs2))) imm
acts (insn.Bge rs1 rs2 imm) s = branches s (not (int_lt (signed (register s rs1)) (signed (register s rs2)))) imm
acts (insn.Bltu rs1 rs2 imm) s = branches s (nat_lt (register s rs1) (register s rs2)) imm
acts (insn.Bgeu rs1 rs2 imm) s = branches s (not (nat_lt (register s rs1) (register s rs2))) imm
acts (insn.Lb rd rs1 imm) s = loads s w8 true rd (sum_of (register s rs1) imm)
acts (insn.Lh rd rs1 imm) s = loads s w16 true rd (sum_of (register s rs1) imm)
acts (insn.Lw rd rs1 imm) s = loads s w32 true rd (sum_of (register s rs1) imm)
acts (insn.Ld rd rs1 imm) s = loads s w64 false rd (sum_of (register s rs1) imm)
acts (insn.Lbu rd rs1 imm) s = loads s w8 false rd (sum_of (register s rs1) imm)
acts (insn.Lhu rd rs1 imm) s = loads s w16 false rd (sum_of (register s rs1) imm)
acts (insn.Lwu rd rs1 imm) s = loads s w32 false rd (sum_of (register s rs1) imm)
acts (insn.Sb rs1 rs2 imm) s = stores s w8 (sum_of (register s rs1) imm) (register s rs2)
acts (insn.Sh rs1 rs2 imm) s = stores s w16 (sum_of (register s rs1) imm) (register s rs2)
acts (insn.Sw rs1 rs2 imm) s = stores s w32 (sum_of (register s rs1) imm) (register s rs2)
acts (insn.Sd rs1 rs2 imm) s = stores s w64 (sum_of (register s rs1) imm) (register s rs2)
acts (insn.Addi rd rs1 imm) s = moves s rd _ _
acts (insn.Slti rd rs1 imm) s = moves s rd _ _
acts (insn.Sltiu rd rs1 imm) s = moves s rd _ _
acts (insn.Xori rd rs1 imm) s = moves s rd _ _
acts (insn.Ori rd rs1 imm) s = moves s rd _ _
acts (insn.Andi rd rs1 imm) s = moves s rd _ _
acts (insn.Slli rd rs1 imm) s = moves s rd _ _
acts (insn.Srli rd rs1 imm) s = moves s rd _ _
acts (insn.Srai rd rs1 imm) s = moves s rd _ _
acts (insn.Addiw rd rs1 imm) s = moves s rd _ _
acts (insn.Slliw rd rs1 imm) s = moves s rd _ _
acts (insn.Srliw rd rs1 imm) s = moves s rd _ _
acts (insn.Sraiw rd rs1 imm) s = moves s rd _ _
acts (insn.Add rd rs1 rs2) s = moves s rd _ _
acts (insn.Sub rd rs1 rs2) s = moves s rd _ _
acts (insn.Sll rd rs1 rs2) s = moves s rd _ _
acts (insn.Slt rd rs1 rs2) s = moves s rd _ _
acts (insn.Sltu rd rs1 rs2) s = moves s rd _ _
acts (insn.Xor rd rs1 rs2) s = moves s rd _ _
acts (insn.Srl rd rs1 rs2) s = moves s rd _ _
acts (insn.Sra rd rs1 rs2) s = moves s rd _ _
acts (insn.Or rd rs1 rs2) s = moves s rd _ _
acts (insn.And rd rs1 rs2) s = moves s rd _ _
acts (insn.Mul rd rs1 rs2) s = moves s rd _ _
acts (insn.Mulh rd rs1 rs2) s = moves s rd _ _
acts (insn.Mulhsu rd rs1 rs2) s = moves s rd _ _
acts (insn.Mulhu rd rs1 rs2) s = moves s rd _ _
acts (insn.Div rd rs1 rs2) s = moves s rd _ _
acts (insn.Divu rd rs1 rs2) s = moves s rd _ _
acts (insn.Rem rd rs1 rs2) s = moves s rd _ _
acts (insn.Remu rd rs1 rs2) s = moves s rd _ _
acts (insn.Addw rd rs1 rs2) s = moves s rd _ _
acts (insn.Subw rd rs1 rs2) s = moves s rd _ _
acts (insn.Sllw rd rs1 rs2) s = moves s rd _ _
acts (insn.Srlw rd rs1 rs2) s = moves s rd _ _
acts (insn.Sraw rd rs1 rs2) s = moves s rd _ _
acts (insn.Mulw rd rs1 rs2) s = moves s rd _ _
acts (insn.Divw rd rs1 rs2) s = moves s rd _ _
acts (insn.Divuw rd rs1 rs2) s = moves s rd _ _
acts (insn.Remw rd rs1 rs2) s = moves s rd _ _
acts (insn.Remuw rd rs1 rs2) s = moves s rd _ _
acts insn.Fence s = goes s _
acts insn.Ecall s = asks s
acts insn.Ebreak s = same s

acts_fetched : (s : State) (r : Result Insn TrapKind) → KeepsMode s (act_fetched r s).0
acts_fetched s (Ok i) = acts i s
acts_fetched s (Err kind) = same s

pub ready_steps : (s : State) → KeepsMode s (ready_step s).0
ready_steps s = acts_fetched s (fetched s)

-- a step keeps the code and its length, the memory's length and x0
steps_in : (m : Mode) (s : State) (g : Option ℕ) → Keeps s (step_in m s g).0
steps_in mode.Ready s g = let k = (ready_steps s).keeps in record { code = k.code; long = k.long; words = k.words; count = k.count; zero = k.zero }
steps_in mode.Waiting s g = let k = (moves s 10 (answer g) (next_pc s)).keeps in record { code = k.code; long = k.long; words = k.words; count = k.count; zero = k.zero }
steps_in (mode.Ended e) s g = (same s).keeps

pub steps : (s : State) (g : Option ℕ) → Keeps s (one s g).0
unfolding one
steps s g = steps_in s.mode s g

-- a step that does an instruction and no more leaves the machine ready
pub ran : (s t : State) (g : Option ℕ) → s.mode ≡ mode.Ready → (t, event.Ran) ≡ ready_step s → (t, event.Ran) ≡ one s g
unfolding one
ran s t g ready is =
    let kept : t.mode ≡ mode.Ready = ap (λ w. w.0.mode) is ∙ (ready_steps s).mode ∙ ready in
    ap (λ m. (record t { mode = m }, event.Ran)) kept ∙ ap settled is ∙ sym (ap (λ m. step_in m s g) ready)
