-- One instruction of the machine (the RISC-V unprivileged specification, chapters 2, 5 and 7), and the calls that its environment has.
use Rattle.std.specs.Prelude.{ℕ, ◌+◌, ◌-◌, ◌*◌, ◌/◌, ◌%◌, ◌^◌, ◌==◌, nat_le, nat_lt, int_lt, Bool, true, false, not, ◌&&◌, if◌then◌else◌, bit_and, bit_or, bit_xor, Option, Some, None, Result, Ok, Err}
use Rattle.std.specs.Option.{ok_or}
use Rattle.std.specs.Int.{Width, w8, w16, w32, w64, byte_len, cast_signed}
use Rattle.rv_isa.specs.declared.insn.Insn.{Insn}
use Rattle.rv_isa.specs.declared.insn.Insn.TheVariants as insn
use Rattle.rv_isa.specs.Decode.{decode_of}
use Rattle.rv_machine.specs.declared.event.Mode.{Mode}
use Rattle.rv_machine.specs.declared.event.Mode.TheVariants as mode
use Rattle.rv_machine.specs.declared.event.Event.{Event}
use Rattle.rv_machine.specs.declared.event.Event.TheVariants as event
use Rattle.rv_machine.specs.declared.event.TrapKind.{TrapKind}
use Rattle.rv_machine.specs.declared.event.TrapKind.TheVariants as trap
use Rattle.rv_machine.specs.State.{State, register, set_register, next_pc}
use Rattle.rv_machine.specs.Alu.{signed, sum_of, difference_of, is_less_signed, is_less_unsigned, shifted_left, shifted_right, shifted_right_signed, word_sum, word_difference, word_shifted_left, word_shifted_right, word_shifted_right_signed, product_of, word_product, high_product_signed, high_product_mixed, high_product_unsigned, quotient_unsigned, remainder_unsigned, quotient_signed, remainder_signed, word_quotient_unsigned, word_remainder_unsigned, word_quotient_signed, word_remainder_signed}
use Rattle.rv_machine.specs.Memory.{place_of, number_at, value_at, stored}

-- nothing is done
abbrev pub trapped : State → TrapKind → State × Event
trapped s kind = (s, event.Trap kind)

-- on to the next instruction
abbrev pub go_on : State → Event → State × Event
go_on s e = (record s { pc = next_pc s }, e)

-- a value into a register, and on to the next instruction
abbrev pub set_on : State → ℕ → ℕ → State × Event
set_on s rd value = (record s { registers = set_register s.registers rd value; pc = next_pc s }, event.Ran)

-- 2.5.1: to another place, with the place of the next instruction in a register; a place is a multiple of 4
abbrev pub jump : State → ℕ → ℕ → State × Event
jump s rd target =
    if target % 4 == 0
    then (record s { registers = set_register s.registers rd (next_pc s); pc = target }, event.Ran)
    else trapped s trap.Align

-- 2.5.2: to another place where the condition holds, and on to the next instruction where it doesn't
abbrev pub branch : State → Bool → ℕ → State × Event
branch s taken imm =
    if taken
    then (if (s.pc + imm) % 2 ^ 64 % 4 == 0
    then (record s { pc = (s.pc + imm) % 2 ^ 64 }, event.Ran)
    else trapped s trap.Align)
    else go_on s event.Ran

-- 2.6 and 5.3: bytes of the memory into a register
abbrev pub load_at : State → Width → Bool → ℕ → Result ℕ TrapKind → State × Event
load_at s w is_signed rd (Ok at) = set_on s rd (value_at s.memory w is_signed at)
load_at s w is_signed rd (Err kind) = trapped s kind

abbrev pub load : State → Width → Bool → ℕ → ℕ → State × Event
load s w is_signed rd address = load_at s w is_signed rd (place_of s.memory 0 (byte_len w) address)

-- 2.6 and 5.3: the low bytes of a value into the memory behind the code
abbrev pub store_at : State → Width → ℕ → Result ℕ TrapKind → State × Event
store_at s w value (Ok at) =
    (record s { memory = stored s.memory at (byte_len w) value; pc = next_pc s }, event.Ran)
store_at s w value (Err kind) = trapped s kind

abbrev pub store : State → Width → ℕ → ℕ → State × Event
store s w address value = store_at s w value (place_of s.memory s.code (byte_len w) address)

-- 2.8: the environment is asked by the number in a7. 63 asks for a byte, 64 gives the low byte of a0,
-- 93 ends with the low 32 bits of a0 as stop code, 94 ends at the limit of frames where a0 is 0 and at that of objects where it is 1
abbrev pub ecall : State → State × Event
ecall s =
    if register s 17 == 63 then (s, event.WantByte)
    else if register s 17 == 64 then go_on s (event.GiveByte (register s 10 % 256))
    else if register s 17 == 93 then (s, event.Exit (cast_signed w32 (register s 10 % 2 ^ 32)))
    else if register s 17 == 94 && nat_le (register s 10) 1 then (s, event.Limited (register s 10))
    else trapped s trap.Call

-- what an instruction does
unfoldable pub act : Insn → State → State × Event
-- 2.4.1: upper immediates
act (insn.Lui rd imm) s = set_on s rd imm
act (insn.Auipc rd imm) s = set_on s rd (sum_of s.pc imm)
-- 2.5: control transfer
act (insn.Jal rd imm) s = jump s rd (sum_of s.pc imm)
act (insn.Jalr rd rs1 imm) s = jump s rd (sum_of (register s rs1) imm / 2 * 2)
act (insn.Beq rs1 rs2 imm) s = branch s (register s rs1 == register s rs2) imm
act (insn.Bne rs1 rs2 imm) s = branch s (not (register s rs1 == register s rs2)) imm
act (insn.Blt rs1 rs2 imm) s = branch s (int_lt (signed (register s rs1)) (signed (register s rs2))) imm
act (insn.Bge rs1 rs2 imm) s = branch s (not (int_lt (signed (register s rs1)) (signed (register s rs2)))) imm
act (insn.Bltu rs1 rs2 imm) s = branch s (nat_lt (register s rs1) (register s rs2)) imm
act (insn.Bgeu rs1 rs2 imm) s = branch s (not (nat_lt (register s rs1) (register s rs2))) imm
-- 2.6: loads and stores
act (insn.Lb rd rs1 imm) s = load s w8 true rd (sum_of (register s rs1) imm)
act (insn.Lh rd rs1 imm) s = load s w16 true rd (sum_of (register s rs1) imm)
act (insn.Lw rd rs1 imm) s = load s w32 true rd (sum_of (register s rs1) imm)
act (insn.Ld rd rs1 imm) s = load s w64 false rd (sum_of (register s rs1) imm)
act (insn.Lbu rd rs1 imm) s = load s w8 false rd (sum_of (register s rs1) imm)
act (insn.Lhu rd rs1 imm) s = load s w16 false rd (sum_of (register s rs1) imm)
act (insn.Lwu rd rs1 imm) s = load s w32 false rd (sum_of (register s rs1) imm)
act (insn.Sb rs1 rs2 imm) s = store s w8 (sum_of (register s rs1) imm) (register s rs2)
act (insn.Sh rs1 rs2 imm) s = store s w16 (sum_of (register s rs1) imm) (register s rs2)
act (insn.Sw rs1 rs2 imm) s = store s w32 (sum_of (register s rs1) imm) (register s rs2)
act (insn.Sd rs1 rs2 imm) s = store s w64 (sum_of (register s rs1) imm) (register s rs2)
-- 2.4.1: a register and an immediate
act (insn.Addi rd rs1 imm) s = set_on s rd (sum_of (register s rs1) imm)
act (insn.Slti rd rs1 imm) s = set_on s rd (is_less_signed (register s rs1) imm)
act (insn.Sltiu rd rs1 imm) s = set_on s rd (is_less_unsigned (register s rs1) imm)
act (insn.Xori rd rs1 imm) s = set_on s rd (bit_xor (register s rs1) imm)
act (insn.Ori rd rs1 imm) s = set_on s rd (bit_or (register s rs1) imm)
act (insn.Andi rd rs1 imm) s = set_on s rd (bit_and (register s rs1) imm)
act (insn.Slli rd rs1 imm) s = set_on s rd (shifted_left (register s rs1) imm)
act (insn.Srli rd rs1 imm) s = set_on s rd (shifted_right (register s rs1) imm)
act (insn.Srai rd rs1 imm) s = set_on s rd (shifted_right_signed (register s rs1) imm)
-- 5.2.1: the same on words
act (insn.Addiw rd rs1 imm) s = set_on s rd (word_sum (register s rs1) imm)
act (insn.Slliw rd rs1 imm) s = set_on s rd (word_shifted_left (register s rs1) imm)
act (insn.Srliw rd rs1 imm) s = set_on s rd (word_shifted_right (register s rs1) imm)
act (insn.Sraiw rd rs1 imm) s = set_on s rd (word_shifted_right_signed (register s rs1) imm)
-- 2.4.2: two registers
act (insn.Add rd rs1 rs2) s = set_on s rd (sum_of (register s rs1) (register s rs2))
act (insn.Sub rd rs1 rs2) s = set_on s rd (difference_of (register s rs1) (register s rs2))
act (insn.Sll rd rs1 rs2) s = set_on s rd (shifted_left (register s rs1) (register s rs2))
act (insn.Slt rd rs1 rs2) s = set_on s rd (is_less_signed (register s rs1) (register s rs2))
act (insn.Sltu rd rs1 rs2) s = set_on s rd (is_less_unsigned (register s rs1) (register s rs2))
act (insn.Xor rd rs1 rs2) s = set_on s rd (bit_xor (register s rs1) (register s rs2))
act (insn.Srl rd rs1 rs2) s = set_on s rd (shifted_right (register s rs1) (register s rs2))
act (insn.Sra rd rs1 rs2) s = set_on s rd (shifted_right_signed (register s rs1) (register s rs2))
act (insn.Or rd rs1 rs2) s = set_on s rd (bit_or (register s rs1) (register s rs2))
act (insn.And rd rs1 rs2) s = set_on s rd (bit_and (register s rs1) (register s rs2))
-- 7: products and quotients
act (insn.Mul rd rs1 rs2) s = set_on s rd (product_of (register s rs1) (register s rs2))
act (insn.Mulh rd rs1 rs2) s = set_on s rd (high_product_signed (register s rs1) (register s rs2))
act (insn.Mulhsu rd rs1 rs2) s = set_on s rd (high_product_mixed (register s rs1) (register s rs2))
act (insn.Mulhu rd rs1 rs2) s = set_on s rd (high_product_unsigned (register s rs1) (register s rs2))
act (insn.Div rd rs1 rs2) s = set_on s rd (quotient_signed (register s rs1) (register s rs2))
act (insn.Divu rd rs1 rs2) s = set_on s rd (quotient_unsigned (register s rs1) (register s rs2))
act (insn.Rem rd rs1 rs2) s = set_on s rd (remainder_signed (register s rs1) (register s rs2))
act (insn.Remu rd rs1 rs2) s = set_on s rd (remainder_unsigned (register s rs1) (register s rs2))
-- 5.2.2 and 7: the same on words
act (insn.Addw rd rs1 rs2) s = set_on s rd (word_sum (register s rs1) (register s rs2))
act (insn.Subw rd rs1 rs2) s = set_on s rd (word_difference (register s rs1) (register s rs2))
act (insn.Sllw rd rs1 rs2) s = set_on s rd (word_shifted_left (register s rs1) (register s rs2))
act (insn.Srlw rd rs1 rs2) s = set_on s rd (word_shifted_right (register s rs1) (register s rs2))
act (insn.Sraw rd rs1 rs2) s = set_on s rd (word_shifted_right_signed (register s rs1) (register s rs2))
act (insn.Mulw rd rs1 rs2) s = set_on s rd (word_product (register s rs1) (register s rs2))
act (insn.Divw rd rs1 rs2) s = set_on s rd (word_quotient_signed (register s rs1) (register s rs2))
act (insn.Divuw rd rs1 rs2) s = set_on s rd (word_quotient_unsigned (register s rs1) (register s rs2))
act (insn.Remw rd rs1 rs2) s = set_on s rd (word_remainder_signed (register s rs1) (register s rs2))
act (insn.Remuw rd rs1 rs2) s = set_on s rd (word_remainder_unsigned (register s rs1) (register s rs2))
-- 2.7: one hart sees its own accesses in order
act insn.Fence s = go_on s event.Ran
-- 2.8: the environment
act insn.Ecall s = ecall s
act insn.Ebreak s = trapped s trap.Break

-- the instruction at the place, which is a multiple of 4 and has its 4 bytes in the code
unfoldable pub fetched : State → Result Insn TrapKind
fetched s =
    if s.pc % 4 == 0
    then (if nat_le 65536 s.pc && nat_le (s.pc + 4) (65536 + s.code)
    then ok_or (decode_of (number_at s.memory 4 (s.pc - 65536))) trap.Word
    else Err trap.Range)
    else Err trap.Align

-- it is done
abbrev pub act_fetched : Result Insn TrapKind → State → State × Event
act_fetched (Ok i) s = act i s
act_fetched (Err kind) s = trapped s kind

abbrev pub ready_step : State → State × Event
ready_step s = act_fetched (fetched s) s

-- the byte that was asked for, or all ones at the end of the input
abbrev pub answer : Option ℕ → ℕ
answer None = 2 ^ 64 - 1
answer (Some byte) = byte

-- the ECALL that asked for a byte has it in a0
abbrev pub complete : State → Option ℕ → State × Event
complete s given =
    (record s { registers = set_register s.registers 10 (answer given); pc = next_pc s; mode = mode.Ready }, event.Ran)

-- what an event says of the steps behind it
abbrev pub mode_after : Event → Mode
mode_after event.Ran = mode.Ready
mode_after event.WantByte = mode.Waiting
mode_after (event.GiveByte b) = mode.Ready
mode_after (event.Exit c) = mode.Ended (event.Exit c)
mode_after (event.Limited n) = mode.Ended (event.Limited n)
mode_after (event.Trap kind) = mode.Ended (event.Trap kind)

abbrev pub settled : State × Event → State × Event
settled w = (record w.0 { mode = mode_after w.1 }, w.1)

abbrev pub step_in : Mode → State → Option ℕ → State × Event
step_in mode.Ready s given = settled (ready_step s)
step_in mode.Waiting s given = complete s given
step_in (mode.Ended e) s given = (s, e)

-- one step: an instruction, the byte that one waits for, or the same end again
unfoldable pub one : State → Option ℕ → State × Event
one s given = step_in s.mode s given
