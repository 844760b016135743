-- Instructions that go on to the next one, and constants and words of a frame by them.
use Rattle.std.specs.Prelude.{ℕ, ◌+◌, ◌-◌, ◌*◌, ◌/◌, ◌%◌, ◌^◌, nat_lt, nat_le, ◌||◌, Bool, true, false, cond, List, [], ◌∷◌, ◌++◌}
use Rattle.jf_base.specs.declared.numbers.Width.{Width}
use Rattle.jf_base.specs.declared.numbers.Width.TheVariants.{W1, W2, W4, W8}
use Rattle.rv_isa.specs.declared.insn.Insn.{Insn}
use Rattle.rv_isa.specs.declared.insn.Insn.TheVariants as M
use Rattle.rv_assemble.specs.declared.unit.AsmLine.{AsmLine}
use Rattle.rv_assemble.specs.declared.unit.AsmLine.TheVariants.{Plain}
use Rattle.flat_ir.specs.declared.program.Operation.{Operation}
use Rattle.flat_ir.specs.declared.program.Operation.TheVariants as O

-- The forms of instructions that code is made of, besides jumps, branches, calls and ECALL. A register is its number, an immediate is a number of 64 bits.
pub data Straight : Type 0 where
  Upper : (rd imm : ℕ) → Straight
  AddImmediate : (rd rs imm : ℕ) → Straight
  ShiftLeft : (rd rs amount : ℕ) → Straight
  Operate : (o : Operation) (rd a b : ℕ) → Straight
  LoadFrom : (w : Width) (is_signed : Bool) (rd a imm : ℕ) → Straight
  StoreTo : (w : Width) (b a imm : ℕ) → Straight

-- an operation is the instruction of its name (the RISC-V unprivileged specification, 2.4, 5.2 and 7)
abbrev pub operation_insn : Operation → ℕ → ℕ → ℕ → Insn
operation_insn O.Add rd a b = M.Add rd a b
operation_insn O.Sub rd a b = M.Sub rd a b
operation_insn O.Sll rd a b = M.Sll rd a b
operation_insn O.Slt rd a b = M.Slt rd a b
operation_insn O.Sltu rd a b = M.Sltu rd a b
operation_insn O.Xor rd a b = M.Xor rd a b
operation_insn O.Srl rd a b = M.Srl rd a b
operation_insn O.Sra rd a b = M.Sra rd a b
operation_insn O.Or rd a b = M.Or rd a b
operation_insn O.And rd a b = M.And rd a b
operation_insn O.Mul rd a b = M.Mul rd a b
operation_insn O.Mulh rd a b = M.Mulh rd a b
operation_insn O.Mulhsu rd a b = M.Mulhsu rd a b
operation_insn O.Mulhu rd a b = M.Mulhu rd a b
operation_insn O.Div rd a b = M.Div rd a b
operation_insn O.Divu rd a b = M.Divu rd a b
operation_insn O.Rem rd a b = M.Rem rd a b
operation_insn O.Remu rd a b = M.Remu rd a b
operation_insn O.Addw rd a b = M.Addw rd a b
operation_insn O.Subw rd a b = M.Subw rd a b
operation_insn O.Sllw rd a b = M.Sllw rd a b
operation_insn O.Srlw rd a b = M.Srlw rd a b
operation_insn O.Sraw rd a b = M.Sraw rd a b
operation_insn O.Mulw rd a b = M.Mulw rd a b
operation_insn O.Divw rd a b = M.Divw rd a b
operation_insn O.Divuw rd a b = M.Divuw rd a b
operation_insn O.Remw rd a b = M.Remw rd a b
operation_insn O.Remuw rd a b = M.Remuw rd a b

-- a load of a width, extended with the sign or with zeros, and a store (2.6 and 5.3)
abbrev pub load_insn : Width → Bool → ℕ → ℕ → ℕ → Insn
load_insn W1 true rd a imm = M.Lb rd a imm
load_insn W1 false rd a imm = M.Lbu rd a imm
load_insn W2 true rd a imm = M.Lh rd a imm
load_insn W2 false rd a imm = M.Lhu rd a imm
load_insn W4 true rd a imm = M.Lw rd a imm
load_insn W4 false rd a imm = M.Lwu rd a imm
load_insn W8 true rd a imm = M.Ld rd a imm
load_insn W8 false rd a imm = M.Ld rd a imm

abbrev pub store_insn : Width → ℕ → ℕ → ℕ → Insn
store_insn W1 b a imm = M.Sb a b imm
store_insn W2 b a imm = M.Sh a b imm
store_insn W4 b a imm = M.Sw a b imm
store_insn W8 b a imm = M.Sd a b imm

abbrev pub insn_of : Straight → Insn
insn_of (Upper rd imm) = M.Lui rd imm
insn_of (AddImmediate rd rs imm) = M.Addi rd rs imm
insn_of (ShiftLeft rd rs amount) = M.Slli rd rs amount
insn_of (Operate o rd a b) = operation_insn o rd a b
insn_of (LoadFrom w is_signed rd a imm) = load_insn w is_signed rd a imm
insn_of (StoreTo w b a imm) = store_insn w b a imm

-- in front of other lines
abbrev pub lines : List Straight → List AsmLine → List AsmLine
lines [] k = k
lines (x ∷ xs) k = Plain (insn_of x) ∷ lines xs k

-- A number in a register: by ADDI where it fits 12 bits with a sign, by LUI and ADDI where it is below 2 ^ 31 - 2048,
-- and else its upper 32 bits so, and then three shifts, each with the next 11, 11 and 10 bits behind it (the RISC-V assembly programmer's manual, 'Load Immediate').
abbrev pub is_short : ℕ → Bool
is_short n = nat_lt n 2048 || nat_le (2 ^ 64 - 2048) n

-- the multiple of 4,096 that is nearest, of 32 bits, as LUI takes it: extended with its sign
abbrev pub nearest : ℕ → ℕ
nearest n = (n + 2048) / 4096 * 4096 % 2 ^ 32

abbrev pub upper : ℕ → ℕ
upper n = cond (nat_lt (nearest n) (2 ^ 31)) (nearest n) (nearest n + (2 ^ 64 - 2 ^ 32))

-- the rest, between -2,048 and 2,047, as ADDI takes it
abbrev pub lower : ℕ → ℕ
lower n = ((n + 2048) % 4096 + (2 ^ 64 - 2048)) % 2 ^ 64

abbrev pub load_pair : ℕ → ℕ → List Straight
load_pair rd n = Upper rd (upper n) ∷ AddImmediate rd rd (lower n) ∷ []

-- the register shifted, and so many bits put behind it
abbrev pub append_bits : ℕ → ℕ → ℕ → List Straight
append_bits rd count bits = ShiftLeft rd rd count ∷ AddImmediate rd rd bits ∷ []

abbrev pub load_long : ℕ → ℕ → List Straight
load_long rd n = load_pair rd (n / 2 ^ 32) ++ (append_bits rd 11 (n / 2 ^ 21 % 2 ^ 11) ++ (append_bits rd 11 (n / 2 ^ 10 % 2 ^ 11) ++ append_bits rd 10 (n % 2 ^ 10)))

abbrev pub load_number : ℕ → ℕ → List Straight
load_number rd n = cond (is_short n) (AddImmediate rd 0 n ∷ []) (cond (nat_lt n (2 ^ 31 - 2048)) (load_pair rd n) (load_long rd n))

-- the word of 8 bytes at this offset from x2, into a register and from one; where the offset is too far for an instruction, its address is made in x7
abbrev pub load_word : ℕ → ℕ → List Straight
load_word rd offset =
    cond (nat_lt offset 2048) (LoadFrom W8 false rd 2 offset ∷ []) (load_number 7 offset ++ (Operate O.Add 7 7 2 ∷ LoadFrom W8 false rd 7 0 ∷ []))

abbrev pub store_word : ℕ → ℕ → List Straight
store_word rs offset =
    cond (nat_lt offset 2048) (StoreTo W8 rs 2 offset ∷ []) (load_number 7 offset ++ (Operate O.Add 7 7 2 ∷ StoreTo W8 rs 7 0 ∷ []))
