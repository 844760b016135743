-- A machine that has the code of an image, at a place of it.
use Rattle.std.specs.Prelude.{ℕ, ◌≡◌, ◌≤◌, ◌==◌, not, nat_lt, int_lt, Bool, true, List, length, take}
use Rattle.program_image.specs.declared.Image.{Image}
use Rattle.rv_isa.specs.declared.insn.Insn.{Insn}
use Rattle.rv_isa.specs.declared.insn.Insn.TheVariants.{Beq, Bne, Blt, Bge, Bltu, Bgeu}
use Rattle.rv_machine.specs.declared.event.Mode.TheVariants.{Ready}
use Rattle.rv_machine.specs.State.{State, register}
use Rattle.rv_machine.specs.Alu.{signed}
use Rattle.rv_machine.specs.Exec.{Run, exec}

-- the bytes that can't be written are the code of the image
pub record HasCodeOf (image : Image) (s : State) : Type 0 where
  pub len : s.code ≡ image.code_len
  pub long : s.code ≤ length s.memory
  pub bytes : take s.code s.memory ≡ take s.code image.bytes

-- the machine is ready at the address
pub record IsAt (image : Image) (s : State) (address : ℕ) : Type 0 where
  pub ready : s.mode ≡ Ready
  pub has : HasCodeOf image s
  pub count : length s.registers ≡ 32
  pub place : s.pc ≡ address

-- whether a conditional branch is taken (the RISC-V unprivileged specification, 2.5.2); other instructions have no condition
abbrev pub is_taken : Insn → State → Bool
is_taken (Beq rs1 rs2 imm) s = register s rs1 == register s rs2
is_taken (Bne rs1 rs2 imm) s = not (register s rs1 == register s rs2)
is_taken (Blt rs1 rs2 imm) s = int_lt (signed (register s rs1)) (signed (register s rs2))
is_taken (Bge rs1 rs2 imm) s = not (int_lt (signed (register s rs1)) (signed (register s rs2)))
is_taken (Bltu rs1 rs2 imm) s = nat_lt (register s rs1) (register s rs2)
is_taken (Bgeu rs1 rs2 imm) s = not (nat_lt (register s rs1) (register s rs2))
is_taken i s = true

-- the run with these registers, at this address; memory, input and output are the same
abbrev pub moved_to : Run → List ℕ → ℕ → Run
moved_to r registers address = record r { state = record r.state { registers = registers; pc = address; mode = Ready } }

-- nothing was taken or given since, and the machine is ready
pub record IsQuiet (r w : Run) : Type 0 where
  pub ready : w.state.mode ≡ Ready
  pub left : w.left ≡ r.left
  pub taken : w.taken ≡ r.taken
  pub output : w.output ≡ r.output

-- n instructions lead from one run to another, and nothing is taken or given on the way
pub record Leads (n : ℕ) (r r' : Run) : Type 0 where
  pub ends : exec r n ≡ r'
  pub quiet : (j : ℕ) → j ≤ n → IsQuiet r (exec r j)

-- from 1 to so many instructions do
pub record Within (most : ℕ) (r r' : Run) : Type 0 where
  pub count : ℕ
  pub some : 1 ≤ count
  pub few : count ≤ most
  pub leads : Leads count r r'
