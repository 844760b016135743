-- What a machine is in: the registers x0 to x31 and the place of the next instruction (the RISC-V unprivileged specification, 2.1), and the memory.
use Rattle.std.specs.Prelude.{ℕ, ◌+◌, ◌%◌, ◌^◌, ◌==◌, if◌then◌else◌, List, slice_index, slice_set}
use Rattle.rv_machine.specs.declared.event.Mode.{Mode}

-- the memory is the bytes from address 65,536 on, of which the first `code` can't be written
pub record State : Type 0 where
  pub registers : List ℕ
  pub memory : List ℕ
  pub code : ℕ
  pub pc : ℕ
  pub mode : Mode

-- what a register holds
abbrev pub register : State → ℕ → ℕ
register s r = slice_index s.registers r

-- the registers with a value in one of them; x0 stays 0
abbrev pub set_register : List ℕ → ℕ → ℕ → List ℕ
set_register registers rd value = if rd == 0 then registers else slice_set registers rd value

-- the place behind an instruction
abbrev pub next_pc : State → ℕ
next_pc s = (s.pc + 4) % 2 ^ 64
