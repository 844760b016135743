-- What no step changes.
use Rattle.std.specs.Prelude.{◌≡◌, length, take}
use Rattle.rv_machine.specs.State.{State, register}

-- the code with its length, the memory's length, the number of registers and what x0 holds
pub record Keeps (s t : State) : Type 0 where
  pub code : t.code ≡ s.code
  pub long : length t.memory ≡ length s.memory
  pub words : take s.code t.memory ≡ take s.code s.memory
  pub count : length t.registers ≡ length s.registers
  pub zero : register t 0 ≡ register s 0
