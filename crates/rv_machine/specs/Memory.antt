-- Loads and stores (the RISC-V unprivileged specification, 2.6 and 5.3): little-endian, at addresses that are multiples of their size.
-- A place in memory is the address less 65,536.
use Rattle.std.specs.Prelude.{ℕ, ◌+◌, ◌-◌, ◌%◌, ◌==◌, nat_le, Bool, true, false, ◌&&◌, if◌then◌else◌, List, ◌++◌, length, take, drop, Result, Ok, Err}
use Rattle.std.specs.Int.{Width, byte_len}
use Rattle.byteorder.specs.Endian.{little_number, little_bytes}
use Rattle.rv_machine.specs.Alu.{extended}
use Rattle.rv_machine.specs.declared.event.TrapKind.{TrapKind}
use Rattle.rv_machine.specs.declared.event.TrapKind.TheVariants as trap

-- the place of the n bytes at an address, from this place on: they are aligned, and then they lie in the memory
abbrev pub place_of : List ℕ → ℕ → ℕ → ℕ → Result ℕ TrapKind
place_of memory from n address =
    if address % n == 0
    then (if nat_le (65536 + from) address && nat_le (address + n) (65536 + length memory)
    then Ok (address - 65536)
    else Err trap.Range)
    else Err trap.Align

-- the n bytes at a place, the lowest first
abbrev pub number_at : List ℕ → ℕ → ℕ → ℕ
number_at memory n at = little_number n (drop at memory)

-- the bytes of a width at a place as a value of 64 bits, extended with their sign or with zeros
abbrev pub value_at : List ℕ → Width → Bool → ℕ → ℕ
value_at memory w true at = extended w (number_at memory (byte_len w) at)
value_at memory w false at = number_at memory (byte_len w) at

-- the memory with the low n bytes of a value at a place
abbrev pub stored : List ℕ → ℕ → ℕ → ℕ → List ℕ
stored memory at n value = take at memory ++ (little_bytes n value ++ drop (at + n) memory)
