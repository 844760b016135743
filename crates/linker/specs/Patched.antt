-- Bytes with an address put in (the RISC-V ELF psABI: R_RISCV_PCREL_HI20 with R_RISCV_PCREL_LO12_I, and R_RISCV_64).
use Rattle.std.specs.Prelude.{ℕ, ◌≡◌, ◌<◌, ◌≤◌, ◌+◌, ◌*◌, ◌%◌, ◌^◌, List, length, slice_index}
use Rattle.jf_base.specs.Numbers.{number_low_first}
use Rattle.rv_isa.specs.Encode.{IsSigned}

-- the bytes but those of so many from the place on are the old ones
pub record IsSameOutside (old new : List ℕ) (place count : ℕ) : Type 0 where
  pub len : length new ≡ length old
  pub before : (k : ℕ) → k < place → slice_index new k ≡ slice_index old k
  pub behind : (k : ℕ) → place + count ≤ k → slice_index new k ≡ slice_index old k

-- the immediates of an AUIPC and of the instruction behind it are the parts of a distance
pub record HasDistance (old new : List ℕ) (place far : ℕ) : Type 0 where
  pub high : ℕ
  pub low : ℕ
  pub high_field : IsSigned 32 high × (high % 2 ^ 12 ≡ 0)
  pub low_field : IsSigned 12 low
  pub sum : (high + low) % 2 ^ 64 ≡ far
  pub first : number_low_first place 4 new ≡ number_low_first place 4 old % 2 ^ 12 + high % 2 ^ 32
  pub second : number_low_first (place + 4) 4 new ≡ number_low_first (place + 4) 4 old % 2 ^ 20 + 2 ^ 20 * (low % 2 ^ 12)
