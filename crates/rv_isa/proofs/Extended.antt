-- The fields of a word, and the immediates that they hold.
use Rattle.std.proofs.Common.{◌≡◌, ℕ, ◌%◌, ◌^◌, arith}
use Rattle.std.proofs.lemmas.Bool.Decides.{nat_tests}
use Rattle.rv_isa.specs.Encode.{IsSigned}
use Rattle.rv_isa.specs.Decode.{extended}

-- an immediate is its low bits, extended
pub extended-12 : (imm : ℕ) → IsSigned 12 imm → extended 12 (imm % 2 ^ 12) ≡ imm
extended-12 imm h = grind (arith, nat_tests)

pub extended-13 : (imm : ℕ) → IsSigned 13 imm → extended 13 (imm % 2 ^ 13) ≡ imm
extended-13 imm h = grind (arith, nat_tests)

pub extended-21 : (imm : ℕ) → IsSigned 21 imm → extended 21 (imm % 2 ^ 21) ≡ imm
extended-21 imm h = grind (arith, nat_tests)

pub extended-32 : (imm : ℕ) → IsSigned 32 imm → extended 32 (imm % 2 ^ 32) ≡ imm
extended-32 imm h = grind (arith, nat_tests)
