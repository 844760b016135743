-- The instructions of the code, which the machine keeps beside it.
use Rattle.std.specs.Prelude.{◌≡◌, ◌≤◌, ◌<◌, ℕ, zero, suc, ◌*◌, ◌/◌, ◌^◌, List, [], ◌∷◌, ◌++◌, length, Option, IfSome}
use Rattle.rv_isa.specs.declared.insn.Insn.{Insn}
use Rattle.rv_isa.specs.Decode.{decode_of}
use Rattle.rv_isa.specs.Encode.{IsEncodable}
use Rattle.rv_machine.specs.Memory.{number_at}

-- the instructions of the first n words
abbrev pub insns_of : ℕ → List ℕ → List (Option Insn)
insns_of zero memory = []
insns_of (suc n) memory = insns_of n memory ++ decode_of (number_at memory 4 (4 * n)) ∷ []

-- each has registers below 32 and an immediate that its field holds
abbrev pub AreEncodable : List (Option Insn) → Type 0
AreEncodable [] = Unit {0}
AreEncodable (insn ∷ insns) = IfSome insn IsEncodable × AreEncodable insns

-- what a machine's parts keep: there are 32 registers, the code lies in the memory, and the instructions kept are those of its words
pub record Agree (registers memory : List ℕ) (insns : List (Option Insn)) (code : ℕ) : Type 0 where
  pub all_registers : length registers ≡ 32
  pub inside : code ≤ length memory
  pub small : code < 2 ^ 63
  pub decoded : insns ≡ insns_of (code / 4) memory
  pub operands : AreEncodable insns
