-- Conditional branches with another immediate, and turned.
use Rattle.std.proofs.Common.{◌≡◌, ℕ, ◌-◌, ◌%◌, inl, inr, arith}
use Rattle.rv_isa.specs.declared.insn.Insn.{Insn}
use Rattle.rv_isa.specs.declared.insn.Insn.TheVariants.{Beq, Bne, Blt, Bge, Bltu, Bgeu}
use Rattle.rv_isa.specs.Encode.{IsEncodable, IsSigned}
use Rattle.rv_assemble.specs.Lines.{aimed, opposite, distance}
use Rattle.rv_assemble.specs.Places.{IsConditional, FitsBranch}

pub aimed-encodable : (i : Insn) (far : ℕ) → IsConditional i → IsSigned 13 far → far % 2 ≡ 0 → IsEncodable (aimed i far)
aimed-encodable (Beq rs1 rs2 imm) far h s e = (h.0, h.1, s, e)
aimed-encodable (Bne rs1 rs2 imm) far h s e = (h.0, h.1, s, e)
aimed-encodable (Blt rs1 rs2 imm) far h s e = (h.0, h.1, s, e)
aimed-encodable (Bge rs1 rs2 imm) far h s e = (h.0, h.1, s, e)
aimed-encodable (Bltu rs1 rs2 imm) far h s e = (h.0, h.1, s, e)
aimed-encodable (Bgeu rs1 rs2 imm) far h s e = (h.0, h.1, s, e)
aimed-encodable i far h s e = absurd h

pub opposite-conditional : (i : Insn) → IsConditional i → IsConditional (opposite i)
opposite-conditional (Beq rs1 rs2 imm) h = h
opposite-conditional (Bne rs1 rs2 imm) h = h
opposite-conditional (Blt rs1 rs2 imm) h = h
opposite-conditional (Bge rs1 rs2 imm) h = h
opposite-conditional (Bltu rs1 rs2 imm) h = h
opposite-conditional (Bgeu rs1 rs2 imm) h = h
opposite-conditional i h = absurd h

pub opposite-encodable : (i : Insn) (far : ℕ) → IsConditional i → IsSigned 13 far → far % 2 ≡ 0 → IsEncodable (aimed (opposite i) far)
opposite-encodable i far h s e = aimed-encodable (opposite i) far (opposite-conditional i h) s e

pub fits-near : (place next target : ℕ) → FitsBranch place next target → next - place ≡ 4 → IsSigned 13 (distance place target) × (distance place target % 2 ≡ 0)
fits-near place next target (inl f) e = (f.1, f.2)
fits-near place next target (inr f) e = absurd (omega (arith, f.0))

pub fits-over : (place next target : ℕ) → FitsBranch place next target → (next - place ≡ 4 → ⊥) → IsSigned 13 (next - place) × ((next - place) % 2 ≡ 0)
fits-over place next target (inl f) e = absurd (e (omega (arith, f.0)))
fits-over place next target (inr f) e = elim f.2 [ inl j ↦ ((omega (arith, j.0), omega (arith, j.0)), omega (arith, j.0)) | inr j ↦ ((omega (arith, j.0), omega (arith, j.0)), omega (arith, j.0)) ]
