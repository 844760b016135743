-- Lines of a unit in the image: words that stay as they were assembled, and pairs that are filled.
use Rattle.std.proofs.Common.{◌≡◌, ℕ, ◌+◌, ◌*◌, ◌%◌, ◌^◌, ◌<◌, ◌≤◌, inl, inr, List, length, sym, ap, ◌∙◌, subst, arith, lit<}
use Rattle.jf_base.specs.Numbers.{number_low_first}
use Rattle.rv_isa.specs.declared.insn.Insn.{Insn}
use Rattle.rv_isa.specs.declared.insn.Insn.TheVariants.{Auipc, Jal, Jalr, Addi}
use Rattle.rv_isa.specs.Encode.{encode_of, upper_word, immediate_word}
use Rattle.rv_assemble.specs.Lines.{Stands, MakesDistance, Jumps, Branches, Reaches, distance, aimed, opposite}
use Rattle.rv_assemble.specs.Places.{IsConditional}
use Rattle.linker.specs.Patched.{HasDistance}

-- the distance is the same from places that lie so much further on
distance_moved : (b p t : ℕ) → b < 2000000000 → p < 2000000000 → t < 2000000000 → distance (b + p) (b + t) ≡ distance p t
distance_moved b p t hb hp ht = omega arith

module _ (code bytes : List ℕ) (b lo hi : ℕ) (keep : (at : ℕ) (i : Insn) → lo ≤ at → at + 4 ≤ hi → Stands code at i → Stands bytes (b + at) i) (b_small : b < 2000000000) (hi_small : hi < 2000000000) where
  pair_kept : (p rs1 far : ℕ) (i : ℕ → Insn) → lo ≤ p → p + 8 ≤ hi → MakesDistance code p rs1 far i → MakesDistance bytes (b + p) rs1 far i
  pair_kept p rs1 far i low high m = record {
    high = m.high;
    low = m.low;
    first = keep p (Auipc rs1 m.high) low (omega arith) m.first;
    second = (let e : b + (p + 4) ≡ b + p + 4 = omega arith in subst (λ (n : ℕ). Stands bytes n (i m.low)) e (keep (p + 4) (i m.low) (omega arith) (omega arith) m.second));
    sum = m.sum;
  }

  pub jumps_kept : (rd p next t : ℕ) → lo ≤ p → next ≤ hi → t < 2000000000 → Jumps code rd p next t → Jumps bytes rd (b + p) (b + next) (b + t)
  jumps_kept rd p next t low high small (inl j) =
      let n = j.0 in
      let d = distance_moved b p t b_small (omega (arith, n)) small in
      inl (omega (arith, n), subst (λ (far : ℕ). Stands bytes (b + p) (Jal rd far)) (sym d) (keep p (Jal rd (distance p t)) low (omega (arith, n)) j.1))
  jumps_kept rd p next t low high small (inr j) =
      let n = j.0 in
      let d = distance_moved b p t b_small (omega (arith, n)) small in
      inr (omega (arith, n), subst (λ (far : ℕ). MakesDistance bytes (b + p) 6 far (λ low. Jalr rd 6 low)) (sym d) (pair_kept p 6 (distance p t) (λ low. Jalr rd 6 low) low (omega (arith, n)) j.1))

  pub branches_kept : (i : Insn) (p next t : ℕ) → lo ≤ p → p + 4 ≤ hi → next ≤ hi → t < 2000000000 → Branches code i p next t → Branches bytes i (b + p) (b + next) (b + t)
  branches_kept i p next t low first high small (inl j) =
      let n = j.0 in
      let d = distance_moved b p t b_small (omega (arith, n)) small in
      inl (omega (arith, n), subst (λ (far : ℕ). Stands bytes (b + p) (aimed i far)) (sym d) (keep p (aimed i (distance p t)) low first j.1))
  branches_kept i p next t low first high small (inr j) =
      let d = distance_moved b p next b_small (omega arith) (omega arith) in
      let e : b + (p + 4) ≡ b + p + 4 = omega arith in
      inr (
        subst (λ (far : ℕ). Stands bytes (b + p) (aimed (opposite i) far)) (sym d) (keep p (aimed (opposite i) (distance p next)) low first j.0),
        subst (λ (n : ℕ). Jumps bytes 0 n (b + next) (b + t)) e (jumps_kept 0 (p + 4) next t (omega arith) high small j.1),
      )

-- what a branch's line has, for a conditional branch
pub conditional_reaches : (code : List ℕ) (i : Insn) (p next t : ℕ) → IsConditional i → Reaches code i p next t → Branches code i p next t
conditional_reaches code (Jal rd imm) p next t c h = absurd c
conditional_reaches code i p next t c h = h

-- a pair that asks for a distance, filled
auipc_filled : (rd high : ℕ) → rd < 32 → high % 2 ^ 12 ≡ 0 → upper_word 0x17 rd 0 % 2 ^ 12 + high % 2 ^ 32 ≡ upper_word 0x17 rd high
auipc_filled rd high few even = omega arith

immediate_filled : (opcode funct3 rd rs1 low : ℕ) → opcode < 128 → funct3 < 8 → rd < 32 → rs1 < 32 → immediate_word opcode funct3 rd rs1 0 % 2 ^ 20 + 2 ^ 20 * (low % 2 ^ 12) ≡ immediate_word opcode funct3 rd rs1 low
immediate_filled opcode funct3 rd rs1 low a b c d = omega arith

module _ (code old bytes : List ℕ) (p at far : ℕ) (here : number_low_first at 4 old ≡ number_low_first p 4 code) (behind : number_low_first (at + 4) 4 old ≡ number_low_first (p + 4) 4 code) (inside : at + 8 ≤ length bytes) (has : HasDistance old bytes at far) where
  first_filled : (rd : ℕ) → rd < 32 → Stands code p (Auipc rd 0) → Stands bytes at (Auipc rd has.high)
  unfolding encode_of
  first_filled rd few st = record {
    inside = omega (arith, inside);
    word = record {
      encodable = (few, has.high_field.0, has.high_field.1);
      word = sym (has.first ∙ ap (λ (x : ℕ). x % 2 ^ 12 + has.high % 2 ^ 32) (here ∙ sym st.word.word) ∙ auipc_filled rd has.high few has.high_field.1);
    };
  }

  pub call_filled : Stands code p (Auipc 1 0) → Stands code (p + 4) (Jalr 1 1 0) → MakesDistance bytes at 1 far (λ low. Jalr 1 1 low)
  unfolding encode_of
  call_filled st sd = record {
    high = has.high;
    low = has.low;
    first = first_filled 1 (lit< tt) st;
    second = record {
      inside = omega (arith, inside);
      word = record {
        encodable = (lit< tt, lit< tt, has.low_field);
        word = sym (has.second ∙ ap (λ (x : ℕ). x % 2 ^ 20 + 2 ^ 20 * (has.low % 2 ^ 12)) (behind ∙ sym sd.word.word) ∙ immediate_filled 0x67 0 1 1 has.low (lit< tt) (lit< tt) (lit< tt) (lit< tt));
      };
    };
    sum = has.sum;
  }

  pub address_filled : (rd : ℕ) → rd < 32 → Stands code p (Auipc rd 0) → Stands code (p + 4) (Addi rd rd 0) → MakesDistance bytes at rd far (λ low. Addi rd rd low)
  unfolding encode_of
  address_filled rd few st sd = record {
    high = has.high;
    low = has.low;
    first = first_filled rd few st;
    second = record {
      inside = omega (arith, inside);
      word = record {
        encodable = (few, few, has.low_field);
        word = sym (has.second ∙ ap (λ (x : ℕ). x % 2 ^ 20 + 2 ^ 20 * (has.low % 2 ^ 12)) (behind ∙ sym sd.word.word) ∙ immediate_filled 0x13 0 rd rd has.low (lit< tt) (lit< tt) few few);
      };
    };
    sum = has.sum;
  }
