-- What stands in code stands there when more is put behind it.
use Rattle.std.proofs.Common.{◌≡◌, ℕ, zero, suc, ◌+◌, ◌≤◌, inl, inr, List, length, refl, sym, ◌∙◌, subst, arith}
use Rattle.std.specs.Prelude.{slice_index}
use Rattle.jf_base.specs.Numbers.{number_low_first}
use Rattle.rv_isa.specs.declared.insn.Insn.{Insn}
use Rattle.rv_isa.specs.declared.insn.Insn.TheVariants.{Auipc, Jal, Jalr}
use Rattle.rv_isa.specs.Encode.{HasWord}
use Rattle.rv_assemble.specs.Lines.{Stands, MakesDistance, Jumps, Branches, Reaches, distance, aimed, opposite}
use Rattle.rv_assemble.specs.Places.{Keeps}

pub Keeps-same : (c : List ℕ) → Keeps c c
Keeps-same c = record { longer = omega arith; bytes = λ k l. refl }

pub Keeps-trans : {a b c : List ℕ} → Keeps a b → Keeps b c → Keeps a c
Keeps-trans {a} {b} {c} h g = record {
  longer = omega (arith, h.longer, g.longer);
  bytes = λ k l. g.bytes k (omega (arith, h.longer)) ∙ h.bytes k l;
}

same_number : {a b : List ℕ} → Keeps a b → (place n : ℕ) → place + n ≤ length a → number_low_first place n b ≡ number_low_first place n a
same_number h place zero l = refl
same_number {a} {b} h place (suc n) l =
    let e : slice_index b place ≡ slice_index a place = h.bytes place (omega arith) in
    let r : number_low_first (suc place) n b ≡ number_low_first (suc place) n a = same_number h (suc place) n (omega arith) in
    cc

pub Stands-kept : {a b : List ℕ} → Keeps a b → (place : ℕ) (i : Insn) → Stands a place i → Stands b place i
Stands-kept {a} {b} h place i s = record {
  inside = omega (arith, h.longer, s.inside);
  word = subst (λ (w : ℕ). HasWord w i) (sym (same_number h place 4 s.inside)) s.word;
}

pub MakesDistance-kept : {a b : List ℕ} → Keeps a b → (place rs1 far : ℕ) (i : ℕ → Insn) → MakesDistance a place rs1 far i → MakesDistance b place rs1 far i
MakesDistance-kept h place rs1 far i m = record {
  high = m.high;
  low = m.low;
  first = Stands-kept h place (Auipc rs1 m.high) m.first;
  second = Stands-kept h (place + 4) (i m.low) m.second;
  sum = m.sum;
}

pub Jumps-kept : {a b : List ℕ} → Keeps a b → (rd place next target : ℕ) → Jumps a rd place next target → Jumps b rd place next target
Jumps-kept h rd place next target (inl j) = inl (j.0, Stands-kept h place (Jal rd (distance place target)) j.1)
Jumps-kept h rd place next target (inr j) = inr (j.0, MakesDistance-kept h place 6 (distance place target) (λ low. Jalr rd 6 low) j.1)

pub Branches-kept : {a b : List ℕ} → Keeps a b → (insn : Insn) (place next target : ℕ) → Branches a insn place next target → Branches b insn place next target
Branches-kept h insn place next target (inl j) = inl (j.0, Stands-kept h place (aimed insn (distance place target)) j.1)
Branches-kept h insn place next target (inr j) =
    inr (Stands-kept h place (aimed (opposite insn) (distance place next)) j.0, Jumps-kept h 0 (place + 4) next target j.1)

pub Reaches-kept : {a b : List ℕ} → Keeps a b → (insn : Insn) (place next target : ℕ) → Reaches a insn place next target → Reaches b insn place next target
Reaches-kept h (Jal rd imm) place next target r = Jumps-kept h rd place next target r
Reaches-kept h i place next target r = Branches-kept h i place next target r
