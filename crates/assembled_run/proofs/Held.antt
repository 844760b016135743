-- Words of an image in the memory of a machine that has its code.
use Rattle.std.proofs.Common.{◌≡◌, ℕ, zero, suc, ◌+◌, ◌-◌, ◌*◌, ◌%◌, ◌^◌, ◌<◌, ◌≤◌, List, take, drop, refl, sym, ap, ◌∙◌, subst, arith}
use Rattle.std.specs.Prelude.{slice_index}
use Rattle.std.proofs.lemmas.List.{get_or-drop, get_or-take}
use Rattle.byteorder.specs.Endian.{little_from}
use Rattle.jf_base.specs.Numbers.{number_low_first}
use Rattle.program_image.specs.declared.Image.{Image}
use Rattle.rv_isa.specs.declared.insn.Insn.{Insn}
use Rattle.rv_isa.specs.Encode.{encode_of}
use Rattle.rv_machine.specs.declared.event.Mode.TheVariants.{Ready}
use Rattle.rv_machine.specs.Memory.{number_at}
use Rattle.rv_machine.specs.State.{State}
use Rattle.rv_machine.specs.Keeps.{Keeps}
use Rattle.rv_machine.proofs.Laws.{IsWord, IsAtWord}
use Rattle.rv_assemble.specs.Lines.{Stands}
use Rattle.assembled_run.specs.Machine.{HasCodeOf, IsAt}

-- a number read at a place is that of the bytes from the place on
little_dropped : (n i at : ℕ) (xs : List ℕ) → little_from i n (drop at xs) ≡ number_low_first (at + i) n xs
little_dropped zero i at xs = refl
little_dropped (suc n) i at xs =
    let e : at + suc i ≡ suc (at + i) = omega arith in
    ap (λ (x : ℕ). x + 256 * little_from (suc i) n (drop at xs)) (get_or-drop at xs i 0)
    ∙ ap (λ (x : ℕ). slice_index xs (at + i) + 256 * x) (little_dropped n (suc i) at xs ∙ ap (λ (m : ℕ). number_low_first m n xs) e)

pub number_read : (n at : ℕ) (xs : List ℕ) → number_at xs n at ≡ number_low_first at n xs
number_read n at xs = let e : at + 0 ≡ at = omega arith in little_dropped n 0 at xs ∙ ap (λ (m : ℕ). number_low_first m n xs) e

-- the number reads no byte past its end
number_taken : (n at m : ℕ) (xs : List ℕ) → at + n ≤ m → number_low_first at n (take m xs) ≡ number_low_first at n xs
number_taken zero at m xs le = refl
number_taken (suc n) at m xs le =
    ap (λ (x : ℕ). x + 256 * number_low_first (suc at) n (take m xs)) (get_or-take m xs at 0 (omega arith))
    ∙ ap (λ (x : ℕ). slice_index xs at + 256 * x) (number_taken n (suc at) m xs (omega arith))

held : (image : Image) (s : State) (n at : ℕ) → HasCodeOf image s → at + n ≤ s.code → number_at s.memory n at ≡ number_low_first at n image.bytes
held image s n at h le =
    number_read n at s.memory
    ∙ sym (number_taken n at s.code s.memory le)
    ∙ ap (λ (xs : List ℕ). number_low_first at n xs) h.bytes
    ∙ number_taken n at s.code image.bytes le

-- an instruction of the image stands in the code of the machine
pub word_here : (image : Image) (s : State) (at : ℕ) (i : Insn) → HasCodeOf image s → at % 4 ≡ 0 → at + 4 ≤ image.code_len → Stands image.bytes at i → IsWord s.memory s.code (65536 + at) (encode_of i)
word_here image s at i h whole le st =
    let l = h.len in
    let inside : at + 4 ≤ s.code = omega (arith, l, le) in
    let e : 65536 + at - 65536 ≡ at = omega arith in
    record {
      low = omega arith;
      high = omega (arith, inside);
      whole = omega (arith, whole);
      word = ap (λ (m : ℕ). number_at s.memory 4 m) e ∙ held image s 4 at h inside ∙ sym st.word.word;
    }

pub insn_here : (image : Image) (s : State) (at : ℕ) (i : Insn) → IsAt image s (65536 + at) → at % 4 ≡ 0 → at + 4 ≤ image.code_len → Stands image.bytes at i → IsAtWord s (encode_of i)
insn_here image s at i h whole le st = record {
  ready = h.ready;
  here = subst (λ (p : ℕ). IsWord s.memory s.code p (encode_of i)) (sym h.place) (word_here image s at i h.has whole le st);
}

-- the next place
pub next_here : (pc at : ℕ) → pc ≡ 65536 + at → at + 4 < 2 ^ 62 → (pc + 4) % 2 ^ 64 ≡ 65536 + (at + 4)
next_here pc at e small = omega arith

-- what a step leaves has the code too
pub code_kept : (image : Image) (s t : State) → Keeps s t → HasCodeOf image s → HasCodeOf image t
code_kept image s t k h =
    let c = k.code in
    let l = k.long in
    let long = h.long in
    record {
      len = k.code ∙ h.len;
      long = omega (arith, c, l, long);
      bytes = ap (λ (n : ℕ). take n t.memory) k.code ∙ k.words ∙ h.bytes ∙ sym (ap (λ (n : ℕ). take n image.bytes) k.code);
    }

-- a machine that has gone on by steps is there again
pub at_again : (image : Image) (s t : State) (from to : ℕ) → IsAt image s from → Keeps s t → t.mode ≡ Ready → t.pc ≡ to → IsAt image t to
at_again image s t from to h k ready place = record { ready = ready; has = code_kept image s t k h.has; count = k.count ∙ h.count; place = place }
