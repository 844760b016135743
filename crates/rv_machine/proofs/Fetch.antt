-- The instruction at a place, by the instructions that the machine keeps.
use Rattle.std.proofs.Common.{◌≡◌, ◌≤◌, ◌<◌, ℕ, zero, suc, ◌+◌, ◌-◌, ◌*◌, ◌/◌, ◌%◌, ◌^◌, List, [], ◌∷◌, ◌++◌, length, get_or, true, false, ◌&&◌, nat_eq, nat_le, Option, Some, None, Err, refl, ap, ◌∙◌, inl, inr, arith}
use Rattle.std.specs.Prelude.{IfSome, IfOk}
use Rattle.std.specs.Option.{ok_or}
use Rattle.std.proofs.lemmas.Bool.{cases_lt, eq-eqb, ne_eqb, le-leb, lt-leb, and_from, and_left, and_right}
use Rattle.std.proofs.lemmas.List.{get_or_append_left, get_or_push}
use Rattle.rv_isa.specs.declared.insn.Insn.{Insn}
use Rattle.rv_isa.specs.Decode.{decode_of}
use Rattle.rv_isa.specs.Encode.{IsEncodable}
use Rattle.rv_isa.proofs.Laws.{decode-encode}
use Rattle.rv_machine.specs.declared.event.TrapKind.TheVariants as trap
use Rattle.rv_machine.specs.State.{State}
use Rattle.rv_machine.specs.Memory.{number_at}
use Rattle.rv_machine.specs.Insns.{insns_of, AreEncodable}
use Rattle.rv_machine.specs.Step.{fetched}
use Rattle.rv_machine.proofs.Kept.{length-insns}

at_option : (o : Option Insn) → ((i : Insn) → o ≡ Some i → IsEncodable i) → IfSome o IsEncodable
at_option None h = tt
at_option (Some i) h = h i refl

-- an instruction that is kept is that of its word
pub get-insns : (n k : ℕ) (memory : List ℕ) (d : Option Insn) → k < n → get_or (insns_of n memory) k d ≡ decode_of (number_at memory 4 (4 * k))
get-insns zero k memory d low = let h : suc k ≤ 0 = omega arith in elim h [ ]
get-insns (suc n) k memory d low =
    elim (cases_lt k n) [
      | inl before ↦ (let long : k < length (insns_of n memory) = omega (arith, length-insns n memory) in
          get_or_append_left (insns_of n memory) _ d k long ∙ get-insns n k memory d before)
      | inr last ↦ (let same : n ≡ k = omega arith in
          get_or_push (insns_of n memory) _ d k (length-insns n memory ∙ same) ∙ ap (λ i. decode_of (number_at memory 4 (4 * i))) same)
    ]

-- the instruction of a word can be encoded
pub encodable : (w : ℕ) → w < 2 ^ 32 → IfSome (decode_of w) IsEncodable
encodable w fits = at_option (decode_of w) (λ i is. (decode-encode w i fits is).encodable)

-- one more
pub AreEncodable-push : (insns : List (Option Insn)) (o : Option Insn) → AreEncodable insns → IfSome o IsEncodable → AreEncodable (insns ++ o ∷ [])
AreEncodable-push [] o all one = (one, tt)
AreEncodable-push (i ∷ insns) o all one = (all.0, AreEncodable-push insns o all.1 one)

-- one of them
pub get-AreEncodable : (insns : List (Option Insn)) (k : ℕ) → AreEncodable insns → IfSome (get_or insns k None) IsEncodable
get-AreEncodable [] k all = tt
get-AreEncodable (i ∷ insns) zero all = all.0
get-AreEncodable (i ∷ insns) (suc k) all = get-AreEncodable insns k all.1

pub ok_operands : (o : Option Insn) → IfSome o IsEncodable → IfOk (ok_or o trap.Word) IsEncodable
ok_operands None h = tt
ok_operands (Some i) h = h

-- the place less the first address
abbrev pub offset : ℕ → ℕ
offset pc = (pc + 18446744073709486080) % 2 ^ 64

pub fetched-misaligned : (s : State) → (offset s.pc % 4 ≡ 0 → ⊥) → fetched s ≡ Err trap.Align
unfolding fetched
fetched-misaligned s odd =
    let not_whole : nat_eq (s.pc % 4) 0 ≡ false = ne_eqb _ _ (λ whole. odd (omega arith)) in
    simp not_whole

pub fetched-outside : (s : State) → s.pc < 2 ^ 64 → s.code < 2 ^ 63 → offset s.pc % 4 ≡ 0 → s.code / 4 ≤ offset s.pc / 4 → fetched s ≡ Err trap.Range
unfolding fetched
fetched-outside s fits small even past =
    let aligned : s.pc % 4 ≡ 0 = omega arith in
    let whole : nat_eq (s.pc % 4) 0 ≡ true = eq-eqb (s.pc % 4) 0 aligned in
    let outside : (nat_le 65536 s.pc && nat_le (s.pc + 4) (65536 + s.code)) ≡ false =
    elim (cases_lt s.pc 65536) [
      | inl below ↦ and_left _ _ (lt-leb _ _ below)
      | inr above ↦ (let high : 65536 + s.code < s.pc + 4 = omega arith in and_right _ _ (lt-leb _ _ high))
    ] in
    simp (whole, outside)

pub fetched-inside : (s : State) → s.pc < 2 ^ 64 → s.code < 2 ^ 63 → offset s.pc % 4 ≡ 0 → offset s.pc / 4 < s.code / 4 → fetched s ≡ ok_or (decode_of (number_at s.memory 4 (4 * (offset s.pc / 4)))) trap.Word
unfolding fetched
fetched-inside s fits small even before =
    let aligned : s.pc % 4 ≡ 0 = omega arith in
    let whole : nat_eq (s.pc % 4) 0 ≡ true = eq-eqb (s.pc % 4) 0 aligned in
    let low : 65536 ≤ s.pc = omega arith in
    let high : s.pc + 4 ≤ 65536 + s.code = omega arith in
    let inside : (nat_le 65536 s.pc && nat_le (s.pc + 4) (65536 + s.code)) ≡ true = and_from _ _ (le-leb _ _ low) (le-leb _ _ high) in
    let place : s.pc - 65536 ≡ 4 * (offset s.pc / 4) = omega arith in
    let here : fetched s ≡ ok_or (decode_of (number_at s.memory 4 (s.pc - 65536))) trap.Word = simp (whole, inside) in
    here ∙ ap (λ at. ok_or (decode_of (number_at s.memory 4 at)) trap.Word) place
