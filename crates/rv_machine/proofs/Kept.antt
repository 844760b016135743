-- Stores behind a place keep what stands before it.
use Rattle.std.proofs.Common.{◌≡◌, ◌≤◌, ℕ, zero, suc, ◌+◌, ◌-◌, ◌*◌, ◌/◌, ◌%◌, ◌^◌, List, [], ◌∷◌, ◌++◌, length, take, drop, Option, refl, sym, ap, ◌∙◌, arith, length-append, length-drop, append-nil, append_assoc}
use Rattle.std.proofs.Math.Nat.{div-one}
use Rattle.std.proofs.Math.ListN.{drop_of_length-le}
use Rattle.std.proofs.lemmas.List.{take_all, length-take-le, drop-append-le, take-append-drop, drop-drop, drop_at}
use Rattle.byteorder.specs.Endian.{little_bytes, little_number}
use Rattle.byteorder.specs.Numbers.{little_from-append, little_from-bytes, length-bytes_low_first}
use Rattle.rv_isa.specs.declared.insn.Insn.{Insn}
use Rattle.rv_isa.specs.Decode.{decode_of}
use Rattle.rv_machine.specs.Memory.{number_at, stored}
use Rattle.rv_machine.specs.Insns.{insns_of, Agree}

-- a number before the place of a store
pub number_before : (memory : List ℕ) (n at m value i : ℕ) → i + m ≤ at → at ≤ length memory → number_at (stored memory at n value) m i ≡ number_at memory m i
number_before memory n at m value i low fits =
    let front = drop i (take at memory) in
    let long : length (take at memory) ≡ at = length-take-le at memory fits in
    let enough : m ≤ length front = omega (arith, length-drop i (take at memory)) in
    let a : drop i (stored memory at n value) ≡ front ++ (little_bytes n value ++ drop (at + n) memory) = drop-append-le i (take at memory) _ (omega arith) in
    let b : drop i memory ≡ front ++ drop at memory = ap (drop i) (sym (take-append-drop at memory)) ∙ drop-append-le i (take at memory) (drop at memory) (omega arith) in
    ap (little_number m) a ∙ little_from-append m front _ enough ∙ sym (ap (little_number m) b ∙ little_from-append m front (drop at memory) enough)

-- the instructions before it
pub insns-stored : (k : ℕ) (memory : List ℕ) (n at value : ℕ) → 4 * k ≤ at → at ≤ length memory → insns_of k (stored memory at n value) ≡ insns_of k memory
insns-stored zero memory n at value low fits = refl
insns-stored (suc k) memory n at value low fits =
    let before = insns-stored k memory n at value (omega arith) fits in
    let same : number_at (stored memory at n value) 4 (4 * k) ≡ number_at memory 4 (4 * k) = number_before memory n at 4 value (4 * k) (omega arith) fits in
    ap (λ l. l ++ decode_of (number_at (stored memory at n value) 4 (4 * k)) ∷ []) before
    ∙ ap (λ w. insns_of k memory ++ decode_of w ∷ []) same

pub length-insns : (k : ℕ) (memory : List ℕ) → length (insns_of k memory) ≡ k
length-insns zero memory = refl
length-insns (suc k) memory = length-append (insns_of k memory) _ ∙ ap (λ n. n + 1) (length-insns k memory) ∙ omega arith

pub length-stored : (memory : List ℕ) (n at value : ℕ) → at + n ≤ length memory → length (stored memory at n value) ≡ length memory
length-stored memory n at value fits =
    let front : length (take at memory) ≡ at = length-take-le at memory (omega arith) in
    let bytes : length (little_bytes n value) ≡ n = length-bytes_low_first 0 n value in
    simp (length-append, length-drop) (omega (arith, front, bytes))

-- a store behind the code keeps what a machine's parts keep
pub agree_stored : (registers memory new : List ℕ) (insns : List (Option Insn)) (code n at value : ℕ) → Agree registers memory insns code → code ≤ at → at + n ≤ length memory → new ≡ stored memory at n value → Agree registers new insns code
agree_stored registers memory new insns code n at value agree behind fits is =
    let long : length new ≡ length memory = ap length is ∙ length-stored memory n at value fits in
    let code_in : code ≤ length memory = agree.inside in
    record {
      all_registers = agree.all_registers;
      inside = omega arith;
      small = agree.small;
      decoded = agree.decoded ∙ sym (insns-stored (code / 4) memory n at value (omega arith) (omega arith)) ∙ ap (insns_of (code / 4)) (sym is);
      operands = agree.operands;
    }

-- a slice of a whole vector, written back
pub written_back : (items new : List ℕ) (len : ℕ) → length new ≡ len → length items ≡ len → take len (new ++ drop (length new) items) ≡ new
written_back items new len long same =
    let none : drop (length new) items ≡ [] = drop_of_length-le items (omega arith) in
    ap (λ l. take len (new ++ l)) none ∙ ap (take len) (append-nil new) ∙ take_all len new (omega arith)

-- a number behind the place of a store
pub number_behind : (memory : List ℕ) (n at m value i : ℕ) → at + n ≤ i → at + n ≤ length memory → number_at (stored memory at n value) m i ≡ number_at memory m i
number_behind memory n at m value i high fits =
    let front : List ℕ = take at memory ++ little_bytes n value in
    let long : length front ≡ at + n = length-append (take at memory) (little_bytes n value) ∙ (let a = length-take-le at memory (omega arith) in let b = length-bytes_low_first 0 n value in omega (arith, a, b)) in
    let parts : stored memory at n value ≡ front ++ drop (at + n) memory = sym (append_assoc (take at memory) (little_bytes n value) (drop (at + n) memory)) in
    let behind : drop (at + n) (stored memory at n value) ≡ drop (at + n) memory = ap (drop (at + n)) parts ∙ drop_at front (drop (at + n) memory) (at + n) long in
    let d : ℕ = i - (at + n) in
    let split : i ≡ (at + n) + d = omega arith in
    let same : drop i (stored memory at n value) ≡ drop i memory =
    ap (λ k. drop k (stored memory at n value)) split ∙ sym (drop-drop d (at + n) (stored memory at n value)) ∙ ap (drop d) behind ∙ drop-drop d (at + n) memory ∙ ap (λ k. drop k memory) (sym split) in
    ap (little_number m) same

-- the number that was stored
pub number_stored : (memory : List ℕ) (n at value : ℕ) → at ≤ length memory → number_at (stored memory at n value) n at ≡ value % 256 ^ n
number_stored memory n at value fits =
    let long : length (take at memory) ≡ at = length-take-le at memory fits in
    ap (little_number n) (drop_at (take at memory) _ at long) ∙ little_from-bytes n 0 value (drop (at + n) memory) ∙ ap (λ v. v % 256 ^ n) (div-one value)
