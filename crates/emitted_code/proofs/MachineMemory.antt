-- The machine's memory, a list, as a function of addresses.
use Rattle.std.proofs.Common.{◌≡◌, ℕ, zero, suc, ◌+◌, ◌-◌, ◌*◌, ◌/◌, ◌%◌, ◌^◌, ◌<◌, ◌≤◌, ◌⊎◌, inl, inr, List, ◌++◌, length, take, drop, refl, sym, ap, ◌∙◌, arith, length-append}
use Rattle.std.specs.Prelude.{slice_index}
use Rattle.std.specs.Int.{bytes_low_first, byte_at}
use Rattle.std.proofs.Math.Nat.{pow-suc, div-div-eq-div-mul}
use Rattle.std.proofs.Math.ListN.{get_or-append}
use Rattle.std.proofs.Math.Seq.{get_or-append_right}
use Rattle.std.proofs.lemmas.Bool.{cases_lt}
use Rattle.std.proofs.lemmas.List.{get_or-drop, get_or-take, length-take-le, length-drop}
use Rattle.byteorder.specs.Endian.{little_bytes}
use Rattle.jf_base.specs.Numbers.{number_low_first}
use Rattle.rv_machine.specs.Memory.{stored}
use Rattle.flat_ir.specs.Bytes.{Bytes, poke, number, put}
use Rattle.flat_ir.proofs.Framing.{poke_same, put_apart}

-- the list holds the bytes from address 65,536 on
abbrev pub IsMemory : List ℕ → Bytes → Type 0
IsMemory memory m = (p : ℕ) → p < length memory → slice_index memory p ≡ m (65536 + p)

pub number_is : (n p : ℕ) (memory : List ℕ) (m : Bytes) → IsMemory memory m → p + n ≤ length memory → number_low_first p n memory ≡ number n m (65536 + p)
unfolding number
number_is zero p memory m h le = refl
number_is (suc n) p memory m h le =
    let e : 65536 + suc p ≡ 65536 + p + 1 = omega arith in
    ap (λ v. v + 256 * number_low_first (suc p) n memory) (h p (omega arith)) ∙ ap (λ v. m (65536 + p) + 256 * v) (number_is n (suc p) memory m h (omega arith) ∙ ap (λ a. number n m a) e)

bytes_index : (n i v j : ℕ) → j < n → slice_index (bytes_low_first i n v) j ≡ byte_at (i + j) v
bytes_index zero i v j h = absurd (omega arith)
bytes_index (suc n) i v zero h = let e : i ≡ i + 0 = omega arith in ap (λ k. byte_at k v) e
bytes_index (suc n) i v (suc j) h = let e : suc i + j ≡ i + suc j = omega arith in bytes_index n (suc i) v j (omega arith) ∙ ap (λ k. byte_at k v) e

bytes_length : (n i v : ℕ) → length (bytes_low_first i n v) ≡ n
bytes_length zero i v = refl
bytes_length (suc n) i v = omega (arith, bytes_length n (suc i) v)

pub byte_next : (j v : ℕ) → byte_at j (v / 256) ≡ byte_at (suc j) v
byte_next zero v = refl
byte_next (suc j) v =
    let e : 256 * 256 ^ suc j ≡ 256 ^ suc (suc j) = omega (arith, pow-suc 256 (suc j)) in
    ap (λ k. k % 256) (div-div-eq-div-mul v 256 (256 ^ suc j) ∙ ap (λ k. v / k) e)

pub put_byte : (n : ℕ) (m : Bytes) (a v j : ℕ) → j < n → put n m a v (a + j) ≡ byte_at j v
unfolding put
put_byte zero m a v j h = absurd (omega arith)
put_byte (suc n) m a v zero h = put_apart n (poke m a (v % 256)) (a + 1) (v / 256) (a + 0) (inr (omega arith)) ∙ poke_same m a (v % 256) (a + 0) (omega arith)
put_byte (suc n) m a v (suc j) h =
    let e : a + suc j ≡ a + 1 + j = omega arith in
    ap (λ k. put n (poke m a (v % 256)) (a + 1) (v / 256) k) e ∙ (put_byte n (poke m a (v % 256)) (a + 1) (v / 256) j (omega arith) ∙ byte_next j v)

-- a store
pub stored_is : (n at v : ℕ) (memory : List ℕ) (m : Bytes) → at + n ≤ length memory → IsMemory memory m → IsMemory (stored memory at n v) (put n m (65536 + at) v)
stored_is n at v memory m le h p lt = go (cases_lt p at) (cases_lt p (at + n))
  where
    front : List ℕ
    front = take at memory

    bytes : List ℕ
    bytes = little_bytes n v

    back : List ℕ
    back = drop (at + n) memory

    lf : length front ≡ at
    lf = length-take-le at memory (omega arith)

    lb : length bytes ≡ n
    lb = bytes_length n 0 v

    total : length (stored memory at n v) ≡ length memory
    total = omega (arith, length-append front (bytes ++ back), length-append bytes back, length-drop (at + n) memory, lf, lb, le)

    inside : p < length memory
    inside = omega (arith, lt, total)

    go : (p < at) ⊎ (at ≤ p) → (p < at + n) ⊎ (at + n ≤ p) → slice_index (stored memory at n v) p ≡ put n m (65536 + at) v (65536 + p)
    go (inl a) b = get_or-append front (bytes ++ back) 0 p (omega (arith, lf)) ∙ (get_or-take at memory p 0 a ∙ (h p inside ∙ sym (put_apart n m (65536 + at) v (65536 + p) (inr (omega arith)))))
    go (inr a) (inl b) =
        let e : p - length front ≡ p - at = omega (arith, lf) in
        let t : 65536 + at + (p - at) ≡ 65536 + p = omega arith in
        get_or-append_right front (bytes ++ back) p 0 (omega (arith, lf)) ∙ (ap (λ k. slice_index (bytes ++ back) k) e ∙ (get_or-append bytes back 0 (p - at) (omega (arith, lb)) ∙ (bytes_index n 0 v (p - at) (omega arith) ∙ (zeroed (p - at) ∙ (sym (put_byte n m (65536 + at) v (p - at) (omega arith)) ∙ ap (λ k. put n m (65536 + at) v k) t)))))
      where
        zeroed : (k : ℕ) → byte_at (0 + k) v ≡ byte_at k v
        zeroed k = let e : 0 + k ≡ k = omega arith in ap (λ z. byte_at z v) e
    go (inr a) (inr b) =
        let e : p - length front ≡ p - at = omega (arith, lf) in
        let e2 : p - at - length bytes ≡ p - (at + n) = omega (arith, lb) in
        let e3 : at + n + (p - (at + n)) ≡ p = omega arith in
        get_or-append_right front (bytes ++ back) p 0 (omega (arith, lf)) ∙ (ap (λ k. slice_index (bytes ++ back) k) e ∙ (get_or-append_right bytes back (p - at) 0 (omega (arith, lb)) ∙ (ap (λ k. slice_index back k) e2 ∙ (get_or-drop (at + n) memory (p - (at + n)) 0 ∙ (ap (λ k. slice_index memory k) e3 ∙ (h p inside ∙ sym (put_apart n m (65536 + at) v (65536 + p) (inl (omega arith)))))))))
