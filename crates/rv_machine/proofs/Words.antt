-- Words in the code, and places in the memory.
use Rattle.std.proofs.Common.{◌≡◌, ◌≤◌, ◌<◌, ℕ, ◌+◌, ◌-◌, ◌*◌, ◌%◌, ◌^◌, List, [], ◌∷◌, ◌++◌, length, drop, true, ◌&&◌, nat_eq, nat_le, Ok, refl, sym, ap, ◌∙◌, subst, arith}
use Rattle.std.specs.List.{flat_map}
use Rattle.std.proofs.lemmas.Bool.{eq-eqb, le-leb, and_from}
use Rattle.std.proofs.lemmas.List.{drop-drop}
use Rattle.byteorder.specs.Endian.{little_number, little_bytes}
use Rattle.byteorder.specs.Numbers.{little_number-reads_back}
use Rattle.rv_machine.specs.Memory.{place_of, stored}
use Rattle.rv_machine.proofs.Laws.{IsWord, HasWords}
use Rattle.rv_machine.proofs.Kept.{number_before}

-- an address of n bytes behind this place, aligned and in the memory
pub place_at : (memory : List ℕ) (from n address : ℕ) → address % n ≡ 0 → 65536 + from ≤ address → address + n ≤ 65536 + length memory → place_of memory from n address ≡ Ok (address - 65536)
place_at memory from n address whole low high =
    let aligned : nat_eq (address % n) 0 ≡ true = eq-eqb (address % n) 0 whole in
    let inside : (nat_le (65536 + from) address && nat_le (address + n) (65536 + length memory)) ≡ true = and_from _ _ (le-leb (65536 + from) address low) (le-leb (address + n) (65536 + length memory) high) in
    simp (aligned, inside)

-- the bytes of words, the lowest of each first
abbrev pub bytes_of : List ℕ → List ℕ
bytes_of ws = flat_map (little_bytes 4) ws

-- each is a word of 32 bits
abbrev pub AllFit : List ℕ → Type 0
AllFit [] = Unit {0}
AllFit (w ∷ ws) = (w < 2 ^ 32) × AllFit ws

pub AllFit-append : (a b : List ℕ) → AllFit a → AllFit b → AllFit (a ++ b)
AllFit-append [] b p q = q
AllFit-append (w ∷ a) b p q = (p.0, AllFit-append a b p.1 q)

pub length-bytes_of : (ws : List ℕ) → length (bytes_of ws) ≡ 4 * length ws
length-bytes_of [] = refl
length-bytes_of (w ∷ ws) = omega (arith, length-bytes_of ws)

-- words stand where their bytes stand
pub words_here : (ws rest memory : List ℕ) (code pc : ℕ) → drop (pc - 65536) memory ≡ bytes_of ws ++ rest → 65536 ≤ pc → pc % 4 ≡ 0 → pc + 4 * length ws ≤ 65536 + code → AllFit ws → HasWords memory code pc ws
words_here [] rest memory code pc e low whole high fit = tt
words_here (w ∷ ws) rest memory code pc e low whole high fit =
    let e' : drop (pc - 65536) memory ≡ little_bytes 4 w ++ (bytes_of ws ++ rest) = e in
    let next : drop (pc + 4 - 65536) memory ≡ bytes_of ws ++ rest =
    (let at : pc + 4 - 65536 ≡ (pc - 65536) + 4 = omega arith in
    ap (λ n. drop n memory) at ∙ sym (drop-drop 4 (pc - 65536) memory) ∙ ap (drop 4) e') in (
      record { low = low; high = omega arith; whole = whole; word = ap (little_number 4) e' ∙ little_number-reads_back 4 w (bytes_of ws ++ rest) fit.0 },
      words_here ws rest memory code (pc + 4) next (omega arith) (omega arith) (omega arith) fit.1,
    )

-- the first of some words, and those behind them
pub HasWords-front : (memory : List ℕ) (code pc : ℕ) (a b : List ℕ) → HasWords memory code pc (a ++ b) → HasWords memory code pc a
HasWords-front memory code pc [] b h = tt
HasWords-front memory code pc (w ∷ a) b h = (h.0, HasWords-front memory code (pc + 4) a b h.1)

pub HasWords-back : (memory : List ℕ) (code pc : ℕ) (a b : List ℕ) → HasWords memory code pc (a ++ b) → HasWords memory code (pc + 4 * length a) b
HasWords-back memory code pc [] b h = let e : pc ≡ pc + 4 * length {A = ℕ} [] = omega arith in subst (λ n. HasWords memory code n b) e h
HasWords-back memory code pc (w ∷ a) b h =
    let e : pc + 4 + 4 * length a ≡ pc + 4 * length (w ∷ a) = omega arith in
    subst (λ n. HasWords memory code n b) e (HasWords-back memory code (pc + 4) a b h.1)

-- a store behind the code keeps a word of it
pub IsWord-stored : (memory : List ℕ) (code pc w n at value : ℕ) → code ≤ at → at ≤ length memory → IsWord memory code pc w → IsWord (stored memory at n value) code pc w
IsWord-stored memory code pc w n at value behind fits h =
    let low : 65536 ≤ pc = h.low in
    let high : pc + 4 ≤ 65536 + code = h.high in
    record { low = low; high = high; whole = h.whole; word = number_before memory n at 4 value (pc - 65536) (omega arith) fits ∙ h.word }

-- and all its words
pub HasWords-stored : (ws memory : List ℕ) (code pc n at value : ℕ) → code ≤ at → at ≤ length memory → HasWords memory code pc ws → HasWords (stored memory at n value) code pc ws
HasWords-stored [] memory code pc n at value behind fits h = tt
HasWords-stored (w ∷ ws) memory code pc n at value behind fits h = (
  IsWord-stored memory code pc w n at value behind fits h.0,
  HasWords-stored ws memory code (pc + 4) n at value behind fits h.1,
)
