-- Each instruction of straight code can be encoded.
use Rattle.std.proofs.Common.{◌≡◌, ℕ, zero, suc, ◌+◌, ◌-◌, ◌*◌, ◌/◌, ◌%◌, ◌^◌, ◌<◌, ◌≤◌, Bool, true, false, cond, List, [], ◌∷◌, ◌++◌, length, refl, arith}
use Rattle.std.specs.Prelude.{nat_lt}
use Rattle.std.proofs.lemmas.Bool.Decides.{nat_tests}
use Rattle.jf_base.specs.declared.numbers.Width.{Width}
use Rattle.jf_base.specs.declared.numbers.Width.TheVariants.{W1, W2, W4, W8}
use Rattle.rv_isa.specs.Encode.{IsEncodable, IsSigned}
use Rattle.flat_ir.specs.declared.program.Operation.{Operation}
use Rattle.flat_ir.specs.declared.program.Operation.TheVariants as O
use Rattle.block_homes.specs.declared.homes.Home.{Home}
use Rattle.block_homes.specs.declared.homes.Home.TheVariants as H
use Rattle.emitted_code.specs.Straight.{Straight, AddImmediate, Operate, LoadFrom, StoreTo, insn_of, operation_insn, load_insn, store_insn, is_short, nearest, upper, lower, load_pair, append_bits, load_long, load_number, load_word, store_word}
use Rattle.emitted_code.specs.Frames.{Layout, home_of, is_used, used_of, kept_registers, saved_of, save_at, slot_at}
use Rattle.emitted_code.specs.Code.{operand_register, fetch, result_register, settle, read, write, copy, pass_one, pass, receive_one, receive, give_results, take_results, save, restore, leave}

-- each piece can be encoded
abbrev pub Encodable : List Straight → Type 0
Encodable [] = Unit {0}
Encodable (x ∷ xs) = IsEncodable (insn_of x) × Encodable xs

pub both : (xs ys : List Straight) → Encodable xs → Encodable ys → Encodable (xs ++ ys)
both [] ys hx hy = hy
both (x ∷ xs) ys hx hy = (hx.0, both xs ys hx.1 hy)

-- a home of a register, or a slot of a number of 32 bits
abbrev pub IsPlace : Home → Type 0
IsPlace (H.Register r) = r < 32
IsPlace (H.Slot k) = k < 2 ^ 32

-- what code of so many parameters asks of its layout
pub record Holds (l : Layout) (params : ℕ) : Type 0 where
  pub homes : (x : ℕ) → IsPlace (home_of l x)
  pub words : l.words < 2 ^ 32
  pub size : l.size + 8 * params < 2 ^ 64

pub operation_encodable : (o : Operation) (rd a b : ℕ) → rd < 32 → a < 32 → b < 32 → IsEncodable (operation_insn o rd a b)
operation_encodable O.Add rd a b hd ha hb = (hd, ha, hb)
operation_encodable O.Sub rd a b hd ha hb = (hd, ha, hb)
operation_encodable O.Sll rd a b hd ha hb = (hd, ha, hb)
operation_encodable O.Slt rd a b hd ha hb = (hd, ha, hb)
operation_encodable O.Sltu rd a b hd ha hb = (hd, ha, hb)
operation_encodable O.Xor rd a b hd ha hb = (hd, ha, hb)
operation_encodable O.Srl rd a b hd ha hb = (hd, ha, hb)
operation_encodable O.Sra rd a b hd ha hb = (hd, ha, hb)
operation_encodable O.Or rd a b hd ha hb = (hd, ha, hb)
operation_encodable O.And rd a b hd ha hb = (hd, ha, hb)
operation_encodable O.Mul rd a b hd ha hb = (hd, ha, hb)
operation_encodable O.Mulh rd a b hd ha hb = (hd, ha, hb)
operation_encodable O.Mulhsu rd a b hd ha hb = (hd, ha, hb)
operation_encodable O.Mulhu rd a b hd ha hb = (hd, ha, hb)
operation_encodable O.Div rd a b hd ha hb = (hd, ha, hb)
operation_encodable O.Divu rd a b hd ha hb = (hd, ha, hb)
operation_encodable O.Rem rd a b hd ha hb = (hd, ha, hb)
operation_encodable O.Remu rd a b hd ha hb = (hd, ha, hb)
operation_encodable O.Addw rd a b hd ha hb = (hd, ha, hb)
operation_encodable O.Subw rd a b hd ha hb = (hd, ha, hb)
operation_encodable O.Sllw rd a b hd ha hb = (hd, ha, hb)
operation_encodable O.Srlw rd a b hd ha hb = (hd, ha, hb)
operation_encodable O.Sraw rd a b hd ha hb = (hd, ha, hb)
operation_encodable O.Mulw rd a b hd ha hb = (hd, ha, hb)
operation_encodable O.Divw rd a b hd ha hb = (hd, ha, hb)
operation_encodable O.Divuw rd a b hd ha hb = (hd, ha, hb)
operation_encodable O.Remw rd a b hd ha hb = (hd, ha, hb)
operation_encodable O.Remuw rd a b hd ha hb = (hd, ha, hb)

-- a number below 2,048 as an immediate
pub small : (n : ℕ) → n < 2048 → IsSigned 12 n
small n h = (omega arith, omega arith)

pub load_encodable : (w : Width) (is_signed : Bool) (rd a imm : ℕ) → rd < 32 → a < 32 → imm < 2048 → IsEncodable (load_insn w is_signed rd a imm)
load_encodable W1 true rd a imm hd ha h = (hd, ha, small imm h)
load_encodable W1 false rd a imm hd ha h = (hd, ha, small imm h)
load_encodable W2 true rd a imm hd ha h = (hd, ha, small imm h)
load_encodable W2 false rd a imm hd ha h = (hd, ha, small imm h)
load_encodable W4 true rd a imm hd ha h = (hd, ha, small imm h)
load_encodable W4 false rd a imm hd ha h = (hd, ha, small imm h)
load_encodable W8 true rd a imm hd ha h = (hd, ha, small imm h)
load_encodable W8 false rd a imm hd ha h = (hd, ha, small imm h)

pub store_encodable : (w : Width) (b a imm : ℕ) → b < 32 → a < 32 → imm < 2048 → IsEncodable (store_insn w b a imm)
store_encodable W1 b a imm hb ha h = (ha, hb, small imm h)
store_encodable W2 b a imm hb ha h = (ha, hb, small imm h)
store_encodable W4 b a imm hb ha h = (ha, hb, small imm h)
store_encodable W8 b a imm hb ha h = (ha, hb, small imm h)

short_signed : (n : ℕ) → n < 2 ^ 64 → is_short n ≡ true → IsSigned 12 n
short_signed n h t = (h, grind (arith, nat_tests))

lower_signed : (n : ℕ) → IsSigned 12 (lower n)
lower_signed n = (omega arith, omega arith)

upper_signed : (n : ℕ) → IsSigned 32 (upper n) × (upper n % 2 ^ 12 ≡ 0)
upper_signed n = go (nat_lt (nearest n) (2 ^ 31)) refl
  where
    go : (t : Bool) → nat_lt (nearest n) (2 ^ 31) ≡ t
        → IsSigned 32 (cond t (nearest n) (nearest n + (2 ^ 64 - 2 ^ 32))) × (cond t (nearest n) (nearest n + (2 ^ 64 - 2 ^ 32)) % 2 ^ 12 ≡ 0)
    go true e = let l : nearest n < 2 ^ 31 = grind (arith, nat_tests) in ((omega arith, omega (arith, l)), omega arith)
    go false e = let l : 2 ^ 31 ≤ nearest n = grind (arith, nat_tests) in ((omega arith, omega (arith, l)), omega arith)

pub pair_encodable : (rd n : ℕ) → rd < 32 → Encodable (load_pair rd n)
pair_encodable rd n h = ((h, (upper_signed n).0, (upper_signed n).1), ((h, h, lower_signed n), tt))

bits_encodable : (rd count bits : ℕ) → rd < 32 → count < 64 → bits < 2048 → Encodable (append_bits rd count bits)
bits_encodable rd count bits h hc hb = ((h, h, hc), ((h, h, small bits hb), tt))

long_encodable : (rd n : ℕ) → rd < 32 → Encodable (load_long rd n)
long_encodable rd n h =
    let first = append_bits rd 11 (n / 2 ^ 21 % 2 ^ 11) in
    let second = append_bits rd 11 (n / 2 ^ 10 % 2 ^ 11) in
    let third = append_bits rd 10 (n % 2 ^ 10) in
    both (load_pair rd (n / 2 ^ 32)) (first ++ (second ++ third)) (pair_encodable rd (n / 2 ^ 32) h)
    (both first (second ++ third) (bits_encodable rd 11 (n / 2 ^ 21 % 2 ^ 11) h (omega arith) (omega arith))
    (both second third (bits_encodable rd 11 (n / 2 ^ 10 % 2 ^ 11) h (omega arith) (omega arith)) (bits_encodable rd 10 (n % 2 ^ 10) h (omega arith) (omega arith))))

pub number_encodable : (rd n : ℕ) → rd < 32 → n < 2 ^ 64 → Encodable (load_number rd n)
number_encodable rd n h hn = go (is_short n) refl
  where
    longer : (t : Bool) → Encodable (cond t (load_pair rd n) (load_long rd n))
    longer true = pair_encodable rd n h
    longer false = long_encodable rd n h

    go : (t : Bool) → is_short n ≡ t → Encodable (cond t (AddImmediate rd 0 n ∷ []) (cond (nat_lt n (2 ^ 31 - 2048)) (load_pair rd n) (load_long rd n)))
    go true e = ((h, omega arith, short_signed n hn e), tt)
    go false e = longer (nat_lt n (2 ^ 31 - 2048))

pub load_word_encodable : (rd offset : ℕ) → rd < 32 → offset < 2 ^ 64 → Encodable (load_word rd offset)
load_word_encodable rd offset h ho = go (nat_lt offset 2048) refl
  where
    go : (t : Bool) → nat_lt offset 2048 ≡ t
        → Encodable (cond t (LoadFrom W8 false rd 2 offset ∷ []) (load_number 7 offset ++ (Operate O.Add 7 7 2 ∷ LoadFrom W8 false rd 7 0 ∷ [])))
    go true e = let l : offset < 2048 = grind (arith, nat_tests) in ((h, omega arith, small offset l), tt)
    go false e =
        both (load_number 7 offset) _ (number_encodable 7 offset (omega arith) ho) ((omega arith, omega arith, omega arith), ((h, omega arith, small 0 (omega arith)), tt))

pub store_word_encodable : (rs offset : ℕ) → rs < 32 → offset < 2 ^ 64 → Encodable (store_word rs offset)
store_word_encodable rs offset h ho = go (nat_lt offset 2048) refl
  where
    go : (t : Bool) → nat_lt offset 2048 ≡ t
        → Encodable (cond t (StoreTo W8 rs 2 offset ∷ []) (load_number 7 offset ++ (Operate O.Add 7 7 2 ∷ StoreTo W8 rs 7 0 ∷ [])))
    go true e = let l : offset < 2048 = grind (arith, nat_tests) in ((omega arith, h, small offset l), tt)
    go false e =
        both (load_number 7 offset) _ (number_encodable 7 offset (omega arith) ho) ((omega arith, omega arith, omega arith), ((omega arith, h, small 0 (omega arith)), tt))

-- the registers that are saved
abbrev pub AreRegisters : List ℕ → Type 0
AreRegisters [] = Unit {0}
AreRegisters (r ∷ rs) = (r < 32) × AreRegisters rs

module _ (l : Layout) (words : l.words < 2 ^ 32) where
  pub fetch_encodable : (h : Home) (t : ℕ) → IsPlace h → t < 32 → Encodable (fetch l h t)
  fetch_encodable (H.Register r) t ok lt = tt
  fetch_encodable (H.Slot k) t ok lt = load_word_encodable t (slot_at l k) lt (omega arith)

  pub settle_encodable : (h : Home) → IsPlace h → Encodable (settle l h)
  settle_encodable (H.Register r) ok = tt
  settle_encodable (H.Slot k) ok = store_word_encodable 5 (slot_at l k) (omega arith) (omega arith)

  pub read_encodable : (h : Home) (rd : ℕ) → IsPlace h → rd < 32 → Encodable (read l h rd)
  read_encodable (H.Register r) rd ok lt = ((lt, ok, small 0 (omega arith)), tt)
  read_encodable (H.Slot k) rd ok lt = load_word_encodable rd (slot_at l k) lt (omega arith)

  pub write_encodable : (h : Home) (rs : ℕ) → IsPlace h → rs < 32 → Encodable (write l h rs)
  write_encodable (H.Register r) rs ok lt = ((ok, lt, small 0 (omega arith)), tt)
  write_encodable (H.Slot k) rs ok lt = store_word_encodable rs (slot_at l k) lt (omega arith)

  pub operand_low : (h : Home) (t : ℕ) → IsPlace h → t < 32 → operand_register h t < 32
  operand_low (H.Register r) t ok lt = ok
  operand_low (H.Slot k) t ok lt = lt

  pub result_low : (h : Home) → IsPlace h → result_register h < 32
  result_low (H.Register r) ok = ok
  result_low (H.Slot k) ok = omega arith

  pub copy_encodable : (x y : Home) → IsPlace x → IsPlace y → Encodable (copy l x y)
  copy_encodable (H.Register r) y hx hy = read_encodable y r hy hx
  copy_encodable (H.Slot k) y hx hy =
      both (fetch l y 5) _ (fetch_encodable y 5 hy (omega arith)) (store_word_encodable (operand_register y 5) (slot_at l k) (operand_low y 5 hy (omega arith)) (omega arith))

  pub save_low : (r : ℕ) → r < 32 → save_at l r < 2 ^ 64
  save_low r lt = go (nat_lt r 8) (nat_lt r 18)
    where
      go : (s t : Bool) → 8 * l.words + 8 * cond s 0 (cond t (r - 7) (r - 15)) < 2 ^ 64
      go true t = omega arith
      go false true = omega arith
      go false false = omega arith

  pub save_encodable : (rs : List ℕ) → AreRegisters rs → Encodable (save l rs)
  save_encodable [] h = tt
  save_encodable (r ∷ rs) h = both (store_word r (save_at l r)) _ (store_word_encodable r (save_at l r) h.0 (save_low r h.0)) (save_encodable rs h.1)

  pub restore_encodable : (rs : List ℕ) → AreRegisters rs → Encodable (restore l rs)
  restore_encodable [] h = tt
  restore_encodable (r ∷ rs) h = both (load_word r (save_at l r)) _ (load_word_encodable r (save_at l r) h.0 (save_low r h.0)) (restore_encodable rs h.1)

used_low : (rs : List ℕ) (homes : List Home) → AreRegisters rs → AreRegisters (used_of rs homes)
used_low [] homes h = tt
used_low (r ∷ rs) homes h = go (is_used r homes) (used_low rs homes h.1)
  where
    go : (t : Bool) → AreRegisters (used_of rs homes) → AreRegisters (cond t (r ∷ used_of rs homes) (used_of rs homes))
    go true rest = (h.0, rest)
    go false rest = rest

kept_low : AreRegisters kept_registers
kept_low =
    (omega arith, (omega arith, (omega arith, (omega arith, (omega arith, (omega arith, (omega arith, (omega arith, (omega arith, (omega arith, (omega arith, (omega arith, tt))))))))))))

pub saved_low : (l : Layout) → AreRegisters (saved_of l)
saved_low l = (omega arith, used_low kept_registers l.homes kept_low)

-- those of a layout of so many parameters
module _ (l : Layout) (params : ℕ) (holds : Holds l params) where
  pub pass_one_encodable : (i y : ℕ) → i < 2 ^ 32 → Encodable (pass_one l i y)
  pass_one_encodable i y h = go (nat_lt i 8) refl
    where
      go : (t : Bool) → nat_lt i 8 ≡ t → Encodable (cond t (read l (home_of l y) (10 + i)) (read l (home_of l y) 5 ++ store_word 5 (8 * (i - 8))))
      go true e = let lt : i < 8 = grind (arith, nat_tests) in read_encodable l holds.words (home_of l y) (10 + i) (holds.homes y) (omega (arith, lt))
      go false e =
          both (read l (home_of l y) 5) _ (read_encodable l holds.words (home_of l y) 5 (holds.homes y) (omega arith)) (store_word_encodable 5 (8 * (i - 8)) (omega arith) (omega arith))

  pub pass_encodable : (i : ℕ) (ys : List ℕ) → i + length ys < 2 ^ 32 → Encodable (pass l i ys)
  pass_encodable i [] h = tt
  pass_encodable i (y ∷ ys) h = both (pass_one l i y) _ (pass_one_encodable i y (omega arith)) (pass_encodable (i + 1) ys (omega arith))

  pub receive_one_encodable : (i : ℕ) → i < params → Encodable (receive_one l i)
  receive_one_encodable i h = go (nat_lt i 8) refl
    where
      go : (t : Bool) → nat_lt i 8 ≡ t → Encodable (cond t (write l (home_of l i) (10 + i)) (load_word 5 (l.size + 8 * (i - 8)) ++ write l (home_of l i) 5))
      go true e = let lt : i < 8 = grind (arith, nat_tests) in write_encodable l holds.words (home_of l i) (10 + i) (holds.homes i) (omega (arith, lt))
      go false e =
          let room = holds.size in
          both (load_word 5 (l.size + 8 * (i - 8))) _ (load_word_encodable 5 (l.size + 8 * (i - 8)) (omega arith) (omega (arith, room)))
          (write_encodable l holds.words (home_of l i) 5 (holds.homes i) (omega arith))

  pub receive_encodable : (n : ℕ) → n ≤ params → Encodable (receive l n)
  receive_encodable zero h = tt
  receive_encodable (suc n) h = both (receive l n) _ (receive_encodable n (omega arith)) (receive_one_encodable n (omega arith))

  pub give_encodable : (i : ℕ) (ys : List ℕ) → i + length ys ≤ 22 → Encodable (give_results l i ys)
  give_encodable i [] h = tt
  give_encodable i (y ∷ ys) h =
      both (read l (home_of l y) (10 + i)) _ (read_encodable l holds.words (home_of l y) (10 + i) (holds.homes y) (omega arith)) (give_encodable (i + 1) ys (omega arith))

  pub take_encodable : (i : ℕ) (xs : List ℕ) → i + length xs ≤ 22 → Encodable (take_results l i xs)
  take_encodable i [] h = tt
  take_encodable i (x ∷ xs) h =
      both (write l (home_of l x) (10 + i)) _ (write_encodable l holds.words (home_of l x) (10 + i) (holds.homes x) (omega arith)) (take_encodable (i + 1) xs (omega arith))

  pub size_low : l.size < 2 ^ 64
  size_low = let room = holds.size in omega (arith, room)

  pub leave_encodable : Encodable (leave l)
  leave_encodable =
      both (restore l (saved_of l)) _ (restore_encodable l holds.words (saved_of l) (saved_low l))
      (both (load_number 5 l.size) _ (number_encodable 5 l.size (omega arith) size_low) ((omega arith, omega arith, omega arith), tt))
