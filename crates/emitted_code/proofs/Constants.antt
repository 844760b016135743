-- Constants by ADDI, LUI and shifts.
use Rattle.std.proofs.Common.{◌≡◌, ℕ, ◌+◌, ◌-◌, ◌/◌, ◌%◌, ◌^◌, ◌<◌, ◌≤◌, Bool, true, false, cond, [], ◌∷◌, ◌++◌, length, refl, ap, ◌∙◌, subst, arith}
use Rattle.std.specs.Prelude.{nat_lt}
use Rattle.std.proofs.lemmas.Bool.Decides.{nat_tests}
use Rattle.rv_machine.specs.Alu.{shifted_left}
use Rattle.flat_ir.specs.Bytes.{poke}
use Rattle.flat_ir.proofs.Framing.{poke_same, poke_apart}
use Rattle.emitted_code.specs.Straight.{AddImmediate, is_short, nearest, upper, lower, load_pair, append_bits, load_long, load_number}
use Rattle.emitted_code.proofs.Data.{Data, set, acts, IsTarget, Gets, gets_append, gets_one, poke_small}

-- the pair makes its number, as far as 32 bits go
pair_low : (n : ℕ) → n < 2 ^ 32 → (upper n + lower n) % 2 ^ 64 % 2 ^ 32 ≡ n
pair_low n h = go (nat_lt (nearest n) (2 ^ 31))
  where
    go : (t : Bool) → (cond t (nearest n) (nearest n + (2 ^ 64 - 2 ^ 32)) + lower n) % 2 ^ 64 % 2 ^ 32 ≡ n
    go true = omega arith
    go false = omega arith

-- and wholly below 2 ^ 31 - 2048
pub pair_whole : (n : ℕ) → n < 2 ^ 31 - 2048 → (upper n + lower n) % 2 ^ 64 ≡ n
pair_whole n h =
    let t : nat_lt (nearest n) (2 ^ 31) ≡ true = grind (arith, nat_tests) in
    ap (λ b. (cond b (nearest n) (nearest n + (2 ^ 64 - 2 ^ 32)) + lower n) % 2 ^ 64) t ∙ (omega arith)

upper_small : (n : ℕ) → upper n < 2 ^ 64
upper_small n = go (nat_lt (nearest n) (2 ^ 31))
  where
    go : (t : Bool) → cond t (nearest n) (nearest n + (2 ^ 64 - 2 ^ 32)) < 2 ^ 64
    go true = omega arith
    go false = omega arith

first_bits : (n p : ℕ) → n < 2 ^ 64 → p % 2 ^ 32 ≡ n / 2 ^ 32 → (shifted_left p 11 + n / 2 ^ 21 % 2 ^ 11) % 2 ^ 64 % 2 ^ 43 ≡ n / 2 ^ 21
first_bits n p h e = omega arith

second_bits : (n p : ℕ) → n < 2 ^ 64 → p % 2 ^ 43 ≡ n / 2 ^ 21 → (shifted_left p 11 + n / 2 ^ 10 % 2 ^ 11) % 2 ^ 64 % 2 ^ 54 ≡ n / 2 ^ 10
second_bits n p h e = omega arith

third_bits : (n p : ℕ) → n < 2 ^ 64 → p % 2 ^ 54 ≡ n / 2 ^ 10 → (shifted_left p 10 + n % 2 ^ 10) % 2 ^ 64 ≡ n
third_bits n p h e = omega arith

module _ (low high : ℕ) where
  pub gets_pair : (rd n : ℕ) (d : Data) → IsTarget rd → Gets low high rd ((upper n + lower n) % 2 ^ 64) d (load_pair rd n)
  gets_pair rd n d t =
      let u = upper n in
      let v = (poke d.regs rd u rd + lower n) % 2 ^ 64 in
      let e : v ≡ (u + lower n) % 2 ^ 64 = ap (λ x. (x + lower n) % 2 ^ 64) (poke_same d.regs rd u rd refl) in
      record {
        value = poke_same (poke d.regs rd u) rd v rd refl ∙ e;
        others = λ r no m. poke_apart (poke d.regs rd u) rd v r no ∙ poke_apart d.regs rd u r no;
        mem = refl;
        safe = (t, ((t, t.1), tt));
        small = λ h. poke_small (poke d.regs rd u) rd v (poke_small d.regs rd u h (upper_small n)) (omega arith);
      }

  gets_bits : (rd u count bits : ℕ) (d : Data) → IsTarget rd → d.regs rd ≡ u → Gets low high rd ((shifted_left u count + bits) % 2 ^ 64) d (append_bits rd count bits)
  gets_bits rd u count bits d t is =
      let x = shifted_left (d.regs rd) count in
      let v = (poke d.regs rd x rd + bits) % 2 ^ 64 in
      let e : v ≡ (shifted_left u count + bits) % 2 ^ 64 = ap (λ y. (y + bits) % 2 ^ 64) (poke_same d.regs rd x rd refl ∙ ap (λ y. shifted_left y count) is) in
      let small : x < 2 ^ 64 = omega arith in
      record {
        value = poke_same (poke d.regs rd x) rd v rd refl ∙ e;
        others = λ r no m. poke_apart (poke d.regs rd x) rd v r no ∙ poke_apart d.regs rd x r no;
        mem = refl;
        safe = ((t, t.1), ((t, t.1), tt));
        small = λ h. poke_small (poke d.regs rd x) rd v (poke_small d.regs rd x h small) (omega arith);
      }

  gets_long : (rd n : ℕ) (d : Data) → IsTarget rd → n < 2 ^ 64 → Gets low high rd n d (load_long rd n)
  gets_long rd n d t h =
      let p0 = (upper (n / 2 ^ 32) + lower (n / 2 ^ 32)) % 2 ^ 64 in
      let p1 = (shifted_left p0 11 + n / 2 ^ 21 % 2 ^ 11) % 2 ^ 64 in
      let p2 = (shifted_left p1 11 + n / 2 ^ 10 % 2 ^ 11) % 2 ^ 64 in
      let p3 = (shifted_left p2 10 + n % 2 ^ 10) % 2 ^ 64 in
      let c0 = load_pair rd (n / 2 ^ 32) in
      let c1 = append_bits rd 11 (n / 2 ^ 21 % 2 ^ 11) in
      let c2 = append_bits rd 11 (n / 2 ^ 10 % 2 ^ 11) in
      let c3 = append_bits rd 10 (n % 2 ^ 10) in
      let d1 = acts c0 d in
      let d2 = acts c1 d1 in
      let d3 = acts c2 d2 in
      let g0 = gets_pair rd (n / 2 ^ 32) d t in
      let g1 = gets_bits rd p0 11 (n / 2 ^ 21 % 2 ^ 11) d1 t g0.value in
      let g2 = gets_bits rd p1 11 (n / 2 ^ 10 % 2 ^ 11) d2 t g1.value in
      let g3 = gets_bits rd p2 10 (n % 2 ^ 10) d3 t g2.value in
      let e0 = pair_low (n / 2 ^ 32) (omega arith) in
      let e1 = first_bits n p0 h e0 in
      let e2 = second_bits n p1 h e1 in
      let e3 : p3 ≡ n = third_bits n p2 h e2 in
      subst (λ v. Gets low high rd v d (load_long rd n)) e3
      (gets_append low high rd rd p0 p3 d c0 (c1 ++ (c2 ++ c3)) refl g0 (gets_append low high rd rd p1 p3 d1 c1 (c2 ++ c3) refl g1 (gets_append low high rd rd p2 p3 d2 c2 c3 refl g2 g3)))

  -- the number is in the register
  pub gets_number : (rd n : ℕ) (d : Data) → IsTarget rd → n < 2 ^ 64 → d.regs 0 ≡ 0 → Gets low high rd n d (load_number rd n)
  gets_number rd n d t h z = by (is_short n)
    where
      short : Gets low high rd n d (AddImmediate rd 0 n ∷ [])
      short = let e : (d.regs 0 + n) % 2 ^ 64 ≡ n = omega arith in gets_one low high rd n d (AddImmediate rd 0 n) (ap (set d rd) e) (t, omega arith) h

      longer : (b : Bool) → nat_lt n (2 ^ 31 - 2048) ≡ b → Gets low high rd n d (cond b (load_pair rd n) (load_long rd n))
      longer true e = let l : n < 2 ^ 31 - 2048 = grind (arith, nat_tests) in subst (λ v. Gets low high rd v d (load_pair rd n)) (pair_whole n l) (gets_pair rd n d t)
      longer false e = gets_long rd n d t h

      by : (b : Bool) → Gets low high rd n d (cond b (AddImmediate rd 0 n ∷ []) (cond (nat_lt n (2 ^ 31 - 2048)) (load_pair rd n) (load_long rd n)))
      by true = short
      by false = longer (nat_lt n (2 ^ 31 - 2048)) refl

pub number_few : (rd n : ℕ) → (1 ≤ length (load_number rd n)) × (length (load_number rd n) ≤ 8)
number_few rd n = by (is_short n) (nat_lt n (2 ^ 31 - 2048))
  where
    by : (a b : Bool) → (1 ≤ length (cond a (AddImmediate rd 0 n ∷ []) (cond b (load_pair rd n) (load_long rd n)))) × (length (cond a (AddImmediate rd 0 n ∷ []) (cond b (load_pair rd n) (load_long rd n))) ≤ 8)
    by true b = (omega arith, omega arith)
    by false true = (omega arith, omega arith)
    by false false = (omega arith, omega arith)
