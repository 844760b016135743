-- The lines as they are placed suffice: what lies between a branch and its label takes no more than in the widest layout.
use Rattle.std.proofs.Common.{◌≡◌, ℕ, zero, suc, ◌+◌, ◌-◌, ◌%◌, ◌<◌, ◌≤◌, ◌⊎◌, inl, inr, List, length, refl, sym, ap, ◌∙◌, subst, arith}
use Rattle.std.specs.Prelude.{slice_index, nat_lt, if◌then◌else◌, Bool, true, false}
use Rattle.std.proofs.Math.ListN.{get_or}
use Rattle.std.proofs.lemmas.Bool.{ltb-true}
use Rattle.std.proofs.lemmas.Option.{slice_get_within, slice_get-get_or}
use Rattle.rv_isa.specs.declared.insn.Insn.{Insn}
use Rattle.rv_isa.specs.declared.insn.Insn.TheVariants.{Jal}
use Rattle.rv_assemble.specs.declared.unit.AsmLine.{AsmLine}
use Rattle.rv_assemble.specs.declared.unit.AsmLine.TheVariants.{Label, Plain, Branch, Call, Address}
use Rattle.rv_assemble.specs.Places.{FitsJump, FitsBranch, FitsInsn, FitsLine, jump_size, branch_size, size_of_line, gap, AreWide, AreTargets, ArePlaces, AreFitting}
use Rattle.rv_assemble.proofs.Pushed.{size-le-widest}

-- p may be 4 bytes further than the line's place
jump_fits : (p q far next : ℕ) → next ≡ p + jump_size far → p ≤ q + far + 4 → q ≤ p + far → p < 2000000000 → q < 1999999999 → p % 4 ≡ 0 → q % 4 ≡ 0 → FitsJump p next q
jump_fits p q far next e a b hp hq mp mq = chosen (nat_lt far 1048000) refl
  where
    chosen : (t : Bool) → nat_lt far 1048000 ≡ t → FitsJump p next q
    chosen true t =
        let l : far < 1048000 = ltb-true far 1048000 t in
        let n : next ≡ p + 4 = e ∙ ap (λ (b : Bool). p + (if b then 4 else 8)) t in
        inl (n, (omega arith, omega arith), omega arith)
    chosen false t =
        let n : next ≡ p + 8 = e ∙ ap (λ (b : Bool). p + (if b then 4 else 8)) t in
        inr (n, (omega arith, omega arith))

jump_size-cases : (far : ℕ) → (4 ≤ jump_size far) × (jump_size far ≤ 8)
jump_size-cases far = chosen (nat_lt far 1048000) (jump_size far) refl
  where
    chosen : (b : Bool) (n : ℕ) → n ≡ (if b then 4 else 8) → (4 ≤ n) × (n ≤ 8)
    chosen true n e = (omega arith, omega arith)
    chosen false n e = (omega arith, omega arith)

branch_fits : (p q far next size : ℕ) → size ≡ (if nat_lt far 4000 then 4 else 4 + jump_size far) → next ≡ p + size → p ≤ q + far → q ≤ p + far → p < 1999999990 → q < 1999999999
    → p % 4 ≡ 0 → q % 4 ≡ 0 → FitsBranch p next q
branch_fits p q far next size s e a b hp hq mp mq = chosen (nat_lt far 4000) refl
  where
    chosen : (t : Bool) → nat_lt far 4000 ≡ t → FitsBranch p next q
    chosen true t =
        let l : far < 4000 = ltb-true far 4000 t in
        let n : size ≡ 4 = s ∙ ap (λ (b : Bool). if b then 4 else 4 + jump_size far) t in
        inl (omega arith, (omega arith, omega arith), omega arith)
    chosen false t =
        let n : size ≡ 4 + jump_size far = s ∙ ap (λ (b : Bool). if b then 4 else 4 + jump_size far) t in
        let j = jump_size-cases far in
        inr (omega arith, omega arith, jump_fits (p + 4) q far next (omega arith) (omega arith) (omega arith) (omega arith) hq (omega arith) mq)

insn_fits : (i : Insn) (p q far next : ℕ) → next ≡ p + branch_size i far → p ≤ q + far → q ≤ p + far → p < 1999999990 → q < 1999999990 → p % 4 ≡ 0 → q % 4 ≡ 0 → FitsInsn i p next q
insn_fits (Jal rd imm) p q far next e a b hp hq mp mq = jump_fits p q far next e (omega arith) b (omega arith) (omega arith) mp mq
insn_fits i p q far next e a b hp hq mp mq = branch_fits p q far next (branch_size i far) refl e a b hp (omega arith) mp mq

line_fits : (line : AsmLine) (p q far next : ℕ) → next ≡ p + size_of_line line far → p ≤ q + far → q ≤ p + far → p < 1999999990 → q < 1999999990 → p % 4 ≡ 0 → q % 4 ≡ 0
    → FitsLine line p next q
line_fits (Label label) p q far next e a b hp hq mp mq = omega arith
line_fits (Plain i) p q far next e a b hp hq mp mq = e
line_fits (Branch insn to) p q far next e a b hp hq mp mq = insn_fits insn p q far next e a b hp hq mp mq
line_fits (Call name) p q far next e a b hp hq mp mq = e
line_fits (Address rd name offset) p q far next e a b hp hq mp mq = e

-- each size is a multiple of 4
jump_size-fours : (far : ℕ) → jump_size far % 4 ≡ 0
jump_size-fours far = chosen (nat_lt far 1048000) (jump_size far) refl
  where
    chosen : (b : Bool) (n : ℕ) → n ≡ (if b then 4 else 8) → n % 4 ≡ 0
    chosen true n e = omega arith
    chosen false n e = omega arith

branch_size-fours : (i : Insn) (far : ℕ) → branch_size i far % 4 ≡ 0
branch_size-fours (Jal rd imm) far = jump_size-fours far
branch_size-fours i far = chosen (nat_lt far 4000) (branch_size i far) refl
  where
    chosen : (b : Bool) (n : ℕ) → n ≡ (if b then 4 else 4 + jump_size far) → n % 4 ≡ 0
    chosen true n e = omega arith
    chosen false n e = let f = jump_size-fours far in omega arith

size-fours : (line : AsmLine) (far : ℕ) → size_of_line line far % 4 ≡ 0
size-fours (Label label) far = omega arith
size-fours (Plain i) far = omega arith
size-fours (Branch insn to) far = branch_size-fours insn far
size-fours (Call name) far = omega arith
size-fours (Address rd name offset) far = omega arith

module _ (lines : List AsmLine) (targets wide places : List ℕ) (hw : AreWide lines wide) (ht : AreTargets lines targets) (hp : ArePlaces lines targets wide places) where
  -- one line: it takes no more than at most, and a multiple of 4
  one : (k : ℕ) → k < length lines
      → (slice_index places k ≤ slice_index places (k + 1))
      × (slice_index places (k + 1) + slice_index wide k ≤ slice_index places k + slice_index wide (k + 1))
      × (slice_index places k % 4 ≡ 0 → slice_index places (k + 1) % 4 ≡ 0)
      × (slice_index wide k ≤ slice_index wide (k + 1))
  one k l =
      let line = get_or lines k (Label 0) in
      let g = slice_get-get_or lines k (Label 0) l in
      let far = gap (slice_index wide k) (slice_index wide (slice_index targets k)) in
      let a = hp.steps k line g in
      let b = hw.steps k line g in
      let m = size-le-widest line far in
      let f = size-fours line far in
      (omega (arith, a), omega (arith, a, b, m), (λ z. omega (arith, a, f, z)), omega (arith, b))

  spread : (d i : ℕ) → i + d ≤ length lines
      → (slice_index places i ≤ slice_index places (i + d)) × (slice_index places (i + d) + slice_index wide i ≤ slice_index places i + slice_index wide (i + d))
      × (slice_index wide i ≤ slice_index wide (i + d))
  spread zero i l = let e : i + 0 ≡ i = omega arith in (
    subst (λ (m : ℕ). slice_index places i ≤ slice_index places m) (sym e) (omega arith),
    subst (λ (m : ℕ). slice_index places m + slice_index wide i ≤ slice_index places i + slice_index wide m) (sym e) (omega arith),
    subst (λ (m : ℕ). slice_index wide i ≤ slice_index wide m) (sym e) (omega arith),
  )
  spread (suc d) i l =
      let before = spread d i (omega arith) in
      let last = one (i + d) (omega arith) in
      let e : i + suc d ≡ i + d + 1 = omega arith in (
        subst (λ (m : ℕ). slice_index places i ≤ slice_index places m) (sym e) (omega (arith, before.0, last.0)),
        subst (λ (m : ℕ). slice_index places m + slice_index wide i ≤ slice_index places i + slice_index wide m) (sym e) (omega (arith, before.1, last.1)),
        subst (λ (m : ℕ). slice_index wide i ≤ slice_index wide m) (sym e) (omega (arith, before.2, last.3)),
      )

  fours : (k : ℕ) → k ≤ length lines → slice_index places k % 4 ≡ 0
  fours zero l = ap (λ (n : ℕ). n % 4) hp.begins
  fours (suc k) l = let e : suc k ≡ k + 1 = omega arith in
      subst (λ (m : ℕ). slice_index places m % 4 ≡ 0) (sym e) ((one k (omega arith)).2 (fours k (omega arith)))

  -- two lines are no further from one another than in the widest layout
  close : (i j : ℕ) → i ≤ length lines → j ≤ length lines
      → (slice_index places i ≤ slice_index places j + gap (slice_index wide i) (slice_index wide j))
      × (slice_index places j ≤ slice_index places i + gap (slice_index wide i) (slice_index wide j))
  close i j li lj = elim (cases i j) [
    | inl l ↦
        let s = spread (j - i) i (omega arith) in
        let e : i + (j - i) ≡ j = omega arith in
        let t = subst (λ (m : ℕ). (slice_index places i ≤ slice_index places m) × (slice_index places m + slice_index wide i ≤ slice_index places i + slice_index wide m) × (slice_index wide i ≤ slice_index wide m)) e s in
        (omega (arith, t.0, t.1, t.2), omega (arith, t.0, t.1, t.2))
    | inr l ↦
        let s = spread (i - j) j (omega arith) in
        let e : j + (i - j) ≡ i = omega arith in
        let t = subst (λ (m : ℕ). (slice_index places j ≤ slice_index places m) × (slice_index places m + slice_index wide j ≤ slice_index places j + slice_index wide m) × (slice_index wide j ≤ slice_index wide m)) e s in
        (omega (arith, t.0, t.1, t.2), omega (arith, t.0, t.1, t.2))
  ]
    where
      cases : (i j : ℕ) → (i ≤ j) ⊎ (j ≤ i)
      cases i j = grind arith

  pub fitting : AreFitting lines targets places
  fitting = record {
    count = hp.count;
    target_count = ht.count;
    bound = ht.bound;
    begins = hp.begins;
    fits = λ k line g.
        let l = slice_get_within lines k line g in
        let t = slice_index targets k in
        let c = close k t (omega arith) (ht.bound k) in
        let sp : slice_index places k < 1999999990 = omega (arith, hp.narrow k, hw.small k) in
        let sq : slice_index places t < 1999999990 = omega (arith, hp.narrow t, hw.small t) in
        line_fits line (slice_index places k) (slice_index places t) (gap (slice_index wide k) (slice_index wide t)) (slice_index places (k + 1))
        (hp.steps k line g) c.0 c.1 sp sq (fours k (omega arith)) (fours t (ht.bound k));
  }

-- the same where the lists were read through references
pub fitting-read : (lines : List AsmLine) (targets targets1 targets3 wide wide2 places places4 : List ℕ) → targets1 ≡ targets → targets3 ≡ targets → wide2 ≡ wide → places4 ≡ places
    → AreTargets lines targets → AreWide lines wide → ArePlaces lines targets1 wide2 places → AreFitting lines targets3 places4
fitting-read lines targets targets1 targets3 wide wide2 places places4 e1 e3 e2 e4 ht hw hp =
    let hp1 = subst (λ (w : List ℕ). ArePlaces lines targets1 w places) e2 hp in
    let hp2 = subst (λ (t : List ℕ). ArePlaces lines t wide places) e1 hp1 in
    subst (λ (t : List ℕ). AreFitting lines t places4) (sym e3) (subst (λ (p : List ℕ). AreFitting lines targets p) (sym e4) (fitting lines targets wide places hw ht hp2))
