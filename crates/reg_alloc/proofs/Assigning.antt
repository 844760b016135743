-- What the scan chooses is kept.
use Rattle.std.proofs.Common.{◌≡◌, ◌≢◌, ℕ, zero, suc, ◌+◌, ◌<◌, ◌≤◌, ◌⊎◌, inl, inr, List, [], ◌∷◌, ◌++◌, length, map, take, get_or, refl, sym, ap, ◌∙◌, subst, arith, Some, length-append}
use Rattle.std.specs.Prelude.{slice_get, slice_index, Contains}
use Rattle.std.proofs.lemmas.List.{length-map}
use Rattle.std.proofs.lemmas.Option.{slice_get_within, get_or_from_slice_get}
use Rattle.std.proofs.Math.ListN.{get_or-eq_default}
use Rattle.std.proofs.Math.Seq.{get_or-append_seam}
use Rattle.flatten.specs.declared.blocks.BlockInsn.{BlockInsn}
use Rattle.flatten.specs.declared.blocks.Block.{Block}
use Rattle.flatten.specs.declared.blocks.BlockProc.{BlockProc}
use Rattle.block_homes.specs.declared.homes.Home.{Home}
use Rattle.block_homes.specs.declared.homes.Home.TheVariants.{Register, Slot}
use Rattle.flatten.specs.Paths.{sets, UsesAreSet}
use Rattle.block_homes.specs.Held.{place, total}
use Rattle.block_homes.specs.Valid.{IsNamed, BlockBelow, Kept}
use Rattle.block_homes.proofs.Lockstep.{below_contains}
use Rattle.flatten.proofs.Clear.{is_in}
use Rattle.flatten.specs.Named.{AllBelow}
use Rattle.reg_alloc.specs.Live.{LiveAt, Present}
use Rattle.reg_alloc.specs.Live.LiveAt.{Passed}
use Rattle.reg_alloc.proofs.Clash.{Apart, apart_kept}
use Rattle.reg_alloc.specs.declared.ranges.Range.{Range}
use Rattle.reg_alloc.specs.Scan.{first_of, Ranges, Scan, IsChoice, Chosen}
use Rattle.reg_alloc.proofs.Lists.{same_or}
use Rattle.reg_alloc.proofs.Exact.{total_under}

place_at : (homes : List Home) (v : ℕ) (d : Home) → v < length homes → slice_index (map place homes) v ≡ place (get_or homes v d)
place_at [] v d lt = absurd (omega (arith, lt))
place_at (x ∷ xs) zero d lt = refl
place_at (x ∷ xs) (suc v) d lt = place_at xs v d (omega (arith, lt))

-- one place is one choice of a register
same_place : (v w c b : ℕ) (x y : Home) → IsChoice v c x → IsChoice w b y → place x ≡ place y → c < 13 → b < 13 → v ≢ w → (c ≡ b) × (c < 12)
same_place v w c b (Slot s) (Slot t) i j e lc lb ne = absurd (ne (omega (arith, i.1, j.1, e)))
same_place v w c b (Slot s) (Register r) i j e lc lb ne = absurd (elim j [ inl a ↦ omega (arith, a.0, a.1, e) | inr a ↦ elim a [ inl q ↦ omega (arith, q.1, q.2, e) | inr q ↦ omega (arith, q.0, lb) ] ])
same_place v w c b (Register r) (Slot s) i j e lc lb ne = absurd (elim i [ inl a ↦ omega (arith, a.0, a.1, e) | inr a ↦ elim a [ inl q ↦ omega (arith, q.1, q.2, e) | inr q ↦ omega (arith, q.0, lc) ] ])
same_place v w c b (Register r) (Register s) i j e lc lb ne =
    elim i [ inl a ↦ elim j [ inl d ↦ (omega (arith, a.1, d.1, e), omega (arith, a.0)) | inr d ↦ elim d [ inl q ↦ absurd (omega (arith, a.0, a.1, q.0, q.2, e)) | inr q ↦ absurd (omega (arith, q.0, lb)) ] ] | inr a ↦ elim a [ inr z ↦ absurd (omega (arith, z.0, lc)) | inl z ↦ elim j [ inl d ↦ absurd (omega (arith, d.0, d.1, z.0, z.2, e)) | inr d ↦ elim d [ inl q ↦ (omega (arith, z.2, q.2, e), z.1) | inr q ↦ absurd (omega (arith, q.0, lb)) ] ] ] ]

no_zero : (v c : ℕ) (x : Home) → IsChoice v c x → place x ≢ 0
no_zero v c (Slot s) i e = omega (arith, e)
no_zero v c (Register r) i e = elim i [ inl a ↦ omega (arith, a.1, e) | inr a ↦ elim a [ inl q ↦ omega (arith, q.2, e) | inr q ↦ omega (arith, q.1, e) ] ]

module _ (p : BlockProc) (named : IsNamed p) (ranges : List Range) (rs : Ranges p ranges) (choices users : List ℕ) (n k : ℕ) (all : n ≡ total p.blocks) (few : n < 4294967295) (s : Scan p ranges choices users k) (done : (v : ℕ) → v < p.values → first_of ranges v < 4294967295 → slice_index choices v ≢ 13) (homes : List Home) (chosen : Chosen choices homes) where
  abbrev pl : List ℕ
  pl = map place homes

  homes_len : length homes ≡ p.values
  homes_len = chosen.count ∙ s.count

  -- two that are present at one instruction
  clash : (v w k : ℕ) → v < p.values → w < p.values → Present p v k → Present p w k → k < n → slice_index pl w ≡ slice_index pl v → w ≢ v → ⊥
  clash v w k lv lw pv pw lk e ne =
      let cv = (rs.each v lv).covers k pv in
      let cw = (rs.each w lw).covers k pw in
      let nv = done v lv (omega (arith, cv.0, lk, few)) in
      let nw = done w lw (omega (arith, cw.0, lk, few)) in
      let sv = s.small v lv in
      let sw = s.small w lw in
      let d : Home = Slot 0 in
      let iv = chosen.each v d (omega (arith, lv, s.count)) in
      let iw = chosen.each w d (omega (arith, lw, s.count)) in
      let q = sym (place_at homes w d (omega (arith, lw, homes_len))) ∙ e ∙ place_at homes v d (omega (arith, lv, homes_len)) in
      let same = same_place w v (slice_index choices w) (slice_index choices v) (get_or homes w d) (get_or homes v d) iw iv q (omega (arith, sw, nw)) (omega (arith, sv, nv)) ne in
      elim (s.apart w v lw lv ne same.0 same.1) [ inl a ↦ omega (arith, a, cw.1, cv.0) | inr a ↦ omega (arith, a, cv.1, cw.0) ]

  -- a value with the place of one of the procedure's is one
  has_home : (v w : ℕ) → w < p.values → slice_index pl w ≡ slice_index pl v → v < p.values
  has_home v w lw e = elim (less_or v p.values) [ inl a ↦ a | inr le ↦ absurd (let d : Home = Slot 0 in no_zero w (slice_index choices w) (get_or homes w d) (chosen.each w d (omega (arith, lw, s.count))) (sym (place_at homes w d (omega (arith, lw, homes_len))) ∙ e ∙ get_or-eq_default pl 0 (let m = length-map homes place in omega (arith, m, homes_len, le)))) ]
    where
      less_or : (a b : ℕ) → (a < b) ⊎ (b ≤ a)
      less_or a zero = inr (omega arith)
      less_or zero (suc b) = inl (omega arith)
      less_or (suc a) (suc b) = elim (less_or a b) [ inl x ↦ inl (omega (arith, x)) | inr x ↦ inr (omega (arith, x)) ]

  apart : Apart pl p
  apart = record { insn = insn; start = start }
    where
      insn : (b : ℕ) (block : Block) (ran : List BlockInsn) (x : BlockInsn) (rest : List BlockInsn) (v w : ℕ) → slice_get p.blocks b ≡ Some block → block.insns ≡ ran ++ x ∷ rest → Contains (sets x) w → LiveAt p.blocks v rest block.end → slice_index pl w ≡ slice_index pl v → w ≡ v
      insn b block ran x rest v w g e d live q =
          elim (same_or w v) [
            | inl z ↦ z
            | inr ne ↦ absurd (let lb = slice_get_within p.blocks b block g in
                let got : get_or p.blocks b block ≡ block = get_or_from_slice_get p.blocks b block block g in
                let len : length block.insns ≡ length ran + (length rest + 1) = (let a = ap length e in let m = length-append ran (x ∷ rest) in omega (arith, a, m)) in
                let here : get_or block.insns (length ran) x ≡ x = ap (λ l. get_or l (length ran) x) e ∙ get_or-append_seam ran x rest x in
                let inner = subst (λ (y : Block). BlockBelow p.values (length p.blocks) y) got (named.blocks b block lb) in
                let lw : w < p.values = below_contains p.values (sets x) w (subst (λ (z : BlockInsn). AllBelow p.values (sets z)) here (inner.0 (length ran) x (omega (arith, len))).1) d in
                let lv = has_home v w lw q in
                let k = total (take b p.blocks) + length ran in
                let pw : Present p w k = inr (record { at = b; block = block; is_block = g; ran = ran; rest = x ∷ rest; insns = e; numbered = refl; present = inl d }) in
                let pv : Present p v k = inr (record { at = b; block = block; is_block = g; ran = ran; rest = x ∷ rest; insns = e; numbered = refl; present = elim (is_in v (sets x)) [ inl c ↦ inl c | inr n ↦ inr (Passed x rest block.end n live) ] }) in
                let under = total_under p.blocks b block lb in
                let len' : length (get_or p.blocks b block).insns ≡ length block.insns = ap (λ (y : Block). length y.insns) got in
                clash v w k lv lw pv pw (omega (arith, under, len, len', all)) q ne)
          ]

      start : (block : Block) (v w : ℕ) → slice_get p.blocks 0 ≡ Some block → v < p.params → w < p.params → LiveAt p.blocks v block.insns block.end → slice_index pl w ≡ slice_index pl v → w ≡ v
      start block v w g lv lw live q =
          elim (same_or w v) [ inl z ↦ z | inr ne ↦ absurd (let under = total_under p.blocks 0 block (slice_get_within p.blocks 0 block g) in clash v w 0 (omega (arith, lv, named.params)) (omega (arith, lw, named.params)) (inl (lv, refl)) (inl (lw, refl)) (omega (arith, under, all)) q ne) ]

  pub chosen_kept : UsesAreSet p → (b i : ℕ) → Kept pl p b i
  chosen_kept defined b i = apart_kept pl p apart defined b i
