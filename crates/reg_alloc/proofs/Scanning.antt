-- A choice keeps what the scan keeps.
use Rattle.std.proofs.Common.{◌≡◌, ◌≢◌, ℕ, ◌+◌, ◌<◌, ◌≤◌, ◌⊎◌, inl, inr, List, length, refl, sym, ap, ◌∙◌, subst, arith, get_or-set_other, get_or-set_same}
use Rattle.std.specs.Prelude.{slice_index, slice_set}
use Rattle.std.proofs.lemmas.List.{length-set}
use Rattle.flatten.specs.declared.blocks.BlockProc.{BlockProc}
use Rattle.reg_alloc.specs.Live.{Present, InRange, Crowded}
use Rattle.reg_alloc.specs.declared.ranges.Range.{Range}
use Rattle.reg_alloc.specs.Scan.{first_of, last_of, Ranges, User, Scan, IsFree, IsBusy}
use Rattle.reg_alloc.proofs.Lists.{same_or}

module _ (p : BlockProc) (ranges : List Range) (choices users : List ℕ) (k0 k v : ℕ) (rs : Ranges p ranges) (lv : v < p.values) (begins : first_of ranges v ≡ k) (inside : k < 4294967295) (up : k0 ≤ k) (fresh : slice_index choices v ≡ 13) (s : Scan p ranges choices users k0) where
  -- the range of one that is chosen is not empty
  full : (u : ℕ) → u < p.values → first_of ranges u ≤ k → Present p u (first_of ranges u) × Present p u (last_of ranges u) × (first_of ranges u ≤ last_of ranges u)
  full u lu le = elim (rs.each u lu).ends [ inl e ↦ absurd (omega (arith, e.0, le, inside)) | inr x ↦ x ]

  chosen_le : (u : ℕ) → u < p.values → slice_index choices u ≢ 13 → first_of ranges u ≤ k
  chosen_le u lu ne = let c = s.chosen u lu ne in omega (arith, c, up)

  module _ (c : ℕ) (users' : List ℕ) (lt13 : c < 13) (many : length users' ≡ 12) (over : (w : ℕ) → w < p.values → slice_index choices w ≡ c → c < 12 → last_of ranges w < first_of ranges v) (slot : c ≡ 12 → Crowded p v) where
    abbrev choices' : List ℕ
    choices' = slice_set choices v c

    ne13 : c ≢ 13
    ne13 e = omega (arith, e, lt13)

    at_v : slice_index choices' v ≡ c
    at_v = get_or-set_same choices v c 0 (omega (arith, s.count, lv))

    off_v : (u : ℕ) → u ≢ v → slice_index choices' u ≡ slice_index choices u
    off_v u ne = get_or-set_other choices v u c 0 ne

    at_eq : (u : ℕ) → u ≡ v → slice_index choices' u ≡ c
    at_eq u e = ap (λ x. slice_index choices' x) e ∙ at_v

    small : (u : ℕ) → u < p.values → slice_index choices' u ≤ 13
    small u lu = elim (same_or u v) [ inl q ↦ (let a = at_eq u q in omega (arith, a, lt13)) | inr nu ↦ (let a = off_v u nu in let b = s.small u lu in omega (arith, a, b)) ]

    apart : (u w : ℕ) → u < p.values → w < p.values → u ≢ w → slice_index choices' u ≡ slice_index choices' w → slice_index choices' u < 12 → (last_of ranges u < first_of ranges w) ⊎ (last_of ranges w < first_of ranges u)
    apart u w lu lw ne e lt = elim (same_or u v) [ inl qu ↦ (let nw : w ≢ v = λ qw. ne (qu ∙ sym qw) in inr (subst (λ x. last_of ranges w < first_of ranges x) (sym qu) (over w lw (sym (off_v w nw) ∙ sym e ∙ at_eq u qu) (let a = at_eq u qu in omega (arith, a, lt))))) | inr nu ↦ elim (same_or w v) [ inl qw ↦ inl (subst (λ x. last_of ranges u < first_of ranges x) (sym qw) (over u lu (sym (off_v u nu) ∙ e ∙ at_eq w qw) (let a = at_eq w qw in omega (arith, a, lt, e)))) | inr nw ↦ s.apart u w lu lw ne (sym (off_v u nu) ∙ e ∙ off_v w nw) (let a = off_v u nu in omega (arith, a, lt)) ] ]

    chosen : (u : ℕ) → u < p.values → slice_index choices' u ≢ 13 → first_of ranges u ≤ k
    chosen u lu ne = elim (same_or u v) [ inl q ↦ (let f = ap (λ x. first_of ranges x) q in omega (arith, f, begins)) | inr nu ↦ chosen_le u lu (λ z. ne (off_v u nu ∙ z)) ]

    slots : (u : ℕ) → u < p.values → slice_index choices' u ≡ 12 → Crowded p u
    slots u lu e = elim (same_or u v) [ inl q ↦ subst (λ x. Crowded p x) (sym q) (slot (sym (at_eq u q) ∙ e)) | inr nu ↦ s.slots u lu (sym (off_v u nu) ∙ e) ]

    -- a register that stays as it is
    stays : (q : ℕ) → q < 12 → q ≢ c → slice_index users' q ≡ slice_index users q → ((slice_index users' q ≡ p.values) × ((u : ℕ) → u < p.values → slice_index choices' u ≢ q)) ⊎ User p.values ranges choices' users' q
    stays q lq nc same = elim (s.using q lq) [ inl a ↦ inl (same ∙ a.0, none a.1) | inr b ↦ inr (user b) ]
      where
        none : ((u : ℕ) → u < p.values → slice_index choices u ≢ q) → (u : ℕ) → u < p.values → slice_index choices' u ≢ q
        none n u lu z = elim (same_or u v) [ inl e ↦ nc (sym z ∙ at_eq u e) | inr nu ↦ n u lu (sym (off_v u nu) ∙ z) ]

        user : User p.values ranges choices users q → User p.values ranges choices' users' q
        user b =
            let nv : slice_index users q ≢ v = (λ e. let f = ap (λ x. slice_index choices x) e in let g = b.its in let h = fresh in omega (arith, f, g, h, lq)) in
            record { one = subst (λ x. x < p.values) (sym same) b.one; its = ap (λ x. slice_index choices' x) same ∙ off_v (slice_index users q) nv ∙ b.its; last = λ u e lu. elim (same_or u v) [ inl z ↦ absurd (nc (sym e ∙ at_eq u z)) | inr nu ↦ subst (λ x. (u ≡ x) ⊎ (last_of ranges u < first_of ranges x)) (sym same) (b.last u (sym (off_v u nu) ∙ e) lu) ] }

    pub next : ((q : ℕ) → q < 12 → ((slice_index users' q ≡ p.values) × ((u : ℕ) → u < p.values → slice_index choices' u ≢ q)) ⊎ User p.values ranges choices' users' q) → Scan p ranges choices' users' k
    next using = record { count = length-set choices v c ∙ s.count; registers = many; apart = apart; using = using; chosen = chosen; slots = slots; small = small }

  -- a free register is taken
  pub register_taken : (r : ℕ) → r < length users → IsFree p.values ranges users k r → Scan p ranges (slice_set choices v r) (slice_set users r v) k
  register_taken r lr free = next r (slice_set users r v) ne13 (length-set users r v ∙ s.registers) over (λ e. absurd (omega (arith, e, l12))) using
    where
      l12 : r < 12
      l12 = omega (arith, lr, s.registers)

      ne13 : r < 13
      ne13 = omega (arith, l12)

      by_user : User p.values ranges choices users r → (w : ℕ) → w < p.values → slice_index choices w ≡ r → last_of ranges w < first_of ranges v
      by_user b w lw e =
          let at : last_of ranges (slice_index users r) < k = elim free [ inl z ↦ absurd (let o = b.one in omega (arith, z, o)) | inr x ↦ x ] in
          elim (b.last w e lw) [ inl q ↦ (let f = ap (λ x. last_of ranges x) q in omega (arith, f, at, begins)) | inr l ↦ (let c13 : slice_index choices (slice_index users r) ≢ 13 = (λ z. let g = b.its in omega (arith, z, g, l12)) in let n = (full (slice_index users r) b.one (chosen_le (slice_index users r) b.one c13)).2 in omega (arith, l, n, at, begins)) ]

      over : (w : ℕ) → w < p.values → slice_index choices w ≡ r → r < 12 → last_of ranges w < first_of ranges v
      over w lw e lt = elim (s.using r l12) [ inl a ↦ absurd (a.1 w lw e) | inr b ↦ by_user b w lw e ]

      at_r : slice_index (slice_set users r v) r ≡ v
      at_r = get_or-set_same users r v 0 lr

      mine : User p.values ranges (slice_set choices v r) (slice_set users r v) r
      mine = record { one = subst (λ x. x < p.values) (sym at_r) lv; its = ap (λ x. slice_index (slice_set choices v r) x) at_r ∙ get_or-set_same choices v r 0 (omega (arith, s.count, lv)); last = λ u e lu. elim (same_or u v) [ inl q ↦ inl (q ∙ sym at_r) | inr nu ↦ inr (subst (λ x. last_of ranges u < first_of ranges x) (sym at_r) (over u lu (sym (get_or-set_other choices v u r 0 nu) ∙ e) l12)) ] }

      using : (q : ℕ) → q < 12 → ((slice_index (slice_set users r v) q ≡ p.values) × ((u : ℕ) → u < p.values → slice_index (slice_set choices v r) u ≢ q)) ⊎ User p.values ranges (slice_set choices v r) (slice_set users r v) q
      using q lq = elim (same_or q r) [ inl e ↦ inr (subst (λ x. User p.values ranges (slice_set choices v r) (slice_set users r v) x) (sym e) mine) | inr ne ↦ stays r (slice_set users r v) ne13 (length-set users r v ∙ s.registers) over (λ e. absurd (omega (arith, e, l12))) q lq ne (get_or-set_other users r q v 0 ne) ]

  -- all registers are busy
  pub slot_taken : ((r : ℕ) → r < length users → IsBusy p.values ranges users k r) → Scan p ranges (slice_set choices v 12) users k
  slot_taken busy = next 12 users ne13 s.registers over (λ e. crowded) using
    where
      ne13 : 12 < 13
      ne13 = omega arith

      over : (w : ℕ) → w < p.values → slice_index choices w ≡ 12 → 12 < 12 → last_of ranges w < first_of ranges v
      over w lw e lt = absurd (omega (arith, lt))

      user : (r : ℕ) → r < length users → User p.values ranges choices users r
      user r lr = elim (s.using r (omega (arith, lr, s.registers))) [ inl a ↦ absurd ((busy r lr).0 a.0) | inr b ↦ b ]

      its : (r : ℕ) → (lr : r < length users) → slice_index choices (slice_index users r) ≡ r
      its r lr = (user r lr).its

      within : (u : ℕ) → u < p.values → first_of ranges u ≤ k → k ≤ last_of ranges u → InRange p u k
      within u lu le ge = let f = full u lu le in record { first = first_of ranges u; last = last_of ranges u; begins = f.0; ends = f.1; above = le; below = ge }

      each : (r : ℕ) → r < length users → (slice_index users r ≢ v) × InRange p (slice_index users r) k
      each r lr =
          let b = user r lr in
          let n13 : slice_index choices (slice_index users r) ≢ 13 = (λ z. let g = b.its in omega (arith, z, g, lr, s.registers)) in
          (λ e. n13 (ap (λ x. slice_index choices x) e ∙ fresh), within (slice_index users r) b.one (chosen_le (slice_index users r) b.one n13) (busy r lr).1)

      crowded : Crowded p v
      crowded = record { insn = k; within = within v lv (omega (arith, begins)) (let f = (full v lv (omega (arith, begins))).2 in omega (arith, f, begins)); others = users; many = omega (arith, s.registers); different = λ i j lt lj e. (let a = its i (omega (arith, lt, lj)) in let b = its j lj in let f = ap (λ x. slice_index choices x) e in omega (arith, a, b, f, lt)); each = each }

      using : (q : ℕ) → q < 12 → ((slice_index users q ≡ p.values) × ((u : ℕ) → u < p.values → slice_index (slice_set choices v 12) u ≢ q)) ⊎ User p.values ranges (slice_set choices v 12) users q
      using q lq = stays 12 users ne13 s.registers over (λ e. crowded) q lq (λ e. omega (arith, e, lq)) refl

-- nothing is chosen
pub later : (p : BlockProc) (ranges : List Range) (choices users : List ℕ) (k0 k : ℕ) → k0 ≤ k → Scan p ranges choices users k0 → Scan p ranges choices users k
later p ranges choices users k0 k up s = record { count = s.count; registers = s.registers; apart = s.apart; using = s.using; chosen = λ u lu z. (let c = s.chosen u lu z in omega (arith, c, up)); slots = s.slots; small = s.small }

pub at_first : (p : BlockProc) (ranges : List Range) (choices users : List ℕ) → length choices ≡ p.values → length users ≡ 12 → ((u : ℕ) → u < length choices → slice_index choices u ≡ 13) → ((r : ℕ) → r < 12 → slice_index users r ≡ p.values) → Scan p ranges choices users 0
at_first p ranges choices users n m all none = record { count = n; registers = m; apart = λ u w lu lw ne e lt. absurd (let a = all u (omega (arith, lu, n)) in omega (arith, a, lt)); using = λ r lr. inl (none r lr, λ u lu z. (let a = all u (omega (arith, lu, n)) in omega (arith, a, z, lr))); chosen = λ u lu z. absurd (z (all u (omega (arith, lu, n)))); slots = λ u lu z. absurd (let a = all u (omega (arith, lu, n)) in omega (arith, a, z)); small = λ u lu. (let a = all u (omega (arith, lu, n)) in omega (arith, a)) }

-- what was chosen stays so, and one more is
pub set_more : (choices : List ℕ) (v c : ℕ) → c ≢ 13 → v < length choices → ((u : ℕ) → slice_index choices u ≢ 13 → slice_index (slice_set choices v c) u ≢ 13) × (slice_index (slice_set choices v c) v ≢ 13)
set_more choices v c nc lv = (λ u nu z. elim (same_or u v) [ inl e ↦ nc (sym (ap (λ x. slice_index (slice_set choices v c) x) e ∙ get_or-set_same choices v c 0 lv) ∙ z) | inr ne ↦ nu (sym (get_or-set_other choices v u c 0 ne) ∙ z) ], λ z. nc (sym (get_or-set_same choices v c 0 lv) ∙ z))
