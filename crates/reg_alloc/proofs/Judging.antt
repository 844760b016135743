-- From what is said of each place to the verdict.
use Rattle.std.proofs.Common.{◌≡◌, ◌≢◌, ℕ, zero, suc, ◌+◌, ◌<◌, ◌≤◌, Bool, true, false, cond, ◌⊎◌, inl, inr, List, [], ◌∷◌, length, take, refl, sym, ap, ◌∙◌, subst, arith, Option, Some, None}
use Rattle.std.specs.Prelude.{◌==◌, slice_get, slice_index, All, MatchOption, min}
use Rattle.std.proofs.lemmas.Bool.{ne_eqb, eq-eqb}
use Rattle.std.proofs.lemmas.Option.{slice_get_within, get_or_from_slice_get}
use Rattle.flatten.specs.declared.blocks.BlockInsn.{BlockInsn}
use Rattle.flatten.specs.declared.blocks.Block.{Block}
use Rattle.flatten.specs.declared.blocks.BlockProc.{BlockProc}
use Rattle.block_homes.specs.declared.homes.Verdict.{Verdict}
use Rattle.block_homes.specs.declared.homes.Verdict.TheVariants.{Yes, No}
use Rattle.block_homes.specs.Held.{after, uses_from, total, number}
use Rattle.flatten.specs.Named.{AllBelow}
use Rattle.flatten.specs.Paths.{end_uses}
use Rattle.block_homes.specs.Valid.{InsnBelow, IsNamed}
use Rattle.reg_alloc.specs.Steps.{Among, Leads, uses_in, uses_at, insns_in, insns_of, next_of, Keeps, FirstLoses}
use Rattle.reg_alloc.specs.Occurs.{in_blocks_by}
use Rattle.reg_alloc.specs.Rows.{Places, Judged}
use Rattle.reg_alloc.specs.Trace.{behind, cur, now_at, UseKept, UseLost, Scans, ValueKept, ValueLost, LostFirst, Answer, lower}
use Rattle.reg_alloc.proofs.Lists.{same_or}
use Rattle.reg_alloc.proofs.Leaving.{Leaves, taken_leaves}
use Rattle.reg_alloc.proofs.Looking.{LostIn, LostAt, BlockKept, Behind, blocks_say}
use Rattle.reg_alloc.proofs.Exact.{by_order, total_before, use_within}

module _ (places : List ℕ) (p : BlockProc) (named : IsNamed p) where
  insns_named : (c : ℕ) (x : Block) → slice_get p.blocks c ≡ Some x → All (InsnBelow p.values) x.insns
  insns_named c x g = subst (λ (y : Block). All (InsnBelow p.values) y.insns) (get_or_from_slice_get p.blocks c x x g) (named.blocks c x (slice_get_within p.blocks c x g)).0

  -- what a block left in a place, and what the place holds then
  now_after : (h j : ℕ) (xs : List BlockInsn) → All (InsnBelow p.values) xs → (o : ℕ) → now_at places p (after places h (take j xs) p.values) o ≡ after places h (take j xs) o
  now_after h j xs w o = elim (taken_leaves p.values places h j xs w) [ inl i ↦ ap (λ x. now_at places p x o) (i p.values) ∙ ap (λ t. cond t o p.values) (eq-eqb p.values p.values refl) ∙ sym (i o) | inr c ↦ ap (λ x. now_at places p x o) (c.1 p.values) ∙ ap (λ t. cond t o c.0) (ne_eqb c.0 p.values (λ q. let l = c.2 in omega (arith, q, l))) ∙ sym (c.1 o) ]

  -- a use in one block
  module _ (h c j v : ℕ) (x : Block) (g : slice_get p.blocks c ≡ Some x) (is : slice_index places v ≡ h) where
    same : (done : List ℕ) → after places (slice_index places v) (take j (insns_of p.blocks c)) (behind places p (slice_index places v) done) ≡ now_at places p (after places h (take j x.insns) p.values) (behind places p (slice_index places v) done)
    same done =
        let o = behind places p (slice_index places v) done in
        ap (λ is. after places (slice_index places v) (take j is) o) (ap insns_in g) ∙ sym (now_after (slice_index places v) j x.insns (insns_named c x g) o) ∙ ap (λ n. now_at places p (after places n (take j x.insns) p.values) o) is

    kept_value : UseKept places p (after places h (take j x.insns) p.values) c v → ValueKept places p c j v
    kept_value u done l = same done ∙ u done l

    lost_value : UseLost places p (after places h (take j x.insns) p.values) c v → ValueLost places p c j v
    lost_value u = (u.0, u.1, λ q. u.2 (sym (same u.0) ∙ q))

  uses : (c j : ℕ) (x : Block) → slice_get p.blocks c ≡ Some x → uses_at p.blocks c j ≡ uses_from x.insns x.end j
  uses c j x g = ap (λ o. uses_in o j) g

  -- of a place
  module _ (h : ℕ) where
    abbrev Of : ℕ → Type 0
    Of g = g ≡ h

    by_block : (b i v : ℕ) → Among v (uses_at p.blocks b i) → ((x : Block) → slice_get p.blocks b ≡ Some x → Among v (uses_from x.insns x.end i) → ValueKept places p b i v) → ValueKept places p b i v
    by_block b i v m f = go (slice_get p.blocks b) refl
      where
        go : (o : Option Block) → slice_get p.blocks b ≡ o → ValueKept places p b i v
        go None e = let n : Among v [] = subst (λ us. Among v us) (ap (λ o. uses_in o i) e) m in absurd n
        go (Some x) e = f x e (subst (λ us. Among v us) (uses b i x e) m)

    all_kept : ((i : ℕ) (x : Block) → slice_get p.blocks i ≡ Some x → BlockKept places p h (0 + i) x) → Answer places p Of None
    all_kept all b i v is m = by_block b i v m (λ x g u. kept_value h b i v x g is (subst (λ n. UseKept places p (after places h (take i x.insns) p.values) n v) (let q : 0 + b ≡ b = omega arith in q) (all b x g i v u is)))

    module _ (k : ℕ) (l : LostIn places p h p.blocks 0 0 (Some k)) where
      at : ℕ
      at = l.index

      its : k ≡ number p.blocks l.index l.lost.insn
      its = let e : Some k ≡ Some (0 + total (take l.index p.blocks) + l.lost.insn) = l.lost.answer in let q : k ≡ 0 + total (take l.index p.blocks) + l.lost.insn = cc in omega (arith, q)

      kept_before : (b i v : ℕ) (x : Block) → slice_get p.blocks b ≡ Some x → number p.blocks b i < k → slice_index places v ≡ h → Among v (uses_from x.insns x.end i) → ValueKept places p b i v
      kept_before b i v x g lt is u = elim (by_order b l.index) [ inl less ↦ kept_value h b i v x g is (subst (λ n. UseKept places p (after places h (take i x.insns) p.values) n v) (let q : 0 + b ≡ b = omega arith in q) (l.before b x less g i v u is)) | inr r ↦ elim r [ inl q ↦ same_block q | inr more ↦ absurd (later more) ] ]
        where
          later : l.index < b → ⊥
          later more =
              let t = total_before p.blocks l.index b l.block more (slice_get_within p.blocks l.index l.block l.is_block) in
              let n = ap (λ (x : Block). length x.insns) (get_or_from_slice_get p.blocks l.index l.block l.block l.is_block) in
              omega (arith, t, n, lt, its, l.lost.within)

          same_block : b ≡ l.index → ValueKept places p b i v
          same_block q =
              let e : Some x ≡ Some l.block = sym g ∙ ap (λ n. slice_get p.blocks n) q ∙ l.is_block in
              let f : x ≡ l.block = cc in
              let t : total (take b p.blocks) ≡ total (take l.index p.blocks) = ap (λ n. total (take n p.blocks)) q in
              let u' : Among v (uses_from l.block.insns l.block.end i) = subst (λ (y : Block). Among v (uses_from y.insns y.end i)) f u in
              let w = l.lost.before i (omega (arith, lt, its, t)) v u' is in
              kept_value h b i v x g is (subst (λ n. UseKept places p (after places h (take i x.insns) p.values) n v) (let z : 0 + l.index ≡ b = omega (arith, q) in z) (subst (λ (y : Block). UseKept places p (after places h (take i y.insns) p.values) (0 + l.index) v) (sym f) w))

      one_lost : LostFirst places p Of k
      one_lost =
          let o = l.lost.lost in
          let z : 0 + l.index ≡ l.index = omega arith in
          record {
            block = l.index;
            insn = l.lost.insn;
            value = o.0;
            numbered = sym its;
            used = subst (λ us. Among o.0 us) (sym (uses l.index l.lost.insn l.block l.is_block)) o.1;
            lost = lost_value h l.index l.lost.insn o.0 l.block l.is_block o.2 (subst (λ n. UseLost places p (after places h (take l.lost.insn l.block.insns) p.values) n o.0) z o.3);
            earlier = λ b i v lt is m. by_block b i v m (λ x g u. kept_before b i v x g lt is u);
          }

    pub place_answer : (a : Option ℕ) → Scans places p 0 p.values (in_blocks_by places h 0 0 p.blocks) a → Answer places p Of a
    place_answer a s = go a (blocks_say places p h 0 p.values 0 0 p.blocks a nothing s)
      where
        twice : (t : Bool) → cond t p.values p.values ≡ p.values
        twice true = refl
        twice false = refl

        nothing : Behind places p h 0 0 p.values
        nothing c le = twice (0 == c)

        go : (a : Option ℕ) → LostIn places p h p.blocks 0 0 a ⊎ ((a ≡ None) × ((i : ℕ) (x : Block) → slice_get p.blocks i ≡ Some x → BlockKept places p h (0 + i) x)) → Answer places p Of a
        go None (inr r) = all_kept r.1
        go None (inl l) = absurd (let e = l.lost.answer in cc)
        go (Some k) (inl l) = one_lost k l
        go (Some k) (inr r) = absurd (let e = r.0 in cc)

  -- one more place
  abbrev Below : ℕ → ℕ → Type 0
  Below h g = g < h

  below_or : (h g : ℕ) → g < h + 1 → (g < h) ⊎ (g ≡ h)
  below_or h g lt = elim (same_or g h) [ inl e ↦ inr e | inr ne ↦ inl (omega (arith, lt, ne)) ]

  module _ (h : ℕ) where
    lost_with : (k n : ℕ) (In : ℕ → Type 0) → n ≡ k → LostFirst places p In k → ((b i v : ℕ) → number p.blocks b i < n → slice_index places v < h + 1 → Among v (uses_at p.blocks b i) → ValueKept places p b i v) → LostFirst places p (Below (h + 1)) n
    lost_with k n In e l earlier = record { block = l.block; insn = l.insn; value = l.value; numbered = l.numbered ∙ sym e; used = l.used; lost = l.lost; earlier = earlier }

    pub join : (a b : Option ℕ) → Answer places p (Below h) a → Answer places p (λ g. g ≡ h) b → Answer places p (Below (h + 1)) (lower a b)
    join None None x y = λ b i v lt m. elim (below_or h (slice_index places v) lt) [ inl l ↦ x b i v l m | inr e ↦ y b i v e m ]
    join None (Some l) x y = lost_with l l (λ g. g ≡ h) refl y (λ b i v lt is m. elim (below_or h (slice_index places v) is) [ inl z ↦ x b i v z m | inr e ↦ y.earlier b i v lt e m ])
    join (Some k) None x y = lost_with k k (Below h) refl x (λ b i v lt is m. elim (below_or h (slice_index places v) is) [ inl z ↦ x.earlier b i v lt z m | inr e ↦ y b i v e m ])
    join (Some k) (Some l) x y = elim (same_or (min k l) k) [ inl e ↦ lost_with k (min k l) (Below h) e x both | inr ne ↦ lost_with l (min k l) (λ g. g ≡ h) (omega (arith, ne)) y both ]
      where
        both : (b i v : ℕ) → number p.blocks b i < min k l → slice_index places v < h + 1 → Among v (uses_at p.blocks b i) → ValueKept places p b i v
        both b i v lt is m = elim (below_or h (slice_index places v) is) [ inl z ↦ x.earlier b i v (omega (arith, lt)) z m | inr e ↦ y.earlier b i v (omega (arith, lt)) e m ]

  pub fewer : (h n : ℕ) (a : Option ℕ) → n ≤ h → Answer places p (Below h) a → Answer places p (Below n) a
  fewer h n None le x = λ b i v lt m. x b i v (omega (arith, lt, le)) m
  fewer h n (Some k) le x = record { block = x.block; insn = x.insn; value = x.value; numbered = x.numbered; used = x.used; lost = x.lost; earlier = λ b i v lt is m. x.earlier b i v lt (omega (arith, is, le)) m }

  pub nothing_yet : Answer places p (Below 0) None
  nothing_yet = λ b i v lt m. absurd (omega (arith, lt))

  -- all places
  module _ (size : ℕ) (pl : Places p.values size places) where
    within : (b i v : ℕ) → Among v (uses_at p.blocks b i) → slice_index places v < size
    within b i v m = go (slice_get p.blocks b) refl
      where
        go : (o : Option Block) → slice_get p.blocks b ≡ o → slice_index places v < size
        go None e = let n : Among v [] = subst (λ us. Among v us) (ap (λ o. uses_in o i) e) m in absurd n
        go (Some x) e = pl.each v (use_within p.values x.insns x.end (insns_named b x e) (subst (λ (y : Block). AllBelow p.values (end_uses y.end)) (get_or_from_slice_get p.blocks b x x e) (named.blocks b x (slice_get_within p.blocks b x e)).1) i v (subst (λ us. Among v us) (uses b i x e) m))

    none_lost : Answer places p (Below size) None → Judged places p Yes
    none_lost a b i done l v m = a b i v (within b i v m) m done l

    first_one : (k : ℕ) → Answer places p (Below size) (Some k) → Judged places p (No k)
    first_one k a = record { block = a.block; insn = a.insn; numbered = a.numbered; lost = record { value = a.value; used = a.used; done = a.lost.0; leads = a.lost.1; other = a.lost.2 }; earlier = λ b i lt done l v m. a.earlier b i v lt (within b i v m) m done l }

    pub judged : (a : Option ℕ) (v : Verdict) → Answer places p (Below size) a → MatchOption a (v ≡ Yes) (λ k. v ≡ No k) → Judged places p v
    judged None v x e = subst (λ (w : Verdict). Judged places p w) (sym e) (none_lost x)
    judged (Some k) v x e = subst (λ (w : Verdict). Judged places p w) (sym e) (first_one k x)
