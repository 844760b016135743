-- What the scan over the occurrences of a place says of the uses of its values.
use Rattle.std.proofs.Common.{◌≡◌, ◌≢◌, ℕ, zero, suc, ◌+◌, ◌<◌, ◌≤◌, Bool, true, false, cond, ◌⊎◌, inl, inr, List, [], ◌∷◌, ◌++◌, length, take, refl, sym, ap, ◌∙◌, subst, arith, Option, Some, None, append_assoc}
use Rattle.std.specs.Prelude.{◌==◌, slice_get, slice_index, All}
use Rattle.std.proofs.lemmas.Bool.{eq-eqb, ne_eqb}
use Rattle.std.proofs.lemmas.Bool.Decides.{eqb_tells}
use Rattle.flatten.specs.declared.blocks.BlockInsn.{BlockInsn}
use Rattle.flatten.specs.declared.blocks.BlockEnd.{BlockEnd}
use Rattle.flatten.specs.declared.blocks.Block.{Block}
use Rattle.flatten.specs.declared.blocks.BlockProc.{BlockProc}
use Rattle.flatten.specs.Named.{AllBelow}
use Rattle.flatten.specs.Paths.{uses_of, end_uses, sets}
use Rattle.block_homes.specs.Held.{put, after, uses_from, total}
use Rattle.block_homes.specs.Valid.{InsnBelow, BlockBelow}
use Rattle.reg_alloc.specs.declared.occurrences.Occurrence.{Occurrence}
use Rattle.reg_alloc.specs.Steps.{Among, Leads}
use Rattle.reg_alloc.specs.Occurs.{occurrence, named_by, in_insns_by, in_blocks_by}
use Rattle.reg_alloc.specs.Trace.{UseKept, UseLost, Scans, cur}

module _ (places : List ℕ) (p : BlockProc) (h : ℕ) where
  abbrev S : ℕ → ℕ → List Occurrence → Option ℕ → Type 0
  S = Scans places p

  abbrev at : ℕ → ℕ → ℕ → ℕ
  at = cur places p

  abbrev Is : ℕ → Type 0
  Is v = slice_index places v ≡ h

  -- uses of these values in block b, with x in the place
  abbrev pub AllKept : ℕ → ℕ → List ℕ → Type 0
  AllKept x b ws = (v : ℕ) → Among v ws → Is v → UseKept places p x b v

  abbrev pub OneLost : ℕ → ℕ → List ℕ → Type 0
  OneLost x b ws = (v : ℕ) × Among v ws × Is v × UseLost places p x b v

  used_says : (nb nv b k : ℕ) (ws : List ℕ) (more : List Occurrence) (a : Option ℕ) → S nb nv (named_by places b k false h ws ++ more) a → (OneLost (at nb nv b) b ws × (a ≡ Some k)) ⊎ (AllKept (at nb nv b) b ws × S nb nv more a)
  used_says nb nv b k [] more a s = inr (λ v m is. absurd m, s)
  used_says nb nv b k (w ∷ ws) more a s = elim (eqb_tells (slice_index places w) h) [ inl e ↦ its e.1 (subst (λ t. S nb nv (cond t (occurrence b k false w ∷ named_by places b k false h ws) (named_by places b k false h ws) ++ more) a) e.0 s) (λ r. used_says nb nv b k ws more a r) | inr n ↦ others n.1 (used_says nb nv b k ws more a (subst (λ t. S nb nv (cond t (occurrence b k false w ∷ named_by places b k false h ws) (named_by places b k false h ws) ++ more) a) n.0 s)) ]
    where
      on : (UseKept places p (at nb nv b) b w) → (OneLost (at nb nv b) b ws × (a ≡ Some k)) ⊎ (AllKept (at nb nv b) b ws × S nb nv more a) → (OneLost (at nb nv b) b (w ∷ ws) × (a ≡ Some k)) ⊎ (AllKept (at nb nv b) b (w ∷ ws) × S nb nv more a)
      on u (inl l) = inl ((l.0.0, inr l.0.1, l.0.2, l.0.3), l.1)
      on u (inr k) = inr (λ v m is. elim m [ inl e ↦ subst (λ n. UseKept places p (at nb nv b) b n) (sym e) u | inr x ↦ k.0 v x is ], k.1)

      its : slice_index places w ≡ h → S nb nv (occurrence b k false w ∷ (named_by places b k false h ws ++ more)) a → (S nb nv (named_by places b k false h ws ++ more) a → (OneLost (at nb nv b) b ws × (a ≡ Some k)) ⊎ (AllKept (at nb nv b) b ws × S nb nv more a)) → (OneLost (at nb nv b) b (w ∷ ws) × (a ≡ Some k)) ⊎ (AllKept (at nb nv b) b (w ∷ ws) × S nb nv more a)
      its e s rec = elim (s.1 refl) [ inl l ↦ inl ((w, inl refl, e, l.0), l.1) | inr k ↦ on k.0 (rec k.1) ]

      others : slice_index places w ≢ h → (OneLost (at nb nv b) b ws × (a ≡ Some k)) ⊎ (AllKept (at nb nv b) b ws × S nb nv more a) → (OneLost (at nb nv b) b (w ∷ ws) × (a ≡ Some k)) ⊎ (AllKept (at nb nv b) b (w ∷ ws) × S nb nv more a)
      others ne (inl l) = inl ((l.0.0, inr l.0.1, l.0.2, l.0.3), l.1)
      others ne (inr k) = inr (λ v m is. elim m [ inl e ↦ absurd (ne (ap (λ n. slice_index places n) (sym e) ∙ is)) | inr x ↦ k.0 v x is ], k.1)

  -- what stands in the place behind: the block b, or a block before it, wrote last
  abbrev pub Behind : ℕ → ℕ → ℕ → Type 0
  Behind b nb nv = (c : ℕ) → b ≤ c → at nb nv c ≡ p.values

  abbrev After : ℕ → ℕ → List Occurrence → Option ℕ → Type 0
  After b x more a = (nb : ℕ) × (nv : ℕ) × S nb nv more a × (at nb nv b ≡ x) × Behind (b + 1) nb nv

  set_says : (nb nv b k : ℕ) (ws : List ℕ) (more : List Occurrence) (a : Option ℕ) → Behind (b + 1) nb nv → S nb nv (named_by places b k true h ws ++ more) a → After b (put places h ws (at nb nv b)) more a
  set_says nb nv b k [] more a bh s = (nb, nv, s, refl, bh)
  set_says nb nv b k (w ∷ ws) more a bh s = elim (eqb_tells (slice_index places w) h) [ inl e ↦ (let r = set_says b w b k ws more a (λ c le. ap (λ t. cond t w p.values) (ne_eqb b c (λ q. omega (arith, q, le)))) ((subst (λ t. S nb nv (cond t (occurrence b k true w ∷ named_by places b k true h ws) (named_by places b k true h ws) ++ more) a) e.0 s).0 refl) in (r.0, r.1, r.2, r.3 ∙ ap (λ x. put places h ws x) (ap (λ t. cond t w p.values) (eq-eqb b b refl) ∙ ap (λ t. cond t w (at nb nv b)) (sym e.0)), r.4)) | inr n ↦ (let r = set_says nb nv b k ws more a bh (subst (λ t. S nb nv (cond t (occurrence b k true w ∷ named_by places b k true h ws) (named_by places b k true h ws) ++ more) a) n.0 s) in (r.0, r.1, r.2, r.3 ∙ ap (λ x. put places h ws x) (ap (λ t. cond t w (at nb nv b)) (sym n.0)), r.4)) ]

  -- a block, from one of its instructions on, with x in the place
  abbrev pub KeptAt : ℕ → ℕ → List BlockInsn → BlockEnd → ℕ → Type 0
  KeptAt x b xs e j = AllKept (after places h (take j xs) x) b (uses_from xs e j)

  pub record LostAt (x b k : ℕ) (xs : List BlockInsn) (e : BlockEnd) (a : Option ℕ) : Type 0 where
    pub insn : ℕ
    pub within : insn ≤ length xs
    pub lost : OneLost (after places h (take insn xs) x) b (uses_from xs e insn)
    pub answer : a ≡ Some (k + insn)
    pub before : (j : ℕ) → j < insn → KeptAt x b xs e j

  insns_say : (nb nv b k : ℕ) (xs : List BlockInsn) (e : BlockEnd) (more : List Occurrence) (a : Option ℕ) → Behind (b + 1) nb nv → S nb nv (in_insns_by places h b k xs e ++ more) a → LostAt (at nb nv b) b k xs e a ⊎ (((j : ℕ) → KeptAt (at nb nv b) b xs e j) × (nb' : ℕ) × (nv' : ℕ) × S nb' nv' more a × Behind (b + 1) nb' nv')
  insns_say nb nv b k [] e more a bh s = elim (used_says nb nv b k (end_uses e) more a s) [ inl l ↦ inl (record { insn = 0; within = omega arith; lost = l.0; answer = l.1 ∙ ap (λ n. Some n) (let q : k ≡ k + 0 = omega arith in q); before = λ j lt. absurd (omega (arith, lt)) }) | inr r ↦ inr (kept r.0, nb, nv, r.1, bh) ]
    where
      kept : AllKept (at nb nv b) b (end_uses e) → (j : ℕ) → KeptAt (at nb nv b) b [] e j
      kept all zero = all
      kept all (suc j) = λ v m is. absurd m
  insns_say nb nv b k (x ∷ xs) e more a bh s =
      let n1 = named_by places b k false h (uses_of x) in
      let n2 = named_by places b k true h (sets x) in
      let rest = in_insns_by places h b (k + 1) xs e in
      elim (used_says nb nv b k (uses_of x) ((n2 ++ rest) ++ more) a (subst (λ l. S nb nv l a) (append_assoc n1 (n2 ++ rest) more) s)) [ inl l ↦ inl (record { insn = 0; within = omega arith; lost = l.0; answer = l.1 ∙ ap (λ n. Some n) (let q : k ≡ k + 0 = omega arith in q); before = λ j lt. absurd (omega (arith, lt)) }) | inr r ↦ (let t = set_says nb nv b k (sets x) (rest ++ more) a bh (subst (λ l. S nb nv l a) (append_assoc n2 rest more) r.1) in on r.0 (put places h (sets x) (at nb nv b)) refl (at t.0 t.1 b) t.3 (insns_say t.0 t.1 b (k + 1) xs e more a t.4 t.2)) ]
    where
      kept : AllKept (at nb nv b) b (uses_of x) → ((j : ℕ) → KeptAt (put places h (sets x) (at nb nv b)) b xs e j) → (j : ℕ) → KeptAt (at nb nv b) b (x ∷ xs) e j
      kept all on zero = all
      kept all on (suc j) = on j

      below : AllKept (at nb nv b) b (uses_of x) → (i : ℕ) → ((j : ℕ) → j < i → KeptAt (put places h (sets x) (at nb nv b)) b xs e j) → (j : ℕ) → j < suc i → KeptAt (at nb nv b) b (x ∷ xs) e j
      below all i on zero lt = all
      below all i on (suc j) lt = on j (omega (arith, lt))

      further : AllKept (at nb nv b) b (uses_of x) → LostAt (put places h (sets x) (at nb nv b)) b (k + 1) xs e a → LostAt (at nb nv b) b k (x ∷ xs) e a
      further all l = record { insn = suc l.insn; within = (let w = l.within in omega (arith, w)); lost = l.lost; answer = l.answer ∙ ap (λ n. Some n) (let q : k + 1 + l.insn ≡ k + suc l.insn = omega arith in q); before = below all l.insn l.before }

      on : AllKept (at nb nv b) b (uses_of x) → (y : ℕ) → y ≡ put places h (sets x) (at nb nv b) → (z : ℕ) → z ≡ y → LostAt z b (k + 1) xs e a ⊎ (((j : ℕ) → KeptAt z b xs e j) × (nb' : ℕ) × (nv' : ℕ) × S nb' nv' more a × Behind (b + 1) nb' nv') → LostAt (at nb nv b) b k (x ∷ xs) e a ⊎ (((j : ℕ) → KeptAt (at nb nv b) b (x ∷ xs) e j) × (nb' : ℕ) × (nv' : ℕ) × S nb' nv' more a × Behind (b + 1) nb' nv')
      on all y ey z ez (inl l) = inl (further all (subst (λ n. LostAt n b (k + 1) xs e a) (ez ∙ ey) l))
      on all y ey z ez (inr r) = inr (kept all (subst (λ n. (j : ℕ) → KeptAt n b xs e j) (ez ∙ ey) r.0), r.1, r.2, r.3, r.4)

  -- all blocks
  abbrev pub BlockKept : ℕ → Block → Type 0
  BlockKept c x = (j : ℕ) → KeptAt p.values c x.insns x.end j

  pub record LostIn (bs : List Block) (b k : ℕ) (a : Option ℕ) : Type 0 where
    pub index : ℕ
    pub block : Block
    pub is_block : slice_get bs index ≡ Some block
    pub lost : LostAt p.values (b + index) (k + total (take index bs)) block.insns block.end a
    pub before : (i : ℕ) (x : Block) → i < index → slice_get bs i ≡ Some x → BlockKept (b + i) x

  pub blocks_say : (nb nv b k : ℕ) (bs : List Block) (a : Option ℕ) → Behind b nb nv → S nb nv (in_blocks_by places h b k bs) a → LostIn bs b k a ⊎ ((a ≡ None) × ((i : ℕ) (x : Block) → slice_get bs i ≡ Some x → BlockKept (b + i) x))
  blocks_say nb nv b k [] a bh s = inr (s, λ i x g. absurd (cc))
  blocks_say nb nv b k (y ∷ bs) a bh s =
      let more = in_blocks_by places h (b + 1) (k + (length y.insns + 1)) bs in
      let r = insns_say nb nv b k y.insns y.end more a (λ c le. bh c (omega (arith, le))) s in
      let q : at nb nv b ≡ p.values = bh b (omega arith) in
      elim r [ inl l ↦ inl (record { index = 0; block = y; is_block = refl; lost = first (subst (λ n. LostAt n b k y.insns y.end a) q l); before = λ i x lt g. absurd (omega (arith, lt)) }) | inr t ↦ on (subst (λ n. (j : ℕ) → KeptAt n b y.insns y.end j) q t.0) (blocks_say t.1 t.2 (b + 1) (k + (length y.insns + 1)) bs a t.4 t.3) ]
    where
      first : LostAt p.values b k y.insns y.end a → LostAt p.values (b + 0) (k + 0) y.insns y.end a
      first l = subst (λ n. LostAt p.values n (k + 0) y.insns y.end a) (let q : b ≡ b + 0 = omega arith in q) (subst (λ n. LostAt p.values b n y.insns y.end a) (let q : k ≡ k + 0 = omega arith in q) l)

      here : BlockKept b y → (x : Block) → y ≡ x → BlockKept (b + 0) x
      here all x e = subst (λ n. BlockKept n x) (let q : b ≡ b + 0 = omega arith in q) (subst (λ (z : Block). BlockKept b z) e all)

      kept : BlockKept b y → ((i : ℕ) (x : Block) → slice_get bs i ≡ Some x → BlockKept (b + 1 + i) x) → (i : ℕ) (x : Block) → slice_get (y ∷ bs) i ≡ Some x → BlockKept (b + i) x
      kept all on zero x g = here all x (cc)
      kept all on (suc i) x g = subst (λ n. BlockKept n x) (let q : b + 1 + i ≡ b + suc i = omega arith in q) (on i x g)

      below : BlockKept b y → (m : ℕ) → ((i : ℕ) (x : Block) → i < m → slice_get bs i ≡ Some x → BlockKept (b + 1 + i) x) → (i : ℕ) (x : Block) → i < suc m → slice_get (y ∷ bs) i ≡ Some x → BlockKept (b + i) x
      below all m on zero x lt g = here all x (cc)
      below all m on (suc i) x lt g = subst (λ n. BlockKept n x) (let q : b + 1 + i ≡ b + suc i = omega arith in q) (on i x (omega (arith, lt)) g)

      moved : (i : ℕ) (x : Block) → LostAt p.values (b + 1 + i) (k + (length y.insns + 1) + total (take i bs)) x.insns x.end a → LostAt p.values (b + suc i) (k + (length y.insns + 1 + total (take i bs))) x.insns x.end a
      moved i x l = subst (λ n. LostAt p.values n (k + (length y.insns + 1 + total (take i bs))) x.insns x.end a) (let q : b + 1 + i ≡ b + suc i = omega arith in q) (subst (λ n. LostAt p.values (b + 1 + i) n x.insns x.end a) (let q : k + (length y.insns + 1) + total (take i bs) ≡ k + (length y.insns + 1 + total (take i bs)) = omega arith in q) l)

      on : BlockKept b y → LostIn bs (b + 1) (k + (length y.insns + 1)) a ⊎ ((a ≡ None) × ((i : ℕ) (x : Block) → slice_get bs i ≡ Some x → BlockKept (b + 1 + i) x)) → LostIn (y ∷ bs) b k a ⊎ ((a ≡ None) × ((i : ℕ) (x : Block) → slice_get (y ∷ bs) i ≡ Some x → BlockKept (b + i) x))
      on all (inl l) = inl (record { index = suc l.index; block = l.block; is_block = l.is_block; lost = moved l.index l.block l.lost; before = below all l.index l.before })
      on all (inr r) = inr (r.0, kept all r.1)
