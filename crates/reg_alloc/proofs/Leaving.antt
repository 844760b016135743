-- What blocks leave in a place, by the occurrences of the values with that place.
use Rattle.std.proofs.Common.{◌≡◌, ◌≢◌, ℕ, zero, suc, ◌+◌, ◌<◌, ◌≤◌, Bool, true, false, cond, ◌⊎◌, inl, inr, List, [], ◌∷◌, ◌++◌, length, take, refl, sym, ap, ◌∙◌, subst, arith, Some, append_assoc, get_or-set_same, get_or-set_other}
use Rattle.std.specs.Prelude.{◌==◌, slice_get, slice_index, slice_set, All}
use Rattle.std.proofs.lemmas.Bool.{eq-eqb, ne_eqb}
use Rattle.std.proofs.lemmas.Bool.Decides.{eqb_tells}
use Rattle.std.proofs.lemmas.List.{length-set}
use Rattle.std.proofs.lemmas.Option.{slice_get_within, get_or_from_slice_get}
use Rattle.flatten.specs.declared.blocks.BlockInsn.{BlockInsn}
use Rattle.flatten.specs.declared.blocks.BlockEnd.{BlockEnd}
use Rattle.flatten.specs.declared.blocks.Block.{Block}
use Rattle.flatten.specs.declared.blocks.BlockProc.{BlockProc}
use Rattle.flatten.specs.Named.{AllBelow}
use Rattle.flatten.specs.Paths.{uses_of, end_uses, sets}
use Rattle.block_homes.specs.Held.{wrote, put, after}
use Rattle.block_homes.specs.Valid.{InsnBelow, BlockBelow, IsNamed}
use Rattle.reg_alloc.specs.declared.occurrences.Occurrence.{Occurrence}
use Rattle.reg_alloc.specs.Steps.{insns_in, insns_of, step_of}
use Rattle.reg_alloc.specs.Occurs.{occurrence, named_by, in_insns_by, in_blocks_by, Each}
use Rattle.reg_alloc.specs.Trace.{left, Passes, Writes, Stale, Current, AllStale, Ends, IsOf}
use Rattle.reg_alloc.proofs.Lists.{same_or}
use Rattle.reg_alloc.proofs.Occurring.{each_append, each_map}
use Rattle.reg_alloc.proofs.Reaching.{is_block}

-- the last value that is set in block c
abbrev pub latest : ℕ → List Occurrence → ℕ → ℕ
latest c [] d = d
latest c (o ∷ os) d = latest c os (cond o.sets (cond (o.block == c) o.named d) d)

abbrev Within : ℕ → List Occurrence → Type 0
Within n os = Each (λ o. o.block < n) os

one_length : (t : Bool) (b w : ℕ) (xs : List ℕ) → length (cond t (slice_set xs b w) xs) ≡ length xs
one_length true b w xs = length-set xs b w
one_length false b w xs = refl

one_index : (t : Bool) (b w c : ℕ) (xs : List ℕ) → b < length xs → slice_index (cond t (slice_set xs b w) xs) c ≡ cond t (cond (b == c) w (slice_index xs c)) (slice_index xs c)
one_index false b w c xs lt = refl
one_index true b w c xs lt = elim (eqb_tells b c) [ inl e ↦ ap (λ n. slice_index (slice_set xs b w) n) (sym e.1) ∙ get_or-set_same xs b w 0 lt ∙ ap (λ t. cond t w (slice_index xs c)) (sym e.0) | inr n ↦ get_or-set_other xs b c w 0 (λ q. n.1 (sym q)) ∙ ap (λ t. cond t w (slice_index xs c)) (sym n.0) ]

pub left_length : (os : List Occurrence) (xs : List ℕ) → length (left os xs) ≡ length xs
left_length [] xs = refl
left_length (o ∷ os) xs = left_length os (cond o.sets (slice_set xs o.block o.named) xs) ∙ one_length o.sets o.block o.named xs

left_latest : (os : List Occurrence) (xs : List ℕ) (c : ℕ) → Within (length xs) os → slice_index (left os xs) c ≡ latest c os (slice_index xs c)
left_latest [] xs c w = refl
left_latest (o ∷ os) xs c w = left_latest os (cond o.sets (slice_set xs o.block o.named) xs) c (subst (λ n. Within n os) (sym (one_length o.sets o.block o.named xs)) w.1) ∙ ap (λ d. latest c os d) (one_index o.sets o.block o.named c xs w.0)

module _ (keys : List ℕ) (h : ℕ) where
  used_latest : (c b k : ℕ) (ws : List ℕ) (more : List Occurrence) (d : ℕ) → latest c (named_by keys b k false h ws ++ more) d ≡ latest c more d
  used_latest c b k [] more d = refl
  used_latest c b k (w ∷ ws) more d = go (slice_index keys w == h) (used_latest c b k ws more d)
    where
      go : (t : Bool) → latest c (named_by keys b k false h ws ++ more) d ≡ latest c more d → latest c (cond t (occurrence b k false w ∷ named_by keys b k false h ws) (named_by keys b k false h ws) ++ more) d ≡ latest c more d
      go true e = e
      go false e = e

  set_latest : (b k : ℕ) (ws : List ℕ) (more : List Occurrence) (d : ℕ) → latest b (named_by keys b k true h ws ++ more) d ≡ latest b more (put keys h ws d)
  set_latest b k [] more d = refl
  set_latest b k (w ∷ ws) more d = go (slice_index keys w == h) (λ x. set_latest b k ws more x)
    where
      go : (t : Bool) → ((x : ℕ) → latest b (named_by keys b k true h ws ++ more) x ≡ latest b more (put keys h ws x)) → latest b (cond t (occurrence b k true w ∷ named_by keys b k true h ws) (named_by keys b k true h ws) ++ more) d ≡ latest b more (put keys h ws (cond t w d))
      go true e = ap (λ t. latest b (named_by keys b k true h ws ++ more) (cond t w d)) (eq-eqb b b refl) ∙ e w
      go false e = e d

  skip_set : (c b k : ℕ) (ws : List ℕ) (more : List Occurrence) (d : ℕ) → b ≢ c → latest c (named_by keys b k true h ws ++ more) d ≡ latest c more d
  skip_set c b k [] more d ne = refl
  skip_set c b k (w ∷ ws) more d ne = go (slice_index keys w == h) (skip_set c b k ws more d ne)
    where
      go : (t : Bool) → latest c (named_by keys b k true h ws ++ more) d ≡ latest c more d → latest c (cond t (occurrence b k true w ∷ named_by keys b k true h ws) (named_by keys b k true h ws) ++ more) d ≡ latest c more d
      go true e = ap (λ t. latest c (named_by keys b k true h ws ++ more) (cond t w d)) (ne_eqb b c ne) ∙ e
      go false e = e

  insns_latest : (b k : ℕ) (xs : List BlockInsn) (e : BlockEnd) (more : List Occurrence) (d : ℕ) → latest b (in_insns_by keys h b k xs e ++ more) d ≡ latest b more (after keys h xs d)
  insns_latest b k [] e more d = used_latest b b k (end_uses e) more d
  insns_latest b k (x ∷ xs) e more d =
      let n1 = named_by keys b k false h (uses_of x) in
      let n2 = named_by keys b k true h (sets x) in
      let rest = in_insns_by keys h b (k + 1) xs e in
      ap (λ l. latest b l d) (append_assoc n1 (n2 ++ rest) more)
      ∙ used_latest b b k (uses_of x) ((n2 ++ rest) ++ more) d
      ∙ ap (λ l. latest b l d) (append_assoc n2 rest more)
      ∙ set_latest b k (sets x) (rest ++ more) d
      ∙ insns_latest b (k + 1) xs e more (put keys h (sets x) d)

  skip_insns : (c b k : ℕ) (xs : List BlockInsn) (e : BlockEnd) (more : List Occurrence) (d : ℕ) → b ≢ c → latest c (in_insns_by keys h b k xs e ++ more) d ≡ latest c more d
  skip_insns c b k [] e more d ne = used_latest c b k (end_uses e) more d
  skip_insns c b k (x ∷ xs) e more d ne =
      let n1 = named_by keys b k false h (uses_of x) in
      let n2 = named_by keys b k true h (sets x) in
      let rest = in_insns_by keys h b (k + 1) xs e in
      ap (λ l. latest c l d) (append_assoc n1 (n2 ++ rest) more)
      ∙ used_latest c b k (uses_of x) ((n2 ++ rest) ++ more) d
      ∙ ap (λ l. latest c l d) (append_assoc n2 rest more)
      ∙ skip_set c b k (sets x) (rest ++ more) d ne
      ∙ skip_insns c b (k + 1) xs e more d ne

  past_blocks : (c b k : ℕ) (bs : List Block) (d : ℕ) → c < b → latest c (in_blocks_by keys h b k bs) d ≡ d
  past_blocks c b k [] d lt = refl
  past_blocks c b k (x ∷ bs) d lt = skip_insns c b k x.insns x.end (in_blocks_by keys h (b + 1) (k + (length x.insns + 1)) bs) d (λ q. omega (arith, q, lt)) ∙ past_blocks c (b + 1) (k + (length x.insns + 1)) bs d (omega (arith, lt))

  blocks_latest : (b k : ℕ) (bs : List Block) (i : ℕ) (x : Block) (d : ℕ) → slice_get bs i ≡ Some x → latest (b + i) (in_blocks_by keys h b k bs) d ≡ after keys h x.insns d
  blocks_latest b k [] i x d g = absurd (cc)
  blocks_latest b k (y ∷ bs) zero x d g =
      let e : y ≡ x = cc in
      let more = in_blocks_by keys h (b + 1) (k + (length y.insns + 1)) bs in
      let q : b + 0 ≡ b = omega arith in
      ap (λ n. latest n (in_insns_by keys h b k y.insns y.end ++ more) d) q
      ∙ insns_latest b k y.insns y.end more d
      ∙ past_blocks b (b + 1) (k + (length y.insns + 1)) bs (after keys h y.insns d) (omega arith)
      ∙ ap (λ (z : Block). after keys h z.insns d) e
  blocks_latest b k (y ∷ bs) (suc i) x d g =
      let more = in_blocks_by keys h (b + 1) (k + (length y.insns + 1)) bs in
      let q : b + suc i ≡ b + 1 + i = omega arith in
      skip_insns (b + suc i) b k y.insns y.end more d (λ z. omega (arith, z))
      ∙ ap (λ n. latest n more d) q
      ∙ blocks_latest (b + 1) (k + (length y.insns + 1)) bs i x d g

-- values that are written leave what the place holds, or put one of theirs there
module _ (n : ℕ) (places : List ℕ) (h : ℕ) where
  abbrev pub Leaves : (ℕ → ℕ) → Type 0
  Leaves f = ((o : ℕ) → f o ≡ o) ⊎ ((w : ℕ) × ((o : ℕ) → f o ≡ w) × (w < n) × (slice_index places w ≡ h))

  then_leaves : (f g : ℕ → ℕ) → Leaves f → Leaves g → Leaves (λ o. g (f o))
  then_leaves f g lf (inr c) = inr (c.0, λ o. c.1 (f o), c.2, c.3)
  then_leaves f g (inl i) (inl j) = inl (λ o. j (f o) ∙ i o)
  then_leaves f g (inr c) (inl j) = inr (c.0, λ o. j (f o) ∙ c.1 o, c.2, c.3)

  put_leaves : (vs : List ℕ) → AllBelow n vs → Leaves (λ o. put places h vs o)
  put_leaves [] l = inl (λ o. refl)
  put_leaves (v ∷ vs) l = then_leaves (λ o. wrote places h v o) (λ o. put places h vs o) (elim (eqb_tells (slice_index places v) h) [ inl e ↦ inr (v, λ o. ap (λ b. cond b v o) e.0, l.0, e.1) | inr e ↦ inl (λ o. ap (λ b. cond b v o) e.0) ]) (put_leaves vs l.1)

  pub after_leaves : (xs : List BlockInsn) → All (InsnBelow n) xs → Leaves (λ o. after places h xs o)
  after_leaves [] w = inl (λ o. refl)
  after_leaves (x ∷ xs) w = then_leaves (λ o. put places h (sets x) o) (λ o. after places h xs o) (put_leaves (sets x) (w 0 x (omega arith)).1) (after_leaves xs (λ i d lt. w (suc i) d (omega (arith, lt))))

  pub taken_leaves : (j : ℕ) (xs : List BlockInsn) → All (InsnBelow n) xs → Leaves (λ o. after places h (take j xs) o)
  taken_leaves zero [] w = inl (λ o. refl)
  taken_leaves (suc j) [] w = inl (λ o. refl)
  taken_leaves zero (x ∷ xs) w = inl (λ o. refl)
  taken_leaves (suc j) (x ∷ xs) w = then_leaves (λ o. put places h (sets x) o) (λ o. after places h (take j xs) o) (put_leaves (sets x) (w 0 x (omega arith)).1) (taken_leaves j xs (λ i d lt. w (suc i) d (omega (arith, lt))))

-- each occurrence is of a value with that place
module _ (p : BlockProc) (places : List ℕ) (h : ℕ) where
  abbrev Ok : Occurrence → Type 0
  Ok o = IsOf places p h o

  named_of : (b k : ℕ) (s : Bool) (ws : List ℕ) → b < length p.blocks → AllBelow p.values ws → Each Ok (named_by places b k s h ws)
  named_of b k s [] lb l = tt
  named_of b k s (w ∷ ws) lb l = elim (eqb_tells (slice_index places w) h) [ inl e ↦ subst (λ t. Each Ok (cond t (occurrence b k s w ∷ named_by places b k s h ws) (named_by places b k s h ws))) (sym e.0) ((lb, (l.0, e.1)), named_of b k s ws lb l.1) | inr e ↦ subst (λ t. Each Ok (cond t (occurrence b k s w ∷ named_by places b k s h ws) (named_by places b k s h ws))) (sym e.0) (named_of b k s ws lb l.1) ]

  insns_of_place : (b k : ℕ) (xs : List BlockInsn) (e : BlockEnd) → b < length p.blocks → All (InsnBelow p.values) xs → AllBelow p.values (end_uses e) → Each Ok (in_insns_by places h b k xs e)
  insns_of_place b k [] e lb w l = named_of b k false (end_uses e) lb l
  insns_of_place b k (x ∷ xs) e lb w l =
      let here = w 0 x (omega arith) in
      each_append Ok (named_by places b k false h (uses_of x)) (named_by places b k true h (sets x) ++ in_insns_by places h b (k + 1) xs e) (named_of b k false (uses_of x) lb here.0) (each_append Ok (named_by places b k true h (sets x)) (in_insns_by places h b (k + 1) xs e) (named_of b k true (sets x) lb here.1) (insns_of_place b (k + 1) xs e lb (λ i d lt. w (suc i) d (omega (arith, lt))) l))

  blocks_of_place : (m b k : ℕ) (bs : List Block) → b + length bs ≤ length p.blocks → All (BlockBelow p.values m) bs → Each Ok (in_blocks_by places h b k bs)
  blocks_of_place m b k [] le w = tt
  blocks_of_place m b k (x ∷ bs) le w =
      let here = w 0 x (omega arith) in
      each_append Ok (in_insns_by places h b k x.insns x.end) (in_blocks_by places h (b + 1) (k + (length x.insns + 1)) bs) (insns_of_place b k x.insns x.end (omega (arith, le)) here.0 here.1) (blocks_of_place m (b + 1) (k + (length x.insns + 1)) bs (omega (arith, le)) (λ i d lt. w (suc i) d (omega (arith, lt))))

  pub all_of_place : IsNamed p → Each Ok (in_blocks_by places h 0 0 p.blocks)
  all_of_place named = blocks_of_place (length p.blocks) 0 0 p.blocks (omega arith) named.blocks

  pub all_within : IsNamed p → (n : ℕ) → n ≡ length p.blocks → Each (λ o. o.block < n) (in_blocks_by places h 0 0 p.blocks)
  all_within named n e = each_map Ok (λ o. o.block < n) (λ o k. let l = k.0 in omega (arith, l, e)) (in_blocks_by places h 0 0 p.blocks) (all_of_place named)

  -- what the blocks leave
  abbrev os : List Occurrence
  os = in_blocks_by places h 0 0 p.blocks

  abbrev E : ℕ → ℕ → Type 0
  E c l = (Stale places p h l × Passes places p h c) ⊎ (Current places p h l × Writes places p h c l)

  block_insns : IsNamed p → (c : ℕ) (x : Block) → c < length p.blocks → slice_get p.blocks c ≡ Some x → All (InsnBelow p.values) x.insns
  block_insns named c x lt g = subst (λ (y : Block). All (InsnBelow p.values) y.insns) (get_or_from_slice_get p.blocks c x x g) (named.blocks c x lt).0

  end_at : IsNamed p → (xs : List ℕ) → AllStale places p h xs → (c : ℕ) (x : Block) → c < length p.blocks → slice_get p.blocks c ≡ Some x → E c (slice_index (left os xs) c)
  end_at named xs s c x lt g =
      let insns : insns_of p.blocks c ≡ x.insns = ap insns_in g in
      let e : slice_index (left os xs) c ≡ after places h x.insns (slice_index xs c) = left_latest os xs c (all_within named (length xs) s.count) ∙ ap (λ n. latest n os (slice_index xs c)) (let q : c ≡ 0 + c = omega arith in q) ∙ blocks_latest places h 0 0 p.blocks c x (slice_index xs c) g in
      let step : (o : ℕ) → step_of places p c h o ≡ after places h x.insns o = λ o. ap (λ is. after places h is o) insns in
      elim (after_leaves p.values places h x.insns (block_insns named c x lt g)) [ inl i ↦ inl (subst (λ l. Stale places p h l) (sym (e ∙ i (slice_index xs c))) (s.each c lt), λ o. step o ∙ i o) | inr w ↦ (let q : slice_index (left os xs) c ≡ w.0 = e ∙ w.1 (slice_index xs c) in inr (subst (λ l. Current places p h l) (sym q) (w.2, w.3), λ o. step o ∙ w.1 o ∙ sym q)) ]

  pub ends_of : IsNamed p → (xs : List ℕ) → AllStale places p h xs → Ends places p h (left os xs)
  ends_of named xs s = record { count = left_length os xs ∙ s.count; each = λ c lt. let y = is_block p.blocks c lt in end_at named xs s c y.0 lt y.1 }

  -- afterwards nothing in it is of a later place
  pub ends_stale : (last : List ℕ) → Ends places p h last → AllStale places p (h + 1) last
  ends_stale last s = record { count = s.count; each = λ c lt. elim (s.each c lt) [ inl x ↦ elim x.0 [ inl z ↦ inl z | inr y ↦ inr (y.0, let l = y.1 in omega (arith, l)) ] | inr x ↦ inr (x.0.0, let e = x.0.1 in omega (arith, e)) ] }
