-- What the occurrences of a value say of it.
use Rattle.std.proofs.Common.{◌≡◌, ◌≢◌, ℕ, zero, suc, ◌+◌, ◌<◌, ◌≤◌, Bool, true, false, cond, ◌&&◌, ◌||◌, not, ◌⊎◌, inl, inr, List, [], ◌∷◌, ◌++◌, length, take, drop, refl, sym, ap, ◌∙◌, subst, arith, Option, Some, None, append_assoc, append-nil, length-append, get_or-set_same, get_or-set_other}
use Rattle.std.specs.Prelude.{◌==◌, slice_get, slice_index, slice_set, All}
use Rattle.std.proofs.lemmas.Bool.{eq-eqb, ne_eqb}
use Rattle.std.proofs.lemmas.Bool.Decides.{eqb_tells}
use Rattle.std.proofs.lemmas.List.{length-set}
use Rattle.std.proofs.lemmas.Option.{slice_get_within, get_or_from_slice_get}
use Rattle.flatten.specs.declared.blocks.BlockInsn.{BlockInsn}
use Rattle.flatten.specs.declared.blocks.BlockEnd.{BlockEnd}
use Rattle.flatten.specs.declared.blocks.Block.{Block}
use Rattle.flatten.specs.declared.blocks.BlockProc.{BlockProc}
use Rattle.flatten.specs.Named.{AllBelow}
use Rattle.flatten.specs.Paths.{uses_of, end_uses, sets, goes_to}
use Rattle.block_homes.specs.Held.{total}
use Rattle.reg_alloc.specs.declared.ranges.Range.{Range}
use Rattle.reg_alloc.specs.declared.occurrences.Occurrence.{Occurrence}
use Rattle.reg_alloc.specs.Live.{Present}
use Rattle.reg_alloc.specs.Live.LiveAt.{Used, UsedLast}
use Rattle.reg_alloc.specs.Occurs.{occurrence, row, add, all_by, add_all, named_by, in_insns_by, in_blocks_by, named, in_insns, in_blocks, Each, first_in}
use Rattle.reg_alloc.specs.Rows.{Places}
use Rattle.block_homes.specs.Valid.{InsnBelow, BlockBelow}
use Rattle.reg_alloc.specs.Ranges.{among, any_live, lives, here, sets_first, Covers}
use Rattle.reg_alloc.proofs.Exact.{total_under}
use Rattle.reg_alloc.proofs.Ranging.{true_or, or_left, or_right, two_true, not_true, and_true, among_is}

-- rows
row_add : (o : Occurrence) (w v : ℕ) (rows : List (List Occurrence)) → w < length rows → row (add o w rows) v ≡ row rows v ++ named o v (w ∷ [])
row_add o w v rows lt = elim (eqb_tells w v) [ inl e ↦ same e.1 ∙ ap (λ t. row rows v ++ cond t (o ∷ []) []) (sym e.0) | inr n ↦ get_or-set_other rows w v (row rows w ++ o ∷ []) [] (λ q. n.1 (sym q)) ∙ sym (append-nil (row rows v)) ∙ ap (λ t. row rows v ++ cond t (o ∷ []) []) (sym n.0) ]
  where
    same : w ≡ v → row (add o w rows) v ≡ row rows v ++ o ∷ []
    same e = ap (λ u. row (add o w rows) u) (sym e) ∙ get_or-set_same rows w (row rows w ++ o ∷ []) [] lt ∙ ap (λ u. row rows u ++ o ∷ []) e

named_more : (o : Occurrence) (v w : ℕ) (ws : List ℕ) → named o v (w ∷ ws) ≡ named o v (w ∷ []) ++ named o v ws
named_more o v w ws = elim (eqb_tells w v) [ inl e ↦ ap (λ t. cond t (o ∷ named o v ws) (named o v ws)) e.0 ∙ ap (λ t. cond t (o ∷ []) [] ++ named o v ws) (sym e.0) | inr n ↦ ap (λ t. cond t (o ∷ named o v ws) (named o v ws)) n.0 ∙ ap (λ t. cond t (o ∷ []) [] ++ named o v ws) (sym n.0) ]

own_name : (b k v w : ℕ) → named (occurrence b k false w) v (w ∷ []) ≡ named (occurrence b k false v) v (w ∷ [])
own_name b k v w = elim (eqb_tells w v) [ inl e ↦ ap (λ u. named (occurrence b k false u) v (w ∷ [])) e.1 | inr n ↦ ap (λ t. cond t (occurrence b k false w ∷ []) []) n.0 ∙ ap (λ t. cond t (occurrence b k false v ∷ []) []) (sym n.0) ]

pub add_length : (b k : ℕ) (ws : List ℕ) (rows : List (List Occurrence)) → length (add_all b k ws rows) ≡ length rows
add_length b k [] rows = refl
add_length b k (w ∷ ws) rows = add_length b k ws (add (occurrence b k false w) w rows) ∙ length-set rows w (row rows w ++ occurrence b k false w ∷ [])

pub row_add_all : (b k : ℕ) (ws : List ℕ) (v : ℕ) (rows : List (List Occurrence)) → AllBelow (length rows) ws → row (add_all b k ws rows) v ≡ row rows v ++ named (occurrence b k false v) v ws
row_add_all b k [] v rows l = sym (append-nil (row rows v))
row_add_all b k (w ∷ ws) v rows l =
    let o = occurrence b k false w in
    let q = occurrence b k false v in
    row_add_all b k ws v (add o w rows) (subst (λ n. AllBelow n ws) (sym (length-set rows w (row rows w ++ o ∷ []))) l.1)
    ∙ ap (λ l. l ++ named q v ws) (row_add o w v rows l.0 ∙ ap (λ n. row rows v ++ n) (own_name b k v w))
    ∙ append_assoc (row rows v) (named q v (w ∷ [])) (named q v ws)
    ∙ ap (λ l. row rows v ++ l) (sym (named_more q v w ws))

-- rows by keys
by_more : (keys : List ℕ) (b k : ℕ) (s : Bool) (h w : ℕ) (ws : List ℕ) → named_by keys b k s h (w ∷ ws) ≡ named_by keys b k s h (w ∷ []) ++ named_by keys b k s h ws
by_more keys b k s h w ws = go (slice_index keys w == h)
  where
    go : (t : Bool) → cond t (occurrence b k s w ∷ named_by keys b k s h ws) (named_by keys b k s h ws) ≡ cond t (occurrence b k s w ∷ []) [] ++ named_by keys b k s h ws
    go true = refl
    go false = refl

pub all_length : (keys : List ℕ) (b k : ℕ) (s : Bool) (ws : List ℕ) (rows : List (List Occurrence)) → length (all_by keys b k s ws rows) ≡ length rows
all_length keys b k s [] rows = refl
all_length keys b k s (w ∷ ws) rows = all_length keys b k s ws (add (occurrence b k s w) (slice_index keys w) rows) ∙ length-set rows (slice_index keys w) (row rows (slice_index keys w) ++ occurrence b k s w ∷ [])

pub row_all_by : (keys : List ℕ) (b k : ℕ) (s : Bool) (ws : List ℕ) (h : ℕ) (rows : List (List Occurrence)) → AllBelow (length keys) ws → Places (length keys) (length rows) keys → row (all_by keys b k s ws rows) h ≡ row rows h ++ named_by keys b k s h ws
row_all_by keys b k s [] h rows l pl = sym (append-nil (row rows h))
row_all_by keys b k s (w ∷ ws) h rows l pl =
    let o = occurrence b k s w in
    let i = slice_index keys w in
    row_all_by keys b k s ws h (add o i rows) l.1 (subst (λ n. Places (length keys) n keys) (sym (length-set rows i (row rows i ++ o ∷ []))) pl)
    ∙ ap (λ l. l ++ named_by keys b k s h ws) (row_add o i h rows (pl.each w l.0))
    ∙ append_assoc (row rows h) (named_by keys b k s h (w ∷ [])) (named_by keys b k s h ws)
    ∙ ap (λ l. row rows h ++ l) (sym (by_more keys b k s h w ws))

-- where each value has its own key
module _ (keys : List ℕ) (n v : ℕ) (own : (w : ℕ) → w < n → slice_index keys w ≡ w) where
  own_named : (b k : ℕ) (s : Bool) (ws : List ℕ) → AllBelow n ws → named_by keys b k s v ws ≡ named (occurrence b k s v) v ws
  own_named b k s [] l = refl
  own_named b k s (w ∷ ws) l =
      let e = own_named b k s ws l.1 in
      ap (λ u. cond (u == v) (occurrence b k s w ∷ named_by keys b k s v ws) (named_by keys b k s v ws)) (own w l.0)
      ∙ elim (eqb_tells w v) [ inl q ↦ ap (λ t. cond t (occurrence b k s w ∷ named_by keys b k s v ws) (named_by keys b k s v ws)) q.0 ∙ ap (λ u. occurrence b k s u ∷ named_by keys b k s v ws) q.1 ∙ ap (λ l. occurrence b k s v ∷ l) e ∙ ap (λ t. cond t (occurrence b k s v ∷ named (occurrence b k s v) v ws) (named (occurrence b k s v) v ws)) (sym q.0) | inr q ↦ ap (λ t. cond t (occurrence b k s w ∷ named_by keys b k s v ws) (named_by keys b k s v ws)) q.0 ∙ e ∙ ap (λ t. cond t (occurrence b k s v ∷ named (occurrence b k s v) v ws) (named (occurrence b k s v) v ws)) (sym q.0) ]

  own_insns : (b k : ℕ) (xs : List BlockInsn) (e : BlockEnd) → All (InsnBelow n) xs → AllBelow n (end_uses e) → in_insns_by keys v b k xs e ≡ in_insns v b k xs e
  own_insns b k [] e w l = own_named b k false (end_uses e) l
  own_insns b k (x ∷ xs) e w l =
      let here = w 0 x (omega arith) in
      let rest = own_insns b (k + 1) xs e (λ i d lt. w (suc i) d (omega (arith, lt))) l in
      ap (λ r. named_by keys b k false v (uses_of x) ++ (named_by keys b k true v (sets x) ++ r)) rest
      ∙ ap (λ r. named_by keys b k false v (uses_of x) ++ (r ++ in_insns v b (k + 1) xs e)) (own_named b k true (sets x) here.1)
      ∙ ap (λ r. r ++ (named (occurrence b k true v) v (sets x) ++ in_insns v b (k + 1) xs e)) (own_named b k false (uses_of x) here.0)

  pub own_blocks : (m b k : ℕ) (bs : List Block) → All (BlockBelow n m) bs → in_blocks_by keys v b k bs ≡ in_blocks v b k bs
  own_blocks m b k [] w = refl
  own_blocks m b k (x ∷ bs) w =
      let here = w 0 x (omega arith) in
      ap (λ r. in_insns_by keys v b k x.insns x.end ++ r) (own_blocks m (b + 1) (k + (length x.insns + 1)) bs (λ i d lt. w (suc i) d (omega (arith, lt))))
      ∙ ap (λ r. r ++ in_blocks v (b + 1) (k + (length x.insns + 1)) bs) (own_insns b k x.insns x.end here.0 here.1)

-- a fact of each
pub each_append : (P : Occurrence → Type 0) (os more : List Occurrence) → Each P os → Each P more → Each P (os ++ more)
each_append P [] more a b = b
each_append P (o ∷ os) more a b = (a.0, each_append P os more a.1 b)

pub each_split : (P : Occurrence → Type 0) (os more : List Occurrence) → Each P (os ++ more) → Each P os × Each P more
each_split P [] more a = (tt, a)
each_split P (o ∷ os) more a = let r = each_split P os more a.1 in ((a.0, r.0), r.1)

pub each_map : (P Q : Occurrence → Type 0) → ((o : Occurrence) → P o → Q o) → (os : List Occurrence) → Each P os → Each Q os
each_map P Q f [] a = tt
each_map P Q f (o ∷ os) a = (f o a.0, each_map P Q f os a.1)

pub each_named : (P : Occurrence → Type 0) (o : Occurrence) (v : ℕ) (ws : List ℕ) → (among v ws ≡ true → P o) → Each P (named o v ws)
each_named P o v [] f = tt
each_named P o v (w ∷ ws) f =
    let rest = each_named P o v ws (λ h. f (or_right (w == v) (among v ws) h)) in
    elim (eqb_tells w v) [ inl e ↦ subst (λ t. Each P (cond t (o ∷ named o v ws) (named o v ws))) (sym e.0) (f (or_left (w == v) (among v ws) e.0), rest) | inr n ↦ subst (λ t. Each P (cond t (o ∷ named o v ws) (named o v ws))) (sym n.0) rest ]

pub of_named : (P : Occurrence → Type 0) (o : Occurrence) (v : ℕ) (ws : List ℕ) → Each P (named o v ws) → among v ws ≡ true → P o
of_named P o v [] a h = absurd (cc)
of_named P o v (w ∷ ws) a h =
    elim (eqb_tells w v) [ inl e ↦ (let b : Each P (o ∷ named o v ws) = subst (λ t. Each P (cond t (o ∷ named o v ws) (named o v ws))) e.0 a in b.0) | inr n ↦ of_named P o v ws (subst (λ t. Each P (cond t (o ∷ named o v ws) (named o v ws))) n.0 a) (ap (λ t. t || among v ws) (sym n.0) ∙ h) ]

-- the parts of a procedure, block by block
module _ (P : Occurrence → Type 0) (v : ℕ) where
  abbrev At : ℕ → ℕ → Block → Type 0
  At b k x = Each P (in_insns v b k x.insns x.end)

  moved : (b c k l : ℕ) (x : Block) → b ≡ c → k ≡ l → At b k x → At c l x
  moved b c k l x eb ek a = subst (λ n. At c n x) ek (subst (λ n. At n k x) eb a)

  pub each_blocks : (bs : List Block) (b k : ℕ) → ((i : ℕ) (x : Block) → slice_get bs i ≡ Some x → At (b + i) (k + total (take i bs)) x) → Each P (in_blocks v b k bs)
  each_blocks [] b k all = tt
  each_blocks (x ∷ bs) b k all =
      each_append P (in_insns v b k x.insns x.end) (in_blocks v (b + 1) (k + (length x.insns + 1)) bs) (moved (b + 0) b (k + 0) k x (omega arith) (omega arith) (all 0 x refl)) (each_blocks bs (b + 1) (k + (length x.insns + 1)) (λ i y g. moved (b + suc i) (b + 1 + i) (k + (length x.insns + 1 + total (take i bs))) (k + (length x.insns + 1) + total (take i bs)) y (omega arith) (omega arith) (all (suc i) y g)))

  pub of_blocks : (bs : List Block) (b k : ℕ) → Each P (in_blocks v b k bs) → (i : ℕ) (x : Block) → slice_get bs i ≡ Some x → At (b + i) (k + total (take i bs)) x
  of_blocks [] b k a i x g = absurd (cc)
  of_blocks (y ∷ bs) b k a zero x g =
      let e : y ≡ x = cc in
      moved b (b + 0) k (k + 0) x (omega arith) (omega arith) (subst (λ z. At b k z) e (each_split P (in_insns v b k y.insns y.end) (in_blocks v (b + 1) (k + (length y.insns + 1)) bs) a).0)
  of_blocks (y ∷ bs) b k a (suc i) x g = moved (b + 1 + i) (b + suc i) (k + (length y.insns + 1) + total (take i bs)) (k + (length y.insns + 1 + total (take i bs))) x (omega arith) (omega arith) (of_blocks bs (b + 1) (k + (length y.insns + 1)) (each_split P (in_insns v b k y.insns y.end) (in_blocks v (b + 1) (k + (length y.insns + 1)) bs) a).1 i x g)

-- each is present where it says
abbrev pub Sound : BlockProc → ℕ → Occurrence → Type 0
Sound p v o = Present p v o.insn × (o.insn < total p.blocks) × (o.block < length p.blocks)

module _ (p : BlockProc) (v b : ℕ) (block : Block) (g : slice_get p.blocks b ≡ Some block) where
  lt : b < length p.blocks
  lt = slice_get_within p.blocks b block g

  under : total (take b p.blocks) + (length block.insns + 1) ≤ total p.blocks
  under =
      let t = total_under p.blocks b block lt in
      let n = ap (λ (x : Block). length x.insns) (get_or_from_slice_get p.blocks b block block g) in
      omega (arith, t, n)

  sound_insns : (ran xs : List BlockInsn) (k : ℕ) → block.insns ≡ ran ++ xs → k ≡ total (take b p.blocks) + length ran → Each (Sound p v) (in_insns v b k xs block.end)
  sound_insns ran [] k e q =
      let n = ap length e in let m = length-append ran [] in
      each_named (Sound p v) (occurrence b k false v) v (end_uses block.end) (λ h. (inr (record { at = b; block = block; is_block = g; ran = ran; rest = []; insns = e; numbered = q; present = inr (UsedLast block.end (among_is v (end_uses block.end) h)) }), omega (arith, q, n, m, under), lt))
  sound_insns ran (x ∷ xs) k e q =
      let n = ap length e in let m = length-append ran (x ∷ xs) in
      let below : k < total p.blocks = omega (arith, q, n, m, under) in
      let l = length-append ran (x ∷ []) in
      each_append (Sound p v) (named (occurrence b k false v) v (uses_of x)) (named (occurrence b k true v) v (sets x) ++ in_insns v b (k + 1) xs block.end) (each_named (Sound p v) (occurrence b k false v) v (uses_of x) (λ h. (inr (record { at = b; block = block; is_block = g; ran = ran; rest = x ∷ xs; insns = e; numbered = q; present = inr (Used x xs block.end (among_is v (uses_of x) h)) }), below, lt))) (each_append (Sound p v) (named (occurrence b k true v) v (sets x)) (in_insns v b (k + 1) xs block.end) (each_named (Sound p v) (occurrence b k true v) v (sets x) (λ h. (inr (record { at = b; block = block; is_block = g; ran = ran; rest = x ∷ xs; insns = e; numbered = q; present = inl (among_is v (sets x) h) }), below, lt))) (sound_insns (ran ++ x ∷ []) xs (k + 1) (e ∙ sym (append_assoc ran (x ∷ []) xs)) (omega (arith, q, l))))

pub all_sound : (p : BlockProc) (v : ℕ) → Each (Sound p v) (in_blocks v 0 0 p.blocks)
all_sound p v = each_blocks (Sound p v) v p.blocks 0 0 (λ i x g. subst (λ n. Each (Sound p v) (in_insns v n (0 + total (take i p.blocks)) x.insns x.end)) (let q : i ≡ 0 + i = omega arith in q) (sound_insns p v i x g [] x.insns (0 + total (take i p.blocks)) refl (omega arith)))

pub of_block : (P : Occurrence → Type 0) (p : BlockProc) (v : ℕ) → Each P (in_blocks v 0 0 p.blocks) → (b : ℕ) (x : Block) → slice_get p.blocks b ≡ Some x → Each P (in_insns v b (total (take b p.blocks)) x.insns x.end)
of_block P p v a b x g = moved P v (0 + b) b (0 + total (take b p.blocks)) (total (take b p.blocks)) x (omega arith) (omega arith) (of_blocks P v p.blocks 0 0 a b x g)

-- where a block first names a value, it is used or set
abbrev pub kind_of : ℕ → List BlockInsn → BlockEnd → Option Bool
kind_of v [] e = cond (among v (end_uses e)) (Some false) None
kind_of v (x ∷ xs) e = cond (among v (uses_of x)) (Some false) (cond (among v (sets x)) (Some true) (kind_of v xs e))

abbrev otherwise : Option Bool → Option Bool → Option Bool
otherwise (Some s) d = Some s
otherwise None d = d

otherwise_none : (o : Option Bool) → otherwise o None ≡ o
otherwise_none (Some s) = refl
otherwise_none None = refl

pick : (t s : Bool) (x y : Option Bool) → cond t (Some s) (otherwise x y) ≡ otherwise (cond t (Some s) x) y
pick true s x y = refl
pick false s x y = refl

pub first_named : (b k : ℕ) (s : Bool) (v : ℕ) (ws : List ℕ) (more : List Occurrence) → first_in b (named (occurrence b k s v) v ws ++ more) ≡ cond (among v ws) (Some s) (first_in b more)
first_named b k s v [] more = refl
first_named b k s v (w ∷ ws) more =
    let o = occurrence b k s v in
    let n = named o v ws in
    elim (eqb_tells w v) [ inl e ↦ ap (λ t. first_in b (cond t (o ∷ n) n ++ more)) e.0 ∙ ap (λ t. cond t (Some s) (first_in b (n ++ more))) (eq-eqb b b refl) ∙ ap (λ t. cond (t || among v ws) (Some s) (first_in b more)) (sym e.0) | inr q ↦ ap (λ t. first_in b (cond t (o ∷ n) n ++ more)) q.0 ∙ first_named b k s v ws more ∙ ap (λ t. cond (t || among v ws) (Some s) (first_in b more)) (sym q.0) ]

first_insns : (v b k : ℕ) (xs : List BlockInsn) (e : BlockEnd) (more : List Occurrence) → first_in b (in_insns v b k xs e ++ more) ≡ otherwise (kind_of v xs e) (first_in b more)
first_insns v b k [] e more = first_named b k false v (end_uses e) more ∙ pick (among v (end_uses e)) false None (first_in b more)
first_insns v b k (x ∷ xs) e more =
    let n1 = named (occurrence b k false v) v (uses_of x) in
    let n2 = named (occurrence b k true v) v (sets x) in
    let rest = in_insns v b (k + 1) xs e in
    ap (λ l. first_in b l) (append_assoc n1 (n2 ++ rest) more)
    ∙ first_named b k false v (uses_of x) (n2 ++ rest ++ more)
    ∙ ap (λ f. cond (among v (uses_of x)) (Some false) f) (ap (λ l. first_in b l) (append_assoc n2 rest more) ∙ first_named b k true v (sets x) (rest ++ more) ∙ ap (λ f. cond (among v (sets x)) (Some true) f) (first_insns v b (k + 1) xs e more) ∙ pick (among v (sets x)) true (kind_of v xs e) (first_in b more))
    ∙ pick (among v (uses_of x)) false (cond (among v (sets x)) (Some true) (kind_of v xs e)) (first_in b more)

pub skip_named : (c b k : ℕ) (s : Bool) (v : ℕ) (ws : List ℕ) (more : List Occurrence) → b ≢ c → first_in c (named (occurrence b k s v) v ws ++ more) ≡ first_in c more
skip_named c b k s v [] more ne = refl
skip_named c b k s v (w ∷ ws) more ne =
    let o = occurrence b k s v in
    let n = named o v ws in
    elim (eqb_tells w v) [ inl e ↦ ap (λ t. first_in c (cond t (o ∷ n) n ++ more)) e.0 ∙ ap (λ t. cond t (Some s) (first_in c (n ++ more))) (ne_eqb b c ne) ∙ skip_named c b k s v ws more ne | inr q ↦ ap (λ t. first_in c (cond t (o ∷ n) n ++ more)) q.0 ∙ skip_named c b k s v ws more ne ]

skip_insns : (c v b k : ℕ) (xs : List BlockInsn) (e : BlockEnd) (more : List Occurrence) → b ≢ c → first_in c (in_insns v b k xs e ++ more) ≡ first_in c more
skip_insns c v b k [] e more ne = skip_named c b k false v (end_uses e) more ne
skip_insns c v b k (x ∷ xs) e more ne =
    let n1 = named (occurrence b k false v) v (uses_of x) in
    let n2 = named (occurrence b k true v) v (sets x) in
    let rest = in_insns v b (k + 1) xs e in
    ap (λ l. first_in c l) (append_assoc n1 (n2 ++ rest) more)
    ∙ skip_named c b k false v (uses_of x) (n2 ++ rest ++ more) ne
    ∙ ap (λ l. first_in c l) (append_assoc n2 rest more)
    ∙ skip_named c b k true v (sets x) (rest ++ more) ne
    ∙ skip_insns c v b (k + 1) xs e more ne

past_blocks : (c v b k : ℕ) (bs : List Block) → c < b → first_in c (in_blocks v b k bs) ≡ None
past_blocks c v b k [] lt = refl
past_blocks c v b k (x ∷ bs) lt = skip_insns c v b k x.insns x.end (in_blocks v (b + 1) (k + (length x.insns + 1)) bs) (λ q. omega (arith, q, lt)) ∙ past_blocks c v (b + 1) (k + (length x.insns + 1)) bs (omega (arith, lt))

first_blocks : (v b k : ℕ) (bs : List Block) (i : ℕ) (x : Block) → slice_get bs i ≡ Some x → first_in (b + i) (in_blocks v b k bs) ≡ kind_of v x.insns x.end
first_blocks v b k [] i x g = absurd (cc)
first_blocks v b k (y ∷ bs) zero x g =
    let e : y ≡ x = cc in
    let more = in_blocks v (b + 1) (k + (length y.insns + 1)) bs in
    let q : b + 0 ≡ b = omega arith in
    ap (λ n. first_in n (in_insns v b k y.insns y.end ++ more)) q
    ∙ first_insns v b k y.insns y.end more
    ∙ ap (λ o. otherwise (kind_of v y.insns y.end) o) (past_blocks b v (b + 1) (k + (length y.insns + 1)) bs (omega arith))
    ∙ otherwise_none (kind_of v y.insns y.end)
    ∙ ap (λ (z : Block). kind_of v z.insns z.end) e
first_blocks v b k (y ∷ bs) (suc i) x g =
    let more = in_blocks v (b + 1) (k + (length y.insns + 1)) bs in
    let q : b + suc i ≡ b + 1 + i = omega arith in
    skip_insns (b + suc i) v b k y.insns y.end more (λ z. omega (arith, z))
    ∙ ap (λ n. first_in n more) q
    ∙ first_blocks v (b + 1) (k + (length y.insns + 1)) bs i x g

pub first_block : (p : BlockProc) (v b : ℕ) (x : Block) → slice_get p.blocks b ≡ Some x → first_in b (in_blocks v 0 0 p.blocks) ≡ kind_of v x.insns x.end
first_block p v b x g = ap (λ n. first_in n (in_blocks v 0 0 p.blocks)) (let q : b ≡ 0 + b = omega arith in q) ∙ first_blocks v 0 0 p.blocks b x g

-- by which it is live at the block's start
abbrev pub by_kind : Option Bool → Bool → Bool
by_kind None a = a
by_kind (Some s) a = not s

end_kind : (t a : Bool) → (t || a) ≡ by_kind (cond t (Some false) None) a
end_kind true a = refl
end_kind false a = refl

insn_kind : (t u : Bool) (o : Option Bool) (a : Bool) → (t || (not u && by_kind o a)) ≡ by_kind (cond t (Some false) (cond u (Some true) o)) a
insn_kind true u o a = refl
insn_kind false true o a = refl
insn_kind false false o a = refl

pub lives_by_kind : (v : ℕ) (live : ℕ → Bool) (xs : List BlockInsn) (e : BlockEnd) → lives v live xs e ≡ by_kind (kind_of v xs e) (any_live live (goes_to e))
lives_by_kind v live [] e = end_kind (among v (end_uses e)) (any_live live (goes_to e))
lives_by_kind v live (x ∷ xs) e = ap (λ l. among v (uses_of x) || (not (among v (sets x)) && l)) (lives_by_kind v live xs e) ∙ insn_kind (among v (uses_of x)) (among v (sets x)) (kind_of v xs e) (any_live live (goes_to e))

-- a range over the occurrences of a block, its start and its end, where the value is live there, is over all of it
module _ (v b : ℕ) (live : ℕ → Bool) (e : BlockEnd) (r : Range) where
  abbrev Cov : Occurrence → Type 0
  Cov o = Covers r o.insn

  parts : (x : BlockInsn) (xs : List BlockInsn) (k : ℕ) → Each Cov (in_insns v b k (x ∷ xs) e) → (among v (uses_of x) ≡ true → Covers r k) × (among v (sets x) ≡ true → Covers r k) × Each Cov (in_insns v b (k + 1) xs e)
  parts x xs k a =
      let n1 = named (occurrence b k false v) v (uses_of x) in
      let n2 = named (occurrence b k true v) v (sets x) in
      let rest = in_insns v b (k + 1) xs e in
      let one = each_split Cov n1 (n2 ++ rest) a in
      let two = each_split Cov n2 rest one.1 in
      (λ h. of_named Cov (occurrence b k false v) v (uses_of x) one.0 h, λ h. of_named Cov (occurrence b k true v) v (sets x) two.0 h, two.1)

  upper : (xs : List BlockInsn) (k : ℕ) → Each Cov (in_insns v b k xs e) → (any_live live (goes_to e) ≡ true → k + length xs ≤ r.last) → here v live xs e ≡ true → k ≤ r.last
  upper [] k a last h = elim (true_or (among v (end_uses e)) (any_live live (goes_to e)) h) [ inl u ↦ (of_named Cov (occurrence b k false v) v (end_uses e) a u).1 | inr l ↦ (let m = last l in omega (arith, m)) ]
  upper (x ∷ xs) k a last h =
      let ps = parts x xs k a in
      go ps.0 ps.1 (λ l. upper xs (k + 1) ps.2 (λ y. let m = last y in omega (arith, m)) (or_right (sets_first v xs) (lives v live xs e) l)) (true_or (among v (sets x)) (lives v live (x ∷ xs) e) h)
    where
      go : (among v (uses_of x) ≡ true → Covers r k) → (among v (sets x) ≡ true → Covers r k) → (lives v live xs e ≡ true → k + 1 ≤ r.last) → (among v (sets x) ≡ true) ⊎ (lives v live (x ∷ xs) e ≡ true) → k ≤ r.last
      go us ss on (inl s) = (ss s).1
      go us ss on (inr l) = elim (true_or (among v (uses_of x)) (not (among v (sets x)) && lives v live xs e) l) [ inl u ↦ (us u).1 | inr y ↦ (let m = on (two_true (not (among v (sets x))) (lives v live xs e) y).1 in omega (arith, m)) ]

  either_way : (t : Bool) → (t ≡ true) ⊎ (t ≡ false)
  either_way true = inl refl
  either_way false = inr refl

  pub all_of_it : (xs : List BlockInsn) (k : ℕ) → Each Cov (in_insns v b k xs e) → (lives v live xs e ≡ true → r.first ≤ k) → (any_live live (goes_to e) ≡ true → k + length xs ≤ r.last) → (j : ℕ) → j ≤ length xs → here v live (drop j xs) e ≡ true → Covers r (k + j)
  all_of_it [] k a first last zero le h = (let m = first h in omega (arith, m), let m = upper [] k a last h in omega (arith, m))
  all_of_it [] k a first last (suc j) le h = absurd (omega (arith, le))
  all_of_it (x ∷ xs) k a first last zero le h =
      let low : r.first ≤ k = elim (true_or (among v (sets x)) (lives v live (x ∷ xs) e) h) [ inl s ↦ ((parts x xs k a).1 s).0 | inr l ↦ first l ] in
      let high = upper (x ∷ xs) k a last h in
      (omega (arith, low), omega (arith, high))
  all_of_it (x ∷ xs) k a first last (suc j) le h =
      let ps = parts x xs k a in
      let low : lives v live xs e ≡ true → r.first ≤ k + 1 = (λ l. elim (either_way (among v (sets x))) [ inl s ↦ (let m = (ps.1 s).0 in omega (arith, m)) | inr n ↦ (let m = first (or_right (among v (uses_of x)) (not (among v (sets x)) && lives v live xs e) (and_true (not (among v (sets x))) (lives v live xs e) (ap not n) l)) in omega (arith, m)) ]) in
      let c = all_of_it xs (k + 1) ps.2 low (λ y. let m = last y in omega (arith, m)) j (omega (arith, le)) h in
      (let m = c.0 in omega (arith, m), let m = c.1 in omega (arith, m))
