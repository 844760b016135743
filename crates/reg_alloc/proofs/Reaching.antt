-- Each step of the search keeps what it keeps, and its end is the range.
use Rattle.std.proofs.Common.{◌≡◌, ◌≢◌, ℕ, zero, suc, ◌+◌, ◌<◌, ◌≤◌, Bool, true, false, cond, ◌&&◌, ◌||◌, not, ◌⊎◌, inl, inr, List, [], ◌∷◌, ◌++◌, length, take, drop, refl, sym, ap, ◌∙◌, subst, arith, Option, Some, None, append-nil, length-append}
use Rattle.std.specs.Prelude.{◌==◌, slice_get, slice_index, Contains}
use Rattle.std.proofs.lemmas.Bool.{eq-eqb, eqb-true, cases_lt}
use Rattle.std.proofs.lemmas.Bool.Decides.{eqb_tells}
use Rattle.std.proofs.lemmas.List.{get_or_past}
use Rattle.std.proofs.lemmas.Option.{slice_get_within, get_or_from_slice_get}
use Rattle.flatten.specs.declared.blocks.BlockInsn.{BlockInsn}
use Rattle.flatten.specs.declared.blocks.BlockEnd.{BlockEnd}
use Rattle.flatten.specs.declared.blocks.Block.{Block}
use Rattle.flatten.specs.declared.blocks.BlockProc.{BlockProc}
use Rattle.flatten.specs.Paths.{sets, goes_to}
use Rattle.block_homes.specs.Held.{total}
use Rattle.reg_alloc.specs.declared.ranges.Range.{Range}
use Rattle.reg_alloc.specs.declared.occurrences.Occurrence.{Occurrence}
use Rattle.reg_alloc.specs.Steps.{Among, goes_in, insns_in, insns_of, next_of}
use Rattle.reg_alloc.specs.Live.{LiveAt, Present, Occurs, SetsFirst}
use Rattle.reg_alloc.specs.Live.LiveAt.{Gone}
use Rattle.reg_alloc.specs.Occurs.{occurrence, named, Each, widened, hull, marked, stacked, first_in, not_set, alive, in_blocks, ends_to}
use Rattle.reg_alloc.specs.Ranges.{lives, any_live, sets_first, here, Known, LiveBlock, RangeOk, Covers, CoversAll, Settled, SettledAt, end_of, Search, RangeOf}
use Rattle.reg_alloc.proofs.Lists.{same_or, among_front, among_last, among_split}
use Rattle.reg_alloc.proofs.Exact.{total_under}
use Rattle.reg_alloc.proofs.Paths.{among_of, contains_of}
use Rattle.reg_alloc.proofs.Ranging.{lives_sound, lives_complete, Closed, or_left, or_right, two_true, and_true, target_live, live_target, among_is, is_among}
use Rattle.reg_alloc.proofs.Occurring.{each_append, each_map, each_named, Sound, all_sound, of_block, kind_of, by_kind, first_named, skip_named, first_block, lives_by_kind, all_of_it}
use Rattle.reg_alloc.proofs.Searching.{marked_length, marked_keeps, marked_gains, marked_only, marked_under, Fresh, stacked_keeps, stacked_gains, stacked_only, Wider, covers_wider, hull_wider, hull_covers, widened_ok, hull_ok}

pub is_block : (bs : List Block) (t : ℕ) → t < length bs → (b : Block) × (slice_get bs t ≡ Some b)
is_block [] t lt = absurd (omega (arith, lt))
is_block (x ∷ xs) zero lt = (x, refl)
is_block (x ∷ xs) (suc t) lt = is_block xs t (omega (arith, lt))

inside : (marks : List ℕ) (c m : ℕ) → 0 < m → slice_index marks c ≡ m → c < length marks
inside marks c m lt h = elim (cases_lt c (length marks)) [ inl l ↦ l | inr g ↦ absurd (let z = get_or_past marks c 0 g in omega (arith, z, h, lt)) ]

-- the ends that go to a block
abbrev pub Source : BlockProc → ℕ → Occurrence → Type 0
Source p t o = Among t (next_of p.blocks o.block) × (o.insn ≡ end_of p o.block) × (o.sets ≡ false) × (o.block < length p.blocks)

each_ends : (P : Occurrence → Type 0) (t : ℕ) (bs : List Block) (b k : ℕ) → ((i : ℕ) (x : Block) → slice_get bs i ≡ Some x → Contains (goes_to x.end) t → P (occurrence (b + i) (k + total (take i bs) + length x.insns) false t)) → Each P (ends_to t b k bs)
each_ends P t [] b k all = tt
each_ends P t (x ∷ bs) b k all =
    let o = occurrence b (k + length x.insns) false t in
    each_append P (named o t (goes_to x.end)) (ends_to t (b + 1) (k + (length x.insns + 1)) bs) (each_named P o t (goes_to x.end) (λ h. moved (b + 0) b (k + 0 + length x.insns) (k + length x.insns) (omega arith) (omega arith) (all 0 x refl (among_is t (goes_to x.end) h)))) (each_ends P t bs (b + 1) (k + (length x.insns + 1)) (λ i y g m. moved (b + suc i) (b + 1 + i) (k + (length x.insns + 1 + total (take i bs)) + length y.insns) (k + (length x.insns + 1) + total (take i bs) + length y.insns) (omega arith) (omega arith) (all (suc i) y g m)))
  where
    moved : (b c k l : ℕ) → b ≡ c → k ≡ l → P (occurrence b k false t) → P (occurrence c l false t)
    moved b c k l eb ek a = subst (λ n. P (occurrence c n false t)) ek (subst (λ n. P (occurrence n k false t)) eb a)

pub sources_sound : (p : BlockProc) (t : ℕ) → Each (Source p t) (ends_to t 0 0 p.blocks)
sources_sound p t = each_ends (Source p t) t p.blocks 0 0 (λ i x g m. subst (λ n. Source p t (occurrence n (0 + total (take i p.blocks) + length x.insns) false t)) (let q : i ≡ 0 + i = omega arith in q) (one i x g m))
  where
    one : (i : ℕ) (x : Block) → slice_get p.blocks i ≡ Some x → Contains (goes_to x.end) t → Source p t (occurrence i (0 + total (take i p.blocks) + length x.insns) false t)
    one i x g m =
        let n : length (insns_of p.blocks i) ≡ length x.insns = ap (λ o. length (insns_in o)) g in
        (subst (λ ts. Among t ts) (sym (ap goes_in g)) (among_of t (goes_to x.end) m), omega (arith, n), refl, slice_get_within p.blocks i x g)

first_ends : (t : ℕ) (bs : List Block) (b k i : ℕ) (x : Block) → slice_get bs i ≡ Some x → Contains (goes_to x.end) t → first_in (b + i) (ends_to t b k bs) ≡ Some false
first_ends t [] b k i x g m = absurd (cc)
first_ends t (y ∷ bs) b k zero x g m =
    let e : y ≡ x = cc in
    let more = ends_to t (b + 1) (k + (length y.insns + 1)) bs in
    let q : b + 0 ≡ b = omega arith in
    let a = is_among t (goes_to y.end) (subst (λ (z : Block). Contains (goes_to z.end) t) (sym e) m) in
    ap (λ n. first_in n (named (occurrence b (k + length y.insns) false t) t (goes_to y.end) ++ more)) q ∙ first_named b (k + length y.insns) false t (goes_to y.end) more ∙ ap (λ s. cond s (Some false) (first_in b more)) a
first_ends t (y ∷ bs) b k (suc i) x g m =
    let more = ends_to t (b + 1) (k + (length y.insns + 1)) bs in
    let q : b + suc i ≡ b + 1 + i = omega arith in
    skip_named (b + suc i) b (k + length y.insns) false t (goes_to y.end) more (λ z. omega (arith, z)) ∙ ap (λ n. first_in n more) q ∙ first_ends t bs (b + 1) (k + (length y.insns + 1)) i x g m

-- a block from which t is reached
abbrev Edge : BlockProc → ℕ → ℕ → Type 0
Edge p c t = (x : Block) × (slice_get p.blocks c ≡ Some x) × Contains (goes_to x.end) t

pub edge_of : (p : BlockProc) (c t : ℕ) → Among t (next_of p.blocks c) → Edge p c t
edge_of p c t a = go (slice_get p.blocks c) refl
  where
    go : (o : Option Block) → slice_get p.blocks c ≡ o → Edge p c t
    go None e = let n : Among t [] = subst (λ ts. Among t ts) (ap goes_in e) a in absurd n
    go (Some x) e = (x, e, contains_of t (goes_to x.end) (subst (λ ts. Among t ts) (ap goes_in e) a))

pub first_source : (p : BlockProc) (c t : ℕ) → Among t (next_of p.blocks c) → first_in c (ends_to t 0 0 p.blocks) ≡ Some false
first_source p c t a =
    let e = edge_of p c t a in
    ap (λ n. first_in n (ends_to t 0 0 p.blocks)) (let q : c ≡ 0 + c = omega arith in q) ∙ first_ends t p.blocks 0 0 c e.0 e.1 e.2

found : (P : Occurrence → Type 0) (os : List Occurrence) (c : ℕ) (s : Bool) → Each P os → first_in c os ≡ Some s → (o : Occurrence) × P o × (o.block ≡ c) × (o.sets ≡ s)
found P [] c s a h = absurd (cc)
found P (o ∷ os) c s a h = elim (eqb_tells o.block c) [ inl e ↦ (let z : Some o.sets ≡ Some s = ap (λ t. cond t (Some o.sets) (first_in c os)) (sym e.0) ∙ h in (o, a.0, e.1, cc)) | inr n ↦ found P os c s a.1 (ap (λ t. cond t (Some o.sets) (first_in c os)) (sym n.0) ∙ h) ]

known_none : (p : BlockProc) (v : ℕ) → Known p v (λ t. false)
known_none p v t h = absurd (cc)

block_under : (p : BlockProc) (b : ℕ) (x : Block) → slice_get p.blocks b ≡ Some x → total (take b p.blocks) + length x.insns < total p.blocks
block_under p b x g =
    let t = total_under p.blocks b x (slice_get_within p.blocks b x g) in
    let n = ap (λ (y : Block). length y.insns) (get_or_from_slice_get p.blocks b x x g) in
    omega (arith, t, n)

module _ (p : BlockProc) (v m : ℕ) (up : 0 < m) (few : total p.blocks < 4294967295) where
  abbrev os : List Occurrence
  os = in_blocks v 0 0 p.blocks

  alive_from : (marks : List ℕ) (c : ℕ) → slice_index marks c ≡ m → not_set (first_in c os) ≡ true → alive m os marks c ≡ true
  alive_from marks c a b = and_true (slice_index marks c == m) (not_set (first_in c os)) (eq-eqb (slice_index marks c) m a) b

  alive_parts : (marks : List ℕ) (c : ℕ) → alive m os marks c ≡ true → (slice_index marks c ≡ m) × (not_set (first_in c os) ≡ true)
  alive_parts marks c h = let r = two_true (slice_index marks c == m) (not_set (first_in c os)) h in (eqb-true (slice_index marks c) m r.0, r.1)

  -- the first occurrence in a block says whether it is live there, or the value passes
  by_first : (live : ℕ → Bool) (c : ℕ) (x : Block) (o : Option Bool) → slice_get p.blocks c ≡ Some x → first_in c os ≡ o → lives v live x.insns x.end ≡ by_kind o (any_live live (goes_to x.end))
  by_first live c x o g e = lives_by_kind v live x.insns x.end ∙ ap (λ k. by_kind k (any_live live (goes_to x.end))) (sym (first_block p v c x g) ∙ e)

  module _ (marks : List ℕ) (r : Range) (none : (c : ℕ) → slice_index marks c < m) (count : length marks ≡ length p.blocks) (ok : RangeOk p v r) where
    within : Each (λ o. o.block < length marks) os
    within = each_map (Sound p v) (λ o. o.block < length marks) (λ o s. let l = s.2 in omega (arith, l, count)) os (all_sound p v)

    unseen : (c : ℕ) → slice_index marks c ≢ m
    unseen c q = let l = none c in omega (arith, l, q)

    first_alive : (c : ℕ) → alive m os (marked m os marks) c ≡ true → first_in c os ≡ Some false
    first_alive c h =
        let a = alive_parts (marked m os marks) c h in
        elim (marked_only m os marks c a.0) [ inl q ↦ absurd (unseen c q) | inr y ↦ y.1 ∙ ap (λ s. Some s) (is_false y.0 (ap not_set (sym y.1) ∙ a.1)) ]
      where
        is_false : (s : Bool) → not s ≡ true → s ≡ false
        is_false true h = absurd (cc)
        is_false false h = refl

    waiting : (t : ℕ) → first_in t os ≡ Some false → Among t (stacked m os marks [])
    waiting t h = stacked_gains m os marks [] t (unseen t) h

    known : Known p v (alive m os (marked m os marks))
    known t h =
        let f = first_alive t h in
        let a = alive_parts (marked m os marks) t h in
        let lt : t < length p.blocks = (let i = inside (marked m os marks) t m up a.0 in let n = marked_length m os marks in omega (arith, i, n, count)) in
        let b = is_block p.blocks t lt in
        record { block = b.0; is_block = b.1; live = lives_sound p v (λ t. false) (known_none p v) b.0.insns b.0.end (by_first (λ t. false) t b.0 (Some false) b.1 f) }

    pub begin : Search p v m os (marked m os marks) (stacked m os marks []) (hull os r)
    begin = record { count = marked_length m os marks ∙ count; under = marked_under m os marks within (λ c. let l = none c in omega (arith, l)); occurs = λ c s h. marked_gains m os marks c s within h; waiting = waits; known = known; covers = hull_covers os r; begun = λ t h. inl (waiting t (first_alive t h)); edges = λ c t a h. inl (waiting t (first_alive t h)); range = hull_ok p v os r (each_map (Sound p v) (λ o. Present p v o.insn × (o.insn < 4294967295)) (λ o s. (s.0, let l = s.1 in omega (arith, l, few))) os (all_sound p v)) ok }
      where
        waits : (t : ℕ) → Among t (stacked m os marks []) → alive m os (marked m os marks) t ≡ true
        waits t a = elim (stacked_only m os marks [] t within a) [ inl x ↦ absurd x | inr f ↦ alive_from (marked m os marks) t (marked_gains m os marks t false within f.1) (ap not_set f.1) ]

  -- a block is left backwards
  module _ (marks stack : List ℕ) (t start : ℕ) (r : Range) (s : Search p v m os marks (stack ++ t ∷ []) r) (is_start : t < length p.blocks → start ≡ total (take t p.blocks)) where
    abbrev ss : List Occurrence
    ss = ends_to t 0 0 p.blocks

    abbrev marks' : List ℕ
    marks' = marked m ss marks

    abbrev stack' : List ℕ
    stack' = stacked m ss marks stack

    abbrev r' : Range
    r' = hull ss (widened r start)

    pub ends_within : Each (λ o. o.block < length marks) ss
    ends_within = each_map (Source p t) (λ o. o.block < length marks) (λ o x. let l = x.3 in let n = s.count in omega (arith, l, n)) ss (sources_sound p t)

    alive_t : alive m os marks t ≡ true
    alive_t = s.waiting t (among_last t stack)

    here_t : LiveBlock p v t
    here_t = s.known t alive_t

    pub left_within : t < length p.blocks
    left_within = slice_get_within p.blocks t here_t.block here_t.is_block

    keeps : (c : ℕ) → alive m os marks c ≡ true → alive m os marks' c ≡ true
    keeps c h = let a = alive_parts marks c h in alive_from marks' c (marked_keeps m ss marks c ends_within a.0) a.1

    only_false : (c : ℕ) (b : Bool) → first_in c ss ≡ Some b → first_in c ss ≡ Some false
    only_false c b h = let f = found (Source p t) ss c b (sources_sound p t) h in h ∙ ap (λ z. Some z) (sym f.3 ∙ f.1.2)

    only : (c : ℕ) → alive m os marks' c ≡ true → (alive m os marks c ≡ true) ⊎ Fresh m ss marks c
    only c h =
        let a = alive_parts marks' c h in
        elim (same_or (slice_index marks c) m) [ inl q ↦ inl (alive_from marks c q a.1) | inr ne ↦ elim (marked_only m ss marks c a.0) [ inl q ↦ absurd (ne q) | inr y ↦ inr (ne, only_false c y.0 y.1) ] ]

    passes : (c : ℕ) → Fresh m ss marks c → first_in c os ≡ None
    passes c f = go (first_in c os) refl
      where
        go : (o : Option Bool) → first_in c os ≡ o → first_in c os ≡ None
        go None e = e
        go (Some b) e = absurd (f.0 (s.occurs c b e))

    fresh_alive : (c : ℕ) → Fresh m ss marks c → alive m os marks' c ≡ true
    fresh_alive c f = alive_from marks' c (marked_gains m ss marks c false ends_within f.1) (ap not_set (passes c f))

    wider : Wider r r'
    wider = let a = hull_wider ss (widened r start) in (let x = a.0 in omega (arith, x), let x = a.1 in omega (arith, x))

    start_covered : Covers r' (total (take t p.blocks))
    start_covered = let a = hull_wider ss (widened r start) in let q = is_start left_within in (let x = a.0 in omega (arith, x, q), let x = a.1 in omega (arith, x, q))

    end_covered : (c : ℕ) → Among t (next_of p.blocks c) → Covers r' (end_of p c)
    end_covered c a =
        let f = found (λ o. Source p t o × Covers r' o.insn) ss c false (both ss (sources_sound p t) (hull_covers ss (widened r start))) (first_source p c t a) in
        subst (λ n. Covers r' n) (f.1.0.1 ∙ ap (λ n. end_of p n) f.2) f.1.1
      where
        both : (l : List Occurrence) → Each (Source p t) l → Each (λ o. Covers r' o.insn) l → Each (λ o. Source p t o × Covers r' o.insn) l
        both [] a b = tt
        both (o ∷ l) a b = ((a.0, b.0), both l a.1 b.1)

    waiting' : (c : ℕ) → Among c stack' → alive m os marks' c ≡ true
    waiting' c a = elim (stacked_only m ss marks stack c ends_within a) [ inl x ↦ keeps c (s.waiting c (among_front c stack (t ∷ []) x)) | inr f ↦ fresh_alive c f ]

    known' : Known p v (alive m os marks')
    known' c h = elim (only c h) [ inl a ↦ s.known c a | inr f ↦ fresh_known f ]
      where
        fresh_known : Fresh m ss marks c → LiveBlock p v c
        fresh_known f =
            let o = found (Source p t) ss c false (sources_sound p t) f.1 in
            let e = edge_of p c t (subst (λ n. Among t (next_of p.blocks n)) o.2 o.1.0) in
            record { block = e.0; is_block = e.1; live = lives_sound p v (alive m os marks) s.known e.0.insns e.0.end (by_first (alive m os marks) c e.0 None e.1 (passes c f) ∙ target_live (alive m os marks) (goes_to e.0.end) t e.2 alive_t) }

    begun' : (c : ℕ) → alive m os marks' c ≡ true → Among c stack' ⊎ Covers r' (total (take c p.blocks))
    begun' c h = elim (only c h) [ inr f ↦ inl (stacked_gains m ss marks stack c f.0 f.1) | inl a ↦ elim (s.begun c a) [ inr k ↦ inr (covers_wider r r' (total (take c p.blocks)) wider k) | inl x ↦ elim (among_split c t stack x) [ inl y ↦ inl (stacked_keeps m ss marks stack c y) | inr q ↦ inr (subst (λ n. Covers r' (total (take n p.blocks))) (sym q) start_covered) ] ] ]

    edges' : (c u : ℕ) → Among u (next_of p.blocks c) → alive m os marks' u ≡ true → Among u stack' ⊎ ((slice_index marks' c ≡ m) × Covers r' (end_of p c))
    edges' c u a h = elim (only u h) [ inr f ↦ inl (stacked_gains m ss marks stack u f.0 f.1) | inl l ↦ elim (s.edges c u a l) [ inr k ↦ inr (marked_keeps m ss marks c ends_within k.0, covers_wider r r' (end_of p c) wider k.1) | inl x ↦ elim (among_split u t stack x) [ inl y ↦ inl (stacked_keeps m ss marks stack u y) | inr q ↦ inr (let b = subst (λ n. Among n (next_of p.blocks c)) q a in (marked_gains m ss marks c false ends_within (first_source p c t b), end_covered c b)) ] ] ]

    start_present : Present p v start
    start_present = let q = is_start left_within in inr (record { at = t; block = here_t.block; is_block = here_t.is_block; ran = []; rest = here_t.block.insns; insns = refl; numbered = omega (arith, q); present = inr here_t.live })

    end_present : (o : Occurrence) → Source p t o → Present p v o.insn × (o.insn < 4294967295)
    end_present o x =
        let e = edge_of p o.block t x.0 in
        let n : length (insns_of p.blocks o.block) ≡ length e.0.insns = ap (λ z. length (insns_in z)) e.1 in
        let under = block_under p o.block e.0 e.1 in
        let k = x.1 in
        (inr (record { at = o.block; block = e.0; is_block = e.1; ran = e.0.insns; rest = []; insns = sym (append-nil e.0.insns); numbered = omega (arith, k, n); present = inr (Gone e.0.end t here_t.block e.2 here_t.is_block here_t.live) }), omega (arith, k, n, under, few))

    start_few : start < 4294967295
    start_few = let q = is_start left_within in let under = block_under p t here_t.block here_t.is_block in omega (arith, q, under, few)

    pub left : Search p v m os marks' stack' r'
    left = record { count = marked_length m ss marks ∙ s.count; under = marked_under m ss marks ends_within s.under; occurs = λ c b h. marked_keeps m ss marks c ends_within (s.occurs c b h); waiting = waiting'; known = known'; covers = each_map (λ o. Covers r o.insn) (λ o. Covers r' o.insn) (λ o c. covers_wider r r' o.insn wider c) os s.covers; begun = begun'; edges = edges'; range = hull_ok p v ss (widened r start) (each_map (Source p t) (λ o. Present p v o.insn × (o.insn < 4294967295)) end_present ss (sources_sound p t)) (widened_ok p v start r s.range start_few start_present) }

    pub left_covers : (k : ℕ) → Covers r k → Covers r' k
    left_covers k c = covers_wider r r' k wider c

  -- nothing is left
  module _ (marks : List ℕ) (r : Range) (s : Search p v m os marks [] r) where
    closed : (b : ℕ) (x : Block) → slice_get p.blocks b ≡ Some x → lives v (alive m os marks) x.insns x.end ≡ true → alive m os marks b ≡ true
    closed b x g h = go (first_in b os) refl
      where
        go : (o : Option Bool) → first_in b os ≡ o → alive m os marks b ≡ true
        go (Some k) e = alive_from marks b (s.occurs b k e) (ap not_set e ∙ sym (by_first (alive m os marks) b x (Some k) g e) ∙ h)
        go None e =
            let l = live_target (alive m os marks) (goes_to x.end) (sym (by_first (alive m os marks) b x None g e) ∙ h) in
            elim (s.edges b l.0 (subst (λ ts. Among l.0 ts) (sym (ap goes_in g)) (among_of l.0 (goes_to x.end) l.1)) l.2) [ inl a ↦ absurd a | inr k ↦ alive_from marks b k.0 (ap not_set e) ]

    covered : (b : ℕ) (x : Block) → slice_get p.blocks b ≡ Some x → CoversAll v (alive m os marks) x.insns x.end (total (take b p.blocks)) r
    covered b x g = all_of_it v b (alive m os marks) x.end r x.insns (total (take b p.blocks)) (of_block (λ o. Covers r o.insn) p v s.covers b x g) first last
      where
        first : lives v (alive m os marks) x.insns x.end ≡ true → r.first ≤ total (take b p.blocks)
        first h = elim (s.begun b (closed b x g h)) [ inl a ↦ absurd a | inr k ↦ k.0 ]

        last : any_live (alive m os marks) (goes_to x.end) ≡ true → total (take b p.blocks) + length x.insns ≤ r.last
        last h =
            let l = live_target (alive m os marks) (goes_to x.end) h in
            let n : length (insns_of p.blocks b) ≡ length x.insns = ap (λ z. length (insns_in z)) g in
            elim (s.edges b l.0 (subst (λ ts. Among l.0 ts) (sym (ap goes_in g)) (among_of l.0 (goes_to x.end) l.1)) l.2) [ inl a ↦ absurd a | inr k ↦ (let y = k.1.1 in omega (arith, y, n)) ]

    settled : Settled p v (alive m os marks) r
    settled b x g = (closed b x g, covered b x g)

    first_set : (xs : List BlockInsn) → SetsFirst v xs → sets_first v xs ≡ true
    first_set [] h = absurd h
    first_set (x ∷ xs) h = is_among v (sets x) h

    drop_over : (ran rest : List BlockInsn) → drop (length ran) (ran ++ rest) ≡ rest
    drop_over [] rest = refl
    drop_over (x ∷ ran) rest = drop_over ran rest

    occurs : (k : ℕ) → Occurs p v k → Covers r k
    occurs k o =
        let c = (settled o.at o.block o.is_block).1 in
        let d : drop (length o.ran) o.block.insns ≡ o.rest = ap (λ l. drop (length o.ran) l) o.insns ∙ drop_over o.ran o.rest in
        let h : here v (alive m os marks) o.rest o.block.end ≡ true = elim o.present [ inl a ↦ or_left (sets_first v o.rest) (lives v (alive m os marks) o.rest o.block.end) (first_set o.rest a) | inr l ↦ or_right (sets_first v o.rest) (lives v (alive m os marks) o.rest o.block.end) (lives_complete p v (alive m os marks) closed o.rest o.block.end l) ] in
        let n : length o.ran ≤ length o.block.insns = (let a = ap length o.insns in let b = length-append o.ran o.rest in omega (arith, a, b)) in
        subst (λ n. Covers r n) (sym o.numbered) (c (length o.ran) n (ap (λ l. here v (alive m os marks) l o.block.end) d ∙ h))

    pub range_exact : (v < p.params → Covers r 0) → RangeOf p v r
    range_exact param = record { ends = s.range; covers = covers }
      where
        covers : (k : ℕ) → Present p v k → Covers r k
        covers k (inl a) = subst (λ n. Covers r n) (sym a.1) (param a.0)
        covers k (inr o) = occurs k o

-- as the code has them
pub same_search : (p : BlockProc) (v m : ℕ) (os : List Occurrence) (marks stack : List ℕ) (r : Range) (marks' stack' : List ℕ) (r' : Range) → marks' ≡ marks → stack' ≡ stack → r' ≡ r → Search p v m os marks stack r → Search p v m os marks' stack' r'
same_search p v m os marks stack r marks' stack' r' em es er s = subst (λ x. Search p v m os marks' stack' x) (sym er) (subst (λ x. Search p v m os marks' x r) (sym es) (subst (λ x. Search p v m os x stack r) (sym em) s))

pub named_within : (p : BlockProc) (v : ℕ) (marks : List ℕ) (occurrences : List Occurrence) → length marks ≡ length p.blocks → occurrences ≡ in_blocks v 0 0 p.blocks → Each (λ o. o.block < length marks) occurrences
named_within p v marks occurrences count e = subst (λ l. Each (λ o. o.block < length marks) l) (sym e) (each_map (Sound p v) (λ o. o.block < length marks) (λ o s. let l = s.2 in omega (arith, l, count)) (in_blocks v 0 0 p.blocks) (all_sound p v))

pub sources_within : (p : BlockProc) (t : ℕ) (marks : List ℕ) (sources : List Occurrence) → length marks ≡ length p.blocks → sources ≡ ends_to t 0 0 p.blocks → Each (λ o. o.block < length marks) sources
sources_within p t marks sources count e = subst (λ l. Each (λ o. o.block < length marks) l) (sym e) (each_map (Source p t) (λ o. o.block < length marks) (λ o x. let l = x.3 in omega (arith, l, count)) (ends_to t 0 0 p.blocks) (sources_sound p t))

pub top_within : (p : BlockProc) (v m t : ℕ) (os : List Occurrence) (marks stack : List ℕ) (r : Range) → Search p v m os marks (stack ++ t ∷ []) r → t < length p.blocks
top_within p v m t os marks stack r s = let b = s.known t (s.waiting t (among_last t stack)) in slice_get_within p.blocks t b.block b.is_block
