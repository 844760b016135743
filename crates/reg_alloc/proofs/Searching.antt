-- The search back from the uses of a value, and what it finds.
use Rattle.std.proofs.Common.{◌≡◌, ◌≢◌, ℕ, zero, suc, ◌+◌, ◌<◌, ◌≤◌, Bool, true, false, cond, ◌&&◌, ◌||◌, not, ◌⊎◌, inl, inr, List, [], ◌∷◌, ◌++◌, length, take, refl, sym, ap, ◌∙◌, subst, arith, Option, Some, None, length-append, get_or-set_same, get_or-set_other}
use Rattle.std.specs.Prelude.{◌==◌, min, max, slice_get, slice_index, slice_set, Contains}
use Rattle.std.proofs.lemmas.Bool.{eq-eqb, ne_eqb, eqb-true}
use Rattle.std.proofs.lemmas.Bool.Decides.{eqb_tells}
use Rattle.std.proofs.lemmas.List.{length-set}
use Rattle.std.proofs.lemmas.Option.{slice_get_within}
use Rattle.flatten.specs.declared.blocks.BlockInsn.{BlockInsn}
use Rattle.flatten.specs.declared.blocks.Block.{Block}
use Rattle.flatten.specs.declared.blocks.BlockProc.{BlockProc}
use Rattle.flatten.specs.Paths.{goes_to}
use Rattle.block_homes.specs.Held.{total}
use Rattle.reg_alloc.specs.declared.ranges.Range.{Range}
use Rattle.reg_alloc.specs.declared.occurrences.Occurrence.{Occurrence}
use Rattle.reg_alloc.specs.Steps.{Among, goes_in, insns_in, insns_of, next_of}
use Rattle.reg_alloc.specs.Live.{Present}
use Rattle.reg_alloc.specs.Occurs.{Each, widened, hull, marked, stacked, unmarked, first_in, not_set, alive, in_blocks}
use Rattle.reg_alloc.specs.Ranges.{lives, any_live, Known, LiveBlock, RangeOk, Covers, end_of, Search}
use Rattle.reg_alloc.proofs.Lists.{same_or, among_front, among_last, among_split}
use Rattle.reg_alloc.proofs.Paths.{contains_of}
use Rattle.reg_alloc.proofs.Ranging.{lives_sound, or_left, or_right, two_true, and_true, target_live}
use Rattle.reg_alloc.proofs.Occurring.{each_map, Sound, kind_of, first_block, lives_by_kind, by_kind}

-- marks
abbrev Within : ℕ → List Occurrence → Type 0
Within n os = Each (λ o. o.block < n) os

pub marked_length : (m : ℕ) (os : List Occurrence) (marks : List ℕ) → length (marked m os marks) ≡ length marks
marked_length m [] marks = refl
marked_length m (o ∷ os) marks = marked_length m os (slice_set marks o.block m) ∙ length-set marks o.block m

within_set : (m : ℕ) (o : Occurrence) (os : List Occurrence) (marks : List ℕ) → Within (length marks) os → Within (length (slice_set marks o.block m)) os
within_set m o os marks w = subst (λ n. Within n os) (sym (length-set marks o.block m)) w

pub marked_keeps : (m : ℕ) (os : List Occurrence) (marks : List ℕ) (c : ℕ) → Within (length marks) os → slice_index marks c ≡ m → slice_index (marked m os marks) c ≡ m
marked_keeps m [] marks c w h = h
marked_keeps m (o ∷ os) marks c w h = marked_keeps m os (slice_set marks o.block m) c (within_set m o os marks w.1) (elim (same_or c o.block) [ inl e ↦ ap (λ n. slice_index (slice_set marks o.block m) n) e ∙ get_or-set_same marks o.block m 0 w.0 | inr ne ↦ get_or-set_other marks o.block c m 0 ne ∙ h ])

pub marked_gains : (m : ℕ) (os : List Occurrence) (marks : List ℕ) (c : ℕ) (s : Bool) → Within (length marks) os → first_in c os ≡ Some s → slice_index (marked m os marks) c ≡ m
marked_gains m [] marks c s w h = absurd (cc)
marked_gains m (o ∷ os) marks c s w h = elim (eqb_tells o.block c) [ inl e ↦ marked_keeps m os (slice_set marks o.block m) c (within_set m o os marks w.1) (ap (λ n. slice_index (slice_set marks o.block m) n) (sym e.1) ∙ get_or-set_same marks o.block m 0 w.0) | inr n ↦ marked_gains m os (slice_set marks o.block m) c s (within_set m o os marks w.1) (ap (λ t. cond t (Some o.sets) (first_in c os)) (sym n.0) ∙ h) ]

pub marked_only : (m : ℕ) (os : List Occurrence) (marks : List ℕ) (c : ℕ) → slice_index (marked m os marks) c ≡ m → (slice_index marks c ≡ m) ⊎ ((s : Bool) × (first_in c os ≡ Some s))
marked_only m [] marks c h = inl h
marked_only m (o ∷ os) marks c h = elim (eqb_tells o.block c) [ inl e ↦ inr (o.sets, ap (λ t. cond t (Some o.sets) (first_in c os)) e.0) | inr n ↦ elim (marked_only m os (slice_set marks o.block m) c h) [ inl y ↦ inl (sym (get_or-set_other marks o.block c m 0 (λ q. n.1 (sym q))) ∙ y) | inr y ↦ inr (y.0, ap (λ t. cond t (Some o.sets) (first_in c os)) n.0 ∙ y.1) ] ]

set_under : (m : ℕ) (marks : List ℕ) (b : ℕ) → ((c : ℕ) → slice_index marks c ≤ m) → b < length marks → (c : ℕ) → slice_index (slice_set marks b m) c ≤ m
set_under m marks b u lt c = elim (same_or c b) [ inl e ↦ (let q : slice_index (slice_set marks b m) c ≡ m = ap (λ n. slice_index (slice_set marks b m) n) e ∙ get_or-set_same marks b m 0 lt in omega (arith, q)) | inr ne ↦ (let q = get_or-set_other marks b c m 0 ne in let l = u c in omega (arith, q, l)) ]

pub marked_under : (m : ℕ) (os : List Occurrence) (marks : List ℕ) → Within (length marks) os → ((c : ℕ) → slice_index marks c ≤ m) → (c : ℕ) → slice_index (marked m os marks) c ≤ m
marked_under m [] marks w u c = u c
marked_under m (o ∷ os) marks w u c = marked_under m os (slice_set marks o.block m) (within_set m o os marks w.1) (set_under m marks o.block u w.0) c

-- the stack
abbrev step : ℕ → Occurrence → List ℕ → List ℕ → List ℕ
step m o marks stack = cond ((slice_index marks o.block == m) || o.sets) stack (stack ++ o.block ∷ [])

step_keeps : (t m : ℕ) (o : Occurrence) (marks stack : List ℕ) → Among t stack → Among t (step m o marks stack)
step_keeps t m o marks stack a = go ((slice_index marks o.block == m) || o.sets)
  where
    go : (q : Bool) → Among t (cond q stack (stack ++ o.block ∷ []))
    go true = a
    go false = among_front t stack (o.block ∷ []) a

step_gains : (m : ℕ) (o : Occurrence) (marks stack : List ℕ) → slice_index marks o.block ≢ m → o.sets ≡ false → Among o.block (step m o marks stack)
step_gains m o marks stack ne s = subst (λ q. Among o.block (cond q stack (stack ++ o.block ∷ []))) (sym (ap (λ x. x || o.sets) (ne_eqb (slice_index marks o.block) m ne) ∙ s)) (among_last o.block stack)

both_false : (a b : Bool) → (a || b) ≡ false → (a ≡ false) × (b ≡ false)
both_false true b h = absurd (cc)
both_false false b h = (refl, h)

step_only : (t m : ℕ) (o : Occurrence) (marks stack : List ℕ) → Among t (step m o marks stack) → Among t stack ⊎ ((t ≡ o.block) × (slice_index marks o.block ≢ m) × (o.sets ≡ false))
step_only t m o marks stack a = go ((slice_index marks o.block == m) || o.sets) refl a
  where
    fresh : ((slice_index marks o.block == m) || o.sets) ≡ false → (slice_index marks o.block ≢ m) × (o.sets ≡ false)
    fresh e = let b = both_false (slice_index marks o.block == m) o.sets e in (λ q. (let y = eq-eqb (slice_index marks o.block) m q in let n = b.0 in cc), b.1)

    go : (q : Bool) → ((slice_index marks o.block == m) || o.sets) ≡ q → Among t (cond q stack (stack ++ o.block ∷ [])) → Among t stack ⊎ ((t ≡ o.block) × (slice_index marks o.block ≢ m) × (o.sets ≡ false))
    go true e x = inl x
    go false e x = elim (among_split t o.block stack x) [ inl y ↦ inl y | inr y ↦ (let f = fresh e in inr (y, f.0, f.1)) ]

pub stacked_keeps : (m : ℕ) (os : List Occurrence) (marks stack : List ℕ) (t : ℕ) → Among t stack → Among t (stacked m os marks stack)
stacked_keeps m [] marks stack t a = a
stacked_keeps m (o ∷ os) marks stack t a = stacked_keeps m os (slice_set marks o.block m) (step m o marks stack) t (step_keeps t m o marks stack a)

pub stacked_gains : (m : ℕ) (os : List Occurrence) (marks stack : List ℕ) (c : ℕ) → slice_index marks c ≢ m → first_in c os ≡ Some false → Among c (stacked m os marks stack)
stacked_gains m [] marks stack c ne h = absurd (cc)
stacked_gains m (o ∷ os) marks stack c ne h = elim (eqb_tells o.block c) [ inl e ↦ stacked_keeps m os (slice_set marks o.block m) (step m o marks stack) c (subst (λ x. Among x (step m o marks stack)) e.1 (step_gains m o marks stack (λ q. ne (ap (λ x. slice_index marks x) (sym e.1) ∙ q)) (let z : Some o.sets ≡ Some false = ap (λ t. cond t (Some o.sets) (first_in c os)) (sym e.0) ∙ h in cc))) | inr n ↦ stacked_gains m os (slice_set marks o.block m) (step m o marks stack) c (λ q. ne (sym (get_or-set_other marks o.block c m 0 (λ z. n.1 (sym z))) ∙ q)) (ap (λ t. cond t (Some o.sets) (first_in c os)) (sym n.0) ∙ h) ]

abbrev pub Fresh : ℕ → List Occurrence → List ℕ → ℕ → Type 0
Fresh m os marks t = (slice_index marks t ≢ m) × (first_in t os ≡ Some false)

pub stacked_only : (m : ℕ) (os : List Occurrence) (marks stack : List ℕ) (t : ℕ) → Within (length marks) os → Among t (stacked m os marks stack) → Among t stack ⊎ Fresh m os marks t
stacked_only m [] marks stack t w a = inl a
stacked_only m (o ∷ os) marks stack t w a = elim (stacked_only m os (slice_set marks o.block m) (step m o marks stack) t (within_set m o os marks w.1) a) [ inl x ↦ elim (step_only t m o marks stack x) [ inl y ↦ inl y | inr y ↦ inr (λ q. y.1 (ap (λ n. slice_index marks n) (sym y.0) ∙ q), ap (λ b. cond b (Some o.sets) (first_in t os)) (eq-eqb o.block t (sym y.0)) ∙ ap (λ s. Some s) y.2) ] | inr x ↦ elim (eqb_tells o.block t) [ inl e ↦ absurd (x.0 (ap (λ n. slice_index (slice_set marks o.block m) n) (sym e.1) ∙ get_or-set_same marks o.block m 0 w.0)) | inr n ↦ inr (λ q. x.0 (get_or-set_other marks o.block t m 0 (λ z. n.1 (sym z)) ∙ q), ap (λ b. cond b (Some o.sets) (first_in t os)) n.0 ∙ x.1) ] ]

-- what is left falls
abbrev pick : Bool → ℕ
pick t = cond t 0 1

abbrev open_at : ℕ → ℕ → ℕ
open_at m x = pick (x == m)

pub set_unmarked : (m : ℕ) (marks : List ℕ) (b : ℕ) → b < length marks → unmarked m (slice_set marks b m) + cond (slice_index marks b == m) 0 1 ≤ unmarked m marks
set_unmarked m [] b lt = absurd (omega (arith, lt))
set_unmarked m (x ∷ xs) zero lt = let e : open_at m m ≡ 0 = ap pick (eq-eqb m m refl) in omega (arith, e)
set_unmarked m (x ∷ xs) (suc b) lt = let r = set_unmarked m xs b (omega (arith, lt)) in omega (arith, r)

step_length : (m : ℕ) (o : Occurrence) (marks stack : List ℕ) → length (step m o marks stack) ≤ length stack + cond (slice_index marks o.block == m) 0 1
step_length m o marks stack = go (slice_index marks o.block == m) o.sets
  where
    go : (a b : Bool) → length (cond (a || b) stack (stack ++ o.block ∷ [])) ≤ length stack + cond a 0 1
    go true b = omega arith
    go false true = omega arith
    go false false = let n = length-append stack (o.block ∷ []) in omega (arith, n)

pub search_falls : (m : ℕ) (os : List Occurrence) (marks stack : List ℕ) → Within (length marks) os → unmarked m (marked m os marks) + length (stacked m os marks stack) ≤ unmarked m marks + length stack
search_falls m [] marks stack w = omega arith
search_falls m (o ∷ os) marks stack w =
    let r = search_falls m os (slice_set marks o.block m) (step m o marks stack) (within_set m o os marks w.1) in
    let a = set_unmarked m marks o.block w.0 in
    let b = step_length m o marks stack in
    omega (arith, r, a, b)

-- ranges
abbrev pub Wider : Range → Range → Type 0
Wider old new = (new.first ≤ old.first) × (old.last ≤ new.last)

pub widened_wider : (r : Range) (k : ℕ) → Wider r (widened r k)
widened_wider r k = (omega arith, omega arith)

widened_covers : (r : Range) (k : ℕ) → Covers (widened r k) k
widened_covers r k = (omega arith, omega arith)

pub covers_wider : (r s : Range) (k : ℕ) → Wider r s → Covers r k → Covers s k
covers_wider r s k w c = (omega (arith, w.0, c.0), omega (arith, w.1, c.1))

pub hull_wider : (os : List Occurrence) (r : Range) → Wider r (hull os r)
hull_wider [] r = (omega arith, omega arith)
hull_wider (o ∷ os) r = let a = hull_wider os (widened r o.insn) in let b = widened_wider r o.insn in (let x = a.0 in let y = b.0 in omega (arith, x, y), let x = a.1 in let y = b.1 in omega (arith, x, y))

pub hull_covers : (os : List Occurrence) (r : Range) → Each (λ o. Covers (hull os r) o.insn) os
hull_covers [] r = tt
hull_covers (o ∷ os) r = (covers_wider (widened r o.insn) (hull os (widened r o.insn)) o.insn (hull_wider os (widened r o.insn)) (widened_covers r o.insn), hull_covers os (widened r o.insn))

pub widened_ok : (p : BlockProc) (v k : ℕ) (r : Range) → RangeOk p v r → k < 4294967295 → Present p v k → RangeOk p v (widened r k)
widened_ok p v k r (inl e) lt here =
    let a : k ≡ min r.first k = (let x = e.0 in omega (arith, x, lt)) in
    let b : k ≡ max r.last k = (let x = e.1 in omega (arith, x)) in
    inr (subst (λ n. Present p v n) a here, subst (λ n. Present p v n) b here, omega (arith, a, b))
widened_ok p v k r (inr e) lt here = inr (low, high, let x = e.2 in omega (arith, x))
  where
    low : Present p v (min r.first k)
    low = elim (same_or (min r.first k) r.first) [ inl q ↦ subst (λ n. Present p v n) (sym q) e.0 | inr ne ↦ (let q : k ≡ min r.first k = omega (arith, ne) in subst (λ n. Present p v n) q here) ]

    high : Present p v (max r.last k)
    high = elim (same_or (max r.last k) r.last) [ inl q ↦ subst (λ n. Present p v n) (sym q) e.1 | inr ne ↦ (let q : k ≡ max r.last k = omega (arith, ne) in subst (λ n. Present p v n) q here) ]

pub hull_ok : (p : BlockProc) (v : ℕ) (os : List Occurrence) (r : Range) → Each (λ o. Present p v o.insn × (o.insn < 4294967295)) os → RangeOk p v r → RangeOk p v (hull os r)
hull_ok p v [] r a ok = ok
hull_ok p v (o ∷ os) r a ok = hull_ok p v os (widened r o.insn) a.1 (widened_ok p v o.insn r ok a.0.1 a.0.0)
