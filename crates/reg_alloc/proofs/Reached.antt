-- The search forward from the start of a procedure finds the blocks that are reached.
use Rattle.std.proofs.Common.{◌≡◌, ◌≢◌, ℕ, zero, suc, ◌+◌, ◌<◌, ◌≤◌, Bool, true, false, cond, ◌⊎◌, inl, inr, List, [], ◌∷◌, ◌++◌, length, refl, sym, ap, ◌∙◌, subst, arith, Some, get_or, length-append, get_or-set_same, get_or-set_other}
use Rattle.std.specs.Prelude.{slice_get, slice_index_or, slice_set, MatchBool}
use Rattle.std.proofs.lemmas.List.{length-set, get_or_past, get_or_default}
use Rattle.std.proofs.lemmas.Bool.{cases_lt}
use Rattle.flatten.specs.Named.{AllBelow}
use Rattle.flatten.specs.Paths.{goes_to}
use Rattle.flatten.specs.declared.blocks.Block.{Block}
use Rattle.block_homes.specs.Valid.{IsNamed}
use Rattle.flatten.specs.declared.blocks.BlockProc.{BlockProc}
use Rattle.reg_alloc.specs.Steps.{Among, Leads, goes_in, next_of}
use Rattle.reg_alloc.specs.Trace.{Lead, Reach, Reaching, entered, entering, unreached}
use Rattle.reg_alloc.proofs.Lists.{same_or, among_front, among_last, among_split, got, within_among}

abbrev On : List Bool → ℕ → Type 0
On r c = slice_index_or r c false ≡ true

set_on : (r : List Bool) (t c : ℕ) → t < length r → On r c → On (slice_set r t true) c
set_on r t c lt h = elim (same_or c t) [ inl e ↦ ap (λ n. slice_index_or (slice_set r t true) n false) e ∙ get_or-set_same r t true false lt | inr ne ↦ get_or-set_other r t c true false ne ∙ h ]

below_set : (r : List Bool) (t : ℕ) (ts : List ℕ) → AllBelow (length r) ts → AllBelow (length (slice_set r t true)) ts
below_set r t ts w = subst (λ n. AllBelow n ts) (sym (length-set r t true)) w

pub entered_length : (ts : List ℕ) (r : List Bool) → length (entered ts r) ≡ length r
entered_length [] r = refl
entered_length (t ∷ ts) r = entered_length ts (slice_set r t true) ∙ length-set r t true

keeps : (ts : List ℕ) (r : List Bool) (c : ℕ) → AllBelow (length r) ts → On r c → On (entered ts r) c
keeps [] r c w h = h
keeps (t ∷ ts) r c w h = keeps ts (slice_set r t true) c (below_set r t ts w.1) (set_on r t c w.0 h)

gains : (ts : List ℕ) (r : List Bool) (c : ℕ) → AllBelow (length r) ts → Among c ts → On (entered ts r) c
gains [] r c w a = absurd a
gains (t ∷ ts) r c w (inl e) = keeps ts (slice_set r t true) c (below_set r t ts w.1) (ap (λ n. slice_index_or (slice_set r t true) n false) e ∙ get_or-set_same r t true false w.0)
gains (t ∷ ts) r c w (inr a) = gains ts (slice_set r t true) c (below_set r t ts w.1) a

only : (ts : List ℕ) (r : List Bool) (c : ℕ) → On (entered ts r) c → On r c ⊎ Among c ts
only [] r c h = inl h
only (t ∷ ts) r c h = elim (only ts (slice_set r t true) c h) [ inr a ↦ inr (inr a) | inl o ↦ elim (same_or c t) [ inl e ↦ inr (inl e) | inr ne ↦ inl (sym (get_or-set_other r t c true false ne) ∙ o) ] ]

abbrev push : Bool → List ℕ → ℕ → List ℕ
push q s t = cond q s (s ++ t ∷ [])

push_keeps : (q : Bool) (s : List ℕ) (t c : ℕ) → Among c s → Among c (push q s t)
push_keeps true s t c a = a
push_keeps false s t c a = among_front c s (t ∷ []) a

push_only : (q : Bool) (s : List ℕ) (t c : ℕ) → Among c (push q s t) → Among c s ⊎ (c ≡ t)
push_only true s t c a = inl a
push_only false s t c a = among_split c t s a

push_gains : (q : Bool) (s : List ℕ) (t : ℕ) → (q ≡ true) ⊎ Among t (push q s t)
push_gains true s t = inl refl
push_gains false s t = inr (among_last t s)

stack_keeps : (ts : List ℕ) (r : List Bool) (s : List ℕ) (c : ℕ) → Among c s → Among c (entering ts r s)
stack_keeps [] r s c a = a
stack_keeps (t ∷ ts) r s c a = stack_keeps ts (slice_set r t true) (push (slice_index_or r t false) s t) c (push_keeps (slice_index_or r t false) s t c a)

stack_only : (ts : List ℕ) (r : List Bool) (s : List ℕ) (c : ℕ) → Among c (entering ts r s) → Among c s ⊎ Among c ts
stack_only [] r s c a = inl a
stack_only (t ∷ ts) r s c a = elim (stack_only ts (slice_set r t true) (push (slice_index_or r t false) s t) c a) [ inr x ↦ inr (inr x) | inl x ↦ elim (push_only (slice_index_or r t false) s t c x) [ inl y ↦ inl y | inr e ↦ inr (inl e) ] ]

-- a block that is reached now was reached before or is on the stack
stack_gains : (ts : List ℕ) (r : List Bool) (s : List ℕ) (c : ℕ) → On (entered ts r) c → On r c ⊎ Among c (entering ts r s)
stack_gains [] r s c h = inl h
stack_gains (t ∷ ts) r s c h = elim (stack_gains ts (slice_set r t true) (push (slice_index_or r t false) s t) c h) [ inr a ↦ inr a | inl o ↦ elim (same_or c t) [ inl e ↦ here e | inr ne ↦ inl (sym (get_or-set_other r t c true false ne) ∙ o) ] ]
  where
    here : c ≡ t → On r c ⊎ Among c (entering (t ∷ ts) r s)
    here e = elim (push_gains (slice_index_or r t false) s t) [ inl q ↦ inl (ap (λ n. slice_index_or r n false) e ∙ q) | inr a ↦ inr (stack_keeps ts (slice_set r t true) (push (slice_index_or r t false) s t) c (subst (λ n. Among n (push (slice_index_or r t false) s t)) (sym e) a)) ]

-- what is left falls
set_unreached : (r : List Bool) (t : ℕ) → t < length r → unreached (slice_set r t true) + cond (slice_index_or r t false) 0 1 ≤ unreached r
set_unreached [] t lt = absurd (omega (arith, lt))
set_unreached (x ∷ xs) zero lt = omega arith
set_unreached (x ∷ xs) (suc t) lt = let r = set_unreached xs t (omega (arith, lt)) in omega (arith, r)

push_length : (q : Bool) (s : List ℕ) (t : ℕ) → length (push q s t) ≤ length s + cond q 0 1
push_length true s t = omega arith
push_length false s t = let n = length-append s (t ∷ []) in omega (arith, n)

pub entering_falls : (ts : List ℕ) (r : List Bool) (s : List ℕ) → AllBelow (length r) ts → unreached (entered ts r) + length (entering ts r s) ≤ unreached r + length s
entering_falls [] r s w = omega arith
entering_falls (t ∷ ts) r s w =
    let a = entering_falls ts (slice_set r t true) (push (slice_index_or r t false) s t) (below_set r t ts w.1) in
    let b = set_unreached r t w.0 in
    let c = push_length (slice_index_or r t false) s t in
    omega (arith, a, b, c)

module _ (p : BlockProc) where
  -- the first block alone is reached
  pub begin : (r : List Bool) → length r ≡ length p.blocks → 0 < length p.blocks → ((c : ℕ) → c < length r → slice_index_or r c false ≡ false) → Reaching p (slice_set r 0 true) (0 ∷ [])
  begin r n some none = record { count = length-set r 0 true ∙ n; first = at_0; sound = λ c h. ([], only_0 c h); waiting = λ c a. elim a [ inl e ↦ (omega (arith, e, some), ap (λ n. slice_index_or (slice_set r 0 true) n false) e ∙ at_0) | inr x ↦ absurd x ]; closed = λ c t h a. inl (inl (only_0 c h)) }
    where
      off : (c : ℕ) → slice_index_or r c false ≡ false
      off c = elim (cases_lt c (length r)) [ inl l ↦ none c l | inr g ↦ get_or_past r c false g ]

      at_0 : On (slice_set r 0 true) 0
      at_0 = get_or-set_same r 0 true false (omega (arith, n, some))

      only_0 : (c : ℕ) → On (slice_set r 0 true) c → c ≡ 0
      only_0 c h = elim (same_or c 0) [ inl e ↦ e | inr ne ↦ absurd (let q = sym (off c) ∙ sym (get_or-set_other r 0 c true false ne) ∙ h in cc) ]

  -- a block is left
  pub left_block : (r : List Bool) (s : List ℕ) (b : ℕ) (ts : List ℕ) → ts ≡ next_of p.blocks b → AllBelow (length p.blocks) ts → Reaching p r (s ++ b ∷ []) → Reaching p (entered ts r) (entering ts r s)
  left_block r s b ts e w i = record { count = entered_length ts r ∙ i.count; first = keeps ts r 0 w' i.first; sound = sound; waiting = waiting; closed = closed }
    where
      w' : AllBelow (length r) ts
      w' = subst (λ n. AllBelow n ts) (sym i.count) w

      lead : Lead p b
      lead = i.sound b (i.waiting b (among_last b s)).1

      sound : (c : ℕ) → On (entered ts r) c → Lead p c
      sound c h = elim (only ts r c h) [ inl o ↦ i.sound c o | inr a ↦ (b ∷ lead.0, (subst (λ l. Among c l) e a, lead.1)) ]

      waiting : (c : ℕ) → Among c (entering ts r s) → (c < length p.blocks) × On (entered ts r) c
      waiting c a = elim (stack_only ts r s c a) [ inl x ↦ (let y = i.waiting c (among_front c s (b ∷ []) x) in (y.0, keeps ts r c w' y.1)) | inr x ↦ (within_among (length p.blocks) ts c w x, gains ts r c w' x) ]

      old : (c t : ℕ) → Among t (next_of p.blocks c) → Among c (s ++ b ∷ []) ⊎ On r t → Among c (entering ts r s) ⊎ On (entered ts r) t
      old c t m (inr o) = inr (keeps ts r t w' o)
      old c t m (inl a) = elim (among_split c b s a) [ inl x ↦ inl (stack_keeps ts r s c x) | inr q ↦ inr (gains ts r t w' (subst (λ l. Among t l) (sym e) (subst (λ n. Among t (next_of p.blocks n)) q m))) ]

      closed : (c t : ℕ) → On (entered ts r) c → Among t (next_of p.blocks c) → Among c (entering ts r s) ⊎ On (entered ts r) t
      closed c t h m = elim (stack_gains ts r s c h) [ inr a ↦ inl a | inl o ↦ old c t m (i.closed c t o m) ]

  -- at the end all are found
  found : (r : List Bool) → Reaching p r [] → (done : List ℕ) (c : ℕ) → Leads (next_of p.blocks) c done → On r c
  found r i [] c e = subst (λ n. On r n) (sym e) i.first
  found r i (b ∷ done) c l = elim (i.closed b c (found r i done b l.1) l.0) [ inl a ↦ absurd a | inr o ↦ o ]

  pub all_found : (r : List Bool) → Reaching p r [] → Reach p r
  all_found r i = record { count = i.count; sound = i.sound; complete = λ c l. found r i l.0 c l.1 }

pub tells_reached : (p : BlockProc) (reached : List Bool) (b : ℕ) → Reach p reached → MatchBool (slice_index_or reached b false) (Lead p b) (¬ Lead p b)
tells_reached p reached b h = go (slice_index_or reached b false) refl
  where
    go : (r : Bool) → slice_index_or reached b false ≡ r → MatchBool r (Lead p b) (¬ Lead p b)
    go true e = h.sound b e
    go false e = λ l. (let q = sym e ∙ h.complete b l in cc)

-- as the code has it
module _ (p : BlockProc) (r : List Bool) (st s : List ℕ) (b : ℕ) (popped : st ≡ s ++ b ∷ []) (i : Reaching p r st) where
  on_stack : Reaching p r (s ++ b ∷ [])
  on_stack = subst (λ l. Reaching p r l) popped i

  pub top_reached : b < length p.blocks
  top_reached = (on_stack.waiting b (among_last b s)).0

  module _ (named : IsNamed p) (bs : List Block) (same : bs ≡ p.blocks) (block : Block) (is : block ≡ get_or bs b block) where
    at : block ≡ get_or p.blocks b block
    at = is ∙ ap (λ (l : List Block). get_or l b block) same

    here : slice_get p.blocks b ≡ Some block
    here = got p.blocks b block top_reached at

    below : AllBelow (length p.blocks) (goes_to block.end)
    below = subst (λ (x : Block). AllBelow (length p.blocks) (goes_to x.end)) (sym at) (named.blocks b block top_reached).2

    pub targets_below : AllBelow (length r) (goes_to block.end)
    targets_below = subst (λ n. AllBelow n (goes_to block.end)) (sym i.count) below

    pub left_more : (r' : List Bool) (s' : List ℕ) → r' ≡ entered (goes_to block.end) r → s' ≡ entering (goes_to block.end) r s → Reaching p r' s'
    left_more r' s' er es = subst (λ l. Reaching p l s') (sym er) (subst (λ l. Reaching p (entered (goes_to block.end) r) l) (sym es) (left_block p r s b (goes_to block.end) (sym (ap goes_in here)) below on_stack))
