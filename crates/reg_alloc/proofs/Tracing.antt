-- The search back from a use: each step keeps what it keeps, and its end is the answer.
use Rattle.std.proofs.Common.{◌≡◌, ◌≢◌, ℕ, zero, suc, ◌+◌, ◌<◌, ◌≤◌, Bool, true, false, cond, ◌⊎◌, inl, inr, List, [], ◌∷◌, ◌++◌, length, refl, sym, ap, ◌∙◌, subst, arith, Option, Some, None, length-append, get_or-set_same, get_or-set_other}
use Rattle.std.specs.Prelude.{◌==◌, slice_index, slice_set, MatchBool}
use Rattle.std.proofs.lemmas.Bool.{eq-eqb, ne_eqb}
use Rattle.std.proofs.lemmas.Bool.Decides.{eqb_tells}
use Rattle.std.proofs.lemmas.List.{length-set}
use Rattle.std.proofs.lemmas.Option.{slice_get_within}
use Rattle.flatten.specs.declared.blocks.BlockProc.{BlockProc}
use Rattle.reg_alloc.specs.declared.occurrences.Occurrence.{Occurrence}
use Rattle.reg_alloc.specs.Steps.{Among, Leads, next_of, init_of, step_of}
use Rattle.reg_alloc.specs.Occurs.{Each, first_in, ends_to, unmarked}
use Rattle.reg_alloc.specs.Trace.{Lead, Good, Bad, Passes, Writes, Stale, Current, AllStale, Ends, Claims, Stepped, SteppedAll, EndTo, From, Through, Closed, Trace, IsOf, Looks, Scans, UseKept, UseLost, behind, cur, now_at}
use Rattle.reg_alloc.specs.Trace.Stepped.{Unreached, Made, Lost, Known, Passed}
use Rattle.reg_alloc.proofs.Lists.{same_or, among_front, among_last, among_split}
use Rattle.reg_alloc.proofs.Searching.{set_unmarked}
use Rattle.reg_alloc.proofs.Occurring.{each_map}
use Rattle.reg_alloc.proofs.Reaching.{edge_of, first_source, Source, sources_sound}

-- each end that goes to a block is among its sources
from_first : (c : ℕ) (s : Bool) (os : List Occurrence) → first_in c os ≡ Some s → From c os
from_first c s [] e = absurd (cc)
from_first c s (o ∷ os) e = elim (eqb_tells o.block c) [ inl y ↦ inl (sym y.1) | inr n ↦ inr (from_first c s os (ap (λ t. cond t (Some o.sets) (first_in c os)) (sym n.0) ∙ e)) ]

pub from_source : (p : BlockProc) (c t : ℕ) → Among t (next_of p.blocks c) → From c (ends_to t 0 0 p.blocks)
from_source p c t a = from_first c false (ends_to t 0 0 p.blocks) (first_source p c t a)

pub source_within : (p : BlockProc) (c t : ℕ) → Among t (next_of p.blocks c) → c < length p.blocks
source_within p c t a = let e = edge_of p c t a in slice_get_within p.blocks c e.0 e.1

module _ (places : List ℕ) (p : BlockProc) (v b : ℕ) (lv : v < p.values) (lb : b < length p.blocks) where
  abbrev h : ℕ
  h = slice_index places v

  abbrev G : ℕ → Type 0
  G t = Good places p v t

  abbrev B : ℕ → Type 0
  B t = Bad places p v t

  abbrev T : List ℕ → List ℕ → ℕ → List Occurrence → Type 0
  T = Trace places p v b

  abbrev C : List ℕ → List Occurrence → ℕ → Type 0
  C claims todo t = Closed places p v claims todo t

  abbrev Old : List ℕ → ℕ → Type 0
  Old claims t = Stale places p h (slice_index claims t) ⊎ (Current places p h (slice_index claims t) × Good places p (slice_index claims t) t)

  -- block t is claimed to hold v
  module _ (claims : List ℕ) (t : ℕ) (lt : t < length claims) where
    abbrev claims' : List ℕ
    claims' = slice_set claims t v

    same : slice_index claims' t ≡ v
    same = get_or-set_same claims t v 0 lt

    other : (c : ℕ) → c ≢ t → slice_index claims' c ≡ slice_index claims c
    other c ne = get_or-set_other claims t c v 0 ne

    keeps : (c : ℕ) → slice_index claims c ≡ v → slice_index claims' c ≡ v
    keeps c e = elim (same_or c t) [ inl q ↦ ap (λ n. slice_index claims' n) q ∙ same | inr ne ↦ other c ne ∙ e ]

    through_more : (c : ℕ) → Through places p v claims c → Through places p v claims' c
    through_more c (inl w) = inl w
    through_more c (inr x) = inr (x.0, keeps c x.1)

    closed_more : (todo : List Occurrence) (s : ℕ) → C claims todo s → C claims' todo s
    closed_more todo s k = (k.0, λ c a l. elim (k.1 c a l) [ inl f ↦ inl f | inr x ↦ inr (through_more c x) ])

    old_more : (s : ℕ) → s ≢ t → Old claims s → Old claims' s
    old_more s ne o = subst (λ w. Stale places p h w ⊎ (Current places p h w × Good places p w s)) (sym (other s ne)) o

    old_other : ((s : ℕ) → s < length p.blocks → slice_index claims s ≢ v → Old claims s) → (s : ℕ) → s < length p.blocks → slice_index claims' s ≢ v → Old claims' s
    old_other all s ls ne = elim (same_or s t) [ inl q ↦ absurd (ne (ap (λ n. slice_index claims' n) q ∙ same)) | inr d ↦ old_more s d (all s ls (λ q. ne (other s d ∙ q))) ]

  -- the beginning
  pub begin : (claims : List ℕ) → Claims places p h claims → slice_index claims b ≢ v → T (slice_set claims b v) (b ∷ []) b []
  begin claims cs ne = record { count = length-set claims b v ∙ cs.count; others = old_other claims b lb' (λ s ls d. cs.each s ls); begun = same claims b lb'; waiting = waiting; closed = closed; back = λ x. x }
    where
      lb' : b < length claims
      lb' = omega (arith, lb, cs.count)

      waiting : (t : ℕ) → Among t (b ∷ []) → (t < length p.blocks) × (B t → B b)
      waiting t (inl e) = (omega (arith, e, lb), λ x. subst (λ n. B n) e x)
      waiting t (inr a) = elim a [ ]

      good : (t : ℕ) → slice_index claims t ≡ v → Old claims t → G t
      good t e (inl (inl z)) = absurd (omega (arith, e, z, lv))
      good t e (inl (inr z)) = absurd (let q = ap (λ w. slice_index places w) e in let l = z.1 in omega (arith, q, l))
      good t e (inr z) = subst (λ w. Good places p w t) e z.1

      closed : (t : ℕ) → t < length p.blocks → slice_index (slice_set claims b v) t ≡ v → Among t (b ∷ []) ⊎ (G t ⊎ (C (slice_set claims b v) [] t ⊎ ((t ≡ b) × C (slice_set claims b v) [] t)))
      closed t lt e = elim (same_or t b) [ inl q ↦ inl (inl q) | inr d ↦ (let f = sym (other claims b lb' t d) ∙ e in inr (inl (good t f (cs.each t lt)))) ]

  pub known_good : (claims : List ℕ) → Claims places p h claims → slice_index claims b ≡ v → G b
  known_good claims cs e = go (cs.each b lb)
    where
      go : Old claims b → G b
      go (inl (inl z)) = absurd (omega (arith, e, z, lv))
      go (inl (inr z)) = absurd (let q = ap (λ w. slice_index places w) e in let l = z.1 in omega (arith, q, l))
      go (inr z) = subst (λ w. Good places p w b) e z.1

  pub begin_as : (claims claims' stack' : List ℕ) → claims' ≡ slice_set claims b v → stack' ≡ b ∷ [] → Claims places p h claims → slice_index claims b ≢ v → T claims' stack' b []
  begin_as claims claims' stack' ec es cs ne = subst (λ l. T l stack' b []) (sym ec) (subst (λ l. T (slice_set claims b v) l b []) (sym es) (begin claims cs ne))

  -- a block is taken from the stack
  pub taken : (claims stack : List ℕ) (t now : ℕ) (sources : List Occurrence) → T claims (stack ++ t ∷ []) now [] → (t ≡ 0 → init_of places p h ≡ v) → ((c : ℕ) → Among t (next_of p.blocks c) → From c sources) → T claims stack t sources
  taken claims stack t now sources s start all = record { count = s.count; others = s.others; begun = s.begun; waiting = λ c a. s.waiting c (among_front c stack (t ∷ []) a); closed = λ c lt e. go c (s.closed c lt e); back = (s.waiting t (among_last t stack)).1 }
    where
      here : (c : ℕ) → c ≡ t → C claims sources c
      here c e = subst (λ n. C claims sources n) (sym e) (start, λ d a l. inl (all d a))

      go : (c : ℕ) → Among c (stack ++ t ∷ []) ⊎ (G c ⊎ (C claims [] c ⊎ ((c ≡ now) × C claims [] c))) → Among c stack ⊎ (G c ⊎ (C claims [] c ⊎ ((c ≡ t) × C claims sources c)))
      go c (inl a) = elim (among_split c t stack a) [ inl x ↦ inl x | inr e ↦ inr (inr (inr (e, here c e))) ]
      go c (inr (inl g)) = inr (inl g)
      go c (inr (inr (inl k))) = inr (inr (inl k))
      go c (inr (inr (inr k))) = inr (inr (inl k.1))

  pub start_lost : (claims stack : List ℕ) (t now : ℕ) → T claims (stack ++ t ∷ []) now [] → t ≡ 0 → init_of places p h ≢ v → B b
  start_lost claims stack t now s z ne = (s.waiting t (among_last t stack)).1 ([], z, ne)

  pub top_under : (claims stack : List ℕ) (t now : ℕ) → T claims (stack ++ t ∷ []) now [] → t < length p.blocks
  top_under claims stack t now s = (s.waiting t (among_last t stack)).0

  -- a source is done with that hands on v, or that no path leads to
  skip : (claims stack : List ℕ) (now : ℕ) (o : Occurrence) (todo : List Occurrence) → (Lead p o.block → Through places p v claims o.block) → T claims stack now (o ∷ todo) → T claims stack now todo
  skip claims stack now o todo done s = record { count = s.count; others = s.others; begun = s.begun; waiting = s.waiting; closed = λ t lt e. go t (s.closed t lt e); back = s.back }
    where
      less : (t c : ℕ) → Lead p c → From c (o ∷ todo) ⊎ Through places p v claims c → From c todo ⊎ Through places p v claims c
      less t c l (inl (inl e)) = inr (subst (λ n. Through places p v claims n) (sym e) (done (subst (λ n. Lead p n) e l)))
      less t c l (inl (inr f)) = inl f
      less t c l (inr x) = inr x

      go : (t : ℕ) → Among t stack ⊎ (G t ⊎ (C claims [] t ⊎ ((t ≡ now) × C claims (o ∷ todo) t))) → Among t stack ⊎ (G t ⊎ (C claims [] t ⊎ ((t ≡ now) × C claims todo t)))
      go t (inl a) = inl a
      go t (inr (inl g)) = inr (inl g)
      go t (inr (inr (inl k))) = inr (inr (inl k))
      go t (inr (inr (inr k))) = inr (inr (inr (k.0, (k.1.0, λ c a l. less t c l (k.1.1 c a l)))))

  -- or it is put on the stack
  pushed : (claims stack : List ℕ) (now : ℕ) (o : Occurrence) (todo : List Occurrence) → Among now (next_of p.blocks o.block) → o.block < length p.blocks → Passes places p h o.block → T claims stack now (o ∷ todo) → T (slice_set claims o.block v) (stack ++ o.block ∷ []) now todo
  pushed claims stack now o todo m lo pass s = record { count = length-set claims o.block v ∙ s.count; others = old_other claims o.block lc s.others; begun = keeps claims o.block lc b s.begun; waiting = waiting; closed = closed; back = s.back }
    where
      lc : o.block < length claims
      lc = omega (arith, lo, s.count)

      bad_on : B o.block → B b
      bad_on x = s.back (o.block ∷ x.0, (m, x.1), λ q. x.2 (sym (pass (behind places p h x.0)) ∙ q))

      waiting : (t : ℕ) → Among t (stack ++ o.block ∷ []) → (t < length p.blocks) × (B t → B b)
      waiting t a = elim (among_split t o.block stack a) [ inl x ↦ s.waiting t x | inr e ↦ (omega (arith, e, lo), λ x. bad_on (subst (λ n. B n) e x)) ]

      less : (c : ℕ) → From c (o ∷ todo) ⊎ Through places p v claims c → From c todo ⊎ Through places p v (slice_set claims o.block v) c
      less c (inl (inl e)) = inr (inr (subst (λ n. Passes places p h n) (sym e) pass, ap (λ n. slice_index (slice_set claims o.block v) n) e ∙ same claims o.block lc))
      less c (inl (inr f)) = inl f
      less c (inr x) = inr (through_more claims o.block lc c x)

      go : (t : ℕ) → Among t stack ⊎ (G t ⊎ (C claims [] t ⊎ ((t ≡ now) × C claims (o ∷ todo) t))) → Among t (stack ++ o.block ∷ []) ⊎ (G t ⊎ (C (slice_set claims o.block v) [] t ⊎ ((t ≡ now) × C (slice_set claims o.block v) todo t)))
      go t (inl a) = inl (among_front t stack (o.block ∷ []) a)
      go t (inr (inl g)) = inr (inl g)
      go t (inr (inr (inl k))) = inr (inr (inl (closed_more claims o.block lc [] t k)))
      go t (inr (inr (inr k))) = inr (inr (inr (k.0, (k.1.0, λ c a l. less c (k.1.1 c a l)))))

      closed : (t : ℕ) → t < length p.blocks → slice_index (slice_set claims o.block v) t ≡ v → Among t (stack ++ o.block ∷ []) ⊎ (G t ⊎ (C (slice_set claims o.block v) [] t ⊎ ((t ≡ now) × C (slice_set claims o.block v) todo t)))
      closed t lt e = elim (same_or t o.block) [ inl q ↦ inl (subst (λ n. Among n (stack ++ o.block ∷ [])) (sym q) (among_last o.block stack)) | inr d ↦ go t (s.closed t lt (sym (other claims o.block lc t d) ∙ e)) ]

  pub stepped : (claims stack : List ℕ) (now : ℕ) (o : Occurrence) (todo : List Occurrence) (claims' stack' : List ℕ) (ok : Bool) → Among now (next_of p.blocks o.block) → o.block < length p.blocks → Stepped places p v o.block claims stack claims' stack' ok → T claims stack now (o ∷ todo) → MatchBool ok (T claims' stack' now todo) (B b)
  stepped claims stack now o todo _ _ _ m lo (Unreached n) s = skip claims stack now o todo (λ l. absurd (n l)) s
  stepped claims stack now o todo _ _ _ m lo (Made w) s = skip claims stack now o todo (λ l. inl w) s
  stepped claims stack now o todo _ _ _ m lo (Lost w l writes ne) s = s.back (o.block ∷ l.0, (m, l.1), λ q. ne (sym (writes (behind places p h l.0)) ∙ q))
  stepped claims stack now o todo _ _ _ m lo (Known pass e) s = skip claims stack now o todo (λ l. inr (pass, e)) s
  stepped claims stack now o todo _ _ _ m lo (Passed pass ne) s = pushed claims stack now o todo m lo pass s

  -- whatever happens, each claim is of a place up to h
  old_stale : (claims : List ℕ) (c : ℕ) → Old claims c → Stale places p (h + 1) (slice_index claims c)
  old_stale claims c (inl (inl z)) = inl z
  old_stale claims c (inl (inr z)) = inr (z.0, let l = z.1 in omega (arith, l))
  old_stale claims c (inr z) = inr (z.0.0, let e = z.0.1 in omega (arith, e))

  pub all_stale : (claims stack : List ℕ) (now : ℕ) (todo : List Occurrence) → T claims stack now todo → AllStale places p (h + 1) claims
  all_stale claims stack now todo s = record { count = s.count; each = λ c lc. elim (same_or (slice_index claims c) v) [ inl e ↦ inr (omega (arith, e, lv), let q = ap (λ w. slice_index places w) e in omega (arith, q)) | inr ne ↦ old_stale claims c (s.others c lc ne) ] }

  pub stepped_stale : (claims stack : List ℕ) (now : ℕ) (o : Occurrence) (todo : List Occurrence) (claims' stack' : List ℕ) (ok : Bool) → ok ≡ false → Stepped places p v o.block claims stack claims' stack' ok → T claims stack now (o ∷ todo) → AllStale places p (h + 1) claims'
  stepped_stale claims stack now o todo _ _ _ f (Unreached n) s = absurd (cc)
  stepped_stale claims stack now o todo _ _ _ f (Made w) s = absurd (cc)
  stepped_stale claims stack now o todo _ _ _ f (Lost w l writes ne) s = all_stale claims stack now (o ∷ todo) s
  stepped_stale claims stack now o todo _ _ _ f (Known pass e) s = absurd (cc)
  stepped_stale claims stack now o todo _ _ _ f (Passed pass ne) s = absurd (cc)

  -- the ends that go to a block, up to the first one that fails
  pub stepped_all : (now : ℕ) (os : List Occurrence) (claims stack claims' stack' : List ℕ) (ok : Bool) → Each (EndTo places p now) os → SteppedAll places p v os claims stack claims' stack' ok → T claims stack now os → (ok ≡ true → T claims' stack' now []) × (ok ≡ false → B b × AllStale places p (h + 1) claims')
  stepped_all now [] claims stack claims' stack' ok es x s = (λ t. subst (λ l. T l stack' now []) (sym x.0) (subst (λ l. T claims l now []) (sym x.1) s), λ f. absurd (let q = sym x.2 ∙ f in cc))
  stepped_all now (o ∷ os) claims stack claims' stack' ok es (inl x) s = stepped_all now os x.0 x.1 claims' stack' ok es.1 x.3 (stepped claims stack now o os x.0 x.1 true es.0.1 es.0.0 x.2 s)
  stepped_all now (o ∷ os) claims stack claims' stack' ok es (inr x) s = (λ t. absurd (let q = sym x.1 ∙ t in cc), λ f. (stepped claims stack now o os claims' stack' false es.0.1 es.0.0 x.0 s, stepped_stale claims stack now o os claims' stack' false refl x.0 s))

  -- at the end each claim is good
  abbrev Found : List ℕ → ℕ → ℕ → Type 0
  Found claims now t = Among t [] ⊎ (G t ⊎ (C claims [] t ⊎ ((t ≡ now) × C claims [] t)))

  settled : (claims : List ℕ) (now t : ℕ) → Found claims now t → G t ⊎ C claims [] t
  settled claims now t (inl a) = absurd a
  settled claims now t (inr (inl g)) = inl g
  settled claims now t (inr (inr (inl k))) = inr k
  settled claims now t (inr (inr (inr k))) = inr k.1

  good_at : (claims : List ℕ) (now : ℕ) → T claims [] now [] → (done : List ℕ) (t : ℕ) → t < length p.blocks → slice_index claims t ≡ v → Leads (next_of p.blocks) t done → behind places p h done ≡ v
  good_at claims now s [] t lt e z = elim (settled claims now t (s.closed t lt e)) [ inl g ↦ g [] z | inr k ↦ k.0 z ]
  good_at claims now s (c ∷ done) t lt e x = go (λ y. good_at claims now s done c (source_within p c t x.0) y x.1) (settled claims now t (s.closed t lt e))
    where
      go : (slice_index claims c ≡ v → behind places p h done ≡ v) → G t ⊎ C claims [] t → behind places p h (c ∷ done) ≡ v
      go on (inl g) = g (c ∷ done) x
      go on (inr k) = elim (k.1 c x.0 (done, x.1)) [ inl f ↦ absurd f | inr y ↦ elim y [ inl w ↦ w (behind places p h done) | inr y ↦ y.0 (behind places p h done) ∙ on y.1 ] ]

  pub good : (claims : List ℕ) (now : ℕ) → T claims [] now [] → G b
  good claims now s done l = good_at claims now s done b lb s.begun l

  pub all_claims : (claims : List ℕ) (now : ℕ) → T claims [] now [] → Claims places p h claims
  all_claims claims now s = record { count = s.count; each = λ t lt. elim (same_or (slice_index claims t) v) [ inl e ↦ inr ((omega (arith, e, lv), ap (λ w. slice_index places w) e), subst (λ w. Good places p w t) (sym e) (λ done l. good_at claims now s done t lt e l)) | inr ne ↦ s.others t lt ne ] }

-- a step, as the code has it
pub made_or_lost : (places : List ℕ) (p : BlockProc) (v c w : ℕ) (claims stack : List ℕ) → Lead p c → Writes places p (slice_index places v) c w → Stepped places p v c claims stack claims stack (w == v)
made_or_lost places p v c w claims stack l writes = elim (eqb_tells w v) [ inl e ↦ subst (λ ok. Stepped places p v c claims stack claims stack ok) (sym e.0) (Made (λ o. writes o ∙ e.1)) | inr n ↦ subst (λ ok. Stepped places p v c claims stack claims stack ok) (sym n.0) (Lost w l writes n.1) ]

-- what is read of the list of ends
module _ (places : List ℕ) (p : BlockProc) (h : ℕ) (last : List ℕ) (c : ℕ) (ends : Ends places p h last) (lc : c < length p.blocks) where
  pub none_left : slice_index last c ≡ p.values → Passes places p h c
  none_left z = elim (ends.each c lc) [ inl x ↦ x.1 | inr x ↦ absurd (let l = x.0.0 in omega (arith, l, z)) ]

  pub other_left : slice_index places (slice_index last c) ≢ h → Passes places p h c
  other_left ne = elim (ends.each c lc) [ inl x ↦ x.1 | inr x ↦ absurd (ne x.0.1) ]

  pub one_left : slice_index last c ≢ p.values → slice_index places (slice_index last c) ≡ h → Writes places p h c (slice_index last c)
  one_left ne is = elim (ends.each c lc) [ inl x ↦ elim x.0 [ inl z ↦ absurd (ne z) | inr y ↦ absurd (let l = y.1 in omega (arith, l, is)) ] | inr x ↦ x.1 ]

  pub left_value : slice_index last c ≢ p.values → slice_index last c < p.values
  left_value ne = elim (ends.each c lc) [ inl x ↦ elim x.0 [ inl z ↦ absurd (ne z) | inr y ↦ y.0 ] | inr x ↦ x.0.0 ]

-- claims and values of places that come before
pub claims_stale : (places : List ℕ) (p : BlockProc) (h : ℕ) (claims : List ℕ) → Claims places p h claims → AllStale places p (h + 1) claims
claims_stale places p h claims s = record { count = s.count; each = λ c lc. elim (s.each c lc) [ inl x ↦ elim x [ inl z ↦ inl z | inr y ↦ inr (y.0, let l = y.1 in omega (arith, l)) ] | inr x ↦ inr (x.0.0, let e = x.0.1 in omega (arith, e)) ] }

pub stale_claims : (places : List ℕ) (p : BlockProc) (h : ℕ) (xs : List ℕ) → AllStale places p h xs → Claims places p h xs
stale_claims places p h xs s = record { count = s.count; each = λ c lc. inl (s.each c lc) }

pub all_none : (places : List ℕ) (p : BlockProc) (xs : List ℕ) → length xs ≡ length p.blocks → ((u : ℕ) → u < length p.blocks → slice_index xs u ≡ p.values) → AllStale places p 0 xs
all_none places p xs n all = record { count = n; each = λ c lc. inl (all c lc) }

-- one occurrence, and those behind it
module _ (places : List ℕ) (p : BlockProc) (o : Occurrence) where
  pub first_of : (h : ℕ) (os tail : List Occurrence) → os ≡ o ∷ tail → Each (IsOf places p h) os → IsOf places p h o × Each (IsOf places p h) tail
  first_of h os tail e a = let b = subst (λ l. Each (IsOf places p h) l) e a in (b.0, b.1)

  pub own_place : (h : ℕ) → IsOf places p h o → IsOf places p (slice_index places o.named) o
  own_place h k = (k.0, (k.1.0, refl))

  pub scans_lost : (os rest : List Occurrence) (block value block' value' : ℕ) (ok : Bool) → rest ≡ o ∷ os → ok ≡ false → Looks places p o block value block' value' ok → Scans places p block value rest (Some o.insn)
  scans_lost os rest block value block' value' ok e f l = subst (λ r. Scans places p block value r (Some o.insn)) (sym e) (λ s. absurd (let q = sym f ∙ (l.0 s).2 in cc), λ s. inl (subst (λ t. MatchBool t (UseKept places p (cur places p block value o.block) o.block o.named) (UseLost places p (cur places p block value o.block) o.block o.named)) f (l.1 s).2, refl))

  pub scans_on : (os rest : List Occurrence) (block value block' value' : ℕ) (ok : Bool) (a : Option ℕ) → rest ≡ o ∷ os → ok ≡ true → Looks places p o block value block' value' ok → Scans places p block' value' os a → Scans places p block value rest a
  scans_on os rest block value block' value' ok a e f l x = subst (λ r. Scans places p block value r a) (sym e) (λ t. (let q = l.0 t in subst (λ n. Scans places p n o.named os a) q.0 (subst (λ n. Scans places p block' n os a) q.1 x)), λ t. (let q = l.1 t in inr (subst (λ t. MatchBool t (UseKept places p (cur places p block value o.block) o.block o.named) (UseLost places p (cur places p block value o.block) o.block o.named)) f q.2, subst (λ n. Scans places p n value os a) q.0 (subst (λ n. Scans places p block' n os a) q.1 x))))

pub scans_done : (places : List ℕ) (p : BlockProc) (rest : List Occurrence) (block value : ℕ) → length rest ≡ 0 → Scans places p block value rest None
scans_done places p [] block value e = refl
scans_done places p (o ∷ os) block value e = absurd (omega (arith, e))

pub false_side : (A B : Type 0) (ok : Bool) → ok ≡ false → MatchBool ok A B → B
false_side A B ok f m = subst (λ t. MatchBool t A B) f m

pub true_side : (A B : Type 0) (ok : Bool) → ok ≡ true → MatchBool ok A B → A
true_side A B ok f m = subst (λ t. MatchBool t A B) f m

-- a use that is kept or lost where the block wrote to the place before, and where it didn't
module _ (places : List ℕ) (p : BlockProc) (b v : ℕ) where
  pub none_leads : (x : ℕ) → ¬ Lead p b → UseKept places p x b v
  none_leads x unled done l = absurd (unled (done, l))

  pub by_written : (x : ℕ) → x ≢ p.values → Lead p b → MatchBool (x == v) (UseKept places p x b v) (UseLost places p x b v)
  by_written x ne l = elim (eqb_tells x v) [ inl e ↦ subst (λ t. MatchBool t (UseKept places p x b v) (UseLost places p x b v)) (sym e.0) (λ done m. now (behind places p (slice_index places v) done) ∙ e.1) | inr n ↦ subst (λ t. MatchBool t (UseKept places p x b v) (UseLost places p x b v)) (sym n.0) (l.0, l.1, λ q. n.1 (sym (now (behind places p (slice_index places v) l.0)) ∙ q)) ]
    where
      now : (o : ℕ) → now_at places p x o ≡ x
      now o = ap (λ t. cond t o x) (ne_eqb x p.values ne)

  pub by_start : (x : ℕ) (ok : Bool) → x ≡ p.values → MatchBool ok (Good places p v b) (Bad places p v b) → MatchBool ok (UseKept places p x b v) (UseLost places p x b v)
  by_start x ok e m = go ok m
    where
      now : (o : ℕ) → now_at places p x o ≡ o
      now o = ap (λ t. cond t o x) (eq-eqb x p.values e)

      go : (ok : Bool) → MatchBool ok (Good places p v b) (Bad places p v b) → MatchBool ok (UseKept places p x b v) (UseLost places p x b v)
      go true g = λ done l. now (behind places p (slice_index places v) done) ∙ g done l
      go false w = (w.0, w.1, λ q. w.2 (sym (now (behind places p (slice_index places v) w.0)) ∙ q))

-- the ends that go to a block
pub ends_are : (places : List ℕ) (p : BlockProc) (t : ℕ) → Each (EndTo places p t) (ends_to t 0 0 p.blocks)
ends_are places p t = each_map (Source p t) (EndTo places p t) (λ o s. (s.3, s.0)) (ends_to t 0 0 p.blocks) (sources_sound p t)

-- the steps of the code
abbrev bit : Bool → ℕ
bit t = cond t 0 1

module _ (places : List ℕ) (p : BlockProc) (v : ℕ) where
  pub step_falls : (c : ℕ) (claims stack claims' stack' : List ℕ) (ok : Bool) → c < length claims → Stepped places p v c claims stack claims' stack' ok → (unmarked v claims' + length stack' ≤ unmarked v claims + length stack) × (length claims' ≡ length claims)
  step_falls c claims stack _ _ _ lc (Unreached n) = (omega arith, refl)
  step_falls c claims stack _ _ _ lc (Made w) = (omega arith, refl)
  step_falls c claims stack _ _ _ lc (Lost w l writes ne) = (omega arith, refl)
  step_falls c claims stack _ _ _ lc (Known pass e) = (omega arith, refl)
  step_falls c claims stack _ _ _ lc (Passed pass ne) =
      let r = set_unmarked v claims c lc in
      let q = length-append stack (c ∷ []) in
      let n = ap bit (ne_eqb (slice_index claims c) v ne) in
      (omega (arith, r, q, n), length-set claims c v)

  pub steps_on : (o : Occurrence) (os rest : List Occurrence) (claims stack m s claims' stack' : List ℕ) (ok went : Bool) → rest ≡ o ∷ os → went ≡ true → Stepped places p v o.block claims stack m s went → SteppedAll places p v os m s claims' stack' ok → SteppedAll places p v rest claims stack claims' stack' ok
  steps_on o os rest claims stack m s claims' stack' ok went e w x xs = subst (λ l. SteppedAll places p v l claims stack claims' stack' ok) (sym e) (inl (m, s, subst (λ t. Stepped places p v o.block claims stack m s t) w x, xs))

  pub steps_end : (o : Occurrence) (os rest : List Occurrence) (claims stack claims' stack' : List ℕ) (went : Bool) → rest ≡ o ∷ os → went ≡ false → Stepped places p v o.block claims stack claims' stack' went → SteppedAll places p v rest claims stack claims' stack' false
  steps_end o os rest claims stack claims' stack' went e w x = subst (λ l. SteppedAll places p v l claims stack claims' stack' false) (sym e) (inr (subst (λ t. Stepped places p v o.block claims stack claims' stack' t) w x, refl))

  pub begin_falls : (b : ℕ) (claims : List ℕ) → b < length claims → unmarked v (slice_set claims b v) ≤ unmarked v claims
  begin_falls b claims lb = let r = set_unmarked v claims b lb in omega (arith, r)

  pub steps_done : (rest : List Occurrence) (claims stack : List ℕ) → length rest ≡ 0 → SteppedAll places p v rest claims stack claims stack true
  steps_done [] claims stack e = (refl, refl, refl)
  steps_done (o ∷ os) claims stack e = absurd (omega (arith, e))

  pub passed_as : (c : ℕ) (claims stack claims' stack' : List ℕ) → claims' ≡ slice_set claims c v → stack' ≡ stack ++ c ∷ [] → Passes places p (slice_index places v) c → slice_index claims c ≢ v → Stepped places p v c claims stack claims' stack' true
  passed_as c claims stack claims' stack' ec es pass ne = subst (λ l. Stepped places p v c claims stack l stack' true) (sym ec) (subst (λ l. Stepped places p v c claims stack (slice_set claims c v) l true) (sym es) (Passed pass ne))

-- claims that no step has changed
pub both_claims : (places : List ℕ) (p : BlockProc) (h : ℕ) (claims : List ℕ) (ok : Bool) → Claims places p h claims → MatchBool ok (Claims places p h claims) (AllStale places p (h + 1) claims)
both_claims places p h claims true s = s
both_claims places p h claims false s = claims_stale places p h claims s

pub ends_within : (places : List ℕ) (p : BlockProc) (t : ℕ) → Each (λ o. o.block < length p.blocks) (ends_to t 0 0 p.blocks)
ends_within places p t = each_map (EndTo places p t) (λ o. o.block < length p.blocks) (λ o s. s.0) (ends_to t 0 0 p.blocks) (ends_are places p t)

pub from_sources : (p : BlockProc) (t : ℕ) (os : List Occurrence) → os ≡ ends_to t 0 0 p.blocks → (c : ℕ) → Among t (next_of p.blocks c) → From c os
from_sources p t os e c a = subst (λ l. From c l) (sym e) (from_source p c t a)

pub each_first : (P : Occurrence → Type 0) (os : List Occurrence) (o : Occurrence) (tail : List Occurrence) → os ≡ o ∷ tail → Each P os → P o × Each P tail
each_first P os o tail e a = let b = subst (λ l. Each P l) e a in (b.0, b.1)
