-- Back from a use to what was written to its home: what the search knows, and what it answers.
use Rattle.std.specs.Prelude.{◌≡◌, ◌≢◌, ℕ, ◌+◌, ◌<◌, ◌≤◌, cond, ◌==◌, ◌⊎◌, Bool, true, false, List, [], ◌∷◌, ◌++◌, length, Option, Some, None, slice_index, slice_index_or, slice_set, min, MatchBool}
use Rattle.flatten.specs.declared.blocks.BlockProc.{BlockProc}
use Rattle.block_homes.specs.Held.{number}
use Rattle.reg_alloc.specs.declared.occurrences.Occurrence.{Occurrence}
use Rattle.reg_alloc.specs.Steps.{Among, Leads, uses_at, next_of, init_of, step_of, held, held_at}
use Rattle.reg_alloc.specs.Occurs.{Each, Sources}
use Rattle.reg_alloc.specs.Rows.{Places}
use Rattle.reg_alloc.specs.declared.trace.Facts.{Facts}

-- some path leads to the block
abbrev pub Lead : BlockProc → ℕ → Type 0
Lead p b = (done : List ℕ) × Leads (next_of p.blocks) b done

pub record Reach (p : BlockProc) (reached : List Bool) : Type 0 where
  pub count : length reached ≡ length p.blocks
  pub sound : (c : ℕ) → slice_index_or reached c false ≡ true → Lead p c
  pub complete : (c : ℕ) → Lead p c → slice_index_or reached c false ≡ true

-- the search forward: the blocks on the stack are still to be left
pub record Reaching (p : BlockProc) (reached : List Bool) (stack : List ℕ) : Type 0 where
  pub count : length reached ≡ length p.blocks
  pub first : slice_index_or reached 0 false ≡ true
  pub sound : (c : ℕ) → slice_index_or reached c false ≡ true → Lead p c
  pub waiting : (c : ℕ) → Among c stack → (c < length p.blocks) × (slice_index_or reached c false ≡ true)
  pub closed : (c t : ℕ) → slice_index_or reached c false ≡ true → Among t (next_of p.blocks c) → Among c stack ⊎ (slice_index_or reached t false ≡ true)

abbrev pub entered : List ℕ → List Bool → List Bool
entered [] r = r
entered (t ∷ ts) r = entered ts (slice_set r t true)

abbrev pub entering : List ℕ → List Bool → List ℕ → List ℕ
entering [] r s = s
entering (t ∷ ts) r s = entering ts (slice_set r t true) (cond (slice_index_or r t false) s (s ++ t ∷ []))

abbrev pub unreached : List Bool → ℕ
unreached [] = 0
unreached (x ∷ xs) = cond x 0 1 + unreached xs

-- one of the occurrences is in block c
abbrev pub From : ℕ → List Occurrence → Type 0
From c [] = ⊥
From c (o ∷ os) = (c ≡ o.block) ⊎ From c os

module _ (places : List ℕ) (p : BlockProc) where
  -- what a place holds behind the blocks of a path
  abbrev pub behind : ℕ → List ℕ → ℕ
  behind h done = held (init_of places p) (step_of places p) h done

  -- at the start of block t the place of v holds v on every path, or on some path another value
  abbrev pub Good : ℕ → ℕ → Type 0
  Good v t = (done : List ℕ) → Leads (next_of p.blocks) t done → behind (slice_index places v) done ≡ v

  abbrev pub Bad : ℕ → ℕ → Type 0
  Bad v t = (done : List ℕ) × Leads (next_of p.blocks) t done × (behind (slice_index places v) done ≢ v)

  -- what block c makes of the place h
  abbrev pub Passes : ℕ → ℕ → Type 0
  Passes h c = (o : ℕ) → step_of places p c h o ≡ o

  abbrev pub Writes : ℕ → ℕ → ℕ → Type 0
  Writes h c w = (o : ℕ) → step_of places p c h o ≡ w

  -- no value, or one whose place comes before h
  abbrev pub Stale : ℕ → ℕ → Type 0
  Stale h w = (w ≡ p.values) ⊎ ((w < p.values) × (slice_index places w < h))

  abbrev pub Current : ℕ → ℕ → Type 0
  Current h w = (w < p.values) × (slice_index places w ≡ h)

  pub record AllStale (h : ℕ) (xs : List ℕ) : Type 0 where
    pub count : length xs ≡ length p.blocks
    pub each : (c : ℕ) → c < length p.blocks → Stale h (slice_index xs c)

  -- of each block what it leaves in the place h, where it writes to it
  pub record Ends (h : ℕ) (last : List ℕ) : Type 0 where
    pub count : length last ≡ length p.blocks
    pub each : (c : ℕ) → c < length p.blocks → (Stale h (slice_index last c) × Passes h c) ⊎ (Current h (slice_index last c) × Writes h c (slice_index last c))

  -- of each block what the place h is known to hold at its start
  pub record Claims (h : ℕ) (claims : List ℕ) : Type 0 where
    pub count : length claims ≡ length p.blocks
    pub each : (t : ℕ) → t < length p.blocks → Stale h (slice_index claims t) ⊎ (Current h (slice_index claims t) × Good (slice_index claims t) t)

  -- a step back to block c for the value v
  pub data Stepped (v c : ℕ) (claims stack : List ℕ) : List ℕ → List ℕ → Bool → Type 0 where
    Unreached : ¬ Lead p c → Stepped v c claims stack claims stack true
    Made : Writes (slice_index places v) c v → Stepped v c claims stack claims stack true
    Lost : (w : ℕ) → Lead p c → Writes (slice_index places v) c w → w ≢ v → Stepped v c claims stack claims stack false
    Known : Passes (slice_index places v) c → slice_index claims c ≡ v → Stepped v c claims stack claims stack true
    Passed : Passes (slice_index places v) c → slice_index claims c ≢ v → Stepped v c claims stack (slice_set claims c v) (stack ++ c ∷ []) true

  -- steps back to the blocks of these ends, up to the first one that fails
  abbrev pub SteppedAll : ℕ → List Occurrence → List ℕ → List ℕ → List ℕ → List ℕ → Bool → Type 0
  SteppedAll v [] claims stack claims' stack' ok = (claims' ≡ claims) × (stack' ≡ stack) × (ok ≡ true)
  SteppedAll v (o ∷ os) claims stack claims' stack' ok = ((m : List ℕ) × (s : List ℕ) × Stepped v o.block claims stack m s true × SteppedAll v os m s claims' stack' ok) ⊎ (Stepped v o.block claims stack claims' stack' false × (ok ≡ false))

  -- an end that goes to block t
  abbrev pub EndTo : ℕ → Occurrence → Type 0
  EndTo t o = (o.block < length p.blocks) × Among t (next_of p.blocks o.block)

  -- block c hands on v
  abbrev pub Through : ℕ → List ℕ → ℕ → Type 0
  Through v claims c = Writes (slice_index places v) c v ⊎ (Passes (slice_index places v) c × (slice_index claims c ≡ v))

  -- block t holds v at its start if each block that hands on v does, and those of `todo` do too
  abbrev pub Closed : ℕ → List ℕ → List Occurrence → ℕ → Type 0
  Closed v claims todo t = (t ≡ 0 → init_of places p (slice_index places v) ≡ v) × ((c : ℕ) → Among t (next_of p.blocks c) → Lead p c → From c todo ⊎ Through v claims c)

  -- the search back from block b for the value v; the ends `todo` that go to block `now` are still to be looked at, and those that go to the blocks on the stack
  pub record Trace (v b : ℕ) (claims stack : List ℕ) (now : ℕ) (todo : List Occurrence) : Type 0 where
    pub count : length claims ≡ length p.blocks
    pub others : (t : ℕ) → t < length p.blocks → slice_index claims t ≢ v → Stale (slice_index places v) (slice_index claims t) ⊎ (Current (slice_index places v) (slice_index claims t) × Good (slice_index claims t) t)
    pub begun : slice_index claims b ≡ v
    pub waiting : (t : ℕ) → Among t stack → (t < length p.blocks) × (Bad v t → Bad v b)
    pub closed : (t : ℕ) → t < length p.blocks → slice_index claims t ≡ v → Among t stack ⊎ (Good v t ⊎ (Closed v claims [] t ⊎ ((t ≡ now) × Closed v claims todo t)))
    pub back : Bad v now → Bad v b

  -- what the block left in a place so far, or none
  abbrev pub cur : ℕ → ℕ → ℕ → ℕ
  cur block value b = cond (block == b) value p.values

  abbrev pub now_at : ℕ → ℕ → ℕ
  now_at x o = cond (x == p.values) o x

  -- a use of v in block b, where the block left x in its place before
  abbrev pub UseKept : ℕ → ℕ → ℕ → Type 0
  UseKept x b v = (done : List ℕ) → Leads (next_of p.blocks) b done → now_at x (behind (slice_index places v) done) ≡ v

  abbrev pub UseLost : ℕ → ℕ → ℕ → Type 0
  UseLost x b v = (done : List ℕ) × Leads (next_of p.blocks) b done × (now_at x (behind (slice_index places v) done) ≢ v)

  -- the number of the first use that is lost among these occurrences, when the block `block` has left `value` in the place
  abbrev pub Scans : ℕ → ℕ → List Occurrence → Option ℕ → Type 0
  Scans block value [] a = a ≡ None
  Scans block value (o ∷ os) a = (o.sets ≡ true → Scans o.block o.named os a) × (o.sets ≡ false → (UseLost (cur block value o.block) o.block o.named × (a ≡ Some o.insn)) ⊎ (UseKept (cur block value o.block) o.block o.named × Scans block value os a))

  -- what one occurrence says, by the block that wrote last to the place and the value
  abbrev pub Looks : Occurrence → (block value block' value' : ℕ) → Bool → Type 0
  Looks o block value block' value' ok = (o.sets ≡ true → (block' ≡ o.block) × (value' ≡ o.named) × (ok ≡ true)) × (o.sets ≡ false → (block' ≡ block) × (value' ≡ value) × MatchBool ok (UseKept (cur block value o.block) o.block o.named) (UseLost (cur block value o.block) o.block o.named))

  -- an occurrence of a value whose place is h
  abbrev pub IsOf : ℕ → Occurrence → Type 0
  IsOf h o = (o.block < length p.blocks) × Current h o.named

  -- a use of v at the instruction i of block b
  abbrev pub ValueKept : ℕ → ℕ → ℕ → Type 0
  ValueKept b i v = (done : List ℕ) → Leads (next_of p.blocks) b done → held_at places p done b i (slice_index places v) ≡ v

  abbrev pub ValueLost : ℕ → ℕ → ℕ → Type 0
  ValueLost b i v = (done : List ℕ) × Leads (next_of p.blocks) b done × (held_at places p done b i (slice_index places v) ≢ v)

  -- the number of the first use that is lost of the values whose places are so
  pub record LostFirst (In : ℕ → Type 0) (k : ℕ) : Type 0 where
    pub block : ℕ
    pub insn : ℕ
    pub value : ℕ
    pub numbered : number p.blocks block insn ≡ k
    pub used : Among value (uses_at p.blocks block insn)
    pub lost : ValueLost block insn value
    pub earlier : (b i v : ℕ) → number p.blocks b i < k → In (slice_index places v) → Among v (uses_at p.blocks b i) → ValueKept b i v

  abbrev pub Answer : (ℕ → Type 0) → Option ℕ → Type 0
  Answer In None = (b i v : ℕ) → In (slice_index places v) → Among v (uses_at p.blocks b i) → ValueKept b i v
  Answer In (Some k) = LostFirst In k

-- what the blocks of these occurrences leave
abbrev pub left : List Occurrence → List ℕ → List ℕ
left [] xs = xs
left (o ∷ os) xs = left os (cond o.sets (slice_set xs o.block o.named) xs)

abbrev pub lower : Option ℕ → Option ℕ → Option ℕ
lower None b = b
lower (Some k) None = Some k
lower (Some k) (Some l) = Some (min k l)

pub record FactsOf (p : BlockProc) (places : List ℕ) (reached : List Bool) (sources : List (List Occurrence)) (start : List ℕ) : Type 0 where
  pub places_are : Places p.values (length start) places
  pub reached_is : Reach p reached
  pub sources_are : Sources p sources
  pub start_is : (h : ℕ) → h < length start → slice_index start h ≡ init_of places p h

abbrev pub IsFacts : Facts → Type 0
IsFacts f = FactsOf f.proc.now f.places.now f.reached.now f.sources.now f.start.now
