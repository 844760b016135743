-- Paths by the numbers of blocks, and what a place holds behind one.
use Rattle.std.specs.Prelude.{◌≡◌, ◌≢◌, ℕ, ◌+◌, ◌<◌, ◌⊎◌, List, [], ◌∷◌, take, Option, Some, None, slice_get, slice_index}
use Rattle.flatten.specs.declared.blocks.BlockInsn.{BlockInsn}
use Rattle.flatten.specs.declared.blocks.Block.{Block}
use Rattle.flatten.specs.declared.blocks.BlockProc.{BlockProc}
use Rattle.flatten.specs.Paths.{goes_to}
use Rattle.block_homes.specs.Held.{after, starting, uses_from, number}

abbrev pub Among : ℕ → List ℕ → Type 0
Among x [] = ⊥
Among x (y ∷ ys) = (x ≡ y) ⊎ Among x ys

abbrev pub insns_in : Option Block → List BlockInsn
insns_in None = []
insns_in (Some b) = b.insns

abbrev pub insns_of : List Block → ℕ → List BlockInsn
insns_of bs b = insns_in (slice_get bs b)

abbrev pub goes_in : Option Block → List ℕ
goes_in None = []
goes_in (Some b) = goes_to b.end

-- the blocks to which block b may go
abbrev pub next_of : List Block → ℕ → List ℕ
next_of bs b = goes_in (slice_get bs b)

abbrev pub uses_in : Option Block → ℕ → List ℕ
uses_in None i = []
uses_in (Some b) i = uses_from b.insns b.end i

abbrev pub uses_at : List Block → ℕ → ℕ → List ℕ
uses_at bs b i = uses_in (slice_get bs b) i

-- a path: block b begins behind these blocks, the last of them first
abbrev pub Leads : (ℕ → List ℕ) → ℕ → List ℕ → Type 0
Leads next b [] = b ≡ 0
Leads next b (c ∷ done) = Among b (next c) × Leads next c done

-- what a place holds behind such blocks, by what it holds at the start and what a block makes of it
abbrev pub held : (ℕ → ℕ) → (ℕ → ℕ → ℕ → ℕ) → ℕ → List ℕ → ℕ
held init step h [] = init h
held init step h (c ∷ done) = step c h (held init step h done)

abbrev pub init_of : List ℕ → BlockProc → ℕ → ℕ
init_of places p h = starting places p.values h p.params

abbrev pub step_of : List ℕ → BlockProc → ℕ → ℕ → ℕ → ℕ
step_of places p b h o = after places h (insns_of p.blocks b) o

abbrev pub held_at : List ℕ → BlockProc → List ℕ → ℕ → ℕ → ℕ → ℕ
held_at places p done b i h = after places h (take i (insns_of p.blocks b)) (held (init_of places p) (step_of places p) h done)

-- on each path each use of the instruction i of block b is kept
abbrev pub Keeps : List ℕ → BlockProc → ℕ → ℕ → Type 0
Keeps places p b i = (done : List ℕ) → Leads (next_of p.blocks) b done → (v : ℕ) → Among v (uses_at p.blocks b i) → held_at places p done b i (slice_index places v) ≡ v

-- on some path one is lost
pub record Loses (places : List ℕ) (p : BlockProc) (b i : ℕ) : Type 0 where
  pub value : ℕ
  pub used : Among value (uses_at p.blocks b i)
  pub done : List ℕ
  pub leads : Leads (next_of p.blocks) b done
  pub other : held_at places p done b i (slice_index places value) ≢ value

pub record FirstLoses (places : List ℕ) (p : BlockProc) (k : ℕ) : Type 0 where
  pub block : ℕ
  pub insn : ℕ
  pub numbered : number p.blocks block insn ≡ k
  pub lost : Loses places p block insn
  pub earlier : (b i : ℕ) → number p.blocks b i < k → Keeps places p b i
