-- Where a value is live, by the blocks at whose start it is known to be, and its range.
use Rattle.std.specs.Prelude.{◌≡◌, ℕ, ◌+◌, ◌<◌, ◌≤◌, Bool, true, false, not, ◌==◌, ◌&&◌, ◌||◌, ◌⊎◌, List, [], ◌∷◌, length, take, drop, Some, slice_get, slice_index}
use Rattle.flatten.specs.declared.blocks.BlockInsn.{BlockInsn}
use Rattle.flatten.specs.declared.blocks.BlockEnd.{BlockEnd}
use Rattle.flatten.specs.declared.blocks.Block.{Block}
use Rattle.flatten.specs.declared.blocks.BlockProc.{BlockProc}
use Rattle.flatten.specs.Paths.{uses_of, end_uses, sets, goes_to}
use Rattle.block_homes.specs.Held.{total}
use Rattle.reg_alloc.specs.Steps.{Among, next_of, insns_of}
use Rattle.reg_alloc.specs.Live.{LiveAt, Present}
use Rattle.reg_alloc.specs.declared.ranges.Range.{Range}
use Rattle.reg_alloc.specs.declared.occurrences.Occurrence.{Occurrence}
use Rattle.reg_alloc.specs.Occurs.{Each, first_in, alive}

abbrev pub among : ℕ → List ℕ → Bool
among v [] = false
among v (y ∷ ys) = (y == v) || among v ys

abbrev pub any_live : (ℕ → Bool) → List ℕ → Bool
any_live live [] = false
any_live live (t ∷ ts) = live t || any_live live ts

-- whether v is live, by what is known of the blocks
abbrev pub lives : ℕ → (ℕ → Bool) → List BlockInsn → BlockEnd → Bool
lives v live [] e = among v (end_uses e) || any_live live (goes_to e)
lives v live (x ∷ xs) e = among v (uses_of x) || (not (among v (sets x)) && lives v live xs e)

abbrev pub sets_first : ℕ → List BlockInsn → Bool
sets_first v [] = false
sets_first v (x ∷ xs) = among v (sets x)

abbrev pub here : ℕ → (ℕ → Bool) → List BlockInsn → BlockEnd → Bool
here v live xs e = sets_first v xs || lives v live xs e

-- v is live at the start of block t
pub record LiveBlock (p : BlockProc) (v t : ℕ) : Type 0 where
  pub block : Block
  pub is_block : slice_get p.blocks t ≡ Some block
  pub live : LiveAt p.blocks v block.insns block.end

-- what is known is so
abbrev pub Known : BlockProc → ℕ → (ℕ → Bool) → Type 0
Known p v live = (t : ℕ) → live t ≡ true → LiveBlock p v t

-- a range that is empty, or whose ends are present
abbrev pub RangeOk : BlockProc → ℕ → Range → Type 0
RangeOk p v r = ((r.first ≡ 4294967295) × (r.last ≡ 0)) ⊎ (Present p v r.first × Present p v r.last × (r.first ≤ r.last))

abbrev pub Covers : Range → ℕ → Type 0
Covers r k = (r.first ≤ k) × (k ≤ r.last)

-- the instructions of a block at which v is present are covered
abbrev pub CoversAll : ℕ → (ℕ → Bool) → List BlockInsn → BlockEnd → ℕ → Range → Type 0
CoversAll v live xs e start r = (j : ℕ) → j ≤ length xs → here v live (drop j xs) e ≡ true → Covers r (start + j)

-- block b adds nothing to what is known, and the range covers it
abbrev pub SettledAt : BlockProc → ℕ → (ℕ → Bool) → Range → ℕ → Type 0
SettledAt p v live r b = (block : Block) → slice_get p.blocks b ≡ Some block → (lives v live block.insns block.end ≡ true → live b ≡ true) × CoversAll v live block.insns block.end (total (take b p.blocks)) r

abbrev pub Settled : BlockProc → ℕ → (ℕ → Bool) → Range → Type 0
Settled p v live r = (b : ℕ) → SettledAt p v live r b

-- the number of a block's end
abbrev pub end_of : BlockProc → ℕ → ℕ
end_of p b = total (take b p.blocks) + length (insns_of p.blocks b)

-- what the search back from the uses of v keeps, by v's occurrences: the blocks on the stack are still to be left backwards
pub record Search (p : BlockProc) (v m : ℕ) (occurrences : List Occurrence) (marks stack : List ℕ) (r : Range) : Type 0 where
  pub count : length marks ≡ length p.blocks
  pub under : (c : ℕ) → slice_index marks c ≤ m
  pub occurs : (c : ℕ) (s : Bool) → first_in c occurrences ≡ Some s → slice_index marks c ≡ m
  pub waiting : (t : ℕ) → Among t stack → alive m occurrences marks t ≡ true
  pub known : Known p v (alive m occurrences marks)
  pub covers : Each (λ o. Covers r o.insn) occurrences
  pub begun : (t : ℕ) → alive m occurrences marks t ≡ true → Among t stack ⊎ Covers r (total (take t p.blocks))
  pub edges : (c t : ℕ) → Among t (next_of p.blocks c) → alive m occurrences marks t ≡ true → Among t stack ⊎ ((slice_index marks c ≡ m) × Covers r (end_of p c))
  pub range : RangeOk p v r

-- the range of v, exactly
pub record RangeOf (p : BlockProc) (v : ℕ) (r : Range) : Type 0 where
  pub ends : RangeOk p v r
  pub covers : (k : ℕ) → Present p v k → Covers r k
