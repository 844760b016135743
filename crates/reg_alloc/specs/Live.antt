-- Where a value is present, its range, and when a slot is allowed.
use Rattle.std.specs.Prelude.{◌≡◌, ◌≢◌, ℕ, ◌+◌, ◌<◌, ◌≤◌, ◌⊎◌, List, [], ◌∷◌, ◌++◌, length, take, Some, slice_get, slice_index, slice_index_or, Contains}
use Rattle.flatten.specs.declared.blocks.BlockInsn.{BlockInsn}
use Rattle.flatten.specs.declared.blocks.BlockEnd.{BlockEnd}
use Rattle.flatten.specs.declared.blocks.Block.{Block}
use Rattle.flatten.specs.declared.blocks.BlockProc.{BlockProc}
use Rattle.flatten.specs.Paths.{sets, uses_of, end_uses, goes_to}
use Rattle.block_homes.specs.declared.homes.Home.{Home}
use Rattle.block_homes.specs.declared.homes.Home.TheVariants.{Slot}
use Rattle.block_homes.specs.Held.{total}

-- from these instructions, and the end behind them, some path reaches a use of v and does not define it before
pub data LiveAt (bs : List Block) (v : ℕ) : List BlockInsn → BlockEnd → Type 0 where
  Used : (x : BlockInsn) (xs : List BlockInsn) (e : BlockEnd) → Contains (uses_of x) v → LiveAt bs v (x ∷ xs) e
  Passed : (x : BlockInsn) (xs : List BlockInsn) (e : BlockEnd) → ¬ Contains (sets x) v → LiveAt bs v xs e → LiveAt bs v (x ∷ xs) e
  UsedLast : (e : BlockEnd) → Contains (end_uses e) v → LiveAt bs v [] e
  Gone : (e : BlockEnd) (t : ℕ) (b : Block) → Contains (goes_to e) t → slice_get bs t ≡ Some b → LiveAt bs v b.insns b.end → LiveAt bs v [] e

-- the first of the instructions defines v
abbrev pub SetsFirst : ℕ → List BlockInsn → Type 0
SetsFirst v [] = ⊥
SetsFirst v (x ∷ xs) = Contains (sets x) v

-- v is defined or used at the instruction k, or some path from it reaches a use and does not define v before
pub record Occurs (p : BlockProc) (v k : ℕ) : Type 0 where
  pub at : ℕ
  pub block : Block
  pub is_block : slice_get p.blocks at ≡ Some block
  pub ran : List BlockInsn
  pub rest : List BlockInsn
  pub insns : block.insns ≡ ran ++ rest
  pub numbered : k ≡ total (take at p.blocks) + length ran
  pub present : SetsFirst v rest ⊎ LiveAt p.blocks v rest block.end

-- a parameter counts as defined at the first instruction
abbrev pub Present : BlockProc → ℕ → ℕ → Type 0
Present p v k = ((v < p.params) × (k ≡ 0)) ⊎ Occurs p v k

-- k lies between the first and the last instruction at which v is present
pub record InRange (p : BlockProc) (v k : ℕ) : Type 0 where
  pub first : ℕ
  pub last : ℕ
  pub begins : Present p v first
  pub ends : Present p v last
  pub above : first ≤ k
  pub below : k ≤ last

-- some instruction lies in the range of v and in those of 12 others
pub record Crowded (p : BlockProc) (v : ℕ) : Type 0 where
  pub insn : ℕ
  pub within : InRange p v insn
  pub others : List ℕ
  pub many : 12 ≤ length others
  pub different : (i j : ℕ) → i < j → j < length others → slice_index others i ≢ slice_index others j
  pub each : (i : ℕ) → i < length others → (slice_index others i ≢ v) × InRange p (slice_index others i) insn

-- a value has a slot only where it is crowded
abbrev pub SlotsCrowded : BlockProc → List Home → Type 0
SlotsCrowded p homes = (v s : ℕ) (d : Home) → v < length homes → slice_index_or homes v d ≡ Slot s → Crowded p v
