-- Where each value is named, and from where each block is reached, as one pass over a procedure collects them.
use Rattle.std.specs.Prelude.{◌≡◌, ℕ, ◌+◌, ◌<◌, Bool, true, false, cond, ◌==◌, ◌||◌, ◌&&◌, not, List, [], ◌∷◌, ◌++◌, length, take, min, max, Option, Some, None, slice_index, slice_index_or, slice_set}
use Rattle.flatten.specs.declared.blocks.BlockInsn.{BlockInsn}
use Rattle.flatten.specs.declared.blocks.BlockEnd.{BlockEnd}
use Rattle.flatten.specs.declared.blocks.Block.{Block}
use Rattle.flatten.specs.declared.blocks.BlockProc.{BlockProc}
use Rattle.flatten.specs.Paths.{uses_of, end_uses, sets, goes_to}
use Rattle.block_homes.specs.Held.{total}
use Rattle.reg_alloc.specs.declared.occurrences.Occurrence.{Occurrence}
use Rattle.reg_alloc.specs.declared.ranges.Range.{Range}

abbrev pub occurrence : ℕ → ℕ → Bool → ℕ → Occurrence
occurrence b k s v = record { block = b; insn = k; sets = s; named = v }

abbrev pub row : List (List Occurrence) → ℕ → List Occurrence
row rows v = slice_index_or rows v []

-- added to the row of this number
abbrev pub add : Occurrence → ℕ → List (List Occurrence) → List (List Occurrence)
add o v rows = slice_set rows v (slice_index_or rows v [] ++ o ∷ [])

-- the instruction is added to the rows of the values that it names; each value has a row by its key
abbrev pub all_by : List ℕ → ℕ → ℕ → Bool → List ℕ → List (List Occurrence) → List (List Occurrence)
all_by keys b k s [] rows = rows
all_by keys b k s (v ∷ vs) rows = all_by keys b k s vs (add (occurrence b k s v) (slice_index keys v) rows)

abbrev pub insn_by : List ℕ → ℕ → ℕ → BlockInsn → List (List Occurrence) → List (List Occurrence)
insn_by keys b k x rows = all_by keys b k true (sets x) (all_by keys b k false (uses_of x) rows)

abbrev pub insns_by : List ℕ → ℕ → ℕ → List BlockInsn → BlockEnd → List (List Occurrence) → List (List Occurrence)
insns_by keys b k [] e rows = all_by keys b k false (end_uses e) rows
insns_by keys b k (x ∷ xs) e rows = insns_by keys b (k + 1) xs e (insn_by keys b k x rows)

-- the end of each block is added to the blocks to which it goes
abbrev pub add_all : ℕ → ℕ → List ℕ → List (List Occurrence) → List (List Occurrence)
add_all b k [] rows = rows
add_all b k (t ∷ ts) rows = add_all b k ts (add (occurrence b k false t) t rows)

-- the occurrences of the values with one key
abbrev pub named_by : List ℕ → ℕ → ℕ → Bool → ℕ → List ℕ → List Occurrence
named_by keys b k s h [] = []
named_by keys b k s h (w ∷ ws) = cond (slice_index keys w == h) (occurrence b k s w ∷ named_by keys b k s h ws) (named_by keys b k s h ws)

abbrev pub in_insns_by : List ℕ → ℕ → ℕ → ℕ → List BlockInsn → BlockEnd → List Occurrence
in_insns_by keys h b k [] e = named_by keys b k false h (end_uses e)
in_insns_by keys h b k (x ∷ xs) e = named_by keys b k false h (uses_of x) ++ (named_by keys b k true h (sets x) ++ in_insns_by keys h b (k + 1) xs e)

abbrev pub in_blocks_by : List ℕ → ℕ → ℕ → ℕ → List Block → List Occurrence
in_blocks_by keys h b k [] = []
in_blocks_by keys h b k (x ∷ xs) = in_insns_by keys h b k x.insns x.end ++ in_blocks_by keys h (b + 1) (k + (length x.insns + 1)) xs

pub record OccurrencesBy (keys : List ℕ) (count : ℕ) (p : BlockProc) (rows : List (List Occurrence)) : Type 0 where
  pub counted : length rows ≡ count
  pub each : (h : ℕ) → h < count → row rows h ≡ in_blocks_by keys h 0 0 p.blocks

-- the occurrences of one value
abbrev pub named : Occurrence → ℕ → List ℕ → List Occurrence
named o v [] = []
named o v (w ∷ ws) = cond (w == v) (o ∷ named o v ws) (named o v ws)

abbrev pub in_insns : ℕ → ℕ → ℕ → List BlockInsn → BlockEnd → List Occurrence
in_insns v b k [] e = named (occurrence b k false v) v (end_uses e)
in_insns v b k (x ∷ xs) e = named (occurrence b k false v) v (uses_of x) ++ (named (occurrence b k true v) v (sets x) ++ in_insns v b (k + 1) xs e)

abbrev pub in_blocks : ℕ → ℕ → ℕ → List Block → List Occurrence
in_blocks v b k [] = []
in_blocks v b k (x ∷ xs) = in_insns v b k x.insns x.end ++ in_blocks v (b + 1) (k + (length x.insns + 1)) xs

-- and the ends that go to one block
abbrev pub ends_to : ℕ → ℕ → ℕ → List Block → List Occurrence
ends_to t b k [] = []
ends_to t b k (x ∷ xs) = named (occurrence b (k + length x.insns) false t) t (goes_to x.end) ++ ends_to t (b + 1) (k + (length x.insns + 1)) xs

pub record Occurrences (p : BlockProc) (rows : List (List Occurrence)) : Type 0 where
  pub count : length rows ≡ p.values
  pub each : (v : ℕ) → v < p.values → row rows v ≡ in_blocks v 0 0 p.blocks

pub record Sources (p : BlockProc) (rows : List (List Occurrence)) : Type 0 where
  pub count : length rows ≡ length p.blocks
  pub each : (t : ℕ) → t < length p.blocks → row rows t ≡ ends_to t 0 0 p.blocks

-- the number of the first instruction of each block
pub record BlockStarts (p : BlockProc) (starts : List ℕ) : Type 0 where
  pub count : length starts ≡ length p.blocks
  pub each : (b : ℕ) → b < length p.blocks → slice_index starts b ≡ total (take b p.blocks)

abbrev pub Each : (Occurrence → Type 0) → List Occurrence → Type 0
Each P [] = Unit {0}
Each P (o ∷ os) = P o × Each P os

abbrev pub widened : Range → ℕ → Range
widened r k = record { first = min r.first k; last = max r.last k }

-- the range with these instructions
abbrev pub hull : List Occurrence → Range → Range
hull [] r = r
hull (o ∷ os) r = hull os (widened r o.insn)

-- the marks when the blocks of these occurrences have got the mark m
abbrev pub marked : ℕ → List Occurrence → List ℕ → List ℕ
marked m [] marks = marks
marked m (o ∷ os) marks = marked m os (slice_set marks o.block m)

-- a block that gets it, where the value isn't set there first, is put on the stack
abbrev pub stacked : ℕ → List Occurrence → List ℕ → List ℕ → List ℕ
stacked m [] marks stack = stack
stacked m (o ∷ os) marks stack = stacked m os (slice_set marks o.block m) (cond ((slice_index marks o.block == m) || o.sets) stack (stack ++ o.block ∷ []))

abbrev pub unmarked : ℕ → List ℕ → ℕ
unmarked m [] = 0
unmarked m (x ∷ xs) = cond (x == m) 0 1 + unmarked m xs

-- whether the first occurrence in the block c sets the value
abbrev pub first_in : ℕ → List Occurrence → Option Bool
first_in c [] = None
first_in c (o ∷ os) = cond (o.block == c) (Some o.sets) (first_in c os)

abbrev pub not_set : Option Bool → Bool
not_set None = true
not_set (Some s) = not s

-- whether the value is known to be live at the start of the block c
abbrev pub alive : ℕ → List Occurrence → List ℕ → ℕ → Bool
alive m os marks c = (slice_index marks c == m) && not_set (first_in c os)
