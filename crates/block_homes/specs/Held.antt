-- What each home holds along the paths of a procedure.
use Rattle.std.specs.Prelude.{ℕ, zero, suc, ◌+◌, cond, ◌==◌, List, [], ◌∷◌, length, map, take, Option, Some, None, slice_get, slice_index}
use Rattle.flatten.specs.declared.blocks.BlockInsn.{BlockInsn}
use Rattle.flatten.specs.declared.blocks.BlockEnd.{BlockEnd}
use Rattle.flatten.specs.declared.blocks.Block.{Block}
use Rattle.flatten.specs.declared.blocks.BlockProc.{BlockProc}
use Rattle.flatten.specs.Paths.{sets, uses_of, end_uses}
use Rattle.block_homes.specs.declared.homes.Home.{Home}
use Rattle.block_homes.specs.declared.homes.Home.TheVariants as H
use Rattle.block_homes.specs.declared.homes.Assignment.{Assignment}

-- a register's place is its number, and the slots stand behind the 32 registers
abbrev pub place : Home → ℕ
place (H.Register r) = r
place (H.Slot s) = 32 + s

-- the place of each value's home, by the values' numbers
abbrev pub places_of : List Home → List ℕ
places_of homes = map place homes

abbrev pub homes_in : Option Assignment → List Home
homes_in None = []
homes_in (Some a) = a.homes

-- those of the procedure f
abbrev pub places_at : List Assignment → ℕ → List ℕ
places_at assignments f = places_of (homes_in (slice_get assignments f))

-- the number of the value that the place h holds when the value v has been written, where it held o
abbrev pub wrote : List ℕ → ℕ → ℕ → ℕ → ℕ
wrote places h v o = cond (slice_index places v == h) v o

-- when these values have been written, from the first to the last
abbrev pub put : List ℕ → ℕ → List ℕ → ℕ → ℕ
put places h [] o = o
put places h (v ∷ vs) o = put places h vs (wrote places h v o)

-- when these instructions have run
abbrev pub after : List ℕ → ℕ → List BlockInsn → ℕ → ℕ
after places h [] o = o
after places h (i ∷ is) o = after places h is (put places h (sets i) o)

-- at the start of a procedure, when the first n parameters have been written, from the first to the last; a place to which nothing has been written holds `none`, which is no value
abbrev pub starting : List ℕ → ℕ → ℕ → ℕ → ℕ
starting places none h zero = none
starting places none h (suc n) = wrote places h n (starting places none h n)

-- behind the blocks that are run on a path, the last one first
abbrev pub held : List ℕ → BlockProc → List Block → ℕ → ℕ
held places q [] h = starting places q.values h q.params
held places q (k ∷ run) h = after places h k.insns (held places q run h)

-- the number of the value that the place h holds at the instruction i of the block k behind such a path
abbrev pub held_at : List ℕ → BlockProc → List Block → Block → ℕ → ℕ → ℕ
held_at places q run k i h = after places h (take i k.insns) (held places q run h)

-- the values that the instruction i of a block uses; behind the last one comes the block's end
abbrev pub uses_from : List BlockInsn → BlockEnd → ℕ → List ℕ
uses_from [] e zero = end_uses e
uses_from [] e (suc i) = []
uses_from (x ∷ xs) e zero = uses_of x
uses_from (x ∷ xs) e (suc i) = uses_from xs e i

-- instructions are numbered through from 0 in the order of the blocks, and a block's end counts as one
abbrev pub total : List Block → ℕ
total [] = 0
total (b ∷ bs) = length b.insns + 1 + total bs

abbrev pub number : List Block → ℕ → ℕ → ℕ
number bs b i = total (take b bs) + i
