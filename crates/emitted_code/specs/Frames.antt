-- The frame of a procedure: how large it is, and where its parts lie.
use Rattle.std.specs.Prelude.{ℕ, ◌+◌, ◌-◌, ◌*◌, ◌/◌, ◌==◌, nat_lt, not, ◌||◌, max, cond, Bool, false, List, [], ◌∷◌, length, Option, Some, None, slice_get}
use Rattle.flatten.specs.declared.blocks.BlockInsn.{BlockInsn}
use Rattle.flatten.specs.declared.blocks.BlockInsn.TheVariants as I
use Rattle.flatten.specs.declared.blocks.Block.{Block}
use Rattle.flatten.specs.declared.blocks.BlockProc.{BlockProc}
use Rattle.block_homes.specs.declared.homes.Home.{Home}
use Rattle.block_homes.specs.declared.homes.Home.TheVariants as H

-- The words of arguments that an instruction passes on the stack: those behind the eighth (the RISC-V ELF psABI, 'Integer Calling Convention').
abbrev pub words_of : BlockInsn → ℕ
words_of (I.Call xs p ys) = length ys - 8
words_of (I.CallAt xs y ys) = length ys - 8
words_of _ = 0

-- the most that one of the instructions passes, and one of the blocks
abbrev pub most_words : List BlockInsn → ℕ
most_words [] = 0
most_words (i ∷ is) = max (words_of i) (most_words is)

abbrev pub words_of_blocks : List Block → ℕ
words_of_blocks [] = 0
words_of_blocks (b ∷ bs) = max (most_words b.insns) (words_of_blocks bs)

-- So many bytes does a procedure need: a slot for each value, the words that it passes, the return address and the twelve registers that it may have to save, and a word to round.
abbrev pub need : BlockProc → ℕ
need f = 8 * (f.values + words_of_blocks f.blocks) + 112

-- Its frame takes what it is charged. Where it is charged nothing, it takes its need, rounded to a multiple of 16 (psABI: the stack pointer is aligned to 16 bytes).
abbrev pub is_charged : BlockProc → Bool
is_charged f = not (f.frame == 0)

abbrev pub frame_size : BlockProc → ℕ
frame_size f = cond (is_charged f) f.frame (need f / 16 * 16)

-- what code needs to know of its procedure: the home of each value, the words that are passed on the stack, and the bytes of the frame
pub record Layout : Type 0 where
  pub homes : List Home
  pub words : ℕ
  pub size : ℕ

abbrev pub layout_of : BlockProc → List Home → Layout
layout_of f homes = record { homes = homes; words = words_of_blocks f.blocks; size = frame_size f }

-- the home of a value; one that has none isn't named
abbrev pub home_or : Option Home → Home
home_or None = H.Slot 0
home_or (Some h) = h

abbrev pub home_of : Layout → ℕ → Home
home_of l x = home_or (slice_get l.homes x)

-- From x2 upwards lie the words that are passed; then the saved registers x1, x8, x9 and x18 to x27, each at a place of its own; and then the slots.
abbrev pub save_number : ℕ → ℕ
save_number h = cond (nat_lt h 8) 0 (cond (nat_lt h 18) (h - 7) (h - 15))

abbrev pub save_at : Layout → ℕ → ℕ
save_at l h = 8 * l.words + 8 * save_number h

abbrev pub slot_at : Layout → ℕ → ℕ
slot_at l k = 8 * l.words + 104 + 8 * k

-- the registers that are homes, of those that a callee keeps
abbrev pub is_register : ℕ → Home → Bool
is_register r (H.Register h) = h == r
is_register r (H.Slot k) = false

abbrev pub is_used : ℕ → List Home → Bool
is_used r [] = false
is_used r (h ∷ hs) = is_register r h || is_used r hs

abbrev pub used_of : List ℕ → List Home → List ℕ
used_of [] homes = []
used_of (r ∷ rs) homes = cond (is_used r homes) (r ∷ used_of rs homes) (used_of rs homes)

abbrev pub kept_registers : List ℕ
kept_registers = 8 ∷ 9 ∷ 18 ∷ 19 ∷ 20 ∷ 21 ∷ 22 ∷ 23 ∷ 24 ∷ 25 ∷ 26 ∷ 27 ∷ []

-- the registers that a procedure saves: the return address, and its homes
abbrev pub saved_of : Layout → List ℕ
saved_of l = 1 ∷ used_of kept_registers l.homes
