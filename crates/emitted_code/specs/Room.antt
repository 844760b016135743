-- When the frames of a program suffice, and what else code asks of it.
use Rattle.std.specs.Prelude.{ℕ, ◌≡◌, ◌≢◌, ◌≤◌, ◌<◌, ◌+◌, ◌%◌, ◌^◌, true, false, List, length, Some, slice_get}
use Rattle.flat_ir.specs.declared.program.Fix.{Fix}
use Rattle.flat_ir.specs.declared.program.Target.{Target}
use Rattle.flat_ir.specs.declared.program.Target.TheVariants as T
use Rattle.flatten.specs.declared.blocks.BlockInsn.{BlockInsn}
use Rattle.flatten.specs.declared.blocks.BlockInsn.TheVariants as I
use Rattle.flatten.specs.declared.blocks.BlockEnd.{BlockEnd}
use Rattle.flatten.specs.declared.blocks.BlockEnd.TheVariants as E
use Rattle.flatten.specs.declared.blocks.Block.{Block}
use Rattle.flatten.specs.declared.blocks.BlockProc.{BlockProc}
use Rattle.flatten.specs.declared.blocks.BlockProgram.{BlockProgram}
use Rattle.block_homes.specs.declared.homes.Assignment.{Assignment}
use Rattle.block_homes.specs.Held.{homes_in}
use Rattle.block_homes.specs.Valid.{AreHomes, AllValid}
use Rattle.emitted_code.specs.Frames.{need, is_charged}

abbrev pub IsProc : BlockProgram → ℕ → BlockProc → Type 0
IsProc q p f = slice_get q.procs p ≡ Some f

-- one of a procedure's blocks has the instruction, or the end
abbrev pub HasInsn : BlockProc → BlockInsn → Type 0
HasInsn f i = (b : ℕ) × ((k : Block) × (slice_get f.blocks b ≡ Some k) × ((j : ℕ) × (slice_get k.insns j ≡ Some i)))

abbrev pub HasEnd : BlockProc → BlockEnd → Type 0
HasEnd f e = (b : ℕ) × ((k : Block) × (slice_get f.blocks b ≡ Some k) × (k.end ≡ e))

-- A procedure that is charged nothing is the entry or a routine.
abbrev pub IsRoutine : BlockProgram → ℕ → BlockProc → Type 0
IsRoutine q p f = IsProc q p f × (is_charged f ≡ false) × (p ≢ q.entry)

-- a routine makes no call at an address, and calls routines alone, which need at most n bytes with all that they call in turn: `deep` says how much that is
abbrev pub CallsRoutines : BlockProgram → (deep : ℕ → ℕ) → (n : ℕ) → BlockInsn → Type 0
CallsRoutines q deep n (I.Call xs p ys) = (d : BlockProc) → IsProc q p d → IsRoutine q p d × (need d + deep p ≤ n)
CallsRoutines q deep n (I.CallAt xs y ys) = ⊥
CallsRoutines q deep n _ = Unit {0}

-- no call and no address of the procedure
abbrev pub NamesOther : ℕ → BlockInsn → Type 0
NamesOther e (I.Call xs p ys) = p ≢ e
NamesOther e (I.ProcAddress x p) = p ≢ e
NamesOther e _ = Unit {0}

abbrev pub AimsElsewhere : ℕ → Target → Type 0
AimsElsewhere e (T.Proc p) = p ≢ e
AimsElsewhere e (T.Image n) = Unit {0}

-- an entry that is charged nothing fits into the 8,192 bytes beside what routines need, and nothing names it
pub record StandsAlone (q : BlockProgram) (most : ℕ) (e : BlockProc) : Type 0 where
  pub fits : need e + most ≤ 8192
  pub insns : (p : ℕ) (f : BlockProc) → IsProc q p f → (i : BlockInsn) → HasInsn f i → NamesOther q.entry i
  pub fixes : (k : ℕ) (fix : Fix) → slice_get q.fixes k ≡ Some fix → AimsElsewhere q.entry fix.target

-- Each procedure has room. A charge is a multiple of 16 and at least the need. The needs along each chain of calls of routines are at most 8,192 bytes,
-- which the frames have beside their limit; since each of them is more than what it calls needs, no chain meets one procedure twice.
pub record HasRoom (q : BlockProgram) : Type 0 where
  pub deep : ℕ → ℕ
  pub most : ℕ
  pub charged : (p : ℕ) (f : BlockProc) → IsProc q p f → is_charged f ≡ true → (f.frame % 16 ≡ 0) × (need f ≤ f.frame) × (f.frame < 2 ^ 64)
  pub routines : (p : ℕ) (f : BlockProc) → IsRoutine q p f → need f + deep p ≤ most
  pub calls : (p : ℕ) (f : BlockProc) → IsRoutine q p f → (i : BlockInsn) → HasInsn f i → CallsRoutines q deep (deep p) i
  pub bound : most ≤ 8192
  pub alone : (e : BlockProc) → IsProc q q.entry e → is_charged e ≡ false → StandsAlone q most e

-- a number is one of 64 bits, a procedure is there, an address of the image is one of its bytes or the place behind them, and a call has at most two results
abbrev pub InsnFits : (procs bytes : ℕ) → BlockInsn → Type 0
InsnFits procs bytes (I.Number x n) = n < 2 ^ 64
InsnFits procs bytes (I.ProcAddress x p) = p < procs
InsnFits procs bytes (I.ImageAddress x n) = n ≤ bytes
InsnFits procs bytes (I.Call xs p ys) = (p < procs) × (length xs ≤ 2)
InsnFits procs bytes (I.CallAt xs y ys) = length xs ≤ 2
InsnFits procs bytes _ = Unit {0}

abbrev pub TargetFits : (procs bytes : ℕ) → Target → Type 0
TargetFits procs bytes (T.Proc p) = p < procs
TargetFits procs bytes (T.Image n) = n ≤ bytes

abbrev pub EndFits : BlockEnd → Type 0
EndFits (E.Return ys) = length ys ≤ 2
EndFits _ = Unit {0}

-- what code asks of a program and its homes: each procedure has a home for each of its values, which keeps it; frames suffice; and what instructions name is in range
pub record CanEmit (q : BlockProgram) (assignments : List Assignment) : Type 0 where
  pub valid : AllValid q.procs assignments
  pub homes : (p : ℕ) (f : BlockProc) → IsProc q p f → AreHomes f.values (homes_in (slice_get assignments p))
  pub room : HasRoom q
  pub insns : (p : ℕ) (f : BlockProc) → IsProc q p f → (i : BlockInsn) → HasInsn f i → InsnFits (length q.procs) (length q.image) i
  pub ends : (p : ℕ) (f : BlockProc) → IsProc q p f → (e : BlockEnd) → HasEnd f e → EndFits e
  pub fixes : (k : ℕ) (fix : Fix) → slice_get q.fixes k ≡ Some fix → TargetFits (length q.procs) (length q.image) fix.target
