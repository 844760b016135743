-- A test by which the frames of a program have room. It suffices, and isn't needed: each procedure is charged for its frame, or it is small and calls nothing, and nothing names the entry.
use Rattle.std.specs.Prelude.{ℕ, ◌+◌, ◌%◌, ◌^◌, ◌==◌, nat_lt, nat_le, not, ◌&&◌, ◌||◌, cond, Bool, true, false, List, [], ◌∷◌}
use Rattle.std.specs.List.{list_all}
use Rattle.flat_ir.specs.declared.program.Fix.{Fix}
use Rattle.flat_ir.specs.declared.program.Target.{Target}
use Rattle.flat_ir.specs.declared.program.Target.TheVariants as T
use Rattle.flatten.specs.declared.blocks.BlockInsn.{BlockInsn}
use Rattle.flatten.specs.declared.blocks.BlockInsn.TheVariants as I
use Rattle.flatten.specs.declared.blocks.Block.{Block}
use Rattle.flatten.specs.declared.blocks.BlockProc.{BlockProc}
use Rattle.flatten.specs.declared.blocks.BlockProgram.{BlockProgram}
use Rattle.emitted_code.specs.Frames.{need, is_charged}

-- a charge is a multiple of 16 and at least the need
abbrev pub has_frame : BlockProc → Bool
has_frame f = (f.frame % 16 == 0) && (nat_le (need f) f.frame && nat_lt f.frame (2 ^ 64))

abbrev pub is_no_call : BlockInsn → Bool
is_no_call (I.Call xs p ys) = false
is_no_call (I.CallAt xs y ys) = false
is_no_call _ = true

-- neither calls the procedure nor names its address
abbrev pub names_other : ℕ → BlockInsn → Bool
names_other e (I.Call xs p ys) = not (p == e)
names_other e (I.ProcAddress x p) = not (p == e)
names_other e _ = true

abbrev pub aims_elsewhere : ℕ → Target → Bool
aims_elsewhere e (T.Proc p) = not (p == e)
aims_elsewhere e (T.Image n) = true

-- each instruction of a procedure passes a test
abbrev pub each_insn : (BlockInsn → Bool) → BlockProc → Bool
each_insn t f = list_all (λ (b : Block). list_all t b.insns) f.blocks

-- half of the 8,192 bytes that frames have beside their limit is for the entry, and half for what it calls
abbrev pub is_small : Bool → BlockProc → Bool
is_small is_entry f = nat_le (need f) 4096 && (is_entry || each_insn is_no_call f)

abbrev pub has_place : Bool → BlockProc → Bool
has_place is_entry f = cond (is_charged f) (has_frame f) (is_small is_entry f)

-- the procedures from the number p on
abbrev pub all_placed : ℕ → ℕ → List BlockProc → Bool
all_placed e p [] = true
all_placed e p (f ∷ fs) = has_place (p == e) f && all_placed e (p + 1) fs

abbrev pub is_entry_alone : BlockProgram → Bool
is_entry_alone q = list_all (each_insn (names_other q.entry)) q.procs && list_all (λ (fix : Fix). aims_elsewhere q.entry fix.target) q.fixes

abbrev pub suffices : BlockProgram → Bool
suffices q = all_placed q.entry 0 q.procs && is_entry_alone q
