-- How many bytes the lines of linked units take.
use Rattle.std.proofs.Common.{◌≡◌, ℕ, zero, suc, ◌+◌, ◌*◌, ◌<◌, ◌≤◌, inl, inr, List, [], ◌∷◌, ◌++◌, length, length-append, Some, None, add-one, refl, ap, arith}
use Rattle.std.specs.Prelude.{slice_get, slice_index}
use Rattle.program_image.specs.declared.Image.{Image}
use Rattle.rv_isa.specs.declared.insn.Insn.{Insn}
use Rattle.rv_isa.specs.declared.insn.Insn.TheVariants.{Jal}
use Rattle.rv_assemble.specs.declared.unit.AsmLine.{AsmLine}
use Rattle.rv_assemble.specs.declared.unit.AsmLine.TheVariants.{Label, Plain, Branch, Call, Address}
use Rattle.rv_assemble.specs.declared.unit.AsmUnit.{AsmUnit}
use Rattle.rv_assemble.specs.declared.object.ObjUnit.{ObjUnit}
use Rattle.rv_assemble.specs.Lines.{Jumps, Branches, Reaches, LineAt, IsAssembled}
use Rattle.linker.specs.Layout.{codes, images}
use Rattle.linker.proofs.Sites.{length-laid}
use Rattle.assembled_run.specs.Program.{AreLinked}
use Rattle.flatten.specs.declared.blocks.BlockProc.{BlockProc}
use Rattle.flatten.specs.declared.blocks.BlockProgram.{BlockProgram}
use Rattle.block_homes.specs.declared.homes.Assignment.{Assignment}
use Rattle.block_homes.specs.Held.{homes_in}
use Rattle.emitted_code.specs.Frames.{layout_of}
use Rattle.emitted_code.specs.Units.{proc_units, image_unit, program_units}
use Rattle.emitted_size.specs.Bounds.{most_bytes}
use Rattle.emitted_size.proofs.Lines.{proc_few}

-- a line takes at most 12 bytes
jump_wide : (code : List ℕ) (rd place next target : ℕ) → Jumps code rd place next target → next ≤ place + 8
jump_wide code rd place next target (inl j) = let e = j.0 in omega (arith, e)
jump_wide code rd place next target (inr j) = let e = j.0 in omega (arith, e)

branch_wide : (code : List ℕ) (insn : Insn) (place next target : ℕ) → Branches code insn place next target → next ≤ place + 12
branch_wide code insn place next target (inl j) = let e = j.0 in omega (arith, e)
branch_wide code insn place next target (inr j) = let e = jump_wide code 0 (place + 4) next target j.1 in omega (arith, e)

reach_wide : (code : List ℕ) (insn : Insn) (place next target : ℕ) → Reaches code insn place next target → next ≤ place + 12
reach_wide code (Jal rd imm) place next target r = let e = jump_wide code rd place next target r in omega (arith, e)
reach_wide code i place next target r = branch_wide code i place next target r

line_wide : (lines : List AsmLine) (places code : List ℕ) (place next : ℕ) (line : AsmLine) → LineAt lines places code place next line → next ≤ place + 12
line_wide lines places code place next (Label n) h = omega (arith, h)
line_wide lines places code place next (Plain i) h = let e = h.0 in omega (arith, e)
line_wide lines places code place next (Branch insn to) h = reach_wide code insn place next (slice_index places h.0) h.2
line_wide lines places code place next (Call name) h = let e = h.0 in omega (arith, e)
line_wide lines places code place next (Address rd name offset) h = let e = h.0 in omega (arith, e)

line_there : (xs : List AsmLine) (k : ℕ) → k < length xs → (x : AsmLine) × (slice_get xs k ≡ Some x)
line_there [] k h = absurd (omega arith)
line_there (x ∷ xs) zero h = (x, refl)
line_there (x ∷ xs) (suc k) h = line_there xs k (omega arith)

places_few : (u : AsmUnit) (o : ObjUnit) (a : IsAssembled u o) (k : ℕ) → k ≤ length u.lines → slice_index a.places k ≤ 12 * k
places_few u o a zero h = let b = a.begins in omega (arith, b)
places_few u o a (suc k) h =
    let x = line_there u.lines k (omega arith) in
    let w = line_wide u.lines a.places o.code (slice_index a.places k) (slice_index a.places (k + 1)) x.0 (a.lines k x.0 x.1) in
    let r = places_few u o a k (omega arith) in
    let e : slice_index a.places (k + 1) ≡ slice_index a.places (suc k) = ap (λ n. slice_index a.places n) (add-one k) in
    omega (arith, w, r, e)

unit_few : (u : AsmUnit) (o : ObjUnit) → IsAssembled u o → length o.code ≤ 12 * length u.lines
unit_few u o a = (let e = a.ends in let p = places_few u o a (length u.lines) (omega arith) in omega (arith, e, p))

-- the lines of units, and their images
abbrev all_lines : List AsmUnit → ℕ
all_lines [] = 0
all_lines (u ∷ us) = length u.lines + all_lines us

abbrev all_images : List AsmUnit → ℕ
all_images [] = 0
all_images (u ∷ us) = length u.image + all_images us

objects_few : (us : List AsmUnit) (os : List ObjUnit) → length os ≡ length us → ((i : ℕ) (u : AsmUnit) (o : ObjUnit) → slice_get us i ≡ Some u → slice_get os i ≡ Some o → IsAssembled u o)
    → (length (codes os) ≤ 12 * all_lines us) × (length (images os) ≡ all_images us)
objects_few [] [] e h = (omega arith, refl)
objects_few [] (o ∷ os) e h = absurd (omega (arith, e))
objects_few (u ∷ us) [] e h = absurd (omega (arith, e))
objects_few (u ∷ us) (o ∷ os) e h =
    let a = h 0 u o refl refl in
    let r = objects_few us os (omega (arith, e)) (λ i v p g g'. h (suc i) v p g g') in
    let c = unit_few u o a in
    let i = ap (λ (l : List ℕ). length l) a.image in (
      omega (arith, c, r.0, length-append o.code (codes os)),
      omega (arith, i, r.1, length-append o.image (images os)),
    )

-- those of a program's units
units_few : (p : ℕ) (fs : List BlockProc) (hs : List Assignment) (last : AsmUnit) → length last.lines ≤ 4
    → (12 * all_lines (proc_units p fs hs ++ last ∷ []) ≤ most_bytes fs + 48) × (all_images (proc_units p fs hs ++ last ∷ []) ≡ length last.image)
units_few p [] hs last few = (omega (arith, few), omega arith)
units_few p (f ∷ fs) [] last few =
    let r = units_few (p + 1) fs [] last few in
    let h = proc_few (layout_of f (homes_in None)) f in
    (omega (arith, h, r.0), omega (arith, r.1))
units_few p (f ∷ fs) (a ∷ hs) last few =
    let r = units_few (p + 1) fs hs last few in
    let h = proc_few (layout_of f (homes_in (Some a))) f in
    (omega (arith, h, r.0), omega (arith, r.1))

pub linear : (q : BlockProgram) (hs : List Assignment) (os : List ObjUnit) (image : Image) → AreLinked (program_units q hs) os image
    → length image.bytes ≤ most_bytes q.procs + length q.image + 64
linear q hs os image made =
    let n = made.linked.count in
    let l = length-laid os in
    let o = objects_few (program_units q hs) os made.assembled.count made.assembled.each in
    let u = units_few 0 q.procs hs (image_unit q) (omega arith) in
    omega (arith, n, l, o.0, o.1, u.0, u.1)
