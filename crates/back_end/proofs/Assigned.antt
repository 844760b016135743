-- Homes that were assigned to all procedures of a program.
use Rattle.std.proofs.Common.{◌≡◌, ℕ, zero, suc, List, [], ◌∷◌, length, Some, refl, sym, subst, arith}
use Rattle.std.specs.Prelude.{slice_get}
use Rattle.flatten.specs.declared.blocks.BlockInsn.{BlockInsn}
use Rattle.flatten.specs.declared.blocks.BlockInsn.TheVariants as I
use Rattle.flatten.specs.declared.blocks.Block.{Block}
use Rattle.flatten.specs.declared.blocks.BlockProc.{BlockProc}
use Rattle.block_homes.specs.declared.homes.Assignment.{Assignment}
use Rattle.block_homes.specs.Held.{homes_in}
use Rattle.reg_alloc.specs.All as R
use Rattle.emitted_units.specs.Sizes.{InsnHeld, InsnsHeld, BlocksHeld, ProcHeld, ProcsHeld}
use Rattle.emitted_code.specs.Chain.{NumberFits}
use Rattle.block_image.specs.Images.{IsAssigned, AreAssigned}

-- the element of another list of that length
pub other : {A B : Type 0} (xs : List A) (ys : List B) (i : ℕ) (x : A) → length ys ≡ length xs → slice_get xs i ≡ Some x → (y : B) × (slice_get ys i ≡ Some y)
other [] ys i x len e = cc
other (a ∷ xs) [] i x len e = absurd (omega (arith, len))
other (a ∷ xs) (y ∷ ys) zero x len e = (y, refl)
other (a ∷ xs) (y ∷ ys) (suc i) x len e = other xs ys i x (omega (arith, len)) e

pub all_assigned : (procs : List BlockProc) (hs : List Assignment) → R.AreAssigned procs hs → AreAssigned procs hs
all_assigned procs hs a p f e =
    let at = other procs hs p f a.count e in
    let is = a.each p f at.0 e at.1 in
    subst (λ o. IsAssigned f (homes_in o)) (sym at.1) (record { homes_are = is.homes; valid = is.valid })

-- numbers that lines hold are of 64 bits
number_fits : (i : BlockInsn) → InsnHeld i → NumberFits i
number_fits (I.Number x n) h = h
number_fits (I.Copy x y) h = tt
number_fits (I.Binary o x y z) h = tt
number_fits (I.Load x w s y) h = tt
number_fits (I.Store w y z) h = tt
number_fits (I.ProcAddress x p) h = tt
number_fits (I.ImageAddress x n) h = tt
number_fits (I.Call xs p ys) h = tt
number_fits (I.CallAt xs y ys) h = tt
number_fits (I.Take x) h = tt
number_fits (I.Give y) h = tt

insn_held : (is : List BlockInsn) (j : ℕ) (i : BlockInsn) → InsnsHeld is → slice_get is j ≡ Some i → InsnHeld i
insn_held [] j i h e = cc
insn_held (x ∷ is) zero i h e = subst InsnHeld (cc) h.0
insn_held (x ∷ is) (suc j) i h e = insn_held is j i h.1 e

block_held : (bs : List Block) (b : ℕ) (k : Block) → BlocksHeld bs → slice_get bs b ≡ Some k → InsnsHeld k.insns
block_held [] b k h e = cc
block_held (x ∷ bs) zero k h e = let same : x ≡ k = cc in subst (λ (k : Block). InsnsHeld k.insns) same h.0
block_held (x ∷ bs) (suc b) k h e = block_held bs b k h.2 e

pub proc_held : (fs : List BlockProc) (p : ℕ) (f : BlockProc) → ProcsHeld fs → slice_get fs p ≡ Some f → ProcHeld f
proc_held [] p f h e = cc
proc_held (x ∷ fs) zero f h e = let same : x ≡ f = cc in subst ProcHeld same h.0
proc_held (x ∷ fs) (suc p) f h e = proc_held fs p f h.1 e

pub numbers_fit : (f : BlockProc) (i : BlockInsn) (b : ℕ) (k : Block) (j : ℕ) → ProcHeld f → slice_get f.blocks b ≡ Some k → slice_get k.insns j ≡ Some i → NumberFits i
numbers_fit f i b k j h eb ei = number_fits i (insn_held k.insns j i (block_held f.blocks b k h.blocks eb) ei)

pub all_assigned_at : (procs procs' : List BlockProc) (hs hs' : List Assignment) → procs' ≡ procs → hs' ≡ hs → R.AreAssigned procs' hs → AreAssigned procs hs'
all_assigned_at procs procs' hs hs' e e' a =
    let P : List BlockProc → Type 0 = λ ps. R.AreAssigned ps hs in
    let H : List Assignment → Type 0 = λ hs. AreAssigned procs hs in
    subst H (sym e') (all_assigned procs hs (subst P e a))
