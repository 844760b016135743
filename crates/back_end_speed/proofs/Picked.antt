-- The procedure and the assignment of one number.
use Rattle.std.proofs.Common.{◌≡◌, ℕ, zero, suc, ◌<◌, List, [], ◌∷◌, length, get_or, sym, ap, subst, arith, Some}
use Rattle.std.specs.Prelude.{slice_get}
use Rattle.flatten.specs.declared.blocks.BlockProc.{BlockProc}
use Rattle.block_homes.specs.declared.homes.Assignment.{Assignment}
use Rattle.block_homes.specs.Valid.{AreHomes}
use Rattle.reg_alloc.specs.All.{AreAssigned}

got : {A : Type 0} (xs : List A) (i : ℕ) (x : A) → i < length xs → x ≡ get_or xs i x → slice_get xs i ≡ Some x
got [] i x lt e = absurd (omega (arith, lt))
got (y ∷ xs) zero x lt e = ap (λ z. Some z) (sym e)
got (y ∷ xs) (suc i) x lt e = got xs i x (omega (arith, lt)) e

pub homes_at : (procs : List BlockProc) (assignments : List Assignment) (f : ℕ) (q : BlockProc) (a : Assignment) → AreAssigned procs assignments → f < length procs → q ≡ get_or procs f q → a ≡ get_or assignments f a → AreHomes q.values a.homes
homes_at procs assignments f q a all lt eq ea = (all.each f q a (got procs f q lt eq) (got assignments f a (omega (arith, lt, all.count)) ea)).homes
