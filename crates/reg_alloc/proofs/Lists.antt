-- Members of lists of numbers.
use Rattle.std.proofs.Common.{◌≡◌, ◌≢◌, ℕ, zero, suc, ◌<◌, ◌⊎◌, inl, inr, List, [], ◌∷◌, ◌++◌, length, get_or, refl, sym, ap, subst, arith, Some}
use Rattle.std.specs.Prelude.{slice_get}
use Rattle.std.proofs.lemmas.Bool.Decides.{eqb_tells}
use Rattle.flatten.specs.declared.blocks.Block.{Block}
use Rattle.flatten.specs.Named.{AllBelow}
use Rattle.reg_alloc.specs.Steps.{Among}

pub among_front : (x : ℕ) (xs ys : List ℕ) → Among x xs → Among x (xs ++ ys)
among_front x [] ys h = elim h [ ]
among_front x (y ∷ xs) ys (inl e) = inl e
among_front x (y ∷ xs) ys (inr h) = inr (among_front x xs ys h)

pub among_last : (x : ℕ) (xs : List ℕ) → Among x (xs ++ x ∷ [])
among_last x [] = inl refl
among_last x (y ∷ xs) = inr (among_last x xs)

pub among_split : (x y : ℕ) (xs : List ℕ) → Among x (xs ++ y ∷ []) → Among x xs ⊎ (x ≡ y)
among_split x y [] (inl e) = inr e
among_split x y [] (inr h) = elim h [ ]
among_split x y (z ∷ xs) (inl e) = inl (inl e)
among_split x y (z ∷ xs) (inr h) = elim (among_split x y xs h) [ inl a ↦ inl (inr a) | inr e ↦ inr e ]

pub same_or : (a b : ℕ) → (a ≡ b) ⊎ (a ≢ b)
same_or a b = elim (eqb_tells a b) [ inl e ↦ inl e.1 | inr e ↦ inr e.1 ]

pub got : (bs : List Block) (b : ℕ) (block : Block) → b < length bs → block ≡ get_or bs b block → slice_get bs b ≡ Some block
got [] b block lt e = absurd (omega (arith, lt))
got (x ∷ xs) zero block lt e = ap (λ y. Some y) (sym e)
got (x ∷ xs) (suc b) block lt e = got xs b block (omega (arith, lt)) e

pub within_among : (n : ℕ) (vs : List ℕ) (v : ℕ) → AllBelow n vs → Among v vs → v < n
within_among n [] v w a = elim a [ ]
within_among n (x ∷ vs) v w (inl e) = subst (λ y. y < n) (sym e) w.0
within_among n (x ∷ vs) v w (inr a) = within_among n vs v w.1 a
