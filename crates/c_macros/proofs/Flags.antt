-- Flags that are taken down and put up.
use Rattle.std.proofs.Common.{◌≡◌, ℕ, zero, suc, ◌<◌, Bool, true, false, List, [], ◌∷◌, length, get_or, refl, ap, arith}
use Rattle.std.proofs.Math.ListN.{set}
use Rattle.c_macros.specs.Expansion.{count}

pub fewer : (on : List Bool) (n : ℕ) → get_or on n false ≡ true → count on ≡ suc (count (set on n false))
unfolding count
fewer [] n e = cc
fewer (b ∷ bs) zero e = rw e refl
fewer (true ∷ bs) (suc n) e = ap suc (fewer bs n e)
fewer (false ∷ bs) (suc n) e = fewer bs n e

pub again_up : (on : List Bool) (n : ℕ) → get_or on n false ≡ true → set (set on n false) n true ≡ on
again_up [] n e = cc
again_up (b ∷ bs) zero e = rw e refl
again_up (b ∷ bs) (suc n) e = ap (λ l. b ∷ l) (again_up bs n e)

pub within_flags : (on : List Bool) (n : ℕ) → get_or on n false ≡ true → n < length on
within_flags [] n e = cc
within_flags (b ∷ bs) zero e = omega arith
within_flags (b ∷ bs) (suc n) e = omega (arith, within_flags bs n e)
