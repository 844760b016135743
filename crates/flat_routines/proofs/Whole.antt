-- A whole call of the mover: where there is nothing to move, and where there is.
use Rattle.std.proofs.Common.{◌≡◌, ℕ, suc, ◌+◌, ◌*◌, ◌^◌, ◌<◌, ◌≤◌, List, [], ◌∷◌, length, Some, refl, arith}
use Rattle.std.specs.Prelude.{slice_get}
use Rattle.behaviour.specs.Behaviour.{Running, Behaviour}
use Rattle.flat_ir.specs.Ranges.{AreBytes, MayUse}
use Rattle.flat_ir.specs.Placement.{Places}
use Rattle.flat_ir.specs.Tree.{Expr, Procedure}
use Rattle.flat_ir.specs.Flat.{World, seen, with_memory, Back, evals, calls_of}
use Rattle.flat_ir.specs.Comes.{Exactly}
use Rattle.flat_ir.proofs.Exact.{done, counted, if_less, enters_routine}
use Rattle.flat_routines.specs.Copying.{Copies}
use Rattle.flat_routines.specs.Dims.{Dim, count, element, DimsAt}
use Rattle.flat_routines.specs.Moving.{mover, units}
use Rattle.flat_routines.proofs.Order.{digits}
use Rattle.flat_routines.proofs.Moves.{moves}
use Rattle.flat_routines.proofs.Mover.{elements_loop}

module _ (ps : List Procedure) (g : Places) (copy p : ℕ) (arguments : List Expr) (here : slice_get ps p ≡ Some (mover copy arguments)) (d : ℕ) (w : World) (back : Back) (room : w.frames ≤ g.frames) where
  -- elements without bytes
  pub without_bytes : (packed base rank table n : ℕ) → 0 < d → Exactly (seen w Running) 1 (back [] w) (calls_of ps g d p (packed ∷ base ∷ 0 ∷ rank ∷ table ∷ n ∷ []) w back)
  without_bytes packed base rank table n fuel =
      enters_routine ps g p _ _ _ d 0 _ _ w back refl here refl room fuel (λ d le. done)

  -- no element
  pub without_elements : (packed base len rank table n : ℕ) → n ≡ 0 → 0 < d → Exactly (seen w Running) 1 (back [] w) (calls_of ps g d p (packed ∷ base ∷ suc len ∷ rank ∷ table ∷ n ∷ []) w back)
  without_elements packed base len rank table n none fuel =
      enters_routine ps g p _ _ _ d 0 _ _ w back refl here refl room fuel
      (λ d le. if_less 0 n _ _ (λ h. absurd (omega arith)) (λ h. done))

  module _ (copying : Procedure) (copies : Copies copying) (has_copy : slice_get ps copy ≡ Some copying)
      (packed base len table : ℕ) (dims : List Dim) (to_of from_of : ℕ → ℕ → ℕ)
      (goes : (c e b l r tb n k q at left x : ℕ) (w : World) (next : List ℕ → Behaviour) → evals arguments g (c ∷ b ∷ l ∷ r ∷ tb ∷ n ∷ k ∷ q ∷ e ∷ at ∷ left ∷ x ∷ []) w next ≡ next (to_of c e ∷ from_of c e ∷ l ∷ [])) where
    abbrev target : ℕ → ℕ
    target k = to_of (packed + k * suc len) (element base dims (digits k dims))

    abbrev source : ℕ → ℕ
    source k = from_of (packed + k * suc len) (element base dims (digits k dims))

    pub with_elements : base < 2 ^ 64 → packed + count dims * suc len < 2 ^ 64 → count dims < 2 ^ 64 → table + length dims * 24 < 2 ^ 64 → AreBytes w.memory → count dims + length dims + suc len + 1 < d
        → ((k : ℕ) → k < count dims → MayUse g.areas (target k) (suc len)) → ((k : ℕ) → k < count dims → MayUse g.areas (source k) (suc len)) → ((k : ℕ) → k < count dims → DimsAt g.areas (moves target source (suc len) w.memory k) table dims)
        → Exactly (seen w Running) (units (suc len) (length dims) (count dims)) (back [] (with_memory w (moves target source (suc len) w.memory (count dims)))) (calls_of ps g d p (packed ∷ base ∷ suc len ∷ length dims ∷ table ∷ count dims ∷ []) w back)
    with_elements fits narrow small table_ends bytes fuel ut uf kept =
        counted (omega arith) (enters_routine ps g p _ _ _ d (count dims + length dims + suc len + 1) _ _ w back refl here refl room fuel
        (λ d le.
        elements_loop ps g copy arguments d back w copying copies has_copy room packed base (suc len) table dims to_of from_of goes fits narrow small table_ends bytes (omega arith) (omega arith) ut uf kept
        (count dims) d 0 packed 0 0 0 0 0 0 w.memory refl (omega arith) refl (omega arith) (omega arith)))
