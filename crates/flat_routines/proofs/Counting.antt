-- `count_elements` counts.
use Rattle.std.proofs.Common.{◌≡◌, ℕ, zero, suc, ◌+◌, ◌*◌, ◌%◌, ◌^◌, ◌<◌, ◌≤◌, List, [], ◌∷◌, length, refl, ap, ◌∙◌, arith}
use Rattle.std.specs.Prelude.{slice_index}
use Rattle.std.proofs.Math.Nat.{mul_assoc}
use Rattle.std.proofs.lemmas.Nat.{mul-mod_first}
use Rattle.behaviour.specs.Behaviour.{Running}
use Rattle.flat_ir.specs.Placement.{Places}
use Rattle.flat_ir.specs.Tree.{Val, Procedure}
use Rattle.flat_ir.specs.Flat.{World, seen, Next, Back, turns, inside, nowhere, meaning, calls_of}
use Rattle.flat_ir.specs.Comes.{Exactly}
use Rattle.flat_ir.proofs.Exact.{done, counted, ending, ticks, load_known, if_zero, if_some, enters_routine}
use Rattle.flat_routines.specs.Short.{turn}
use Rattle.flat_routines.specs.Dims.{Dim, count, DimsAt}
use Rattle.flat_routines.specs.Counting.{extent_turn, count_elements, Counts}

module _ (ps : List Procedure) (g : Places) (d : ℕ) (back : Back) (w : World) where
  -- behind the loop
  abbrev answer : Next
  answer env w = back (slice_index env 2 ∷ []) w

  abbrev body : Next → Next
  body = meaning (turn (Val 0) extent_turn) g (calls_of ps g d) d back (inside answer nowhere)

  extents_loop : (ds : List Dim) (fuel left at product a sofar : ℕ) → left ≡ length ds → at ≡ a → product ≡ sofar % 2 ^ 64 → a + length ds * 24 < 2 ^ 64 → DimsAt g.areas w.memory a ds → length ds ≤ fuel
      → Exactly (seen w Running) (length ds) (back (sofar * count ds % 2 ^ 64 ∷ []) w) (body (turns fuel body) (left ∷ at ∷ product ∷ []) w)
  extents_loop [] fuel left at product a sofar el ea ep narrow there enough =
      let e : product ≡ sofar * 1 % 2 ^ 64 = ep ∙ omega arith in
      if_zero left _ _ el (ending (ap (λ n. back (n ∷ []) w) e) done)
  extents_loop (y ∷ ds) zero left at product a sofar el ea ep narrow there enough = absurd (omega arith)
  extents_loop (y ∷ ds) (suc fuel) left at product a sofar el ea ep narrow there enough =
      if_some left _ _ (omega arith)
      (load_known g.areas _ _ 8 w.memory (a + 8) y.extent (omega arith) there.0
      (counted (omega arith) (ticks w _ refl
      (ending (ap (λ n. back (n % 2 ^ 64 ∷ []) w) (mul_assoc sofar y.extent (count ds)))
      (extents_loop ds fuel _ _ _ (a + 24) (sofar * y.extent) (omega arith) (omega arith)
      (ap (λ n. n * y.extent % 2 ^ 64) ep ∙ mul-mod_first sofar y.extent (2 ^ 64)) (omega arith) there.2 (omega arith))))))

pub counts : Counts count_elements
counts ps g p here d table dims w back room there narrow fuel =
    counted (omega arith) (enters_routine ps g p _ _ _ d (length dims) _ _ w back refl here refl room fuel
    (λ d le. ending (ap (λ n. back (n % 2 ^ 64 ∷ []) w) (omega arith))
    (extents_loop ps g d back w dims d (length dims) table 1 table 1 refl refl (omega arith) narrow there le)))
