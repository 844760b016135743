-- How many elements an array has.
use Rattle.std.specs.Prelude.{◌≡◌, ℕ, ◌+◌, ◌*◌, ◌%◌, ◌^◌, ◌<◌, ◌≤◌, false, List, [], ◌∷◌, length, Some, slice_get}
use Rattle.jf_base.specs.declared.numbers.Width.TheVariants.{W8}
use Rattle.behaviour.specs.Behaviour.{Running}
use Rattle.flat_ir.specs.Placement.{Places}
use Rattle.flat_ir.specs.Tree.{Num, Val, Load, Stmt, Set, Return, Procedure}
use Rattle.flat_ir.specs.Flat.{World, seen, Back, calls_of}
use Rattle.flat_ir.specs.Comes.{Exactly}
use Rattle.flat_routines.specs.Short.{◌⊹◌, ◌⊖◌, ◌⊛◌, statements, while}
use Rattle.flat_routines.specs.Dims.{Dim, count, DimsAt}

-- the values 0 and 1 are the parameters rank and dims, and value 2 is the product of the extents so far
abbrev pub extent_turn : List Stmt
extent_turn =
    Set 2 (Val 2 ⊛ Load W8 false (Val 1 ⊹ Num 8)) ∷
    Set 1 (Val 1 ⊹ Num 24) ∷
    Set 0 (Val 0 ⊖ Num 1) ∷ []

-- count_elements(rank, dims)
abbrev pub count_elements : Procedure
count_elements = record {
  params = 2;
  values = 3;
  charge = 0;
  body = statements (
      Set 2 (Num 1) ∷
      while (Val 0) extent_turn ∷
      Return (Val 2 ∷ []) ∷ []);
}

-- a procedure that counts elements: a call of it returns the count in 64 bits, after one unit for the call and one for each dimension, and changes nothing
abbrev pub Counts : Procedure → Type 0
Counts f =
    (ps : List Procedure) (g : Places) (p : ℕ) → slice_get ps p ≡ Some f
    → (d table : ℕ) (dims : List Dim) (w : World) (back : Back) → w.frames ≤ g.frames
    → DimsAt g.areas w.memory table dims → table + length dims * 24 < 2 ^ 64 → length dims < d
    → Exactly (seen w Running) (length dims + 1) (back (count dims % 2 ^ 64 ∷ []) w) (calls_of ps g d p (length dims ∷ table ∷ []) w back)
