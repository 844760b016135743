-- Copying n bytes.
use Rattle.std.specs.Prelude.{◌≡◌, ℕ, ◌+◌, ◌<◌, ◌≤◌, false, List, [], ◌∷◌, Some, slice_get}
use Rattle.jf_base.specs.declared.numbers.Width.TheVariants.{W1}
use Rattle.behaviour.specs.Behaviour.{Running}
use Rattle.flat_ir.specs.Bytes.{Bytes, Areas}
use Rattle.flat_ir.specs.Ranges.{AreBytes, MayUse, copied}
use Rattle.flat_ir.specs.Placement.{Places}
use Rattle.flat_ir.specs.Tree.{Num, Val, Load, Stmt, Set, Store, If, Return, Procedure}
use Rattle.flat_ir.specs.Flat.{World, seen, with_memory, Back, calls_of}
use Rattle.flat_ir.specs.Comes.{Exactly}
use Rattle.flat_routines.specs.Short.{◌⊹◌, ◌⊖◌, less, statements, while}

-- the values 0 to 2 are the parameters to, from and n. The last byte goes first
abbrev pub down_turn : List Stmt
down_turn =
    Set 2 (Val 2 ⊖ Num 1) ∷
    Store W1 (Val 0 ⊹ Val 2) (Load W1 false (Val 1 ⊹ Val 2)) ∷ []

-- the first byte goes first: value 3 counts them
abbrev pub up_turn : List Stmt
up_turn =
    Store W1 (Val 0 ⊹ Val 3) (Load W1 false (Val 1 ⊹ Val 3)) ∷
    Set 3 (Val 3 ⊹ Num 1) ∷ []

-- copy_bytes(to, from, n): where `to` is one of the bytes to be copied, the last goes first, so that none is overwritten before it is read
abbrev pub copy_bytes : Procedure
copy_bytes = record {
  params = 3;
  values = 4;
  charge = 0;
  body = statements (
      If (less (Val 0 ⊖ Val 1) (Val 2))
      (while (Val 2) down_turn)
      (statements (Set 3 (Num 0) ∷ while (less (Val 3) (Val 2)) up_turn ∷ [])) ∷
      Return [] ∷ []);
}

-- what a call asks for: n bytes that may be stored and n that may be loaded. They may be the same ones, in part or all
pub record Copying (s : Areas) (m : Bytes) (to from n : ℕ) : Type 0 where
  pub target : MayUse s to n
  pub source : MayUse s from n
  pub bytes : AreBytes m

-- a procedure that copies: a call of it goes on after exactly n + 1 units, without results, and where the n bytes at `to` are those that stood at `from` and no other is changed.
-- It takes no bytes of the limit on frames, and calls n + 1 deep are enough
abbrev pub Copies : Procedure → Type 0
Copies f =
    (ps : List Procedure) (g : Places) (p : ℕ) → slice_get ps p ≡ Some f
    → (d to from n : ℕ) (w : World) (back : Back) → w.frames ≤ g.frames → Copying g.areas w.memory to from n → n < d
    → Exactly (seen w Running) (n + 1) (back [] (with_memory w (copied w.memory to from n))) (calls_of ps g d p (to ∷ from ∷ n ∷ []) w back)
