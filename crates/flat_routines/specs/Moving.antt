-- Moving the elements of an array of any rank to a place where they lie one after the other, and back.
use Rattle.std.specs.Prelude.{◌≡◌, ℕ, zero, suc, ◌+◌, ◌*◌, ◌^◌, ◌<◌, ◌≤◌, false, List, [], ◌∷◌, length, Some, slice_get}
use Rattle.jf_base.specs.declared.numbers.Width.TheVariants.{W8}
use Rattle.behaviour.specs.Behaviour.{Running}
use Rattle.flat_ir.specs.Bytes.{Bytes, Areas}
use Rattle.flat_ir.specs.Ranges.{AreBytes, MayUse, Apart}
use Rattle.flat_ir.specs.Placement.{Places}
use Rattle.flat_ir.specs.Tree.{Expr, Num, Val, Load, Stmt, Skip, Set, Call, If, Return, Procedure}
use Rattle.flat_ir.specs.Flat.{World, seen, with_memory, Back, calls_of}
use Rattle.flat_ir.specs.Comes.{Exactly}
use Rattle.flat_routines.specs.Short.{◌⊹◌, ◌⊖◌, ◌⊛◌, quotient, remainder, less, statements, while}
use Rattle.flat_routines.specs.Copying.{Copies}
use Rattle.flat_routines.specs.Dims.{Dim, count, AreSubscripts, position, element, DimsAt}

-- the values 0 to 5 are the parameters: where the elements lie one after the other, the address of the first element of the array, the length of an element in bytes, the rank, where the dimensions stand, and the count of elements.
-- Value 6 counts the elements. For each, value 7 is what is left of its position, 8 its address so far, 9 where the next dimension stands, 10 how many are left, and 11 the extent
abbrev pub dim_turn : List Stmt
dim_turn =
    Set 11 (Load W8 false (Val 9 ⊹ Num 8)) ∷
    Set 8 (Val 8 ⊹ remainder (Val 7) (Val 11) ⊛ Load W8 false (Val 9 ⊹ Num 16)) ∷
    Set 7 (quotient (Val 7) (Val 11)) ∷
    Set 9 (Val 9 ⊹ Num 24) ∷
    Set 10 (Val 10 ⊖ Num 1) ∷ []

-- the element is copied, and the next one begins where it ends
abbrev pub copy_turn : ℕ → List Expr → List Stmt
copy_turn copy arguments =
    Call [] copy arguments ∷
    Set 0 (Val 0 ⊹ Val 2) ∷
    Set 6 (Val 6 ⊹ Num 1) ∷ []

abbrev pub element_turn : ℕ → List Expr → List Stmt
element_turn copy arguments =
    Set 7 (Val 6) ∷
    Set 8 (Val 1) ∷
    Set 9 (Val 4) ∷
    Set 10 (Val 3) ∷
    while (Val 10) dim_turn ∷
    copy_turn copy arguments

-- elements without bytes aren't looked at
abbrev pub mover : ℕ → List Expr → Procedure
mover copy arguments = record {
  params = 6;
  values = 12;
  charge = 0;
  body = statements (
      If (Val 2)
      (statements (Set 6 (Num 0) ∷ while (less (Val 6) (Val 5)) (element_turn copy arguments) ∷ []))
      Skip ∷
      Return [] ∷ []);
}

-- gather(packed, base, length, rank, dims, n), where procedure `copy` copies bytes
abbrev pub gather : ℕ → Procedure
gather copy = mover copy (Val 0 ∷ Val 8 ∷ Val 2 ∷ [])

-- scatter(packed, base, length, rank, dims, n)
abbrev pub scatter : ℕ → Procedure
scatter copy = mover copy (Val 8 ∷ Val 0 ∷ Val 2 ∷ [])

-- each element is at its position, and no other byte is changed
pub record Gathered (m m' : Bytes) (packed base len : ℕ) (dims : List Dim) : Type 0 where
  pub there : (ks : List ℕ) (i : ℕ) → AreSubscripts dims ks → i < len → m' (packed + position dims ks * len + i) ≡ m (element base dims ks + i)
  pub elsewhere : (i : ℕ) → Apart packed (count dims * len) i 1 → m' i ≡ m i

-- each element is what stood at its position, and no other byte is changed
pub record Scattered (m m' : Bytes) (packed base len : ℕ) (dims : List Dim) : Type 0 where
  pub there : (ks : List ℕ) (i : ℕ) → AreSubscripts dims ks → i < len → m' (element base dims ks + i) ≡ m (packed + position dims ks * len + i)
  pub elsewhere : (i : ℕ) → ((ks : List ℕ) → AreSubscripts dims ks → Apart (element base dims ks) len i 1) → m' i ≡ m i

-- what both ask for: the dimensions can be read, and the elements and the places for them be used, which are apart from one another
pub record Moving (s : Areas) (m : Bytes) (packed base len table : ℕ) (dims : List Dim) : Type 0 where
  pub bytes : AreBytes m
  pub base_fits : base < 2 ^ 64
  pub dims_there : DimsAt s m table dims
  pub dims_end : table + length dims * 24 < 2 ^ 64
  pub packed_usable : MayUse s packed (count dims * len)
  pub element_usable : (ks : List ℕ) → AreSubscripts dims ks → MayUse s (element base dims ks) len
  pub element_apart : (ks : List ℕ) → AreSubscripts dims ks → Apart packed (count dims * len) (element base dims ks) len

-- gathering doesn't write over the dimensions
pub record Gathering (s : Areas) (m : Bytes) (packed base len table : ℕ) (dims : List Dim) : Type 0 where
  pub moving : Moving s m packed base len table dims
  pub dims_apart : Apart packed (count dims * len) table (length dims * 24)

-- nor does scattering, and no two elements have a byte in common
pub record Scattering (s : Areas) (m : Bytes) (packed base len table : ℕ) (dims : List Dim) : Type 0 where
  pub moving : Moving s m packed base len table dims
  pub dims_apart : (ks : List ℕ) → AreSubscripts dims ks → Apart (element base dims ks) len table (length dims * 24)
  pub each_apart : (ks js : List ℕ) → AreSubscripts dims ks → AreSubscripts dims js → ¬ (ks ≡ js) → Apart (element base dims ks) len (element base dims js) len

-- one for the call, and for each element one, one for each dimension, and what copying takes. Where there is no byte to move, the call alone is counted
abbrev pub units : (len rank n : ℕ) → ℕ
units zero rank n = 1
units (suc len) rank n = n * (suc len + rank + 2) + 1

-- procedures that gather and that scatter, by the number of a procedure that copies: a call of one goes on after exactly so many units, without results.
-- Where there is no byte to move, nothing is asked for
abbrev pub Gathers : (ℕ → Procedure) → Type 0
Gathers f =
    (copying : Procedure) → Copies copying
    → (ps : List Procedure) (g : Places) (copy p : ℕ) → slice_get ps copy ≡ Some copying → slice_get ps p ≡ Some (f copy)
    → (d packed base len table : ℕ) (dims : List Dim) (w : World) (back : Back) → w.frames ≤ g.frames
    → (0 < count dims * len → Gathering g.areas w.memory packed base len table dims) → count dims + length dims + len + 1 < d
    → (m' : Bytes) × Gathered w.memory m' packed base len dims
    × Exactly (seen w Running) (units len (length dims) (count dims)) (back [] (with_memory w m')) (calls_of ps g d p (packed ∷ base ∷ len ∷ length dims ∷ table ∷ count dims ∷ []) w back)

abbrev pub Scatters : (ℕ → Procedure) → Type 0
Scatters f =
    (copying : Procedure) → Copies copying
    → (ps : List Procedure) (g : Places) (copy p : ℕ) → slice_get ps copy ≡ Some copying → slice_get ps p ≡ Some (f copy)
    → (d packed base len table : ℕ) (dims : List Dim) (w : World) (back : Back) → w.frames ≤ g.frames
    → (0 < count dims * len → Scattering g.areas w.memory packed base len table dims) → count dims + length dims + len + 1 < d
    → (m' : Bytes) × Scattered w.memory m' packed base len dims
    × Exactly (seen w Running) (units len (length dims) (count dims)) (back [] (with_memory w m')) (calls_of ps g d p (packed ∷ base ∷ len ∷ length dims ∷ table ∷ count dims ∷ []) w back)
