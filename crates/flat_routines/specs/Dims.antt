-- Arrays by their dimensions, as descriptors hold them: elements by their subscripts, in the order of array elements.
use Rattle.std.specs.Prelude.{◌≡◌, ℕ, ◌+◌, ◌*◌, ◌%◌, ◌^◌, ◌<◌, List, [], ◌∷◌, Some}
use Rattle.flat_ir.specs.Bytes.{Bytes, Areas, loaded}

-- how many subscripts a dimension has, and how many bytes lie from one to the next: a number of 64 bits, as two's complement where it is negative
pub record Dim : Type 0 where
  pub extent : ℕ
  pub stride : ℕ

-- how many elements there are (ISO/IEC 1539-1:2018, 5.4.6)
abbrev pub count : List Dim → ℕ
count [] = 1
count (d ∷ ds) = d.extent * count ds

-- one subscript for each dimension, counted from 0
abbrev pub AreSubscripts : List Dim → List ℕ → Type 0
AreSubscripts [] [] = Unit {0}
AreSubscripts [] (k ∷ ks) = ⊥
AreSubscripts (d ∷ ds) [] = ⊥
AreSubscripts (d ∷ ds) (k ∷ ks) = (k < d.extent) × AreSubscripts ds ks

-- which element of the array the one with these subscripts is, counted from 0: the first dimension varies fastest (ISO/IEC 1539-1:2018, 9.5.3.2, table 9.1, less 1)
abbrev pub position : List Dim → List ℕ → ℕ
position (d ∷ ds) (k ∷ ks) = k + d.extent * position ds ks
position _ _ = 0

-- how many bytes it lies behind the first element
abbrev pub offset : List Dim → List ℕ → ℕ
offset (d ∷ ds) (k ∷ ks) = k * d.stride + offset ds ks
offset _ _ = 0

-- its address in 64 bits, from that of the first element
abbrev pub element : ℕ → List Dim → List ℕ → ℕ
element base dims ks = (base + offset dims ks) % 2 ^ 64

-- the dimensions stand in memory as in a descriptor: for each 24 bytes with its lower bound, its extent and its stride (CFI_dim_t; ISO/IEC 1539-1:2018, 18.5.2)
abbrev pub DimsAt : Areas → Bytes → ℕ → List Dim → Type 0
DimsAt s m a [] = Unit {0}
DimsAt s m a (d ∷ ds) = (loaded 8 s m (a + 8) ≡ Some d.extent) × (loaded 8 s m (a + 16) ≡ Some d.stride) × DimsAt s m (a + 24) ds

-- the positions are the order of the elements: each below the count is that of one element
pub record IsOrder (dims : List Dim) : Type 0 where
  pub below : (ks : List ℕ) → AreSubscripts dims ks → position dims ks < count dims
  pub each : (k : ℕ) → k < count dims → (ks : List ℕ) × AreSubscripts dims ks × (position dims ks ≡ k)
  pub once : (ks js : List ℕ) → AreSubscripts dims ks → AreSubscripts dims js → position dims ks ≡ position dims js → ks ≡ js
