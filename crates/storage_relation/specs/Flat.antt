-- Flat memory, and how it stands for a storage.
use Rattle.std.specs.Prelude.{◌≡◌, ◌≢◌, ℕ, zero, suc, ◌+◌, ◌*◌, ◌/◌, ◌%◌, ◌^◌, ◌<◌, ◌≤◌, ◌⊎◌, Bool, true, false, ◌==◌, ◌&&◌, if◌then◌else◌, List, [], ◌∷◌}
use Rattle.storage_model.specs.declared.cell.View.{View}
use Rattle.storage_model.specs.declared.cell.View.TheVariants.{Home, Loan}
use Rattle.storage_model.specs.declared.cell.Place.{Place}
use Rattle.storage_model.specs.Access.{by_offset}
use Rattle.storage_model.specs.Storage.{at, Object, Lending, Storage, places, On, IsHome, IsLive, size_of, cell_at, is_memory, has_cells, Good, Meets}
use Rattle.storage_model.specs.declared.cell.Pointer.{Pointer}
use Rattle.storage_model.specs.declared.cell.Pointer.TheVariants.{Null, At, Proc}
use Rattle.storage_model.specs.declared.cell.Cell.{Cell}
use Rattle.storage_model.specs.declared.cell.Cell.TheVariants.{Undefined, Byte, Part}
use Rattle.storage_relation.specs.Relation.{Written, Readable}

-- where each view starts, which loans were copied, and where procedures are
pub record Placement : Type 0 where
  pub start : View → ℕ
  pub copied : ℕ → Bool
  pub code : ℕ → ℕ
  -- the bytes that each descriptor object has to have
  pub fields : ℕ → ℕ → ℕ

abbrev pub address : Placement → Place → ℕ
address f p = f.start p.view + p.offset

abbrev pub address_of : Placement → Pointer → ℕ
address_of f Null = 0
address_of f (At v z) = by_offset (λ k. f.start v + k) 0 z
address_of f (Proc n t) = f.code n

-- a flat byte stands for a cell
abbrev pub Stands : Placement → Cell → ℕ → Type 0
Stands f Undefined b = Unit {0}
Stands f (Byte v) b = b ≡ v
Stands f (Part p k) b = b ≡ address_of f p / 256 ^ k % 256

-- the views with memory of their own
abbrev pub HasRegion : Placement → View → Type 0
HasRegion f (Home o) = Unit {0}
HasRegion f (Loan l) = f.copied l ≡ true

-- the length of the region of s bytes
abbrev pub room : ℕ → ℕ
room s = 16 * ((s + 16) / 16)

-- the view was made, where so many objects and loans were
abbrev pub IsMade : ℕ → ℕ → View → Type 0
IsMade made opened (Home o) = o < made
IsMade made opened (Loan l) = l < opened

abbrev pub PointerKnown : ℕ → ℕ → Pointer → Type 0
PointerKnown made opened Null = Unit {0}
PointerKnown made opened (At v k) = IsMade made opened v
PointerKnown made opened (Proc n t) = Unit {0}

abbrev pub Known : ℕ → ℕ → Cell → Type 0
Known made opened Undefined = Unit {0}
Known made opened (Byte v) = Unit {0}
Known made opened (Part p k) = PointerKnown made opened p

-- the laws of a storage that every step keeps
pub record IsStorage (s : Storage) : Type 0 where
  -- a loan stands only on views that were there before it
  pub older : (l k m : ℕ) → (places s l k).view ≡ Loan m → m < l
  -- nothing from `opened` or `made` on is open or alive
  pub to_open : (l : ℕ) → s.opened ≤ l → (s.loan l).is_open ≡ false
  pub to_make : (o : ℕ) → s.made ≤ o → (s.object o).alive ≡ false
  -- only loans that were opened have marks
  pub marked : (l k : ℕ) → Written s l k → l < s.opened
  -- each byte of an open loan stands on a live view, in range
  pub grounded : (l k : ℕ) → (s.loan l).is_open ≡ true → k < (s.loan l).bytes → Good s (places s l k)
  -- only bytes of writable loans are written
  pub by_writable : (l k : ℕ) → Written s l k → (s.loan l).writable ≡ true
  -- what is Written through a loan is Written through the loan beneath
  pub downward : (l k m : ℕ) → Written s l k → (places s l k).view ≡ Loan m → Written s m (places s l k).offset
  -- if a byte is Written through a loan, each byte that meets it of an open loan that wasn't opened later is in its chain
  pub covering : (l k m n : ℕ) → (s.loan l).is_open ≡ true → k < (s.loan l).bytes → Written s l k
      → (s.loan m).is_open ≡ true → n < (s.loan m).bytes → m ≤ l → Meets (places s) (at (Loan l) k) (at (Loan m) n)
      → On (places s) (at (Loan l) k) (at (Loan m) n)
  -- no loan stands on a descriptor object, and such an object has no cells
  pub plain : (l k : ℕ) → (s.loan l).is_open ≡ true → k < (s.loan l).bytes → is_memory s (places s l k) ≡ true
  pub blank : (o i : ℕ) → has_cells (s.object o).kind ≡ false → (s.object o).cells i ≡ Undefined
  -- pointers in cells lead to views that were made
  pub known : (o i : ℕ) → Known s.made s.opened ((s.object o).cells i)

-- flat memory stands for a storage
pub record Shows (s : Storage) (f : Placement) (memory : ℕ → ℕ) : Type 0 where
  pub laws : IsStorage s
  -- regions of live objects and open copied loans begin at multiples of 16 and are apart
  pub aligned : (v : View) → IsLive s v → HasRegion f v → f.start v % 16 ≡ 0
  pub apart : (v w : View) → IsLive s v → IsLive s w → HasRegion f v → HasRegion f w → v ≢ w
      → (f.start v + room (size_of s v) ≤ f.start w) ⊎ (f.start w + room (size_of s w) ≤ f.start v)
  -- a byte of a passed loan has the address of its place
  pub passed : (l k : ℕ) → (s.loan l).is_open ≡ true → f.copied l ≡ false → k < (s.loan l).bytes → f.start (Loan l) + k ≡ address f (places s l k)
  -- no live view begins at 0
  pub begins : (v : View) → IsLive s v → 0 < f.start v
  -- each byte that can be read without V07 stands for its home cell
  pub cells : (p h : Place) → Good s p → Readable s p → IsHome h.view → On (places s) p h → Stands f (cell_at s h) (memory (address f p))
  -- an unwritten byte of a copied loan is as the byte at its place
  pub unwritten : (l k : ℕ) → (s.loan l).is_open ≡ true → f.copied l ≡ true → k < (s.loan l).bytes → (s.loan l).written k ≡ false
      → memory (f.start (Loan l) + k) ≡ memory (address f (places s l k))
  -- the bytes of a live descriptor object are those that it has to have
  pub fields : (o i : ℕ) → (s.object o).alive ≡ true → has_cells (s.object o).kind ≡ false → i < (s.object o).size
      → memory (f.start (Home o) + i) ≡ f.fields o i

abbrev pub put : (ℕ → ℕ) → ℕ → ℕ → ℕ → ℕ
put memory a b x = if x == a then b else memory x

-- n bytes are copied, one after the other
abbrev pub copy : (ℕ → ℕ) → (ℕ → ℕ) → ℕ → (ℕ → ℕ) → ℕ → ℕ
copy from to zero memory = memory
copy from to (suc n) memory = put (copy from to n memory) (to n) (copy from to n memory (from n))

-- what closing loan n does to memory: a copied writable loan is scattered, all of its bytes
abbrev pub closing : Storage → Placement → ℕ → (ℕ → ℕ) → ℕ → ℕ
closing s f n memory = if f.copied n && (s.loan n).writable
    then copy (λ k. f.start (Loan n) + k) (λ k. address f (places s n k)) (s.loan n).bytes memory
    else memory

-- loan `s.opened` gets a start, and everything else keeps its own
pub record StartsLoan (s : Storage) (f g : Placement) : Type 0 where
  pub start : (v : View) → v ≢ Loan s.opened → g.start v ≡ f.start v
  pub copied : (l : ℕ) → l ≢ s.opened → g.copied l ≡ f.copied l
  pub code : (n : ℕ) → g.code n ≡ f.code n
  pub fields : (o i : ℕ) → g.fields o i ≡ f.fields o i
  pub begins : 0 < g.start (Loan s.opened)

-- the new loan is passed: its bytes lie at their places already
pub record Passes (s : Storage) (new : Lending) (f g : Placement) : Type 0 where
  pub flag : g.copied s.opened ≡ false
  pub lies : (k : ℕ) → k < new.bytes → g.start (Loan s.opened) + k ≡ address f (new.place k)

-- the new loan is copied: it gets a region of its own
pub record Copies (s : Storage) (new : Lending) (f g : Placement) : Type 0 where
  pub flag : g.copied s.opened ≡ true
  pub aligned : g.start (Loan s.opened) % 16 ≡ 0
  pub apart : (v : View) → IsLive s v → HasRegion f v
      → (f.start v + room (size_of s v) ≤ g.start (Loan s.opened)) ⊎ (g.start (Loan s.opened) + room new.bytes ≤ f.start v)

-- the gather at an opening
abbrev pub gather : Storage → Lending → Placement → Placement → (ℕ → ℕ) → ℕ → ℕ
gather s new f g memory = copy (λ k. address f (new.place k)) (λ k. g.start (Loan s.opened) + k) new.bytes memory

-- object `s.made` gets a region, and everything else keeps its own
pub record StartsObject (s : Storage) (new : Object) (f g : Placement) : Type 0 where
  pub start : (v : View) → v ≢ Home s.made → g.start v ≡ f.start v
  pub copied : (l : ℕ) → g.copied l ≡ f.copied l
  pub code : (n : ℕ) → g.code n ≡ f.code n
  pub fields : (o i : ℕ) → o ≢ s.made → g.fields o i ≡ f.fields o i
  pub begins : 0 < g.start (Home s.made)
  pub aligned : g.start (Home s.made) % 16 ≡ 0
  pub apart : (v : View) → IsLive s v → HasRegion f v
      → (f.start v + room (size_of s v) ≤ g.start (Home s.made)) ⊎ (g.start (Home s.made) + room new.size ≤ f.start v)

-- memory after the making of an object: its bytes are in its region, and nothing outside the region changes
pub record Fills (s : Storage) (new : Object) (g : Placement) (memory after : ℕ → ℕ) : Type 0 where
  pub rest : (a : ℕ) → (a < g.start (Home s.made)) ⊎ (g.start (Home s.made) + room new.size ≤ a) → after a ≡ memory a
  pub described : (i : ℕ) → i < new.size → has_cells new.kind ≡ false → after (g.start (Home s.made) + i) ≡ g.fields s.made i
  pub shown : (i : ℕ) → i < new.size → Stands g (new.cells i) (after (g.start (Home s.made) + i))

-- bytes are stored from an address on
abbrev pub store_all : (ℕ → ℕ) → ℕ → List ℕ → ℕ → ℕ
store_all memory a [] = memory
store_all memory a (b ∷ bs) = store_all (put memory a b) (a + 1) bs

-- each byte stands for the cell at its place in the list
pub data AllStand (f : Placement) : List Cell → List ℕ → Type 0 where
  Nothing : AllStand f [] []
  Each : {c : Cell} {b : ℕ} {cs : List Cell} {bs : List ℕ} → Stands f c b → AllStand f cs bs → AllStand f (c ∷ cs) (b ∷ bs)

abbrev pub AllKnown : ℕ → ℕ → List Cell → Type 0
AllKnown made opened [] = Unit {0}
AllKnown made opened (c ∷ cs) = Known made opened c × AllKnown made opened cs

-- live view v is a view of object o
pub record IsViewOf (s : Storage) (v : View) (o : ℕ) : Type 0 where
  pub live : IsLive s v
  pub spot : ℕ
  pub home : ℕ
  pub on : On (places s) (at v spot) (at (Home o) home)
  pub good : IsHome v ⊎ (spot < size_of s v)

-- descriptor object n gets other bytes, and nothing else changes
pub record Describes (s : Storage) (f : Placement) (n : ℕ) (fields : ℕ → ℕ → ℕ) (memory after : ℕ → ℕ) : Type 0 where
  pub live : (s.object n).alive ≡ true
  pub kind : has_cells (s.object n).kind ≡ false
  pub others : (o i : ℕ) → o ≢ n → fields o i ≡ f.fields o i
  pub rest : (a : ℕ) → (a < f.start (Home n)) ⊎ (f.start (Home n) + (s.object n).size ≤ a) → after a ≡ memory a
  pub shown : (i : ℕ) → i < (s.object n).size → after (f.start (Home n) + i) ≡ fields n i

-- all places of a loan are in one view
pub record OneView (s : Storage) : Type 0 where
  pub same : (l j k : ℕ) → j < (s.loan l).bytes → k < (s.loan l).bytes → (places s l j).view ≡ (places s l k).view
