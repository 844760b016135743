-- Loads and stores of the program's own memory.
use Rattle.std.proofs.Common.{◌≡◌, ℕ, zero, suc, ◌+◌, ◌/◌, ◌%◌, ◌<◌, ◌≤◌, ◌⊎◌, inl, inr, Bool, true, false, cond, Some, None, refl, ap, arith}
use Rattle.std.specs.Prelude.{◌&&◌, ◌||◌, nat_eq, nat_le}
use Rattle.std.proofs.lemmas.Bool.Decides.{nat_tests}
use Rattle.flat_ir.specs.Bytes.{Bytes, Area, Areas, poke, number, put, lies, fits, loaded, stored}
use Rattle.flat_ir.specs.Placement.{Placement, areas_of, objects_at, heap_end}
use Rattle.emitted_code.proofs.Data.{Reach}
use Rattle.emitted_code.proofs.Relate.{IsOwn}

both : (a b : Bool) → (a && b) ≡ true → (a ≡ true) × (b ≡ true)
both true b e = (refl, e)
both false b e = absurd (cc)

one_of : (a b : Bool) → (a || b) ≡ true → (a ≡ true) ⊎ (b ≡ true)
one_of true b e = inl refl
one_of false b e = inr e

lies_in : (n : ℕ) (s : Area) (a : ℕ) → lies n s a ≡ true → (s.low ≤ a) × (a + n ≤ s.high)
lies_in n s a e =
    let p = both (nat_le s.low a) (nat_le (a + n) s.high) e in
    let p0 = p.0 in
    let p1 = p.1 in
    let u : s.low ≤ a = grind (arith, nat_tests) in
    let v : a + n ≤ s.high = grind (arith, nat_tests) in
    (u, v)

-- n bytes that the program may use
pub record Owned (n bytes : ℕ) (g : Placement) (a : ℕ) : Type 0 where
  pub even : a % n ≡ 0
  pub there : ((g.image ≤ a) × (a + n ≤ g.image + bytes)) ⊎ ((objects_at bytes g ≤ a) × (a + n ≤ heap_end bytes g))

pub owned : (n bytes : ℕ) (g : Placement) (a : ℕ) → fits n (areas_of bytes g) a ≡ true → Owned n bytes g a
owned n bytes g a e =
    let p = both (nat_eq (a % n) 0) (lies n (areas_of bytes g).image a || (lies n (areas_of bytes g).objects a || lies n (areas_of bytes g).heap a)) e in
    let p0 = p.0 in
    let even : a % n ≡ 0 = grind (arith, nat_tests) in
    record { even = even; there = go (one_of (lies n (areas_of bytes g).image a) (lies n (areas_of bytes g).objects a || lies n (areas_of bytes g).heap a) p.1) }
  where
    later : (lies n (areas_of bytes g).objects a ≡ true) ⊎ (lies n (areas_of bytes g).heap a ≡ true) → (objects_at bytes g ≤ a) × (a + n ≤ heap_end bytes g)
    later (inl h) = (let l = lies_in n (areas_of bytes g).objects a h in let l0 = l.0 in let l1 = l.1 in (omega arith, omega arith))
    later (inr h) = (let l = lies_in n (areas_of bytes g).heap a h in let l0 = l.0 in let l1 = l.1 in (omega arith, omega arith))

    go : (lies n (areas_of bytes g).image a ≡ true) ⊎ ((lies n (areas_of bytes g).objects a || lies n (areas_of bytes g).heap a) ≡ true) → ((g.image ≤ a) × (a + n ≤ g.image + bytes)) ⊎ ((objects_at bytes g ≤ a) × (a + n ≤ heap_end bytes g))
    go (inl h) = inl (lies_in n (areas_of bytes g).image a h)
    go (inr h) = inr (later (one_of (lies n (areas_of bytes g).objects a) (lies n (areas_of bytes g).heap a) h))

pub owned_reach : (n bytes : ℕ) (g : Placement) (a : ℕ) → Owned n bytes g a → Reach g.image (heap_end bytes g) n a
owned_reach n bytes g a o = go o.there
  where
    go : ((g.image ≤ a) × (a + n ≤ g.image + bytes)) ⊎ ((objects_at bytes g ≤ a) × (a + n ≤ heap_end bytes g)) → Reach g.image (heap_end bytes g) n a
    go (inl h) = (let h1 = h.1 in (o.even, h.0, omega arith))
    go (inr h) = (let h0 = h.0 in (o.even, omega arith, h.1))

-- each of its bytes is the program's own
pub owned_bytes : (n bytes : ℕ) (g : Placement) (a i : ℕ) → Owned n bytes g a → a ≤ i → i < a + n → IsOwn bytes g i
owned_bytes n bytes g a i o lo hi = go o.there
  where
    go : ((g.image ≤ a) × (a + n ≤ g.image + bytes)) ⊎ ((objects_at bytes g ≤ a) × (a + n ≤ heap_end bytes g)) → IsOwn bytes g i
    go (inl h) = (let h0 = h.0 in let h1 = h.1 in inl (omega arith, omega arith))
    go (inr h) = (let h0 = h.0 in let h1 = h.1 in inr (omega arith, omega arith))

-- and none lies in the frames
pub owned_apart : (n bytes : ℕ) (g : Placement) (a i : ℕ) → Owned n bytes g a → g.image + bytes ≤ i → i < objects_at bytes g → (a + n ≤ i) ⊎ (i + 1 ≤ a)
owned_apart n bytes g a i o lo hi = go o.there
  where
    go : ((g.image ≤ a) × (a + n ≤ g.image + bytes)) ⊎ ((objects_at bytes g ≤ a) × (a + n ≤ heap_end bytes g)) → (a + n ≤ i) ⊎ (i + 1 ≤ a)
    go (inl h) = (let h1 = h.1 in inl (omega arith))
    go (inr h) = (let h0 = h.0 in inr (omega arith))

-- what a load and a store say where they are done
pub load_done : (n : ℕ) (s : Areas) (m : Bytes) (a v : ℕ) → loaded n s m a ≡ Some v → (fits n s a ≡ true) × (number n m a ≡ v)
unfolding loaded
load_done n s m a v e = go (fits n s a) e
  where
    go : (b : Bool) → cond b (Some (number n m a)) None ≡ Some v → (b ≡ true) × (number n m a ≡ v)
    go true h = (refl, cc)
    go false h = absurd (cc)

pub store_done : (n : ℕ) (s : Areas) (m m' : Bytes) (a v : ℕ) → stored n s m a v ≡ Some m' → (fits n s a ≡ true) × (put n m a v ≡ m')
unfolding stored
store_done n s m m' a v e = go (fits n s a) e
  where
    go : (b : Bool) → cond b (Some (put n m a v)) None ≡ Some m' → (b ≡ true) × (put n m a v ≡ m')
    go true h = (refl, cc)
    go false h = absurd (cc)

-- a store at the same place into two memories with the same byte
pub put_same : (n : ℕ) (m m' : Bytes) (a v i : ℕ) → m' i ≡ m i → put n m' a v i ≡ put n m a v i
unfolding put poke
put_same zero m m' a v i e = e
put_same (suc n) m m' a v i e = put_same n (poke m a (v % 256)) (poke m' a (v % 256)) (a + 1) (v / 256) i (ap (λ z. cond (nat_eq i a) (v % 256) z) e)
