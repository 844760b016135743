-- What a memory holds behind stores and copies: at places apart what it held before.
use Rattle.std.proofs.Common.{◌≡◌, ℕ, zero, suc, ◌+◌, ◌-◌, ◌*◌, ◌/◌, ◌%◌, ◌^◌, ◌<◌, ◌≤◌, Bool, true, false, cond, Some, None, refl, sym, ap, ◌∙◌, subst, arith, nat_eq, inl, inr}
use Rattle.std.specs.Prelude.{◌⊎◌, nat_le, nat_lt, ◌&&◌, List, [], ◌∷◌, length, slice_index}
use Rattle.std.proofs.lemmas.Bool.Decides.{nat_tests}
use Rattle.std.proofs.Math.Nat.{pow-suc}
use Rattle.flat_ir.specs.Bytes.{Bytes, Area, Areas, poke, number, put, fits, loaded}
use Rattle.flat_ir.specs.Ranges.{AreBytes, MayUse, Apart, copied}
use Rattle.flat_ir.specs.declared.program.Fix.{Fix}
use Rattle.flat_ir.specs.Placement.{Placement, address_of, fixed, image_bytes, first_bytes}
use Rattle.flat_ir.proofs.Comes.{Lies, Within, in_image, in_objects, in_heap, some_fit}

pub apart_turned : (a n c k : ℕ) → Apart a n c k → Apart c k a n
apart_turned a n c k (inl x) = inr x
apart_turned a n c k (inr x) = inl x

-- a part of one range is apart from a part of another
pub parts_apart : (a n c k i l j r : ℕ) → Apart a n c k → i + l ≤ n → j + r ≤ k → Apart (a + i) l (c + j) r
parts_apart a n c k i l j r (inl x) p q = inl (omega arith)
parts_apart a n c k i l j r (inr x) p q = inr (omega arith)

-- one byte
pub poke_same : (m : Bytes) (a v i : ℕ) → i ≡ a → poke m a v i ≡ v
unfolding poke
poke_same m a v i e = let t : nat_eq i a ≡ true = grind (arith, nat_tests) in ap (λ b. cond b v (m i)) t

pub poke_apart : (m : Bytes) (a v i : ℕ) → ¬ (i ≡ a) → poke m a v i ≡ m i
unfolding poke
poke_apart m a v i e = let t : nat_eq i a ≡ false = grind (arith, nat_tests) in ap (λ b. cond b v (m i)) t

pub poke_bytes : (m : Bytes) (a v : ℕ) → v < 256 → AreBytes m → AreBytes (poke m a v)
unfolding poke
poke_bytes m a v h b i = go (nat_eq i a)
  where
    go : (t : Bool) → cond t v (m i) < 256
    go true = h
    go false = b i

-- a store: the byte at i
pub put_apart : (n : ℕ) (m : Bytes) (a v i : ℕ) → Apart a n i 1 → put n m a v i ≡ m i
unfolding put
put_apart zero m a v i h = refl
put_apart (suc n) m a v i h = put_apart n (poke m a (v % 256)) (a + 1) (v / 256) i (next h) ∙ poke_apart m a (v % 256) i (other h)
  where
    next : Apart a (suc n) i 1 → Apart (a + 1) n i 1
    next (inl h) = inl (omega arith)
    next (inr h) = inr (omega arith)

    other : Apart a (suc n) i 1 → ¬ (i ≡ a)
    other (inl h) = omega arith
    other (inr h) = omega arith

pub put_bytes : (n : ℕ) (m : Bytes) (a v : ℕ) → AreBytes m → AreBytes (put n m a v)
unfolding put
put_bytes zero m a v b = b
put_bytes (suc n) m a v b = put_bytes n (poke m a (v % 256)) (a + 1) (v / 256) (poke_bytes m a (v % 256) (omega arith) b)

-- numbers of several bytes
pub number_alike : (k : ℕ) (m m' : Bytes) (c : ℕ) → ((i : ℕ) → c ≤ i → i < c + k → m' i ≡ m i) → number k m' c ≡ number k m c
unfolding number
number_alike zero m m' c h = refl
number_alike (suc k) m m' c h =
    let e = h c (omega arith) (omega arith) in
    let es = number_alike k m m' (c + 1) (λ i l r. h i (omega arith) (omega arith)) in
    cc

pub number_put_apart : (k n : ℕ) (m : Bytes) (a v c : ℕ) → Apart a n c k → number k (put n m a v) c ≡ number k m c
number_put_apart k n m a v c h = number_alike k m (put n m a v) c (λ i l r. put_apart n m a v i (at h i l r))
  where
    at : Apart a n c k → (i : ℕ) → c ≤ i → i < c + k → Apart a n i 1
    at (inl h) i l r = inl (omega arith)
    at (inr h) i l r = inr (omega arith)

pub number_put_same : (n : ℕ) (m : Bytes) (a v : ℕ) → v < 256 ^ n → number n (put n m a v) a ≡ v
unfolding number put
number_put_same zero m a v h = omega arith
number_put_same (suc n) m a v h =
    let small : v / 256 < 256 ^ n = omega (arith, pow-suc 256 n) in
    let e = number_put_same n (poke m a (v % 256)) (a + 1) (v / 256) small in
    let f = put_apart n (poke m a (v % 256)) (a + 1) (v / 256) a (inr (omega arith)) ∙ poke_same m a (v % 256) a refl in
    omega (arith, e, f)

pub number_small : (n : ℕ) (m : Bytes) (a : ℕ) → AreBytes m → number n m a < 256 ^ n
unfolding number
number_small zero m a b = omega arith
number_small (suc n) m a b =
    let e = number_small n m (a + 1) b in
    let f = b a in
    omega (arith, pow-suc 256 n)

-- what is loaded stays where the bytes do
pub loaded_alike : (n : ℕ) (s : Areas) (m m' : Bytes) (c : ℕ) → ((i : ℕ) → c ≤ i → i < c + n → m' i ≡ m i) → loaded n s m' c ≡ loaded n s m c
unfolding loaded
loaded_alike n s m m' c h = ap (λ v. cond (fits n s c) (Some v) None) (number_alike n m m' c h)

-- a byte stored where it was loaded from
pub byte_put : (m : Bytes) (a b : ℕ) → m b < 256 → put 1 m a (number 1 m b) a ≡ m b
unfolding put number
byte_put m a b h = poke_same m a ((m b + 256 * 0) % 256) a refl ∙ (omega arith)

-- copies
pub copied_there : (m : Bytes) (to from n i : ℕ) → i < n → copied m to from n (to + i) ≡ m (from + i)
unfolding copied
copied_there m to from n i l =
    let t : (nat_le to (to + i) && nat_lt (to + i) (to + n)) ≡ true = grind (arith, nat_tests) in
    let e : from + (to + i - to) ≡ from + i = omega arith in
    ap (λ b. cond b (m (from + (to + i - to))) (m (to + i))) t ∙ ap m e

pub copied_elsewhere : (m : Bytes) (to from n i : ℕ) → Apart to n i 1 → copied m to from n i ≡ m i
unfolding copied
copied_elsewhere m to from n i (inl h) =
    let t : (nat_le to i && nat_lt i (to + n)) ≡ false = grind (arith, nat_tests) in
    ap (λ b. cond b (m (from + (i - to))) (m i)) t
copied_elsewhere m to from n i (inr h) =
    let t : (nat_le to i && nat_lt i (to + n)) ≡ false = grind (arith, nat_tests) in
    ap (λ b. cond b (m (from + (i - to))) (m i)) t

pub copied_bytes : (m : Bytes) (to from n : ℕ) → AreBytes m → AreBytes (copied m to from n)
unfolding copied
copied_bytes m to from n b i = go (nat_le to i && nat_lt i (to + n))
  where
    go : (t : Bool) → cond t (m (from + (i - to))) (m i) < 256
    go true = b (from + (i - to))
    go false = b i

-- each byte lies in a range, at some distance from its start, or apart from it
pub data Place (to n i : ℕ) : Type 0 where
  inside : (j : ℕ) → j < n → i ≡ to + j → Place to n i
  outside : Apart to n i 1 → Place to n i

pub place : (to n i : ℕ) → Place to n i
place to n i = go (nat_le to i) refl (nat_lt i (to + n)) refl
  where
    go : (b : Bool) → nat_le to i ≡ b → (c : Bool) → nat_lt i (to + n) ≡ c → Place to n i
    go true p true q = let l : to ≤ i = grind (arith, nat_tests) in let r : i < to + n = grind (arith, nat_tests) in inside (i - to) (omega arith) (omega arith)
    go true p false q = let r : to + n ≤ i = grind (arith, nat_tests) in outside (inl r)
    go false p c q = let r : i + 1 ≤ to = grind (arith, nat_tests) in outside (inr r)

-- two memories with the same bytes are the same
pub same_bytes : (m m' : Bytes) → ((i : ℕ) → m i ≡ m' i) → m ≡ m'
same_bytes m m' h = λ i a. h a i

-- a memory that holds what a copy holds is the copy
pub is_copied : (m m' : Bytes) (to from n : ℕ) → ((i : ℕ) → i < n → m' (to + i) ≡ m (from + i)) → ((i : ℕ) → Apart to n i 1 → m' i ≡ m i) → m' ≡ copied m to from n
is_copied m m' to from n there elsewhere = same_bytes m' (copied m to from n) (λ i. go i (place to n i))
  where
    go : (i : ℕ) → Place to n i → m' i ≡ copied m to from n i
    go i (inside j l e) = ap m' e ∙ (there j l ∙ (sym (copied_there m to from n j l) ∙ ap (copied m to from n) (sym e)))
    go i (outside a) = elsewhere i a ∙ sym (copied_elsewhere m to from n i a)

-- a range that lies in one area may be used
pub usable : (s : Areas) (a n : ℕ) → Within n s a → a + n < 2 ^ 64 → MayUse s a n
usable s a n h narrow = record { each = λ i l. some_fit 1 s (a + i) (whole (a + i)) (byte h i l); narrow = narrow }
  where
    whole : (i : ℕ) → nat_eq (i % 1) 0 ≡ true
    whole i = grind (arith, nat_tests)

    lie : (r : Area) → Lies n r a → (i : ℕ) → i < n → Lies 1 r (a + i)
    lie r h i l = record { above = omega (arith, h.above); below = omega (arith, h.below) }

    byte : Within n s a → (i : ℕ) → i < n → Within 1 s (a + i)
    byte (in_image h) i l = in_image (lie s.image h i l)
    byte (in_objects h) i l = in_objects (lie s.objects h i l)
    byte (in_heap h) i l = in_heap (lie s.heap h i l)

-- at the start the memory holds bytes
fixed_bytes : (g : Placement) (fixes : List Fix) (m : Bytes) → AreBytes m → AreBytes (fixed g fixes m)
fixed_bytes g [] m b = b
fixed_bytes g (f ∷ fs) m b = fixed_bytes g fs (put 8 m (g.image + f.at) (address_of g f.target)) (put_bytes 8 m (g.image + f.at) (address_of g f.target) b)

pub first_are_bytes : (g : Placement) (image : List ℕ) (fixes : List Fix) → ((i : ℕ) → slice_index image i < 256) → AreBytes (first_bytes g image fixes)
first_are_bytes g image fixes h = fixed_bytes g fixes (image_bytes g image) (λ a. go a (nat_le g.image a && nat_lt a (g.image + length image)))
  where
    go : (a : ℕ) (t : Bool) → cond t (slice_index image (a - g.image)) 0 < 256
    go a true = h (a - g.image)
    go a false = omega arith
