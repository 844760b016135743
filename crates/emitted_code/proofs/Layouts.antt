-- What is known of the layouts of procedures.
use Rattle.std.proofs.Common.{◌≡◌, ℕ, zero, suc, ◌+◌, ◌*◌, ◌/◌, ◌%◌, ◌<◌, ◌≤◌, ◌⊎◌, inl, inr, Bool, true, false, cond, List, [], ◌∷◌, length, refl, sym, ap, ◌∙◌, subst, arith}
use Rattle.std.specs.Prelude.{slice_get, slice_index, ◌==◌, ◌||◌, All}
use Rattle.std.proofs.lemmas.Bool.Decides.{nat_tests}
use Rattle.std.proofs.lemmas.Option.{slice_get-get_or}
use Rattle.std.proofs.Math.ListN.{get_or}
use Rattle.flatten.specs.declared.blocks.BlockProc.{BlockProc}
use Rattle.flatten.specs.declared.blocks.BlockProgram.{BlockProgram}
use Rattle.block_homes.specs.declared.homes.Home.{Home}
use Rattle.block_homes.specs.declared.homes.Home.TheVariants as H
use Rattle.block_homes.specs.declared.homes.Assignment.{Assignment}
use Rattle.block_homes.specs.Held.{place, places_of, homes_in}
use Rattle.block_homes.specs.Valid.{IsHome}
use Rattle.emitted_code.specs.Frames.{layout_of, home_or, is_register, is_used, used_of, kept_registers, is_charged, frame_size, need}
use Rattle.emitted_code.specs.Room.{IsProc, CanEmit}
use Rattle.emitted_code.proofs.Relate.{IsKept, In, Laid}

place_index : (homes : List Home) (y : ℕ) → y < length homes → slice_index (places_of homes) y ≡ place (home_or (slice_get homes y))
place_index [] y lt = absurd (omega arith)
place_index (h ∷ hs) zero lt = refl
place_index (h ∷ hs) (suc y) lt = place_index hs y (omega arith)

home_is_home : (n : ℕ) (homes : List Home) (y : ℕ) → All (IsHome n) homes → y < length homes → IsHome n (home_or (slice_get homes y))
home_is_home n homes y all lt =
    let e : home_or (slice_get homes y) ≡ get_or homes y (H.Slot 0) = ap home_or (slice_get-get_or homes y (H.Slot 0) lt) in
    subst (λ (h : Home). IsHome n h) (sym e) (all y (H.Slot 0) lt)

either_true : (a b : Bool) → b ≡ true → (a || b) ≡ true
either_true true b e = refl
either_true false b e = e

first_true : (a b : Bool) → a ≡ true → (a || b) ≡ true
first_true true b e = refl
first_true false b e = absurd (cc)

used_here : (homes : List Home) (y r : ℕ) → y < length homes → home_or (slice_get homes y) ≡ H.Register r → is_used r homes ≡ true
used_here [] y r lt e = absurd (omega arith)
used_here (h ∷ hs) zero r lt e = first_true (is_register r h) (is_used r hs) (ap (λ (k : Home). is_register r k) e ∙ itself r)
  where
    itself : (r : ℕ) → (r == r) ≡ true
    itself r = grind (arith, nat_tests)
used_here (h ∷ hs) (suc y) r lt e = either_true (is_register r h) (is_used r hs) (used_here hs y r (omega arith) e)

used_in : (rs : List ℕ) (homes : List Home) (r : ℕ) → In r rs → is_used r homes ≡ true → In r (used_of rs homes)
used_in [] homes r i e = absurd i
used_in (k ∷ rs) homes r i e = by (is_used k homes) refl i (used_in rs homes r)
  where
    by : (b : Bool) → is_used k homes ≡ b → (r ≡ k) ⊎ In r rs → (In r rs → is_used r homes ≡ true → In r (used_of rs homes)) → In r (cond b (k ∷ used_of rs homes) (used_of rs homes))
    by true eb (inl z) again = inl z
    by true eb (inr z) again = inr (again z e)
    by false eb (inl z) again = absurd (let t : is_used r homes ≡ is_used k homes = ap (λ n. is_used n homes) z in let u = sym e ∙ t ∙ eb in cc)
    by false eb (inr z) again = again z e

in_used : (rs : List ℕ) (homes : List Home) (r : ℕ) → In r (used_of rs homes) → In r rs
in_used [] homes r i = i
in_used (k ∷ rs) homes r i = by (is_used k homes) i (in_used rs homes r)
  where
    by : (b : Bool) → In r (cond b (k ∷ used_of rs homes) (used_of rs homes)) → (In r (used_of rs homes) → In r rs) → (r ≡ k) ⊎ In r rs
    by true (inl z) again = inl z
    by true (inr z) again = inr (again z)
    by false z again = inr (again z)

kept_in : (r : ℕ) → IsKept r → In r kept_registers
kept_in r (inl k) = (let k0 = k.0 in let k1 = k.1 in grind arith)
kept_in r (inr k) = (let k0 = k.0 in let k1 = k.1 in grind arith)

in_kept : (r : ℕ) → In r kept_registers → IsKept r
in_kept r (inl e) = inl (omega arith, omega arith)
in_kept r (inr (inl e)) = inl (omega arith, omega arith)
in_kept r (inr (inr i)) = inr (rest r i)
  where
    rest : (r : ℕ) → In r (18 ∷ 19 ∷ 20 ∷ 21 ∷ 22 ∷ 23 ∷ 24 ∷ 25 ∷ 26 ∷ 27 ∷ []) → (18 ≤ r) × (r ≤ 27)
    rest r i = (grind arith, grind arith)

size_fits : (f : BlockProc) → ((is_charged f ≡ true) → (f.frame % 16 ≡ 0) × (need f ≤ f.frame)) → (need f ≤ frame_size f + 8) × (frame_size f % 8 ≡ 0)
size_fits f h = by (is_charged f) h
  where
    by : (b : Bool) → ((b ≡ true) → (f.frame % 16 ≡ 0) × (need f ≤ f.frame)) → (need f ≤ cond b f.frame (need f / 16 * 16) + 8) × (cond b f.frame (need f / 16 * 16) % 8 ≡ 0)
    by true h = (let k = h refl in let k0 = k.0 in let k1 = k.1 in (omega arith, omega arith))
    by false h = (omega arith, omega arith)

pub laid : (q : BlockProgram) (hs : List Assignment) → CanEmit q hs → (i : ℕ) (f : BlockProc) → IsProc q i f → Laid f (layout_of f (homes_in (slice_get hs i)))
laid q hs can i f ip =
    let homes = homes_in (slice_get hs i) in
    let a = can.homes i f ip in
    let n = a.count in
    let s = size_fits f (λ e. (let c = can.room.charged i f ip e in (c.0, c.1))) in
    let s0 = s.0 in
    record {
      homes = λ y lt. home_is_home f.values homes y a.each (omega arith);
      places = λ y lt. place_index homes y (omega arith);
      used = λ y r lt e. inr (used_in kept_registers homes r (kept_in r (register_kept f.values r (subst (λ (h : Home). IsHome f.values h) e (home_is_home f.values homes y a.each (omega arith))))) (used_here homes y r (omega arith) e));
      saves = λ h i. saved h homes i;
      fits = omega arith;
      even = s.1;
    }
  where
    register_kept : (n r : ℕ) → IsHome n (H.Register r) → IsKept r
    register_kept n r h = h

    saved : (h : ℕ) (homes : List Home) → In h (1 ∷ used_of kept_registers homes) → (h ≡ 1) ⊎ IsKept h
    saved h homes (inl e) = inl e
    saved h homes (inr i) = inr (in_kept h (in_used kept_registers homes h i))
