-- Liveness and ranges.
use Rattle.std.proofs.Common.{◌≡◌, ◌≢◌, ℕ, zero, suc, ◌+◌, ◌<◌, ◌≤◌, Bool, true, false, ◌&&◌, ◌||◌, not, ◌⊎◌, inl, inr, List, [], ◌∷◌, length, drop, get_or, refl, sym, ap, ◌∙◌, subst, arith, Option, Some, None}
use Rattle.std.specs.Prelude.{◌==◌, slice_get, Contains}
use Rattle.std.proofs.lemmas.Bool.Decides.{eqb_tells}
use Rattle.flatten.specs.declared.blocks.BlockInsn.{BlockInsn}
use Rattle.flatten.specs.declared.blocks.BlockEnd.{BlockEnd}
use Rattle.flatten.specs.declared.blocks.Block.{Block}
use Rattle.flatten.specs.declared.blocks.BlockProc.{BlockProc}
use Rattle.flatten.specs.Paths.{uses_of, end_uses, sets, goes_to}
use Rattle.reg_alloc.specs.Live.{LiveAt}
use Rattle.reg_alloc.specs.Live.LiveAt.{Used, Passed, UsedLast, Gone}
use Rattle.reg_alloc.specs.Ranges.{among, any_live, lives, Known, LiveBlock}

pub true_or : (a b : Bool) → (a || b) ≡ true → (a ≡ true) ⊎ (b ≡ true)
true_or true b h = inl refl
true_or false b h = inr h

pub or_left : (a b : Bool) → a ≡ true → (a || b) ≡ true
or_left true b h = refl
or_left false b h = cc

pub or_right : (a b : Bool) → b ≡ true → (a || b) ≡ true
or_right true b h = refl
or_right false b h = h

pub false_or : (a b : Bool) → (a || b) ≡ false → (a ≡ false) × (b ≡ false)
false_or true b h = cc
false_or false b h = (refl, h)

pub two_true : (a b : Bool) → (a && b) ≡ true → (a ≡ true) × (b ≡ true)
two_true true b h = (refl, h)
two_true false b h = cc

pub and_true : (a b : Bool) → a ≡ true → b ≡ true → (a && b) ≡ true
and_true true b h g = g
and_true false b h g = cc

pub not_true : (a : Bool) → not a ≡ true → a ≡ false
not_true true h = cc
not_true false h = refl

eq_true : (a b : ℕ) → (a == b) ≡ true → a ≡ b
eq_true a b h = elim (eqb_tells a b) [ inl t ↦ t.1 | inr f ↦ absurd (let q = f.0 in cc) ]

true_eq : (a b : ℕ) → a ≡ b → (a == b) ≡ true
true_eq a b e = elim (eqb_tells a b) [ inl t ↦ t.0 | inr f ↦ absurd (f.1 e) ]

pub among_is : (v : ℕ) (ys : List ℕ) → among v ys ≡ true → Contains ys v
among_is v [] h = cc
among_is v (y ∷ ys) h = elim (true_or (y == v) (among v ys) h) [ inl a ↦ (0, omega arith, eq_true y v a) | inr b ↦ (let r = among_is v ys b in (suc r.0, omega (arith, r.1), r.2)) ]

pub is_among : (v : ℕ) (ys : List ℕ) → Contains ys v → among v ys ≡ true
is_among v [] (k, lt, e) = absurd (omega (arith, lt))
is_among v (y ∷ ys) (zero, lt, e) = or_left (y == v) (among v ys) (true_eq y v e)
is_among v (y ∷ ys) (suc k, lt, e) = or_right (y == v) (among v ys) (is_among v ys (k, omega (arith, lt), e))

is_not : (v : ℕ) (ys : List ℕ) → among v ys ≡ false → ¬ Contains ys v
is_not v ys h m = let t = is_among v ys m in cc

not_is : (v : ℕ) (ys : List ℕ) → (¬ Contains ys v) → not (among v ys) ≡ true
not_is v ys h = go (among v ys) refl
  where
    go : (b : Bool) → among v ys ≡ b → not (among v ys) ≡ true
    go true e = absurd (h (among_is v ys e))
    go false e = ap not e

pub live_target : (live : ℕ → Bool) (ts : List ℕ) → any_live live ts ≡ true → (t : ℕ) × Contains ts t × (live t ≡ true)
live_target live [] h = cc
live_target live (t ∷ ts) h = elim (true_or (live t) (any_live live ts) h) [ inl a ↦ (t, (0, omega arith, refl), a) | inr b ↦ (let r = live_target live ts b in (r.0, (suc r.1.0, omega (arith, r.1.1), r.1.2), r.2)) ]

pub target_live : (live : ℕ → Bool) (ts : List ℕ) (t : ℕ) → Contains ts t → live t ≡ true → any_live live ts ≡ true
target_live live [] t (k, lt, e) h = absurd (omega (arith, lt))
target_live live (x ∷ ts) t (zero, lt, e) h = or_left (live x) (any_live live ts) (ap live e ∙ h)
target_live live (x ∷ ts) t (suc k, lt, e) h = or_right (live x) (any_live live ts) (target_live live ts t (k, omega (arith, lt), e) h)

-- what is found is so
pub lives_sound : (p : BlockProc) (v : ℕ) (live : ℕ → Bool) → Known p v live → (xs : List BlockInsn) (e : BlockEnd) → lives v live xs e ≡ true → LiveAt p.blocks v xs e
lives_sound p v live known [] e h = elim (true_or (among v (end_uses e)) (any_live live (goes_to e)) h) [ inl a ↦ UsedLast e (among_is v (end_uses e) a) | inr b ↦ go (live_target live (goes_to e) b) ]
  where
    go : (t : ℕ) × Contains (goes_to e) t × (live t ≡ true) → LiveAt p.blocks v [] e
    go r = let b = known r.0 r.2 in Gone e r.0 b.block r.1 b.is_block b.live
lives_sound p v live known (x ∷ xs) e h = go (λ h. lives_sound p v live known xs e h) (true_or (among v (uses_of x)) (not (among v (sets x)) && lives v live xs e) h)
  where
    go : (lives v live xs e ≡ true → LiveAt p.blocks v xs e) → (among v (uses_of x) ≡ true) ⊎ ((not (among v (sets x)) && lives v live xs e) ≡ true) → LiveAt p.blocks v (x ∷ xs) e
    go on (inl a) = Used x xs e (among_is v (uses_of x) a)
    go on (inr b) = let c = two_true (not (among v (sets x))) (lives v live xs e) b in Passed x xs e (is_not v (sets x) (not_true (among v (sets x)) c.0)) (on c.1)

-- what is so is found, where no block adds anything
abbrev pub Closed : BlockProc → ℕ → (ℕ → Bool) → Type 0
Closed p v live = (t : ℕ) (b : Block) → slice_get p.blocks t ≡ Some b → lives v live b.insns b.end ≡ true → live t ≡ true

pub lives_complete : (p : BlockProc) (v : ℕ) (live : ℕ → Bool) → Closed p v live → (xs : List BlockInsn) (e : BlockEnd) → LiveAt p.blocks v xs e → lives v live xs e ≡ true
lives_complete p v live closed _ _ (Used x xs e a) = or_left (among v (uses_of x)) (not (among v (sets x)) && lives v live xs e) (is_among v (uses_of x) a)
lives_complete p v live closed _ _ (Passed x xs e nd l) = or_right (among v (uses_of x)) (not (among v (sets x)) && lives v live xs e) (and_true (not (among v (sets x))) (lives v live xs e) (not_is v (sets x) nd) (lives_complete p v live closed xs e l))
lives_complete p v live closed _ _ (UsedLast e a) = or_left (among v (end_uses e)) (any_live live (goes_to e)) (is_among v (end_uses e) a)
lives_complete p v live closed _ _ (Gone e t b a g l) = or_right (among v (end_uses e)) (any_live live (goes_to e)) (target_live live (goes_to e) t a (closed t b g (lives_complete p v live closed b.insns b.end l)))
