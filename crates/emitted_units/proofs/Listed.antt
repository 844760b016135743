-- The units of a program by their numbers.
use Rattle.std.proofs.Common.{◌≡◌, ◌≢◌, ℕ, zero, suc, ◌+◌, ◌<◌, ◌≤◌, ◌⊎◌, inl, inr, Bool, true, false, List, [], ◌∷◌, ◌++◌, length, map, Option, Some, None, refl, ap, sym, subst, arith, ◌∙◌}
use Rattle.std.specs.Prelude.{slice_get, ◌||◌, nat_le}
use Rattle.std.specs.List.{list_all}
use Rattle.std.proofs.lemmas.Bool.Decides.{nat_tests}
use Rattle.rv_assemble.specs.declared.unit.NamedFix.{NamedFix}
use Rattle.rv_assemble.specs.declared.unit.AsmUnit.{AsmUnit}
use Rattle.flat_ir.specs.declared.program.Fix.{Fix}
use Rattle.flat_ir.specs.declared.program.Target.{Target}
use Rattle.flat_ir.specs.declared.program.Target.TheVariants as T
use Rattle.flat_ir.specs.Checked.{are_apart, all_apart}
use Rattle.flatten.specs.declared.blocks.BlockProc.{BlockProc}
use Rattle.flatten.specs.Named.{ProcNamed, ProcsNamed}
use Rattle.flatten.proofs.Values.{and_left, and_right}
use Rattle.block_homes.specs.declared.homes.Assignment.{Assignment}
use Rattle.emitted_code.specs.Units.{proc_unit, proc_units, named_fix}
use Rattle.emitted_units.specs.Sizes.{ProcHeld, ProcsHeld}

-- the unit of this number is that of a procedure, or the last one
abbrev pub IsListed : ℕ → List BlockProc → List Assignment → AsmUnit → ℕ → AsmUnit → Type 0
IsListed p fs as' last i u =
    ((f : BlockProc) × (slice_get fs i ≡ Some f) × (u ≡ proc_unit (p + i) f (slice_get as' i))) ⊎ ((i ≡ length fs) × (u ≡ last))

zero_more : (p : ℕ) → p ≡ p + 0
zero_more p = omega arith

shifted : (p : ℕ) (f : BlockProc) (fs : List BlockProc) (b : Option Assignment) (as' all : List Assignment) (last : AsmUnit) (i : ℕ) (u : AsmUnit)
    → slice_get all (suc i) ≡ slice_get as' i → IsListed (p + 1) fs as' last i u → IsListed p (f ∷ fs) all last (suc i) u
shifted p f fs b as' all last i u e (inl w) =
    let P : ℕ → Option Assignment → Type 0 = λ n a. u ≡ proc_unit n w.0 a in
    inl (w.0, w.1, subst (λ n. P n (slice_get all (suc i))) (omega arith) (subst (λ a. P (p + 1 + i) a) (sym e) w.2))
shifted p f fs b as' all last i u e (inr w) = inr (ap suc w.0, w.1)

pub listed : (p : ℕ) (fs : List BlockProc) (as' : List Assignment) (last : AsmUnit) (i : ℕ) (u : AsmUnit)
    → slice_get (proc_units p fs as' ++ last ∷ []) i ≡ Some u → IsListed p fs as' last i u
listed p [] as' last zero u e = inr (refl, cc)
listed p [] as' last (suc i) u e = absurd (cc)
listed p (f ∷ fs) [] last zero u e =
    let is : u ≡ proc_unit p f None = cc in
    inl (f, refl, subst (λ n. u ≡ proc_unit n f None) (zero_more p) is)
listed p (f ∷ fs) [] last (suc i) u e = shifted p f fs None [] [] last i u refl (listed (p + 1) fs [] last i u e)
listed p (f ∷ fs) (a ∷ as') last zero u e =
    let is : u ≡ proc_unit p f (Some a) = cc in
    inl (f, refl, subst (λ n. u ≡ proc_unit n f (Some a)) (zero_more p) is)
listed p (f ∷ fs) (a ∷ as') last (suc i) u e = shifted p f fs (Some a) as' (a ∷ as') last i u refl (listed (p + 1) fs as' last i u e)

-- and each procedure has its unit
pub has_unit : (p : ℕ) (fs : List BlockProc) (as' : List Assignment) (last : AsmUnit) (i : ℕ) → i < length fs
    → (f : BlockProc) × ((a : Option Assignment) × (slice_get (proc_units p fs as' ++ last ∷ []) i ≡ Some (proc_unit (p + i) f a)))
has_unit p [] as' last i h = absurd (omega arith)
has_unit p (f ∷ fs) [] last zero h = (f, (None, ap (λ n. Some (proc_unit n f None)) (zero_more p)))
has_unit p (f ∷ fs) [] last (suc i) h =
    let w = has_unit (p + 1) fs [] last i (omega arith) in
    (w.0, (w.1.0, w.1.1 ∙ ap (λ n. Some (proc_unit n w.0 w.1.0)) (omega arith)))
has_unit p (f ∷ fs) (a ∷ as') last zero h = (f, (Some a, ap (λ n. Some (proc_unit n f (Some a))) (zero_more p)))
has_unit p (f ∷ fs) (a ∷ as') last (suc i) h =
    let w = has_unit (p + 1) fs as' last i (omega arith) in
    (w.0, (w.1.0, w.1.1 ∙ ap (λ n. Some (proc_unit n w.0 w.1.0)) (omega arith)))

pub has_last : (p : ℕ) (fs : List BlockProc) (as' : List Assignment) (last : AsmUnit) → slice_get (proc_units p fs as' ++ last ∷ []) (length fs) ≡ Some last
has_last p [] as' last = refl
has_last p (f ∷ fs) [] last = has_last (p + 1) fs [] last
has_last p (f ∷ fs) (a ∷ as') last = has_last (p + 1) fs as' last

pub proc_of_list : (procs bytes : ℕ) (fs : List BlockProc) (i : ℕ) (f : BlockProc) → ProcsNamed procs bytes fs → slice_get fs i ≡ Some f → ProcNamed procs bytes f
proc_of_list procs bytes [] i f h e = absurd (cc)
proc_of_list procs bytes (g ∷ fs) zero f h e = let same : g ≡ f = cc in subst (λ x. ProcNamed procs bytes x) same h.0
proc_of_list procs bytes (g ∷ fs) (suc i) f h e = proc_of_list procs bytes fs i f h.1 e

pub held_of_list : (fs : List BlockProc) (i : ℕ) (f : BlockProc) → ProcsHeld fs → slice_get fs i ≡ Some f → ProcHeld f
held_of_list [] i f h e = absurd (cc)
held_of_list (g ∷ fs) zero f h e = let same : g ≡ f = cc in subst (λ x. ProcHeld x) same h.0
held_of_list (g ∷ fs) (suc i) f h e = held_of_list fs i f h.1 e

pub inside : {X : Type 0} (xs : List X) (i : ℕ) (x : X) → slice_get xs i ≡ Some x → i < length xs
inside [] i x e = absurd (cc)
inside (y ∷ xs) zero x e = omega arith
inside (y ∷ xs) (suc i) x e = omega (arith, inside xs i x e)

-- the fix that a named one is of
pub fix_of : (fs : List Fix) (k : ℕ) (n : NamedFix) → slice_get (map named_fix fs) k ≡ Some n → (f : Fix) × (slice_get fs k ≡ Some f) × (n ≡ named_fix f)
fix_of [] k n e = absurd (cc)
fix_of (f ∷ fs) zero n e = (f, refl, cc)
fix_of (f ∷ fs) (suc k) n e = fix_of fs k n e

pub fix_place : (at : ℕ) (t : Target) → (named_fix (record { at = at; target = t })).at ≡ at
fix_place at (T.Proc p) = refl
fix_place at (T.Image n) = refl

pub each_is : {X : Type 0} (test : X → Bool) (xs : List X) (k : ℕ) (x : X) → list_all test xs ≡ true → slice_get xs k ≡ Some x → test x ≡ true
each_is test [] k x h e = absurd (cc)
each_is test (y ∷ xs) zero x h e = let same : y ≡ x = cc in subst (λ z. test z ≡ true) same (and_left (test y) (list_all test xs) h)
each_is test (y ∷ xs) (suc k) x h e = each_is test xs k x (and_right (test y) (list_all test xs) h) e

apart_by : (f g : Fix) → are_apart f g ≡ true → (f.at + 8 ≤ g.at) ⊎ (g.at + 8 ≤ f.at)
apart_by f g h = go (nat_le (f.at + 8) g.at) refl h
  where
    go : (t : Bool) → nat_le (f.at + 8) g.at ≡ t → (t || nat_le (g.at + 8) f.at) ≡ true → (f.at + 8 ≤ g.at) ⊎ (g.at + 8 ≤ f.at)
    go true e h = inl (grind (arith, nat_tests))
    go false e h = inr (grind (arith, nat_tests))

swapped : {A B : Type 0} → A ⊎ B → B ⊎ A
swapped (inl a) = inr a
swapped (inr b) = inl b

pub apart_at : (fs : List Fix) (i j : ℕ) (f g : Fix) → all_apart fs ≡ true → slice_get fs i ≡ Some f → slice_get fs j ≡ Some g → i ≢ j → (f.at + 8 ≤ g.at) ⊎ (g.at + 8 ≤ f.at)
apart_at [] i j f g h ei ej ne = absurd (cc)
apart_at (x ∷ fs) zero zero f g h ei ej ne = absurd (ne refl)
apart_at (x ∷ fs) zero (suc j) f g h ei ej ne =
    let same : x ≡ f = cc in
    let others = and_left (list_all (λ g. are_apart x g) fs) (all_apart fs) h in
    subst (λ z. (z.at + 8 ≤ g.at) ⊎ (g.at + 8 ≤ z.at)) same (apart_by x g (each_is (λ g. are_apart x g) fs j g others ej))
apart_at (x ∷ fs) (suc i) zero f g h ei ej ne =
    let same : x ≡ g = cc in
    let others = and_left (list_all (λ g. are_apart x g) fs) (all_apart fs) h in
    subst (λ z. (f.at + 8 ≤ z.at) ⊎ (z.at + 8 ≤ f.at)) same (swapped (apart_by x f (each_is (λ g. are_apart x g) fs i f others ei)))
apart_at (x ∷ fs) (suc i) (suc j) f g h ei ej ne = apart_at fs i j f g (and_right (list_all (λ g. are_apart x g) fs) (all_apart fs) h) ei ej (λ e. ne (ap suc e))
