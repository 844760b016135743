-- Marks, and how many numbers have none.
use Rattle.std.proofs.Common.{◌≡◌, ℕ, zero, suc, ◌<◌, ◌⊎◌, inl, inr, Bool, true, false, ◌&&◌, cond, eqb, ltb, List, [], ◌∷◌, length, replicate, slice_get, Option, Some, None, refl, sym, ap, ◌∙◌, subst, arith}
use Rattle.std.proofs.lemmas.Bool.{eqb-true, eq-eqb, ltb-true, ltb-false, lt-ltb}
use Rattle.std.proofs.lemmas.List.{get_or-set_same, get_or-set_other, length-set, get_or-replicate, length-replicate}
use Rattle.std.proofs.Math.ListN.{set}
use Rattle.f_use.specs.Places.{Among}
use Rattle.f_order.specs.Marks.{marked, set_mark, set_some, are_marked, unmarked}

pub marked_within : (ms : List Bool) (v : ℕ) → marked ms v ≡ true → v < length ms
marked_within [] v e = absurd (cc)
marked_within (m ∷ ms) zero e = omega arith
marked_within (m ∷ ms) (suc v) e = let lt = marked_within ms v e in omega (arith, lt)

pub none_marked : (c v : ℕ) → marked (replicate c false) v ≡ true → ⊥
none_marked c v e =
    let lt = marked_within (replicate c false) v e in
    let long = length-replicate c false in
    let is : marked (replicate c false) v ≡ false = get_or-replicate c v false false (omega (arith, lt, long)) in
    cc

pub length_set : (ms : List Bool) (n : ℕ) → length (set_mark ms n) ≡ length ms
length_set ms n = pick (ltb n (length ms)) where
  pick : (b : Bool) → length (cond b (set ms n true) ms) ≡ length ms
  pick true = length-set ms n true
  pick false = refl

pub length_some : (ms : List Bool) (r : Option ℕ) → length (set_some ms r) ≡ length ms
length_some ms None = refl
length_some ms (Some n) = length_set ms n

-- a number in the range is marked then
pub set_here : (ms : List Bool) (n : ℕ) → n < length ms → marked (set_mark ms n) n ≡ true
set_here ms n lt = ap (λ b. marked (cond b (set ms n true) ms) n) (lt-ltb n (length ms) lt) ∙ get_or-set_same ms n true false lt

-- and the others are as they were
pub set_there : (ms : List Bool) (n v : ℕ) → (v ≡ n → ⊥) → marked (set_mark ms n) v ≡ marked ms v
set_there ms n v apart = pick (ltb n (length ms)) where
  pick : (b : Bool) → marked (cond b (set ms n true) ms) v ≡ marked ms v
  pick true = get_or-set_other ms n v true false apart
  pick false = refl

pub set_cases : (ms : List Bool) (n v : ℕ) → marked (set_mark ms n) v ≡ true → (marked ms v ≡ true) ⊎ (v ≡ n)
set_cases ms n v e = pick (eqb v n) refl where
  pick : (b : Bool) → eqb v n ≡ b → (marked ms v ≡ true) ⊎ (v ≡ n)
  pick true eb = inr (eqb-true v n eb)
  pick false eb = inl (sym (set_there ms n v (λ is. let yes : eqb v n ≡ true = eq-eqb v n is in cc)) ∙ e)

pub set_keeps : (ms : List Bool) (n v : ℕ) → marked ms v ≡ true → marked (set_mark ms n) v ≡ true
set_keeps ms n v e = pick (eqb v n) refl where
  pick : (b : Bool) → eqb v n ≡ b → marked (set_mark ms n) v ≡ true
  pick true eb =
      let is : v ≡ n = eqb-true v n eb in
      let lt = marked_within ms v e in
      ap (marked (set_mark ms n)) is ∙ set_here ms n (omega (arith, is, lt))
  pick false eb = set_there ms n v (λ is. let yes : eqb v n ≡ true = eq-eqb v n is in cc) ∙ e

-- one number fewer has no mark
fewer : (ms : List Bool) (n : ℕ) → n < length ms → marked ms n ≡ false → unmarked ms ≡ suc (unmarked (set ms n true))
unfolding unmarked
fewer [] n lt e = absurd (omega (arith, lt))
fewer (true ∷ ms) zero lt e = absurd (cc)
fewer (false ∷ ms) zero lt e = refl
fewer (true ∷ ms) (suc n) lt e = fewer ms n (omega (arith, lt)) e
fewer (false ∷ ms) (suc n) lt e = ap suc (fewer ms n (omega (arith, lt)) e)

pub set_fewer : (ms : List Bool) (n : ℕ) → n < length ms → marked ms n ≡ false → unmarked ms ≡ suc (unmarked (set_mark ms n))
set_fewer ms n lt e = fewer ms n lt e ∙ ap (λ b. suc (unmarked (cond b (set ms n true) ms))) (sym (lt-ltb n (length ms) lt))

-- ---- all of a list

both : (a b : Bool) → (a && b) ≡ true → (a ≡ true) × (b ≡ true)
both true true e = (refl, refl)
both true false e = absurd (cc)
both false b e = absurd (cc)

pub all_marked : (ms : List Bool) (ns : List ℕ) → are_marked ms ns ≡ true → (v : ℕ) → Among ns v → marked ms v ≡ true
unfolding are_marked
all_marked ms [] e v a = let i = a.1 in absurd (cc)
all_marked ms (n ∷ ns) e v a = pick a.0 a.1 (λ i is. all_marked ms ns (both (marked ms n) (are_marked ms ns) e).1 v (i, is)) where
  pick : (i : ℕ) → slice_get (n ∷ ns) i ≡ Some v → ((i : ℕ) → slice_get ns i ≡ Some v → marked ms v ≡ true) → marked ms v ≡ true
  pick zero is more = let same : n ≡ v = cc in ap (marked ms) (sym same) ∙ (both (marked ms n) (are_marked ms ns) e).0
  pick (suc i) is more = more i is

-- or one isn't
pub one_unmarked : (ms : List Bool) (ns : List ℕ) → are_marked ms ns ≡ false → (v : ℕ) × Among ns v × (marked ms v ≡ false)
unfolding are_marked
one_unmarked ms [] e = absurd (cc)
one_unmarked ms (n ∷ ns) e = pick (marked ms n) refl (λ rest. one_unmarked ms ns rest) where
  pick : (b : Bool) → marked ms n ≡ b → (are_marked ms ns ≡ false → (v : ℕ) × Among ns v × (marked ms v ≡ false)) → (v : ℕ) × Among (n ∷ ns) v × (marked ms v ≡ false)
  pick true eb more = let rest = more (sym (ap (λ b. b && are_marked ms ns) eb) ∙ e) in (rest.0, (suc rest.1.0, rest.1.1), rest.2)
  pick false eb more = (n, (0, refl), eb)

pub all_are : (ms : List Bool) (ns : List ℕ) → ((v : ℕ) → Among ns v → marked ms v ≡ true) → are_marked ms ns ≡ true
unfolding are_marked
all_are ms [] f = refl
all_are ms (n ∷ ns) f = ap (λ b. b && are_marked ms ns) (f n (0, refl)) ∙ all_are ms ns (λ v a. f v (suc a.0, a.1))

-- ---- marks along places

-- a number is marked where something below a place says so
abbrev pub MarkedBelow : (ℕ → ℕ → Type 0) → List Bool → ℕ → Type 0
MarkedBelow P ms n = (u : ℕ) → (marked ms u ≡ true → (k : ℕ) × (k < n) × P k u) × ((k : ℕ) → k < n → P k u → marked ms u ≡ true)

module _ (P : ℕ → ℕ → Type 0) where
  pub below_none : (c : ℕ) → MarkedBelow P (replicate c false) 0
  below_none c u = (λ e. absurd (none_marked c u e), λ k lt. absurd (omega (arith, lt)))

  smaller : (k n : ℕ) → k < suc n → (k < n) ⊎ (k ≡ n)
  smaller k n lt = pick (ltb k n) refl where
    pick : (b : Bool) → ltb k n ≡ b → (k < n) ⊎ (k ≡ n)
    pick true e = inl (ltb-true k n e)
    pick false e = let le = ltb-false k n e in inr (omega (arith, le, lt))

  pub below_same : (ms : List Bool) (n : ℕ) → ((u : ℕ) → P n u → ⊥) → MarkedBelow P ms n → MarkedBelow P ms (suc n)
  below_same ms n none old u = (λ e. let f = (old u).0 e in let lt = f.1 in (f.0, omega (arith, lt), f.2), λ k lt holds. pick k lt holds (smaller k n lt)) where
    pick : (k : ℕ) → k < suc n → P k u → (k < n) ⊎ (k ≡ n) → marked ms u ≡ true
    pick k lt holds (inl a) = (old u).1 k a holds
    pick k lt holds (inr e) = let Q : ℕ → Type 0 = λ j. P j u in absurd (none u (subst Q e holds))

  pub below_more : (ms : List Bool) (n v : ℕ) → v < length ms → P n v → ((u : ℕ) → P n u → u ≡ v) → MarkedBelow P ms n → MarkedBelow P (set_mark ms v) (suc n)
  below_more ms n v range here only old u = (λ e. back (set_cases ms v u e), λ k lt holds. pick k lt holds (smaller k n lt)) where
    back : (marked ms u ≡ true) ⊎ (u ≡ v) → (k : ℕ) × (k < suc n) × P k u
    back (inl e) = let f = (old u).0 e in let lt = f.1 in (f.0, omega (arith, lt), f.2)
    back (inr e) = let Q : ℕ → Type 0 = λ j. P n j in (n, omega arith, subst Q (sym e) here)

    pick : (k : ℕ) → k < suc n → P k u → (k < n) ⊎ (k ≡ n) → marked (set_mark ms v) u ≡ true
    pick k lt holds (inl a) = set_keeps ms v u ((old u).1 k a holds)
    pick k lt holds (inr e) = let Q : ℕ → Type 0 = λ j. P j u in let is = only u (subst Q e holds) in ap (marked (set_mark ms v)) is ∙ set_here ms v range
