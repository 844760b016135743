-- The longest mark that a text begins with.
use Rattle.std.proofs.Common.{◌≡◌, ℕ, suc, ◌+◌, ◌<◌, ◌≤◌, Bool, true, false, List, [], ◌∷◌, length, drop, get_or, max, refl, sym, ap, ◌∙◌, subst, arith, inl, inr, ◌⊎◌}
use Rattle.std.proofs.Math.Seq.{drop-cons}
use Rattle.c_text.specs.Characters.{Character}
use Rattle.c_text.specs.Marks.{begins, length_at, longest, IsIn, IsLongest}

-- one mark more was looked at
pub looked : (marks : List (List ℕ)) (text : List Character) (i found now total : ℕ) → i < length marks → now ≡ max found (length_at (get_or marks i []) text) → max found (longest (drop i marks) text) ≡ total
    → max now (longest (drop (i + 1) marks) text) ≡ total
unfolding longest
looked marks text i found now total lt n so =
    let e : i + 1 ≡ suc i = omega arith in
    let is : longest (drop i marks) text ≡ max (length_at (get_or marks i []) text) (longest (drop (suc i) marks) text) = rw (drop-cons marks i [] lt) refl in
    let next : longest (drop (i + 1) marks) text ≡ longest (drop (suc i) marks) text = ap (λ (k : ℕ). longest (drop k marks) text) e in
    omega (arith, n, so, is, next)

begun : (m : List ℕ) (cs : List Character) → begins m cs ≡ true → length m ≤ length cs
begun [] cs e = omega arith
begun (m ∷ ms) [] e = absurd (let no : false ≡ true = e in cc)
begun (m ∷ ms) (c ∷ cs) e = omega (arith, begun ms cs (behind e))
  where
    behind : begins (m ∷ ms) (c ∷ cs) ≡ true → begins ms cs ≡ true
    behind e = grind (arith, e)

length_within : (m : List ℕ) (cs : List Character) → length_at m cs ≤ length cs
length_within m cs = pick (begins m cs) refl
  where
    pick : (b : Bool) → begins m cs ≡ b → length_at m cs ≤ length cs
    pick true e = let h = begun m cs e in rw e h
    pick false e = rw e (omega arith)

-- a mark is no longer than the text
pub longest_within : (marks : List (List ℕ)) (cs : List Character) → longest marks cs ≤ length cs
unfolding longest
longest_within [] cs = omega arith
longest_within (m ∷ ms) cs = omega (arith, length_within m cs, longest_within ms cs)

abbrev FoundIn : List (List ℕ) → List Character → ℕ → Type 0
FoundIn marks cs n = (n ≡ 0) ⊎ ((m : List ℕ) × IsIn m marks × (begins m cs ≡ true) × (n ≡ length m))

pub longest_is : (marks : List (List ℕ)) (cs : List Character) → IsLongest marks cs (longest marks cs)
unfolding longest
longest_is [] cs = record { most = λ m i b. absurd i; found = inl refl }
longest_is (x ∷ xs) cs = pick (longest_is xs cs) (begins x cs) refl
  where
    wider : (n : ℕ) → FoundIn xs cs n → FoundIn (x ∷ xs) cs n
    wider n (inl z) = inl z
    wider n (inr (m, i, b, l)) = inr (m, inr i, b, l)

    least : (ih : IsLongest xs cs (longest xs cs)) (n : ℕ) → longest xs cs ≤ n → (begins x cs ≡ true → length x ≤ n) → (m : List ℕ) → IsIn m (x ∷ xs) → begins m cs ≡ true → length m ≤ n
    least ih n le here m (inl e) b = let h = here (ap (λ l. begins l cs) e ∙ b) in let same = ap length e in omega arith
    least ih n le here m (inr i) b = let h = ih.most m i b in omega arith

    larger : (a b : ℕ) → (max a b ≡ a) ⊎ (max a b ≡ b)
    larger a b = grind arith

    choice : (ih : IsLongest xs cs (longest xs cs)) → begins x cs ≡ true → (max (length x) (longest xs cs) ≡ length x) ⊎ (max (length x) (longest xs cs) ≡ longest xs cs) → FoundIn (x ∷ xs) cs (max (length x) (longest xs cs))
    choice ih b (inl e) = inr (x, inl refl, b, e)
    choice ih b (inr e) = subst (FoundIn (x ∷ xs) cs) (sym e) (wider (longest xs cs) ih.found)

    none : max 0 (longest xs cs) ≡ longest xs cs
    none = omega arith

    pick : IsLongest xs cs (longest xs cs) → (v : Bool) → begins x cs ≡ v → IsLongest (x ∷ xs) cs (max (length_at x cs) (longest xs cs))
    pick ih true e = rw e (record { most = least ih (max (length x) (longest xs cs)) (omega arith) (λ b. omega arith); found = choice ih e (larger (length x) (longest xs cs)) })
    pick ih false e = rw (e, none) (record { most = least ih (longest xs cs) (omega arith) (λ b. cc); found = wider (longest xs cs) ih.found })
