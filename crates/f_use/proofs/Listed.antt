-- What the lists of places have behind all items.
use Rattle.std.proofs.Common.{◌≡◌, ℕ, zero, suc, ◌+◌, ◌<◌, ◌⊎◌, inl, inr, Bool, true, false, cond, eqb, ltb, List, [], ◌∷◌, ◌++◌, map, length, slice_get, replicate, Option, Some, None, refl, sym, ap, ◌∙◌, subst, arith}
use Rattle.std.proofs.lemmas.Bool.{eqb-true, eq-eqb, lt-ltb}
use Rattle.std.proofs.lemmas.List.{get_or-set_same, get_or-set_other, get_or-replicate, length-append, append_assoc, length-map, length-replicate, length-set}
use Rattle.std.proofs.lemmas.Option.{slice_get_within}
use Rattle.std.proofs.Math.ListN.{set}
use Rattle.f_items.specs.declared.item.Item.{Item}
use Rattle.f_items.specs.declared.item.Item.TheVariants.{Uses, Takes}
use Rattle.f_items.specs.Places.{Located, scope_of, At}
use Rattle.f_scope.specs.declared.placement.ScopeRow.{ScopeRow}
use Rattle.f_scope.specs.declared.placement.Placed.{Placed}
use Rattle.f_scope.specs.Rows.{AreHosts, seen}
use Rattle.f_scope.proofs.Chains.{number_is}
use Rattle.f_scope.proofs.Scans.{last, seam, some_one}
use Rattle.f_use.specs.Places.{is_use, Among, list_at, put_at, put_item, put_items, IsUsePlace, AreUsePlaces}

-- ---- numbers in lists

pub among_more : (xs ys : List ℕ) (k : ℕ) → Among xs k → Among (xs ++ ys) k
among_more xs ys k a = (a.0, at xs a.0 a.1) where
  at : (xs : List ℕ) (i : ℕ) → slice_get xs i ≡ Some k → slice_get (xs ++ ys) i ≡ Some k
  at [] i e = absurd (cc)
  at (x ∷ xs) zero e = e
  at (x ∷ xs) (suc i) e = at xs i e

pub among_last : (xs : List ℕ) (k : ℕ) → Among (xs ++ k ∷ []) k
among_last xs k = (length xs, seam xs k [])

pub among_cases : (xs : List ℕ) (y k : ℕ) → Among (xs ++ y ∷ []) k → Among xs k ⊎ (k ≡ y)
among_cases xs y k a = at xs a.0 a.1 where
  at : (xs : List ℕ) (i : ℕ) → slice_get (xs ++ y ∷ []) i ≡ Some k → Among xs k ⊎ (k ≡ y)
  at [] zero e = let is : y ≡ k = cc in inr (sym is)
  at [] (suc i) e = absurd (cc)
  at (x ∷ xs) zero e = inl (0, e)
  at (x ∷ xs) (suc i) e = behind (at xs i e) where
    behind : Among xs k ⊎ (k ≡ y) → Among (x ∷ xs) k ⊎ (k ≡ y)
    behind (inl b) = inl (suc b.0, b.1)
    behind (inr q) = inr q

-- ---- one item

put-at : (lists : List (List ℕ)) (scope place s : ℕ) → s < length lists → list_at (put_at lists scope place) s ≡ cond (eqb scope s) (list_at lists s ++ place ∷ []) (list_at lists s)
put-at lists scope place s lt = pick (ltb scope (length lists)) refl (eqb scope s) refl where
  pick : (b : Bool) → ltb scope (length lists) ≡ b → (c : Bool) → eqb scope s ≡ c
      → list_at (cond b (set lists scope (list_at lists scope ++ place ∷ [])) lists) s ≡ cond c (list_at lists s ++ place ∷ []) (list_at lists s)
  pick true eb true ec =
      let is : scope ≡ s = eqb-true scope s ec in
      let within : scope < length lists = omega (arith, is, lt) in
      ap (λ t. list_at (set lists scope (list_at lists scope ++ place ∷ [])) t) (sym is) ∙ get_or-set_same lists scope (list_at lists scope ++ place ∷ []) [] within ∙ ap (λ t. list_at lists t ++ place ∷ []) is
  pick true eb false ec = get_or-set_other lists scope s (list_at lists scope ++ place ∷ []) [] (λ is. let holds : eqb scope s ≡ true = eq-eqb scope s (sym is) in cc)
  pick false eb true ec =
      let is : scope ≡ s = eqb-true scope s ec in
      let holds : ltb scope (length lists) ≡ true = lt-ltb scope (length lists) (omega (arith, is, lt)) in
      absurd (cc)
  pick false eb false ec = refl

-- whether an item goes into the list of a scope
goes : Item → ℕ → ℕ → Bool
goes i scope s = cond (is_use i) (eqb scope s) false

put-item : (lists : List (List ℕ)) (i : Item) (scope place s : ℕ) → s < length lists → list_at (put_item lists i scope place) s ≡ cond (goes i scope s) (list_at lists s ++ place ∷ []) (list_at lists s)
unfolding goes
put-item lists (Uses p m c o) scope place s lt = put-at lists scope place s lt
put-item lists (Takes m l u r) scope place s lt = put-at lists scope place s lt
put-item lists _ scope place s lt = refl

length-at : (lists : List (List ℕ)) (scope place : ℕ) → length (put_at lists scope place) ≡ length lists
length-at lists scope place = pick (ltb scope (length lists)) where
  pick : (b : Bool) → length (cond b (set lists scope (list_at lists scope ++ place ∷ [])) lists) ≡ length lists
  pick true = length-set lists scope (list_at lists scope ++ place ∷ [])
  pick false = refl

length-item : (lists : List (List ℕ)) (i : Item) (scope place : ℕ) → length (put_item lists i scope place) ≡ length lists
length-item lists (Uses p m c o) scope place = length-at lists scope place
length-item lists (Takes m l u r) scope place = length-at lists scope place
length-item lists _ scope place = refl

-- ---- below a place

record Below (p : List Located) (s : ℕ) (n : ℕ) (xs : List ℕ) : Type 0 where
  sound : (k : ℕ) → Among xs k → IsUsePlace p s k
  complete : (k : ℕ) → k < n → IsUsePlace p s k → Among xs k

module _ (p : List Located) (s : ℕ) where
  module _ (n : ℕ) (l : Located) (at : At p n l) (xs : List ℕ) (old : Below p s n xs) where
    here_not : (IsUsePlace p s n → ⊥) → Below p s (suc n) xs
    here_not deny = record { sound = old.sound; complete = λ k lt i. pick k i (last k n lt) } where
      pick : (k : ℕ) → IsUsePlace p s k → (k < n) ⊎ (k ≡ n) → Among xs k
      pick k i (inl a) = old.complete k a i
      pick k i (inr e) = let P : ℕ → Type 0 = λ j. IsUsePlace p s j in absurd (deny (subst P e i))

    here_is : IsUsePlace p s n → Below p s (suc n) (xs ++ n ∷ [])
    here_is holds = record { sound = λ k a. sound k (among_cases xs n k a); complete = λ k lt i. pick k i (last k n lt) } where
      sound : (k : ℕ) → Among xs k ⊎ (k ≡ n) → IsUsePlace p s k
      sound k (inl a) = old.sound k a
      sound k (inr e) = let P : ℕ → Type 0 = λ j. IsUsePlace p s j in subst P (sym e) holds

      pick : (k : ℕ) → IsUsePlace p s k → (k < n) ⊎ (k ≡ n) → Among (xs ++ n ∷ []) k
      pick k i (inl a) = among_more xs (n ∷ []) k (old.complete k a i)
      pick k i (inr e) = let P : ℕ → Type 0 = λ j. Among (xs ++ n ∷ []) j in subst P (sym e) (among_last xs n)

    stepped : (scope : ℕ) → (scope_of l).number ≡ scope → (b : Bool) → goes l.item scope s ≡ b → Below p s (suc n) (cond b (xs ++ n ∷ []) xs)
    unfolding goes
    stepped scope is true e = here_is (uses (is_use l.item) refl e) where
      uses : (c : Bool) → is_use l.item ≡ c → cond c (eqb scope s) false ≡ true → IsUsePlace p s n
      uses true ec e = record { located = l; at = at; uses = ec; scope_is = is ∙ eqb-true scope s e }
      uses false ec e = absurd (cc)
    stepped scope is false e = here_not (λ i.
        let one : i.located ≡ l = some_one (slice_get p n) i.located l i.at at in
        let use_is : is_use l.item ≡ true = ap (λ x. is_use x.item) (sym one) ∙ i.uses in
        let same : scope ≡ s = sym is ∙ ap (λ x. (scope_of x).number) (sym one) ∙ i.scope_is in
        let holds : cond (is_use l.item) (eqb scope s) false ≡ true = ap (λ c. cond c (eqb scope s) false) use_is ∙ eq-eqb scope s same in
        let bad : true ≡ false = sym holds ∙ e in
        cc)

module _ (rows : List ScopeRow) (hosts : AreHosts rows) (p : List Located) (s : ℕ) where
  listed : (xs : List Placed) (before : List Located) (n : ℕ) (lists : List (List ℕ)) → p ≡ before ++ map (seen rows) xs → length before ≡ n → s < length lists
      → Below p s n (list_at lists s) → Below p s (n + length xs) (list_at (put_items lists n xs) s)
  unfolding put_items
  listed [] before n lists e len lt old = let same : n ≡ n + 0 = omega arith in let P : ℕ → Type 0 = λ k. Below p s k (list_at lists s) in subst P same old
  listed (x ∷ xs) before n lists e len lt old =
      let l = seen rows x in
      let at : At p n l = ap (λ q. slice_get q n) e ∙ ap (slice_get (before ++ l ∷ map (seen rows) xs)) (sym len) ∙ seam before l (map (seen rows) xs) in
      let new = stepped p s n l at (list_at lists s) old x.scope (number_is rows x.scope hosts) (goes x.item x.scope s) refl in
      let P : List ℕ → Type 0 = λ q. Below p s (suc n) q in
      let next = put_item lists x.item x.scope n in
      let long : length next ≡ length lists = length-item lists x.item x.scope n in
      let parts : p ≡ (before ++ l ∷ []) ++ map (seen rows) xs = e ∙ sym (append_assoc before (l ∷ []) (map (seen rows) xs)) in
      let grown : length (before ++ l ∷ []) ≡ suc n = let a = length-append before (l ∷ []) in omega (arith, a, len) in
      let all = listed xs (before ++ l ∷ []) (suc n) next parts grown (omega (arith, long, lt)) (subst P (sym (put-item lists x.item x.scope n s lt)) new) in
      let count : suc n + length xs ≡ n + length (x ∷ xs) = let one : length (x ∷ xs) ≡ suc (length xs) = omega arith in omega (arith, one) in
      let Q : ℕ → Type 0 = λ k. Below p s k (list_at (put_items (put_item lists x.item x.scope n) (suc n) xs) s) in
      subst Q count all

pub are_listed : (rows : List ScopeRow) → AreHosts rows → (xs : List Placed) → AreUsePlaces (map (seen rows) xs) (put_items (replicate (length rows) []) 0 xs) (length rows)
are_listed rows hosts xs s lt k =
    let p = map (seen rows) xs in
    let lists : List (List ℕ) = replicate (length rows) [] in
    let long : length lists ≡ length rows = length-replicate (length rows) [] in
    let empty : list_at lists s ≡ [] = get_or-replicate (length rows) s [] [] lt in
    let P : List ℕ → Type 0 = λ t. Below p s 0 t in
    let none : Below p s 0 [] = record { sound = λ k a. let e = a.1 in absurd (cc); complete = λ k lt i. absurd (omega (arith, lt)) } in
    let all = listed rows hosts p s xs [] 0 lists refl refl (omega (arith, long, lt)) (subst P (sym empty) none) in
    let count : 0 + length xs ≡ length p = let m = length-map xs (seen rows) in omega (arith, m) in
    (all.sound k, λ i. all.complete k (let within = slice_get_within p k i.located i.at in omega (arith, within, count)) i)
