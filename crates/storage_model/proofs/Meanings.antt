-- Tests over chains mean what the relations say, and a chain's length in a definition is only an upper bound.
use Rattle.std.proofs.Common.{ℕ, zero, suc, ◌≡◌, ◌<◌, refl, sym, ◌∙◌, ap, subst, arith, ⊎_elim, [], ◌∷◌}
use Rattle.std.specs.Prelude.{◌⊎◌, Bool, true, false, ◌==◌, ◌&&◌}
use Rattle.std.specs.List.{list_all, list_any}
use Rattle.std.proofs.lemmas.Bool.{and_parts, and_from, or_cases, or_left, or_right, eqb-true, eq-eqb, false_from_ne_true}
use Rattle.storage_model.specs.declared.cell.View.{View}
use Rattle.storage_model.specs.declared.cell.View.TheVariants.{Home, Loan}
use Rattle.storage_model.specs.declared.cell.Place.{Place}
use Rattle.storage_model.specs.Storage.{by_view, On, Here, Below, IsHome}
use Rattle.storage_model.specs.Chain.{same_view, same_place, chain, home, each_below}
use Rattle.storage_model.proofs.Chains.{place_same, home_or_loan}

pub view_true : (v w : View) → same_view v w ≡ true → v ≡ w
view_true (Home o) (Home p) e = ap Home (eqb-true o p e)
view_true (Home o) (Loan m) e = cc
view_true (Loan l) (Home p) e = cc
view_true (Loan l) (Loan m) e = ap Loan (eqb-true l m e)

pub view_self : (v : View) → same_view v v ≡ true
view_self (Home o) = eq-eqb o o refl
view_self (Loan l) = eq-eqb l l refl

pub place_true : (p q : Place) → same_place p q ≡ true → p ≡ q
place_true p q e = let a = and_parts (same_view p.view q.view) (p.offset == q.offset) e in
    place_same (view_true p.view q.view a.0) (eqb-true p.offset q.offset a.1)

pub place_self : (p : Place) → same_place p p ≡ true
place_self p = and_from _ _ (view_self p.view) (eq-eqb p.offset p.offset refl)

pub place_iff : (p q : Place) → p ≡ q → same_place p q ≡ true
place_iff p q e = subst (λ x. same_place p x ≡ true) e (place_self p)

pub each_at : (test : ℕ → Bool) (n k : ℕ) → each_below test n ≡ true → k < n → test k ≡ true
each_at test zero k e h = absurd (omega arith)
each_at test (suc n) k e h = let p = and_parts (test n) (each_below test n) e in
    ⊎_elim (λ s. subst (λ x. test x ≡ true) (sym s) p.0) (λ lt. each_at test n k p.1 lt) (split n k h)
  where
    split : (n k : ℕ) → k < suc n → (k ≡ n) ⊎ (k < n)
    split n k h = grind arith

pub each_from : (test : ℕ → Bool) (n : ℕ) → ((k : ℕ) → k < n → test k ≡ true) → each_below test n ≡ true
each_from test zero h = refl
each_from test (suc n) h = and_from (test n) (each_below test n) (h n (omega arith)) (each_from test n (λ k lt. h k (omega arith)))

-- one that fails
pub each_fails : (test : ℕ → Bool) (n k : ℕ) → k < n → test k ≡ false → each_below test n ≡ false
each_fails test n k h e = false_from_ne_true (each_below test n) (λ t. (let a = each_at test n k t h in cc))

pub each_same : (test other : ℕ → Bool) (n : ℕ) → ((k : ℕ) → k < n → test k ≡ other k) → each_below test n ≡ each_below other n
each_same test other zero h = refl
each_same test other (suc n) h =
    let a = h n (omega arith) in let b = each_same test other n (λ k lt. h k (omega arith)) in
    ap (λ x. x && each_below test n) a ∙ ap (λ x. other n && x) b

-- two tests are one where each implies the other
pub one_test : (a b : Bool) → (a ≡ true → b ≡ true) → (b ≡ true → a ≡ true) → a ≡ b
one_test true b f g = sym (f refl)
one_test false true f g = g refl
one_test false false f g = refl

module _ (place : ℕ → ℕ → Place) (older : (l k m : ℕ) → (place l k).view ≡ Loan m → m < l) where
  pub all_chain : (test : Place → Bool) {p q : Place} (n : ℕ) → ((l : ℕ) → p.view ≡ Loan l → l < n) → list_all test (chain place n p) ≡ true → On place p q → test q ≡ true
  all_chain test {p} zero b e Here = (and_parts (test p) true e).0
  all_chain test {p} (suc n) b e Here = (and_parts (test p) _ e).0
  all_chain test {p} zero b e (Below l f a) = let h = b l f in absurd (omega arith)
  all_chain test {p} (suc n) b e (Below l f a) =
      let t = (and_parts (test p) (list_all test (by_view (λ o. []) (λ l. chain place n (place l p.offset)) p.view)) e).1 in
      all_chain test {p = place l p.offset} n (λ m g. let h = b l f in let i = older l p.offset m g in omega arith)
      (subst (λ v. list_all test (by_view (λ o. []) (λ l. chain place n (place l p.offset)) v) ≡ true) f t) a

  pub all_chain_from : (test : Place → Bool) (n : ℕ) (p : Place) → ((q : Place) → On place p q → test q ≡ true) → list_all test (chain place n p) ≡ true
  all_chain_from test zero p h = and_from (test p) true (h p Here) refl
  all_chain_from test (suc n) p h = and_from (test p) _ (h p Here) (go (all_chain_from test n) p.view refl)
    where
      go : ((q : Place) → ((r : Place) → On place q r → test r ≡ true) → list_all test (chain place n q) ≡ true)
          → (v : View) → p.view ≡ v → list_all test (by_view (λ o. []) (λ l. chain place n (place l p.offset)) v) ≡ true
      go ih (Home o) e = refl
      go ih (Loan l) e = ih (place l p.offset) (λ r on. h r (Below l e on))

  pub any_chain : (test : Place → Bool) (n : ℕ) (p : Place) → list_any test (chain place n p) ≡ true → (q : Place) × On place p q × (test q ≡ true)
  any_chain test zero p e = ⊎_elim (λ t. (p, Here, t)) (λ f. cc) (or_cases (test p) false e)
  any_chain test (suc n) p e = ⊎_elim (λ t. (p, Here, t))
      (λ f. go (any_chain test n) p.view refl f)
      (or_cases (test p) _ e)
    where
      go : ((p : Place) → list_any test (chain place n p) ≡ true → (q : Place) × On place p q × (test q ≡ true))
          → (v : View) → p.view ≡ v → list_any test (by_view (λ o. []) (λ l. chain place n (place l p.offset)) v) ≡ true → (q : Place) × On place p q × (test q ≡ true)
      go ih (Home o) e f = cc
      go ih (Loan l) e f = let r = ih (place l p.offset) f in (r.0, Below l e r.1, r.2)

  pub in_chain : {p q : Place} (n : ℕ) → ((l : ℕ) → p.view ≡ Loan l → l < n) → On place p q → list_any (same_place q) (chain place n p) ≡ true
  in_chain {p} zero b Here = or_left (same_place p p) _ (place_self p)
  in_chain {p} (suc n) b Here = or_left (same_place p p) _ (place_self p)
  in_chain {p} zero b (Below l f a) = let h = b l f in absurd (omega arith)
  in_chain {p} {q} (suc n) b (Below l f a) =
      or_right (same_place q p) (list_any (same_place q) (by_view (λ o. []) (λ l. chain place n (place l p.offset)) p.view))
      (subst (λ v. list_any (same_place q) (by_view (λ o. []) (λ l. chain place n (place l p.offset)) v) ≡ true) (sym f)
      (in_chain {p = place l p.offset} n (λ m g. let h = b l f in let i = older l p.offset m g in omega arith) a))

  pub home_found : (n : ℕ) (p : Place) → ((l : ℕ) → p.view ≡ Loan l → l < n) → IsHome (home place n p).view × On place p (home place n p)
  home_found zero p b = ⊎_elim (λ h. (h, Here)) (λ (l, e). let h = b l e in absurd (omega arith)) (home_or_loan p.view)
  home_found (suc n) p b = go (home_found n) p.view refl
    where
      go : ((p : Place) → ((l : ℕ) → p.view ≡ Loan l → l < n) → IsHome (home place n p).view × On place p (home place n p))
          → (v : View) → p.view ≡ v → IsHome (by_view (λ o. p) (λ l. home place n (place l p.offset)) v).view × On place p (by_view (λ o. p) (λ l. home place n (place l p.offset)) v)
      go ih (Home o) e = (subst IsHome (sym e) tt, Here)
      go ih (Loan l) e = let r = ih (place l p.offset) (λ m f. let h = b l e in let i = older l p.offset m f in omega arith) in
          (r.0, Below l e r.1)

  pub chain_enough : (n m : ℕ) (p : Place) → ((l : ℕ) → p.view ≡ Loan l → l < n) → ((l : ℕ) → p.view ≡ Loan l → l < m) → chain place n p ≡ chain place m p
  chain_enough zero zero p b c = refl
  chain_enough zero (suc m) p b c = ap (λ x. p ∷ x) (go p.view refl)
    where
      go : (v : View) → p.view ≡ v → [] ≡ by_view (λ o. []) (λ l. chain place m (place l p.offset)) v
      go (Home o) e = refl
      go (Loan l) e = let h = b l e in absurd (omega arith)
  chain_enough (suc n) zero p b c = ap (λ x. p ∷ x) (go p.view refl)
    where
      go : (v : View) → p.view ≡ v → by_view (λ o. []) (λ l. chain place n (place l p.offset)) v ≡ []
      go (Home o) e = refl
      go (Loan l) e = let h = c l e in absurd (omega arith)
  chain_enough (suc n) (suc m) p b c = ap (λ x. p ∷ x) (go (chain_enough n m) p.view refl)
    where
      go : ((q : Place) → ((l : ℕ) → q.view ≡ Loan l → l < n) → ((l : ℕ) → q.view ≡ Loan l → l < m) → chain place n q ≡ chain place m q)
          → (v : View) → p.view ≡ v → by_view (λ o. []) (λ l. chain place n (place l p.offset)) v ≡ by_view (λ o. []) (λ l. chain place m (place l p.offset)) v
      go ih (Home o) e = refl
      go ih (Loan l) e = ih (place l p.offset)
          (λ k f. let h = b l e in let i = older l p.offset k f in omega arith)
          (λ k f. let h = c l e in let i = older l p.offset k f in omega arith)

  pub home_enough : (n m : ℕ) (p : Place) → ((l : ℕ) → p.view ≡ Loan l → l < n) → ((l : ℕ) → p.view ≡ Loan l → l < m) → home place n p ≡ home place m p
  home_enough zero zero p b c = refl
  home_enough zero (suc m) p b c = go p.view refl
    where
      go : (v : View) → p.view ≡ v → p ≡ by_view (λ o. p) (λ l. home place m (place l p.offset)) v
      go (Home o) e = refl
      go (Loan l) e = let h = b l e in absurd (omega arith)
  home_enough (suc n) zero p b c = go p.view refl
    where
      go : (v : View) → p.view ≡ v → by_view (λ o. p) (λ l. home place n (place l p.offset)) v ≡ p
      go (Home o) e = refl
      go (Loan l) e = let h = c l e in absurd (omega arith)
  home_enough (suc n) (suc m) p b c = go (home_enough n m) p.view refl
    where
      go : ((q : Place) → ((l : ℕ) → q.view ≡ Loan l → l < n) → ((l : ℕ) → q.view ≡ Loan l → l < m) → home place n q ≡ home place m q)
          → (v : View) → p.view ≡ v → by_view (λ o. p) (λ l. home place n (place l p.offset)) v ≡ by_view (λ o. p) (λ l. home place m (place l p.offset)) v
      go ih (Home o) e = refl
      go ih (Loan l) e = ih (place l p.offset)
          (λ k f. let h = b l e in let i = older l p.offset k f in omega arith)
          (λ k f. let h = c l e in let i = older l p.offset k f in omega arith)
