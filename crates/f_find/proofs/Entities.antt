-- The entities of own declarations and of use association together.
use Rattle.std.proofs.Common.{◌≡◌, ℕ, ◌<◌, ◌⊎◌, inl, inr, Bool, true, false, cond, eqb, List, Option, Some, None, refl, sym, ap, ◌∙◌, subst}
use Rattle.std.proofs.lemmas.Bool.{eqb-true, eq-eqb}
use Rattle.f_items.specs.Places.{Located}
use Rattle.f_items.specs.Declarations.{IsDeclared, IsOwn}
use Rattle.f_items.specs.Accessible.{IsUsed, Denotes, Own}
use Rattle.f_scope.specs.Own.{IsTold}
use Rattle.f_use.specs.declared.origins.Origins.{Origins}
use Rattle.f_use.specs.Associated.{Found, OthersFound}
use Rattle.f_use.proofs.Grants.{one_own, as_used, used_denotes}
use Rattle.f_find.specs.Merge.{other_of, merge}

-- what is found with one property is found with another that says the same
pub found_as : (P Q : ℕ → Type 0) → ((k : ℕ) → P k → Q k) → ((k : ℕ) → Q k → P k) → (r : Option Origins) → Found P r → Found Q r
found_as P Q to from None f = λ k q. f k (from k q)
found_as P Q to from (Some o) f = (to o.first f.0, others o.other f.1) where
  others : (t : Option ℕ) → OthersFound P o.first t → OthersFound Q o.first t
  others None g = λ k q. g k (from k q)
  others (Some k) g = (to k g.0, g.1)

module _ (p : List Located) (s : ℕ) (name : List ℕ) where
  told_own : (k : ℕ) → IsTold p s name (Some k) → IsOwn p s name k
  told_own k told = record { declared = told.0; none_before = told.1 }

  not_own : IsTold p s name None → (k : ℕ) → IsOwn p s name k → ⊥
  not_own told k own = told k own.declared

  both_are : (own : ℕ) → IsTold p s name (Some own) → (used : Option Origins) → Found (IsUsed p s name) used → OthersFound (Denotes p s name) own (other_of own used)
  both_are own told None f = λ k d. pick k (as_used p s name k d) where
    pick : (k : ℕ) → IsOwn p s name k ⊎ IsUsed p s name k → k ≡ own
    pick k (inl i) = one_own p s name k own i (told_own own told)
    pick k (inr i) = absurd (f k i)
  both_are own told (Some u) f = test (eqb u.first own) refl where
    same : u.first ≡ own → (t : Option ℕ) → OthersFound (IsUsed p s name) u.first t → OthersFound (Denotes p s name) own t
    same is None g = λ k d. pick k (as_used p s name k d) where
      pick : (k : ℕ) → IsOwn p s name k ⊎ IsUsed p s name k → k ≡ own
      pick k (inl i) = one_own p s name k own i (told_own own told)
      pick k (inr i) = g k i ∙ is
    same is (Some k) g = (used_denotes p s name k g.0, λ e. g.1 (e ∙ sym is))

    test : (b : Bool) → eqb u.first own ≡ b → OthersFound (Denotes p s name) own (cond b u.other (Some u.first))
    test true e = same (eqb-true u.first own e) u.other f.1
    test false e = (used_denotes p s name u.first f.0, λ is. let holds : eqb u.first own ≡ true = eq-eqb u.first own is in let bad : true ≡ false = sym holds ∙ e in cc)

  pub merged : (own : Option ℕ) → IsTold p s name own → (used : Option Origins) → Found (IsUsed p s name) used → Found (Denotes p s name) (merge own used)
  merged None told used f = found_as (IsUsed p s name) (Denotes p s name) (λ k i. used_denotes p s name k i) (λ k d. pick k (as_used p s name k d)) used f where
    pick : (k : ℕ) → IsOwn p s name k ⊎ IsUsed p s name k → IsUsed p s name k
    pick k (inl i) = absurd (not_own told k i)
    pick k (inr i) = i
  merged (Some own) told used f = (Own s name own (told_own own told), both_are own told used f)
