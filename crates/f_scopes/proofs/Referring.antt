-- What items refer to, by what is looked up.
use Rattle.std.proofs.Common.{◌≡◌, ◌⊎◌, inl, inr, ℕ, zero, suc, Bool, List, [], ◌∷◌, ◌++◌, length, slice_get, Option, Some, None, refl, sym, ap, ◌∙◌, subst}
use Rattle.f_items.specs.declared.item.Name.{Name}
use Rattle.f_items.specs.declared.item.Access.{Access}
use Rattle.f_items.specs.declared.item.Need.{Need}
use Rattle.f_items.specs.declared.item.Item.TheVariants.{Takes, Imports, Accesses, Refers, Selects}
use Rattle.f_items.specs.Places.{Located, around, scope_of, At}
use Rattle.f_items.specs.Accessible.{Visible, Denotes, IsModule}
use Rattle.f_items.specs.Rules.{Finds, FindsVisible, FindsOutside, FindsOwn, FindsUsed, sought, NotDeclared, NoComponent}
use Rattle.f_items.specs.Scoped.{IsKept}
use Rattle.f_items.specs.Selections.{open_before, SelectsFrom, IsPartOf, IsComponent}
use Rattle.f_items.proofs.Selected.{part_before_one, part_type_one, component_one}
use Rattle.f_items.proofs.Single.{finds_one}
use Rattle.f_use.specs.declared.origins.Origins.{Origins}
use Rattle.f_use.specs.Associated.{Found}
use Rattle.f_find.proofs.Entities.{found_as}
use Rattle.f_rules.specs.declared.declared_types.PartType.{PartType}
use Rattle.f_rules.specs.declared.declared_types.PartType.TheVariants.{Untold, NotDerived, Derived}
use Rattle.f_rules.specs.PartTypes.{LastTold, ComponentOf}
use Rattle.f_rules.specs.Standing.{IsIn}
use Rattle.f_scopes.specs.References.{RefersTo, ByName, ByComponent, IsReference, ReferenceAt, AreFirst, first_of}

-- ---- names that are sought

-- an item that finds something seeks a name
finds_seeks : (p : List Located) (l : Located) (j : ℕ) → Finds p l j → (n : Name) × (sought l.item ≡ Some n)
finds_seeks p l j (FindsVisible n need _ is v) = (n, ap sought is)
finds_seeks p l j (FindsOutside n _ is v) = (n, ap sought is)
finds_seeks p l j (FindsOwn n a _ is d) = (n, ap sought is)
finds_seeks p l j (FindsUsed m lo u r t _ is mo en de) = (u, ap sought is)

module _ (p : List Located) (kept : IsKept p) (k : ℕ) (l : Located) (at : At p k l) where
  -- what seeks a name refers to what it finds alone
  name_only : (n : Name) → sought l.item ≡ Some n → (j : ℕ) → RefersTo p k l j → Finds p l j
  name_only n seeks j (ByName _ f) = f
  name_only n seeks j (ByComponent m i t _ is from part c) = let bad : None ≡ Some n = sym (ap sought is) ∙ seeks in absurd (cc)

  -- what seeks a name refers to the one that it finds
  pub sought_reference : (n : Name) → sought l.item ≡ Some n → (q : Option Origins) → Found (Finds p l) q → IsReference p k l (first_of q)
  sought_reference n seeks None none = absurd (kept.rules k 2 l at (NotDeclared n seeks none))
  sought_reference n seeks (Some o) f = (
    ByName o.first f.0,
    λ i r. finds_one p k l (λ rule b. kept.rules k rule l at b) i o.first (name_only n seeks i r) f.0,
  )

  -- and nothing else refers
  pub no_reference : sought l.item ≡ None → ((n : Name) → l.item ≡ Selects n → ⊥) → IsReference p k l None
  no_reference silent other = (silent, none) where
    none : (j : ℕ) → RefersTo p k l j → ⊥
    none j (ByName _ f) = let s = finds_seeks p l j f in let bad : None ≡ Some s.0 = sym silent ∙ s.1 in absurd (cc)
    none j (ByComponent n i t _ is from part c) = other n is

  -- ---- by the forms of items

  pub refers : (n : Name) (need : Need) → l.item ≡ Refers n need → (q : Option Origins) → Found (Visible p l.scopes n.bytes) q → IsReference p k l (first_of q)
  refers n nd is q f = sought_reference n (ap sought is) q (found_as (Visible p l.scopes n.bytes) (Finds p l) (λ j v. FindsVisible n nd j is v) from q f) where
    from : (j : ℕ) → Finds p l j → Visible p l.scopes n.bytes j
    from j (FindsVisible m d _ at v) = let same : n ≡ m = (let both : Refers n nd ≡ Refers m d = sym is ∙ at in cc) in let P : Name → Type 0 = λ x. Visible p l.scopes x.bytes j in subst P (sym same) v
    from j (FindsOutside m _ at v) = let bad : Refers n nd ≡ Imports m = sym is ∙ at in absurd (cc)
    from j (FindsOwn m a _ at v) = let bad : Refers n nd ≡ Accesses m a = sym is ∙ at in absurd (cc)
    from j (FindsUsed m lo us r s _ at mod_ en de) = let bad : Refers n nd ≡ Takes m lo us r = sym is ∙ at in absurd (cc)

  pub imports : (n : Name) → l.item ≡ Imports n → (q : Option Origins) → Found (Visible p (around l.scopes) n.bytes) q → IsReference p k l (first_of q)
  imports n is q f = sought_reference n (ap sought is) q (found_as (Visible p (around l.scopes) n.bytes) (Finds p l) (λ j v. FindsOutside n j is v) from q f) where
    from : (j : ℕ) → Finds p l j → Visible p (around l.scopes) n.bytes j
    from j (FindsVisible m d _ at v) = let bad : Imports n ≡ Refers m d = sym is ∙ at in absurd (cc)
    from j (FindsOutside m _ at v) = let same : n ≡ m = (let both : Imports n ≡ Imports m = sym is ∙ at in cc) in let P : Name → Type 0 = λ x. Visible p (around l.scopes) x.bytes j in subst P (sym same) v
    from j (FindsOwn m a _ at v) = let bad : Imports n ≡ Accesses m a = sym is ∙ at in absurd (cc)
    from j (FindsUsed m lo us r s _ at mod_ en de) = let bad : Imports n ≡ Takes m lo us r = sym is ∙ at in absurd (cc)

  pub accesses : (n : Name) (a : Access) → l.item ≡ Accesses n a → (q : Option Origins) → Found (Denotes p (scope_of l).number n.bytes) q → IsReference p k l (first_of q)
  accesses n a is q f = sought_reference n (ap sought is) q (found_as (Denotes p (scope_of l).number n.bytes) (Finds p l) (λ j v. FindsOwn n a j is v) from q f) where
    from : (j : ℕ) → Finds p l j → Denotes p (scope_of l).number n.bytes j
    from j (FindsVisible m d _ at v) = let bad : Accesses n a ≡ Refers m d = sym is ∙ at in absurd (cc)
    from j (FindsOutside m _ at v) = let bad : Accesses n a ≡ Imports m = sym is ∙ at in absurd (cc)
    from j (FindsOwn m b _ at v) = let same : n ≡ m = (let both : Accesses n a ≡ Accesses m b = sym is ∙ at in cc) in let P : Name → Type 0 = λ x. Denotes p (scope_of l).number x.bytes j in subst P (sym same) v
    from j (FindsUsed m lo us r s _ at mod_ en de) = let bad : Accesses n a ≡ Takes m lo us r = sym is ∙ at in absurd (cc)

  module _ (m : List ℕ) (local used : Name) (is_renamed : Bool) (is : l.item ≡ Takes m local used is_renamed) where
    -- what is found is in a module of the name that the USE statement names
    found_in : (j : ℕ) → Finds p l j → (t : ℕ) × IsModule p m t × IsIn p t used.bytes j
    found_in j (FindsVisible w d _ at v) = let bad : Takes m local used is_renamed ≡ Refers w d = sym is ∙ at in absurd (cc)
    found_in j (FindsOutside w _ at v) = let bad : Takes m local used is_renamed ≡ Imports w = sym is ∙ at in absurd (cc)
    found_in j (FindsOwn w a _ at v) = let bad : Takes m local used is_renamed ≡ Accesses w a = sym is ∙ at in absurd (cc)
    found_in j (FindsUsed w lo us r t _ at mod_ en de) =
        let both : Takes m local used is_renamed ≡ Takes w lo us r = sym is ∙ at in
        let name : m ≡ w = cc in
        let same : used ≡ us = cc in
        let M : List ℕ → Type 0 = λ x. IsModule p x t in
        let D : Name → Type 0 = λ x. Denotes p t x.bytes j in
        (t, subst M (sym name) mod_, (en, subst D (sym same) de))

    pub takes_none : ((t : ℕ) → IsModule p m t → ⊥) → IsReference p k l None
    takes_none none = sought_reference used (ap sought is) None (λ j f. none (found_in j f).0 (found_in j f).1)

    pub takes : (t : ℕ) → IsModule p m t → ((s : ℕ) → IsModule p m s → s ≡ t) → (q : Option Origins) → Found (IsIn p t used.bytes) q → IsReference p k l (first_of q)
    takes t there alone q f = sought_reference used (ap sought is) q (found_as (IsIn p t used.bytes) (Finds p l) (λ j v. FindsUsed m local used is_renamed t j is there v.0 v.1) from q f) where
      from : (j : ℕ) → Finds p l j → IsIn p t used.bytes j
      from j g = let h = found_in j g in let P : ℕ → Type 0 = λ s. IsIn p s used.bytes j in subst P (alone h.0 h.1) h.2

  -- ---- components

  module _ (n : Name) (is : l.item ≡ Selects n) where
    no_name : (j : ℕ) → Finds p l j → ⊥
    no_name j f = let s = finds_seeks p l j f in let bad : None ≡ Some s.0 = sym (ap sought is) ∙ s.1 in cc

    -- no part before it is of a derived type
    none_selected : ((j t : ℕ) → SelectsFrom p k j → IsPartOf p j (Some t) → ⊥) → IsReference p k l None
    none_selected without = (ap sought is, none) where
      none : (j : ℕ) → RefersTo p k l j → ⊥
      none j (ByName _ f) = no_name j f
      none j (ByComponent m i t _ e from part c) = without i t from part

    selects_from : (j t : ℕ) → SelectsFrom p k j → IsPartOf p j (Some t) → (c : ℕ) → IsComponent p t n.bytes c → IsReference p k l (Some c)
    selects_from j t from part c component = (ByComponent n j t c is from part component, only) where
      only : (i : ℕ) → RefersTo p k l i → i ≡ c
      only i (ByName _ f) = absurd (no_name i f)
      only i (ByComponent m a u _ e from' part' component') =
          let name : n ≡ m = (let both : Selects n ≡ Selects m = sym is ∙ e in cc) in
          let place : a ≡ j = part_before_one p k a j from' from in
          let O : ℕ → Type 0 = λ w. IsPartOf p w (Some u) in
          let types : Some u ≡ Some t = part_type_one p j (Some u) (Some t) (subst O place part') part in
          let type_ : u ≡ t = cc in
          let C : ℕ → Type 0 = λ w. IsComponent p w m.bytes i in
          let N : Name → Type 0 = λ w. IsComponent p t w.bytes i in
          component_one p t n.bytes i c (subst N (sym name) (subst C type_ component')) component

    pub selects : (base : PartType) → LastTold p (open_before p k) k base → (c : Option ℕ) → ComponentOf p base n.bytes c → IsReference p k l c
    selects Untold told c none = let R : Option ℕ → Type 0 = λ o. IsReference p k l o in subst R (sym none) (none_selected (λ j t from part. told (Some t) (j, from, part)))
    selects NotDerived told c none = let R : Option ℕ → Type 0 = λ o. IsReference p k l o in subst R (sym none) (none_selected other) where
      other : (j t : ℕ) → SelectsFrom p k j → IsPartOf p j (Some t) → ⊥
      other j t from part =
          let place : j ≡ told.0 = part_before_one p k j told.0 from told.1 in
          let O : ℕ → Type 0 = λ w. IsPartOf p w (Some t) in
          let bad : None ≡ Some t = part_type_one p told.0 None (Some t) told.2 (subst O place part) in
          cc
    selects (Derived t) told None none = absurd (kept.rules k 2 l at (NoComponent n told.0 t is told.1 told.2 none))
    selects (Derived t) told (Some c) component = selects_from told.0 t told.1 told.2 c component

-- ---- along the items

pub first_none : (p : List Located) → AreFirst p []
first_none p k r e = absurd (cc)

-- one more entry
appended : (found : List (Option ℕ)) (r : Option ℕ) (k : ℕ) (q : Option ℕ) → slice_get (found ++ r ∷ []) k ≡ Some q → (slice_get found k ≡ Some q) ⊎ ((k ≡ length found) × (r ≡ q))
appended [] r zero q e = inr (refl, (let both : Some r ≡ Some q = e in cc))
appended [] r (suc k) q e = absurd (cc)
appended (x ∷ xs) r zero q e = inl e
appended (x ∷ xs) r (suc k) q e = pick (appended xs r k q e) where
  pick : (slice_get xs k ≡ Some q) ⊎ ((k ≡ length xs) × (r ≡ q)) → (slice_get xs k ≡ Some q) ⊎ ((suc k ≡ suc (length xs)) × (r ≡ q))
  pick (inl a) = inl a
  pick (inr b) = inr (ap suc b.0, b.1)

pub first_next : (p : List Located) (found new : List (Option ℕ)) (r : Option ℕ) (n : ℕ) → length found ≡ n → AreFirst p found → ReferenceAt p n r → new ≡ found ++ r ∷ [] → AreFirst p new
first_next p found new r n long old here e k q is = pick (appended found r k q (ap (λ f. slice_get f k) (sym e) ∙ is)) where
  pick : (slice_get found k ≡ Some q) ⊎ ((k ≡ length found) × (r ≡ q)) → ReferenceAt p k q
  pick (inl a) = old k q a
  pick (inr b) =
      let K : ℕ → Type 0 = λ w. ReferenceAt p w r in
      let R : Option ℕ → Type 0 = λ w. ReferenceAt p k w in
      subst R b.1 (subst K (sym (b.0 ∙ long)) here)
