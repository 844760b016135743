-- What items find, by what is looked up.
use Rattle.std.proofs.Common.{◌≡◌, ℕ, ◌<◌, ◌⊎◌, inl, inr, Bool, true, false, cond, eqb, List, Option, Some, None, slice_get, length, refl, sym, ap, ◌∙◌, subst, arith}
use Rattle.std.proofs.lemmas.Bool.{eqb-true, eq-eqb}
use Rattle.f_items.specs.declared.item.Name.{Name}
use Rattle.f_items.specs.declared.item.Access.{Access}
use Rattle.f_items.specs.declared.item.Need.{Need}
use Rattle.f_items.specs.declared.item.Need.TheVariants as need
use Rattle.f_items.specs.declared.item.Class.{Class}
use Rattle.f_items.specs.declared.item.Item.{Item}
use Rattle.f_items.specs.declared.item.Item.TheVariants.{Declares, Heads, Takes, Imports, Accesses, Refers}
use Rattle.f_items.specs.Places.{Located, around, scope_of, host_of, At}
use Rattle.f_items.specs.Declarations.{Declaration, declaration_of, declared_by, IsOwn}
use Rattle.f_items.specs.Accessible.{IsEntity, IsUsed, Denotes, Own, Visible}
use Rattle.f_items.specs.Rules.{sought, need_of, Finds, FindsVisible, FindsOutside, FindsOwn, FindsUsed}
use Rattle.f_scope.specs.declared.placement.ScopeRow.{ScopeRow}
use Rattle.f_scope.specs.declared.placement.Placed.{Placed}
use Rattle.f_scope.specs.Program.{Outline, AreParts}
use Rattle.f_scope.specs.Rows.{seen, host_in}
use Rattle.f_scope.specs.Tables.{Row}
use Rattle.f_scope.proofs.Scans.{some_one}
use Rattle.f_scope.proofs.Chains.{number_is, host_is, within_at}
use Rattle.f_scope.proofs.Broken.{host_range}
use Rattle.f_use.specs.declared.origins.Origins.{Origins}
use Rattle.f_use.specs.Associated.{Found, OthersFound}
use Rattle.f_use.specs.Uses.{OwnEntity, class_in, declared_class}
use Rattle.f_use.proofs.Grants.{one_own, as_used, used_denotes, none_seen, some_seen}
use Rattle.f_find.proofs.Entities.{found_as}
use Rattle.f_rules.specs.Standing.{IsAt, ClassFound, ClassOf, IsIn}
use Rattle.f_find.specs.Merge.{other_of, merge}
use Rattle.f_rules.specs.RuleOf.{RuleFound, reference_rule}
use Rattle.f_rules.proofs.Breaking.{referred}

-- ---- references

module _ (p : List Located) (k : ℕ) (l : Located) where
  pub refers_rule : (n : Name) (nd : Need) → l.item ≡ Refers n nd → (q : Option Origins) → Found (Visible p l.scopes n.bytes) q → (c : Option Class) → ClassOf p q c → RuleFound p k l (reference_rule q c nd)
  refers_rule n nd is q f c class = referred p k l n nd (ap sought is) (ap need_of is) q (found_as (Visible p l.scopes n.bytes) (Finds p l) (λ j v. FindsVisible n nd j is v) from q f) c class where
    from : (j : ℕ) → Finds p l j → Visible p l.scopes n.bytes j
    from j (FindsVisible m d _ at v) = let same : n ≡ m = (let both : Refers n nd ≡ Refers m d = sym is ∙ at in cc) in let P : Name → Type 0 = λ x. Visible p l.scopes x.bytes j in subst P (sym same) v
    from j (FindsOutside m _ at v) = let bad : Refers n nd ≡ Imports m = sym is ∙ at in absurd (cc)
    from j (FindsOwn m a _ at v) = let bad : Refers n nd ≡ Accesses m a = sym is ∙ at in absurd (cc)
    from j (FindsUsed m lo us r s _ at mod_ en de) = let bad : Refers n nd ≡ Takes m lo us r = sym is ∙ at in absurd (cc)

  pub imports_rule : (n : Name) → l.item ≡ Imports n → (q : Option Origins) → Found (Visible p (around l.scopes) n.bytes) q → (c : Option Class) → ClassOf p q c → RuleFound p k l (reference_rule q c need.Accessible)
  imports_rule n is q f c class = referred p k l n need.Accessible (ap sought is) (ap need_of is) q (found_as (Visible p (around l.scopes) n.bytes) (Finds p l) (λ j v. FindsOutside n j is v) from q f) c class where
    from : (j : ℕ) → Finds p l j → Visible p (around l.scopes) n.bytes j
    from j (FindsVisible m d _ at v) = let bad : Imports n ≡ Refers m d = sym is ∙ at in absurd (cc)
    from j (FindsOutside m _ at v) = let same : n ≡ m = (let both : Imports n ≡ Imports m = sym is ∙ at in cc) in let P : Name → Type 0 = λ x. Visible p (around l.scopes) x.bytes j in subst P (sym same) v
    from j (FindsOwn m a _ at v) = let bad : Imports n ≡ Accesses m a = sym is ∙ at in absurd (cc)
    from j (FindsUsed m lo us r s _ at mod_ en de) = let bad : Imports n ≡ Takes m lo us r = sym is ∙ at in absurd (cc)

  pub access_rule : (n : Name) (a : Access) → l.item ≡ Accesses n a → (q : Option Origins) → Found (Denotes p (scope_of l).number n.bytes) q → (c : Option Class) → ClassOf p q c → RuleFound p k l (reference_rule q c need.Accessible)
  access_rule n a is q f c class = referred p k l n need.Accessible (ap sought is) (ap need_of is) q (found_as (Denotes p (scope_of l).number n.bytes) (Finds p l) (λ j v. FindsOwn n a j is v) from q f) c class where
    from : (j : ℕ) → Finds p l j → Denotes p (scope_of l).number n.bytes j
    from j (FindsVisible m d _ at v) = let bad : Accesses n a ≡ Refers m d = sym is ∙ at in absurd (cc)
    from j (FindsOutside m _ at v) = let bad : Accesses n a ≡ Imports m = sym is ∙ at in absurd (cc)
    from j (FindsOwn m b _ at v) = let same : n ≡ m = (let both : Accesses n a ≡ Accesses m b = sym is ∙ at in cc) in let P : Name → Type 0 = λ x. Denotes p (scope_of l).number x.bytes j in subst P (sym same) v
    from j (FindsUsed m lo us r s _ at mod_ en de) = let bad : Accesses n a ≡ Takes m lo us r = sym is ∙ at in absurd (cc)

-- ---- what stands at a place

module _ (o : Outline) (rows : List ScopeRow) (xs : List Placed) (own : List (List Row)) (are : AreParts o rows xs own) (k : ℕ) where
  pub stands : (x : Placed) → slice_get xs k ≡ Some x → (host : ℕ) → host ≡ host_in rows x.scope → IsAt o k x.item x.scope host
  stands x e host is =
      let range = within_at (length rows) xs k x are.within e in
      let count = are.scopes_are in
      let around_ = host_range rows are.hosts x.scope range in
      record {
        located = seen rows x;
        at = some_seen o rows xs own are k x e;
        item_is = refl;
        scope_is = number_is rows x.scope are.hosts;
        host_is = host_is rows x.scope are.hosts ∙ sym is;
        within = omega (arith, range, count);
        around = omega (arith, around_, count, is);
      }

  pub class_found : ClassFound o.items k (declared_class (slice_get xs k))
  class_found = pick (slice_get xs k) refl where
    by_item : (x : Placed) → slice_get xs k ≡ Some x → (i : Item) → x.item ≡ i → ClassFound o.items k (class_in i)
    by_item x e (Declares w) is = (seen rows x, record { scope = (scope_of (seen rows x)).number; what = w }, some_seen o rows xs own are k x e, ap (λ i. declared_by i (scope_of (seen rows x)).number (host_of (seen rows x)).number) is, refl)
    by_item x e (Heads w) is = (seen rows x, record { scope = (host_of (seen rows x)).number; what = w }, some_seen o rows xs own are k x e, ap (λ i. declared_by i (scope_of (seen rows x)).number (host_of (seen rows x)).number) is, refl)
    by_item x e _ is = λ l d at de.
        let one : l ≡ seen rows x = some_one (slice_get o.items k) l (seen rows x) at (some_seen o rows xs own are k x e) in
        let none : None ≡ Some d = sym (ap (λ i. declared_by i (scope_of (seen rows x)).number (host_of (seen rows x)).number) is) ∙ ap declaration_of (sym one) ∙ de in
        cc

    pick : (q : Option Placed) → slice_get xs k ≡ q → ClassFound o.items k (declared_class q)
    pick None e = λ l d at de. let bad : None ≡ Some l = sym (none_seen o rows xs own are k e) ∙ at in cc
    pick (Some x) e = by_item x e x.item refl

-- ---- the entities of a module

module _ (p : List Located) (s : ℕ) (name : List ℕ) where
  used_in : (k : ℕ) → IsUsed p s name k → IsIn p s name k
  used_in k i = (i.entity, used_denotes p s name k i)

  both_are : (own : ℕ) → OwnEntity p s name (Some own) → (used : Option Origins) → Found (IsUsed p s name) used → OthersFound (IsIn p s name) own (other_of own used)
  both_are own there None f = λ k d. pick k (as_used p s name k d.1) where
    pick : (k : ℕ) → IsOwn p s name k ⊎ IsUsed p s name k → k ≡ own
    pick k (inl i) = one_own p s name k own i there.0
    pick k (inr i) = absurd (f k i)
  both_are own there (Some u) f = test (eqb u.first own) refl where
    same : u.first ≡ own → (t : Option ℕ) → OthersFound (IsUsed p s name) u.first t → OthersFound (IsIn p s name) own t
    same is None g = λ k d. pick k (as_used p s name k d.1) where
      pick : (k : ℕ) → IsOwn p s name k ⊎ IsUsed p s name k → k ≡ own
      pick k (inl i) = one_own p s name k own i there.0
      pick k (inr i) = g k i ∙ is
    same is (Some k) g = (used_in k g.0, λ e. g.1 (e ∙ sym is))

    test : (b : Bool) → eqb u.first own ≡ b → OthersFound (IsIn p s name) own (cond b u.other (Some u.first))
    test true e = same (eqb-true u.first own e) u.other f.1
    test false e = (used_in u.first f.0, λ is. let holds : eqb u.first own ≡ true = eq-eqb u.first own is in let bad : true ≡ false = sym holds ∙ e in cc)

  pub entities : (own : Option ℕ) → OwnEntity p s name own → (used : Option Origins) → Found (IsUsed p s name) used → Found (IsIn p s name) (merge own used)
  entities None none used f = found_as (IsUsed p s name) (IsIn p s name) used_in (λ k d. pick k d.0 (as_used p s name k d.1)) used f where
    pick : (k : ℕ) → IsEntity p k → IsOwn p s name k ⊎ IsUsed p s name k → IsUsed p s name k
    pick k entity (inl i) = absurd (none k i entity)
    pick k entity (inr i) = i
  entities (Some own) there used f = ((there.1, Own s name own there.0), both_are own there used f)
