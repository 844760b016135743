-- What is found of scopes by their numbers.
use Rattle.std.proofs.Common.{◌≡◌, ◌<◌, ℕ, zero, suc, List, [], ◌∷◌, slice_get, Option, Some, None, refl, sym, ap, ◌∙◌, arith}
use Rattle.f_items.specs.declared.item.Item.{Item}
use Rattle.f_items.specs.declared.item.ScopeKind.{ScopeKind}
use Rattle.f_items.specs.Places.{Scope, Located, innermost, At}
use Rattle.f_items.specs.Accessible.{Visible}
use Rattle.f_scope.specs.declared.placement.ScopeRow.{ScopeRow}
use Rattle.f_scope.specs.declared.placement.Placed.{Placed}
use Rattle.f_scope.specs.Program.{Outline, AreParts}
use Rattle.f_scope.specs.Rows.{row_at, host_in, chain_of, AreHosts}
use Rattle.f_scope.specs.Tables.{Row}
use Rattle.f_scope.proofs.Chains.{chain-suc, chain-zero, number_is}
use Rattle.f_use.specs.declared.origins.Origins.{Origins}
use Rattle.f_use.specs.Associated.{Found, OthersFound}
use Rattle.f_use.proofs.Grants.{seen_at}
use Rattle.f_find.specs.Visible.{IsVisible}
use Rattle.f_rules.specs.declared.stand.Stand.{Stand}
use Rattle.f_rules.specs.Standing.{StandFound}
use Rattle.f_scopes.specs.Held.{AreNumbered}
use Rattle.f_scopes.specs.Names.{VisibleIn}
use Rattle.f_scopes.specs.Numbers.{scope_number, item_at, number_of, KindFound, HostFound}

-- ---- names

pub found_in : (p : List Located) (count : ℕ) → AreNumbered p count → (s : ℕ) → s < count → (name : List ℕ) (r : Option Origins) → IsVisible p s name r → Found (VisibleIn p s name) r
found_in p count are s lt name None visible = λ k v. visible v.place v.located v.at v.scope_is k v.visible
found_in p count are s lt name (Some o) visible =
    let here = are.all s lt in
    let found = visible here.0 here.1 here.2 here.3 in
    (in_scope o.first found.0, others o.other found.1 (λ k v. (visible v.place v.located v.at v.scope_is).1)) where
      in_scope : (k : ℕ) → Visible p (are.all s lt).1.scopes name k → VisibleIn p s name k
      in_scope k v = let here = are.all s lt in record { place = here.0; located = here.1; at = here.2; scope_is = here.3; visible = v }

      others : (t : Option ℕ) → OthersFound (Visible p (are.all s lt).1.scopes name) o.first t → ((k : ℕ) → (v : VisibleIn p s name k) → OthersFound (Visible p v.located.scopes name) o.first t) → OthersFound (VisibleIn p s name) o.first t
      others None f each = λ k v. each k v k v.visible
      others (Some k) f each = (in_scope k f.0, f.1)

pub none_in : (p : List Located) (count : ℕ) → AreNumbered p count → (s : ℕ) → (s < count → ⊥) → (name : List ℕ) → Found (VisibleIn p s name) None
none_in p count are s past name = λ k v. let lt = are.within v.place v.located v.at in let same = v.scope_is in past (omega (arith, lt, same))

-- ---- kinds

scope_is : (rows : List ScopeRow) → AreHosts rows → (s : ℕ) → innermost (chain_of rows s) ≡ record { number = s; kind = (row_at rows s).kind }
scope_is rows h zero = ap innermost (chain-zero rows) ∙ ap (λ (k : ScopeKind). record { number = 0; kind = k }) (sym (ap (λ r. r.kind) h.first))
scope_is rows h (suc s) = ap innermost (chain-suc rows h s)

module _ (o : Outline) (rows : List ScopeRow) (xs : List Placed) (own : List (List Row)) (are : AreParts o rows xs own) where
  -- the row of an item's scope
  row_of : (k : ℕ) (l : Located) → At o.items k l → (s : ℕ) × (l.scopes ≡ chain_of rows s)
  row_of k l at =
      let x = seen_at rows xs k l (ap (λ q. slice_get q k) are.items_are ∙ at) in
      (x.0.scope, ap (λ m. m.scopes) x.2)

  numbered_row : (k : ℕ) (l : Located) → At o.items k l → (s : ℕ) → number_of l ≡ s → l.scopes ≡ chain_of rows s
  numbered_row k l at s same =
      let row = row_of k l at in
      let number : row.0 ≡ s = sym (ap (λ (c : Scope). c.number) (scope_is rows are.hosts row.0)) ∙ ap (λ c. (innermost c).number) (sym row.1) ∙ same in
      row.1 ∙ ap (chain_of rows) number

  pub kind_found : (count : ℕ) → AreNumbered o.items count → (s : ℕ) → s < count → KindFound o.items s (Some (row_at rows s).kind)
  kind_found count numbers s lt =
      let here = numbers.all s lt in
      (here.0, here.1, here.2, ap innermost (numbered_row here.0 here.1 here.2 s here.3) ∙ scope_is rows are.hosts s)

  pub host_found : (count : ℕ) → AreNumbered o.items count → (s : ℕ) → 0 < s → s < count → HostFound o.items s (Some (host_in rows s))
  host_found count numbers zero some lt = absurd (omega (arith, some))
  host_found count numbers (suc s) some lt =
      let here = numbers.all (suc s) lt in
      record {
        place = here.0;
        located = here.1;
        inner = record { number = suc s; kind = (row_at rows (suc s)).kind };
        outer = chain_of rows (host_in rows (suc s));
        at = here.2;
        scopes_are = numbered_row here.0 here.1 here.2 (suc s) here.3 ∙ chain-suc rows are.hosts s;
        scope_is = refl;
        host_is = number_is rows (host_in rows (suc s)) are.hosts;
      }

  pub no_outer : HostFound o.items 0 None
  no_outer host h =
      let number : number_of h.located ≡ 0 = ap (λ c. (innermost c).number) h.scopes_are ∙ h.scope_is in
      let none : h.located.scopes ≡ [] = numbered_row h.place h.located h.at 0 number ∙ chain-zero rows in
      let bad : h.inner ∷ h.outer ≡ [] = sym h.scopes_are ∙ none in
      cc

pub no_kind : (p : List Located) (count : ℕ) → AreNumbered p count → (s : ℕ) → (s < count → ⊥) → KindFound p s None
no_kind p count numbers s past = λ kind h. let lt = numbers.within h.0 h.1 h.2 in let same = ap (λ (c : Scope). c.number) h.3 in past (omega (arith, lt, same))

pub no_host : (p : List Located) (count : ℕ) → AreNumbered p count → (s : ℕ) → (s < count → ⊥) → HostFound p s None
no_host p count numbers s past = λ host h.
    let lt = numbers.within h.place h.located h.at in
    let number : number_of h.located ≡ s = ap (λ c. (innermost c).number) h.scopes_are ∙ h.scope_is in
    past (omega (arith, lt, number))

-- ---- items

pub scope_none : (o : Outline) (k : ℕ) → StandFound o k None → None ≡ scope_number (slice_get o.items k)
scope_none o k none = pick (slice_get o.items k) refl where
  pick : (q : Option Located) → slice_get o.items k ≡ q → None ≡ scope_number q
  pick None e = refl
  pick (Some l) e = absurd (none l e)

pub scope_some : (o : Outline) (k : ℕ) (s : Stand) → StandFound o k (Some s) → Some s.scope ≡ scope_number (slice_get o.items k)
scope_some o k s is = sym (ap scope_number is.at ∙ ap (λ (n : ℕ). Some n) is.scope_is)

pub item_none : (o : Outline) (k : ℕ) → StandFound o k None → None ≡ item_at (slice_get o.items k)
item_none o k none = pick (slice_get o.items k) refl where
  pick : (q : Option Located) → slice_get o.items k ≡ q → None ≡ item_at q
  pick None e = refl
  pick (Some l) e = absurd (none l e)

pub item_some : (o : Outline) (k : ℕ) (s : Stand) → StandFound o k (Some s) → Some s.item.now ≡ item_at (slice_get o.items k)
item_some o k s is = sym (ap item_at is.at ∙ ap (λ (i : Item). Some i) is.item_is)
