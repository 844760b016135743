-- Names in the scopes around a scope.
use Rattle.std.proofs.Common.{◌≡◌, ℕ, zero, suc, ◌<◌, ◌≤◌, ◌⊎◌, inl, inr, Bool, true, false, List, [], ◌∷◌, map, slice_get, Option, Some, None, refl, sym, ap, ◌∙◌, subst, arith}
use Rattle.std.specs.Prelude.{Decides}
use Rattle.f_items.specs.declared.item.ScopeKind.{ScopeKind}
use Rattle.f_items.specs.declared.item.ScopeKind.TheVariants as kind
use Rattle.f_items.specs.declared.item.Item.TheVariants.{ImportsAll}
use Rattle.f_items.specs.Places.{Scope, Open, Located, around, scope_of, At}
use Rattle.f_items.specs.Declarations.{IsOwn}
use Rattle.f_items.specs.Accessible.{Stands, HasNames, Denotes, Lacks, Continues, IsImported, Visible, Intrinsic, Here, Outward, Beyond}
use Rattle.f_scope.specs.declared.placement.ScopeRow.{ScopeRow}
use Rattle.f_scope.specs.declared.placement.Placed.{Placed}
use Rattle.f_scope.specs.Own.{IsTold}
use Rattle.f_scope.specs.Rows.{row_at, host_in, AreHosts, chain_of, seen}
use Rattle.f_scope.specs.Program.{Outline, AreParts}
use Rattle.f_scope.specs.Tables.{Row}
use Rattle.f_scope.proofs.Chains.{chain-suc, chain-zero, number_is, around-chain}
use Rattle.f_stated.specs.Stated.{NamesImport}
use Rattle.f_use.specs.declared.origins.Origins.{Origins}
use Rattle.f_use.specs.Associated.{Found}
use Rattle.f_use.proofs.Grants.{one_own, seen_at}
use Rattle.f_find.specs.Steps.{FoundIn, GoesOn, AreRows}
use Rattle.f_find.specs.Visible.{has_names, is_interface_body, IsVisible, IsVisibleAround}
use Rattle.f_find.proofs.Entities.{found_as}

-- ---- kinds of scopes

pub names_there : (k : ScopeKind) → has_names k ≡ true → HasNames k
names_there kind.DerivedType e = absurd (cc)
names_there _ e = tt

pub names_not : (k : ScopeKind) → has_names k ≡ false → HasNames k → ⊥
names_not kind.DerivedType e h = h
names_not _ e h = absurd (cc)

pub is_body : (k : ScopeKind) → is_interface_body k ≡ true → k ≡ kind.InterfaceBody
is_body kind.InterfaceBody e = refl
is_body _ e = absurd (cc)

pub not_body : (k : ScopeKind) → is_interface_body k ≡ false → k ≡ kind.InterfaceBody → ⊥
not_body k e is = let holds : is_interface_body k ≡ true = ap is_interface_body is in let bad : true ≡ false = sym holds ∙ e in cc

-- what is found where names are sought
pub sought_in : (p : List Located) (k : ScopeKind) (s : ℕ) (name : List ℕ) (r : Option Origins) → has_names k ≡ true → Found (Denotes p s name) r → FoundIn p k s name r
sought_in p k s name None e f = λ h. f
sought_in p k s name (Some o) e f = (names_there k e, f)

pub not_sought : (p : List Located) (k : ScopeKind) (s : ℕ) (name : List ℕ) → has_names k ≡ false → FoundIn p k s name None
not_sought p k s name e = λ h. absurd (names_not k e h)

-- a scope that isn't an interface body goes on, and an interface body as far as it imports
pub goes_on : (p : List Located) (k : ScopeKind) (s : ℕ) (name : List ℕ) → is_interface_body k ≡ false → GoesOn p k s name
goes_on p k s name e = λ is. absurd (not_body k e is)

pub body_goes_on : (p : List Located) (k : ScopeKind) (s : ℕ) (name : List ℕ) (b : Bool) → is_interface_body k ≡ true → Decides b (IsImported p s name) → Decides b (GoesOn p k s name)
body_goes_on p k s name b e d = (λ holds _. d.0 holds, λ g. d.1 (g (is_body k e)))

pub imported_all : (p : List Located) (s : ℕ) (name : List ℕ) → Stands p s ImportsAll → Decides true (IsImported p s name)
imported_all p s name i = (λ _. inl i, λ _. refl)

pub imported_name : (p : List Located) (s : ℕ) (name : List ℕ) (b : Bool) → (Stands p s ImportsAll → ⊥) → Decides b (NamesImport p s name) → Decides b (IsImported p s name)
imported_name p s name b none d = (λ holds. inr (d.0 holds), λ i. pick i) where
  pick : IsImported p s name → b ≡ true
  pick (inl a) = absurd (none a)
  pick (inr n) = d.1 n

-- ---- one scope

module _ (p : List Located) (name : List ℕ) where
  pub intrinsic_none : IsTold p 0 name None → Found (Visible p [] name) None
  intrinsic_none told = λ k v. pick k v where
    pick : (k : ℕ) → Visible p [] name k → ⊥
    pick k (Intrinsic _ _ own) = told k own.declared

  pub intrinsic_some : (place : ℕ) → IsTold p 0 name (Some place) → Found (Visible p [] name) (Some (record { first = place; other = None }))
  intrinsic_some place told = (Intrinsic name place own, λ k v. pick k v) where
    own : IsOwn p 0 name place
    own = record { declared = told.0; none_before = told.1 }

    pick : (k : ℕ) → Visible p [] name k → k ≡ place
    pick k (Intrinsic _ _ i) = one_own p 0 name k place i own

  module _ (s : Scope) (ss : Open) where
    here_is : (o : Origins) → HasNames s.kind → Found (Denotes p s.number name) (Some o) → Found (Visible p (s ∷ ss) name) (Some o)
    here_is o has f = found_as (Denotes p s.number name) (Visible p (s ∷ ss) name) (λ k d. Here s ss name k has d) (λ k v. pick k v) (Some o) f where
      pick : (k : ℕ) → Visible p (s ∷ ss) name k → Denotes p s.number name k
      pick k (Here _ _ _ _ h d) = d
      pick k (Outward _ _ _ _ lacks c v) = absurd (lacks has o.first f.0)
      pick k (Beyond _ _ _ _ lacks c v) = absurd (lacks has o.first f.0)

    outward_is : (r : Option Origins) → Lacks p s name → Continues p s name → Found (Visible p ss name) r → Found (Visible p (s ∷ ss) name) r
    outward_is r lacks continues f = found_as (Visible p ss name) (Visible p (s ∷ ss) name) (λ k v. Outward s ss name k lacks continues v) (λ k v. pick k v) r f where
      pick : (k : ℕ) → Visible p (s ∷ ss) name k → Visible p ss name k
      pick k (Here _ _ _ _ h d) = absurd (lacks h k d)
      pick k (Outward _ _ _ _ l c v) = v
      pick k (Beyond _ _ _ _ l c v) = absurd (c continues)

    beyond_is : (r : Option Origins) → Lacks p s name → (Continues p s name → ⊥) → Found (Visible p [] name) r → Found (Visible p (s ∷ ss) name) r
    beyond_is r lacks ends f = found_as (Visible p [] name) (Visible p (s ∷ ss) name) (λ k v. Beyond s ss name k lacks ends v) (λ k v. pick k v) r f where
      pick : (k : ℕ) → Visible p (s ∷ ss) name k → Visible p [] name k
      pick k (Here _ _ _ _ h d) = absurd (lacks h k d)
      pick k (Outward _ _ _ _ l c v) = absurd (ends c)
      pick k (Beyond _ _ _ _ l c v) = v

  -- ---- by the rows

  module _ (rows : List ScopeRow) (hosts : AreHosts rows) where
    head_of : ℕ → Scope
    head_of at = record { number = at; kind = (row_at rows at).kind }

    chain_is : (at : ℕ) → 0 < at → chain_of rows at ≡ head_of at ∷ chain_of rows (row_at rows at).host
    unfolding head_of
    chain_is zero lt = absurd (omega (arith, lt))
    chain_is (suc n) lt = chain-suc rows hosts n

    pub row_here : (at : ℕ) (o : Origins) → 0 < at → FoundIn p (row_at rows at).kind at name (Some o) → Found (Visible p (chain_of rows at) name) (Some o)
    unfolding head_of
    row_here at o lt f = let P : Open → Type 0 = λ c. Found (Visible p c name) (Some o) in subst P (sym (chain_is at lt)) (here_is (head_of at) (chain_of rows (row_at rows at).host) o f.0 f.1)

    pub row_outward : (at : ℕ) (r : Option Origins) → 0 < at → FoundIn p (row_at rows at).kind at name None → GoesOn p (row_at rows at).kind at name → Found (Visible p (chain_of rows (row_at rows at).host) name) r → Found (Visible p (chain_of rows at) name) r
    unfolding head_of
    row_outward at r lt lacks continues f = let P : Open → Type 0 = λ c. Found (Visible p c name) r in subst P (sym (chain_is at lt)) (outward_is (head_of at) (chain_of rows (row_at rows at).host) r lacks continues f)

    pub row_beyond : (at : ℕ) (r : Option Origins) → 0 < at → FoundIn p (row_at rows at).kind at name None → (GoesOn p (row_at rows at).kind at name → ⊥) → Found (Visible p [] name) r → Found (Visible p (chain_of rows at) name) r
    unfolding head_of
    row_beyond at r lt lacks ends f = let P : Open → Type 0 = λ c. Found (Visible p c name) r in subst P (sym (chain_is at lt)) (beyond_is (head_of at) (chain_of rows (row_at rows at).host) r lacks ends f)

    pub row_last : (at : ℕ) (r : Option Origins) → at ≤ 0 → Found (Visible p [] name) r → Found (Visible p (chain_of rows at) name) r
    row_last zero r le f = let P : Open → Type 0 = λ c. Found (Visible p c name) r in subst P (sym (chain-zero rows)) f
    row_last (suc n) r le f = absurd (omega (arith, le))

pub host_less : (rows : List ScopeRow) → AreHosts rows → (at : ℕ) → 0 < at → (row_at rows at).host < at
host_less rows h zero lt = absurd (omega (arith, lt))
host_less rows h (suc n) lt = let le = h.before n in omega (arith, le)

-- ---- by an item of the scope

pub visible_in : (o : Outline) (rows : List ScopeRow) (xs : List Placed) (own : List (List Row)) → AreParts o rows xs own → (scope : ℕ) (name : List ℕ) (r : Option Origins) → Found (Visible o.items (chain_of rows scope) name) r → IsVisible o.items scope name r
visible_in o rows xs own are scope name r f k l at here =
    let x = seen_at rows xs k l (ap (λ p. slice_get p k) are.items_are ∙ at) in
    let number : x.0.scope ≡ scope = sym (number_is rows x.0.scope are.hosts) ∙ ap (λ y. (scope_of y).number) (sym x.2) ∙ here in
    let chain : chain_of rows scope ≡ l.scopes = ap (chain_of rows) (sym number) ∙ ap (λ y. y.scopes) (sym x.2) in
    let P : Open → Type 0 = λ c. Found (Visible o.items c name) r in
    subst P chain f

pub visible_around_in : (o : Outline) (rows : List ScopeRow) (xs : List Placed) (own : List (List Row)) → AreParts o rows xs own → (scope : ℕ) (name : List ℕ) (r : Option Origins) → Found (Visible o.items (chain_of rows (host_in rows scope)) name) r → IsVisibleAround o.items scope name r
visible_around_in o rows xs own are scope name r f k l at here =
    let x = seen_at rows xs k l (ap (λ p. slice_get p k) are.items_are ∙ at) in
    let number : x.0.scope ≡ scope = sym (number_is rows x.0.scope are.hosts) ∙ ap (λ y. (scope_of y).number) (sym x.2) ∙ here in
    let chain : chain_of rows (host_in rows scope) ≡ around l.scopes = ap (λ s. chain_of rows (host_in rows s)) (sym number) ∙ around-chain rows x.0.scope are.hosts ∙ ap (λ y. around y.scopes) (sym x.2) in
    let P : Open → Type 0 = λ c. Found (Visible o.items c name) r in
    subst P chain f
