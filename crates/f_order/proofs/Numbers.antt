-- The units of scopes, and what items say of units.
use Rattle.std.proofs.Common.{◌≡◌, ℕ, zero, suc, ◌<◌, ◌≤◌, ◌⊎◌, inl, inr, Bool, true, false, ◌&&◌, cond, eqb, List, [], ◌∷◌, ◌++◌, map, length, slice_get, Some, None, refl, sym, ap, ◌∙◌, subst, arith}
use Rattle.std.proofs.lemmas.Bool.{ne_eqb}
use Rattle.std.proofs.lemmas.List.{get_or_append_left}
use Rattle.std.proofs.Math.Seq.{get_or-append_seam}
use Rattle.f_items.specs.declared.item.Item.{Item}
use Rattle.f_items.specs.declared.item.Item.TheVariants.{Declares}
use Rattle.f_items.specs.declared.item.Class.{Class}
use Rattle.f_items.specs.declared.item.Class.TheVariants as class
use Rattle.f_items.specs.declared.item.ScopeKind.{ScopeKind}
use Rattle.f_items.specs.declared.item.ScopeKind.TheVariants as kind
use Rattle.f_items.specs.Places.{Scope, Located, outermost, last_of, scope_of, unit_of, At}
use Rattle.f_items.specs.Accessible.{IsModule}
use Rattle.f_items.specs.Order.{module_used, IsInUnit, UsesModule}
use Rattle.f_scope.specs.declared.placement.ScopeRow.{ScopeRow}
use Rattle.f_scope.specs.declared.placement.Placed.{Placed}
use Rattle.f_scope.specs.Program.{Outline, AreParts, is_module_kind}
use Rattle.f_scope.specs.Rows.{row_at, host_in, AreHosts, chain_of, seen}
use Rattle.f_scope.specs.Tables.{Row}
use Rattle.f_scope.specs.UnitNames.{is_unit_name}
use Rattle.f_scope.proofs.Chains.{chain-suc, chain-zero, number_is, kind_is, within_at}
use Rattle.f_scope.proofs.Scans.{some_one, last}
use Rattle.f_use.specs.Uses.{ModuleIn}
use Rattle.f_use.proofs.Grants.{seen_at, none_seen, some_seen}
use Rattle.f_order.specs.Units.{number_at, unit_number, unit_by, AreNumbers, AreUnits, UnitFound, NamesModule, is_module_name, names_module, ModuleFound, EdgeFound}

-- ---- units by the rows

module _ (rows : List ScopeRow) (hosts : AreHosts rows) where
  unit-zero : unit_number rows 0 ≡ 0
  unit-zero = ap (λ c. (last_of outermost c).number) (chain-zero rows)

  unit-suc : (n : ℕ) → unit_number rows (suc n) ≡ (last_of (record { number = suc n; kind = (row_at rows (suc n)).kind }) (chain_of rows (host_in rows (suc n)))).number
  unit-suc n = ap (λ c. (last_of outermost c).number) (chain-suc rows hosts n)

  -- what is behind the first scope doesn't show which stood before
  last_any : (s t : Scope) (h : ℕ) → 0 < h → (last_of s (chain_of rows h)).number ≡ (last_of t (chain_of rows h)).number
  last_any s t zero lt = absurd (omega (arith, lt))
  last_any s t (suc h) lt = ap (λ c. (last_of s c).number) (chain-suc rows hosts h) ∙ sym (ap (λ c. (last_of t c).number) (chain-suc rows hosts h))

  not_first : (n h : ℕ) (units : List ℕ) → unit_by units h (suc n) ≡ cond (eqb h 0) (suc n) (number_at units h)
  not_first n h units = ap (λ b. cond b 0 (cond (eqb h 0) (suc n) (number_at units h))) (ne_eqb (suc n) 0 (λ e. absurd (cc)))

  by_host : (n h : ℕ) (units : List ℕ) → host_in rows (suc n) ≡ h → h ≤ n → AreNumbers rows units (suc n) → unit_by units h (suc n) ≡ unit_number rows (suc n)
  by_host n zero units e le known = not_first n 0 units ∙ sym (unit-suc n ∙ ap (λ h. (last_of (record { number = suc n; kind = (row_at rows (suc n)).kind }) (chain_of rows h)).number) e ∙ ap (λ c. (last_of (record { number = suc n; kind = (row_at rows (suc n)).kind }) c).number) (chain-zero rows))
  by_host n (suc h) units e le known =
      not_first n (suc h) units
      ∙ ap (λ b. cond b (suc n) (number_at units (suc h))) (ne_eqb (suc h) 0 (λ e. absurd (cc)))
      ∙ known (suc h) (omega (arith, le))
      ∙ last_any outermost (record { number = suc n; kind = (row_at rows (suc n)).kind }) (suc h) (omega arith)
      ∙ sym (unit-suc n ∙ ap (λ h. (last_of (record { number = suc n; kind = (row_at rows (suc n)).kind }) (chain_of rows h)).number) e)

  by_scope : (s : ℕ) (units : List ℕ) → AreNumbers rows units s → unit_by units (host_in rows s) s ≡ unit_number rows s
  by_scope zero units known = sym unit-zero
  by_scope (suc n) units known = by_host n (host_in rows (suc n)) units refl (hosts.before n) known

  -- one scope more
  pub numbers_next : (units new : List ℕ) (s u : ℕ) → length units ≡ s → new ≡ units ++ u ∷ [] → u ≡ unit_by units (host_in rows s) s → AreNumbers rows units s → AreNumbers rows new (suc s)
  numbers_next units new s u long e is known j lt = pick (last j s lt) where
    pick : (j < s) ⊎ (j ≡ s) → number_at new j ≡ unit_number rows j
    pick (inl a) = ap (λ l. number_at l j) e ∙ get_or_append_left units (u ∷ []) 0 j (omega (arith, a, long)) ∙ known j a
    pick (inr same) =
        ap (number_at new) (same ∙ sym long) ∙ ap (λ l. number_at l (length units)) e ∙ get_or-append_seam units u [] 0 ∙ is ∙ by_scope s units known ∙ ap (unit_number rows) (sym same)

  -- a unit isn't behind the scopes in it
  unit_less : (n s : ℕ) → s ≤ n → unit_number rows s ≤ s
  unit_less n zero le = let is = unit-zero in omega (arith, is)
  unit_less zero (suc s) le = absurd (omega (arith, le))
  unit_less (suc n) (suc s) le = pick (host_in rows (suc s)) refl (hosts.before s) (λ h lt. unit_less n h lt) where
    pick : (h : ℕ) → host_in rows (suc s) ≡ h → h ≤ s → ((h : ℕ) → h ≤ n → unit_number rows h ≤ h) → unit_number rows (suc s) ≤ suc s
    pick zero e lt less = let is : unit_number rows (suc s) ≡ suc s = unit-suc s ∙ ap (λ h. (last_of (record { number = suc s; kind = (row_at rows (suc s)).kind }) (chain_of rows h)).number) e ∙ ap (λ c. (last_of (record { number = suc s; kind = (row_at rows (suc s)).kind }) c).number) (chain-zero rows) in omega (arith, is)
    pick (suc h) e lt less =
        let is : unit_number rows (suc s) ≡ unit_number rows (suc h) = unit-suc s ∙ ap (λ h. (last_of (record { number = suc s; kind = (row_at rows (suc s)).kind }) (chain_of rows h)).number) e ∙ last_any (record { number = suc s; kind = (row_at rows (suc s)).kind }) outermost (suc h) (omega arith) in
        let under = less (suc h) (omega (arith, lt, le)) in
        omega (arith, is, under, lt)

  pub unit_under : (s : ℕ) → unit_number rows s ≤ s
  unit_under s = unit_less s s (omega arith)

-- ---- the table

pub table_is : (o : Outline) (rows : List ScopeRow) (xs : List Placed) (own : List (List Row)) → AreParts o rows xs own → (units : List ℕ) → AreNumbers rows units (length rows) → AreUnits o units
table_is o rows xs own are units known = record { numbers = λ k l at. numbers k l (seen_at rows xs k l (here k l at)); within = λ k l at. within k l (seen_at rows xs k l (here k l at)); inside = λ k l at. inside k l (seen_at rows xs k l (here k l at)) } where
  here : (k : ℕ) (l : Located) → At o.items k l → At (map (seen rows) xs) k l
  here k l at = ap (λ p. slice_get p k) are.items_are ∙ at

  numbers : (k : ℕ) (l : Located) → (x : Placed) × (slice_get xs k ≡ Some x) × (l ≡ seen rows x) → number_at units (scope_of l).number ≡ unit_of l
  numbers k l x =
      let range = within_at (length rows) xs k x.0 are.within x.1 in
      ap (λ y. number_at units (scope_of y).number) x.2 ∙ ap (number_at units) (number_is rows x.0.scope are.hosts) ∙ known x.0.scope range ∙ sym (ap unit_of x.2)

  within : (k : ℕ) (l : Located) → (x : Placed) × (slice_get xs k ≡ Some x) × (l ≡ seen rows x) → unit_of l < o.scopes
  within k l x =
      let range = within_at (length rows) xs k x.0 are.within x.1 in
      let under = unit_under rows are.hosts x.0.scope in
      let is : unit_of l ≡ unit_number rows x.0.scope = ap unit_of x.2 in
      let count = are.scopes_are in
      omega (arith, range, under, is, count)

  inside : (k : ℕ) (l : Located) → (x : Placed) × (slice_get xs k ≡ Some x) × (l ≡ seen rows x) → (scope_of l).number < o.scopes
  inside k l x =
      let range = within_at (length rows) xs k x.0 are.within x.1 in
      let is : (scope_of l).number ≡ x.0.scope = ap (λ y. (scope_of y).number) x.2 ∙ number_is rows x.0.scope are.hosts in
      let count = are.scopes_are in
      omega (arith, range, is, count)

-- ---- what stands at a place

module _ (o : Outline) (rows : List ScopeRow) (xs : List Placed) (own : List (List Row)) (are : AreParts o rows xs own) (units : List ℕ) (table : AreUnits o units) (k : ℕ) where
  pub nothing_there : slice_get xs k ≡ None → (l : Located) → At o.items k l → ⊥
  nothing_there none l at = let bad : None ≡ Some l = sym (none_seen o rows xs own are k none) ∙ at in cc

  number_there : (x : Placed) → slice_get xs k ≡ Some x → number_at units x.scope ≡ unit_of (seen rows x)
  number_there x e = sym (ap (number_at units) (number_is rows x.scope are.hosts)) ∙ table.numbers k (seen rows x) (some_seen o rows xs own are k x e)

  pub unit_there : (x : Placed) → slice_get xs k ≡ Some x → UnitFound o.items k (Some (number_at units x.scope))
  unit_there x e = (seen rows x, some_seen o rows xs own are k x e, sym (number_there x e))

  -- ---- modules

  unit_class : (c : Class) → is_unit_name c ≡ true → c ≡ class.UnitName
  unit_class class.UnitName e = refl
  unit_class _ e = absurd (cc)

  module_kind : (k : ScopeKind) → is_module_kind k ≡ true → k ≡ kind.Module
  module_kind kind.Module e = refl
  module_kind _ e = absurd (cc)

  both : (a b : Bool) → (a && b) ≡ true → (a ≡ true) × (b ≡ true)
  both true true e = (refl, refl)
  both true false e = absurd (cc)
  both false b e = absurd (cc)

  pub module_none : slice_get xs k ≡ None → ModuleFound o.items k None
  module_none none u n =
      let P : ℕ → Type 0 = λ j. At o.items j n.in_unit.is_module.located in
      nothing_there none n.in_unit.is_module.located (subst P n.place_is n.in_unit.is_module.at)

  -- the item at the place is this one
  same_item : (x : Placed) → slice_get xs k ≡ Some x → (u : ℕ) (n : NamesModule o.items k u) → n.in_unit.is_module.located ≡ seen rows x
  same_item x e u n =
      let i = n.in_unit.is_module in
      let P : ℕ → Type 0 = λ j. At o.items j i.located in
      some_one (slice_get o.items k) i.located (seen rows x) (subst P n.place_is i.at) (some_seen o rows xs own are k x e)

  pub module_there : (x : Placed) → slice_get xs k ≡ Some x → names_module rows x ≡ true → ModuleFound o.items k (Some (number_at units x.scope))
  module_there x e holds = (named x.item refl bs.0, λ v n. sym n.in_unit.unit_is ∙ ap unit_of (same_item x e v n) ∙ sym (number_there x e)) where
    bs : (is_module_name x.item ≡ true) × (is_module_kind (row_at rows x.scope).kind ≡ true)
    bs = both (is_module_name x.item) (is_module_kind (row_at rows x.scope).kind) holds

    named : (i : Item) → x.item ≡ i → is_module_name i ≡ true → NamesModule o.items k (number_at units x.scope)
    named (Declares d) is holds = record {
      name = d.name.bytes;
      in_unit = record {
        scope = x.scope;
        is_module = record {
          place = k;
          located = seen rows x;
          what = d;
          at = some_seen o rows xs own are k x e;
          item_is = is;
          scope_is = number_is rows x.scope are.hosts;
          module_scope = kind_is rows x.scope are.hosts ∙ module_kind (row_at rows x.scope).kind bs.1;
          unit_name = unit_class d.class holds;
          name_is = refl;
        };
        unit_is = sym (number_there x e);
      };
      place_is = refl;
    }
    named _ is holds = absurd (cc)

  pub module_not : (x : Placed) → slice_get xs k ≡ Some x → names_module rows x ≡ false → ModuleFound o.items k None
  module_not x e deny u n =
      let i = n.in_unit.is_module in
      let one = same_item x e u n in
      let item : x.item ≡ Declares i.what = sym (ap (λ l. l.item) one) ∙ i.item_is in
      let named : is_module_name x.item ≡ true = ap is_module_name item ∙ ap is_unit_name i.unit_name in
      let scope : (row_at rows x.scope).kind ≡ kind.Module = sym (kind_is rows x.scope are.hosts) ∙ sym (ap (λ l. (scope_of l).kind) one) ∙ i.module_scope in
      let agrees : names_module rows x ≡ true = ap (λ b. b && is_module_kind (row_at rows x.scope).kind) named ∙ ap is_module_kind scope in
      let bad : true ≡ false = sym agrees ∙ deny in
      cc

  -- ---- edges

  pub edge_none : slice_get xs k ≡ None → EdgeFound o.items k None
  edge_none none u m i = nothing_there none i.located i.at

  used_there : (x : Placed) → slice_get xs k ≡ Some x → (u m : ℕ) (i : UsesModule o.items k u m) → (module_used x.item ≡ Some i.name) × (i.located ≡ seen rows x)
  used_there x e u m i =
      let one : i.located ≡ seen rows x = some_one (slice_get o.items k) i.located (seen rows x) i.at (some_seen o rows xs own are k x e) in
      (ap (λ l. module_used l.item) (sym one) ∙ i.uses, one)

  pub edge_not : (x : Placed) → slice_get xs k ≡ Some x → module_used x.item ≡ None → EdgeFound o.items k None
  edge_not x e none u m i = let bad : None ≡ Some i.name = sym none ∙ (used_there x e u m i).0 in cc

  same_name : (x : Placed) → slice_get xs k ≡ Some x → (name : List ℕ) → module_used x.item ≡ Some name → (u m : ℕ) (i : UsesModule o.items k u m) → i.name ≡ name
  same_name x e name is u m i = some_one (module_used x.item) i.name name (used_there x e u m i).0 is

  pub edge_absent : (x : Placed) → slice_get xs k ≡ Some x → (name : List ℕ) → module_used x.item ≡ Some name → ModuleIn o name None → EdgeFound o.items k None
  edge_absent x e name is none u m i =
      let P : List ℕ → Type 0 = λ n. IsModule o.items n i.module_is.scope in
      none i.module_is.scope (subst P (same_name x e name is u m i) i.module_is.is_module)

  module_unit : (name : List ℕ) (s : ℕ) → ((t : ℕ) → IsModule o.items name t → t ≡ s) → (u : ℕ) (i : IsInUnit o.items name u) → number_at units s ≡ u
  module_unit name s only u i =
      let m = i.is_module in
      ap (number_at units) (sym (only i.scope m) ∙ sym m.scope_is) ∙ table.numbers m.place m.located m.at ∙ i.unit_is

  pub edge_there : (x : Placed) → slice_get xs k ≡ Some x → (name : List ℕ) → module_used x.item ≡ Some name → (s : ℕ) → ModuleIn o name (Some s) → EdgeFound o.items k (Some (record { unit = number_at units x.scope; module_unit = number_at units s }))
  edge_there x e name is s found = (
    record {
      located = seen rows x;
      name = name;
      at = some_seen o rows xs own are k x e;
      uses = is;
      unit_is = sym (number_there x e);
      module_is = (let m = found.0 in record { scope = s; is_module = m; unit_is = sym (table.numbers m.place m.located m.at) ∙ ap (number_at units) m.scope_is });
    },
    λ u m i. (sym i.unit_is ∙ ap unit_of (used_there x e u m i).1 ∙ sym (number_there x e), (let P : List ℕ → Type 0 = λ n. IsInUnit o.items n m in sym (module_unit name s found.2 m (subst P (same_name x e name is u m i) i.module_is)))),
  )
