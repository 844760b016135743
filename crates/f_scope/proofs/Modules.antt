-- The module of a name by the tables.
use Rattle.std.proofs.Common.{◌≡◌, ℕ, Bool, true, false, cond, List, map, slice_get, Option, Some, None, option_map, refl, sym, ap, ◌∙◌, subst}
use Rattle.std.proofs.lemmas.Option.{slice_get-map}
use Rattle.f_items.specs.declared.item.ScopeKind.{ScopeKind}
use Rattle.f_items.specs.declared.item.ScopeKind.TheVariants as kind
use Rattle.f_items.specs.Places.{Located, scope_of, At}
use Rattle.f_items.specs.Accessible.{IsModule}
use Rattle.f_items.specs.Scoped.{NamesUnit, IsNamedTwice, IsFirst, BreaksFirst, UnitTwice}
use Rattle.f_items.proofs.Single.{one_of}
use Rattle.f_scope.specs.declared.placement.ScopeRow.{ScopeRow}
use Rattle.f_scope.specs.declared.placement.Placed.{Placed}
use Rattle.f_scope.specs.declared.table.Entry.{Entry}
use Rattle.f_scope.specs.Rows.{row_at, AreHosts, seen}
use Rattle.f_scope.specs.Own.{IsTold, IsLooked}
use Rattle.f_scope.specs.UnitNames.{IsUnitEntry}
use Rattle.f_scope.specs.Program.{is_module_kind, module_of, module_at, told_of, ModuleFound}
use Rattle.f_scope.proofs.Chains.{number_is, kind_is}
use Rattle.f_scope.proofs.Scans.{some_one, as_named}

module_kind : (k : ScopeKind) → is_module_kind k ≡ true → k ≡ kind.Module
module_kind kind.Module e = refl
module_kind _ e = absurd (cc)

-- a module's name names a unit
pub names_of : (p : List Located) (name : List ℕ) (m : ℕ) (i : IsModule p name m) → NamesUnit p i.place name
names_of p name m i = record { item = i.located; what = i.what; at = i.at; item_is = i.item_is; unit_name = i.unit_name; name_is = i.name_is }

-- units of one name are at one place
one_place : (p : List Located) (name : List ℕ) (i j : ℕ) → ((k : ℕ) → IsNamedTwice p k → ⊥) → NamesUnit p i name → NamesUnit p j name → i ≡ j
one_place p name i j once f g = one_of i j (λ lt. once j (record { name = name; before = i; first = f; second = g; is_before = lt })) (λ gt. once i (record { name = name; before = j; first = g; second = f; is_before = gt }))

module _ (rows : List ScopeRow) (hosts : AreHosts rows) (xs : List Placed) (name : List ℕ) (once : (k : ℕ) → IsNamedTwice (map (seen rows) xs) k → ⊥) where
  at_place : (k : ℕ) (x : Placed) → slice_get xs k ≡ Some x → At (map (seen rows) xs) k (seen rows x)
  at_place k x e = slice_get-map (seen rows) xs k ∙ ap (option_map (seen rows)) e

  is_module : (k : ℕ) (x : Placed) → slice_get xs k ≡ Some x → NamesUnit (map (seen rows) xs) k name → is_module_kind (row_at rows x.scope).kind ≡ true → IsModule (map (seen rows) xs) name x.scope
  is_module k x e n module_yes =
      let at = at_place k x e in
      let one : n.item ≡ seen rows x = some_one (slice_get (map (seen rows) xs) k) n.item (seen rows x) n.at at in
      record {
        place = k;
        located = seen rows x;
        what = n.what;
        at = at;
        item_is = ap (λ l. l.item) (sym one) ∙ n.item_is;
        scope_is = number_is rows x.scope hosts;
        module_scope = kind_is rows x.scope hosts ∙ module_kind (row_at rows x.scope).kind module_yes;
        unit_name = n.unit_name;
        name_is = n.name_is;
      }

  no_module : (k : ℕ) (x : Placed) → slice_get xs k ≡ Some x → NamesUnit (map (seen rows) xs) k name → is_module_kind (row_at rows x.scope).kind ≡ false → (m : ℕ) → IsModule (map (seen rows) xs) name m → ⊥
  no_module k x e n module_no m i =
      let p = map (seen rows) xs in
      let same : i.place ≡ k = one_place p name i.place k once (names_of p name m i) n in
      let one : i.located ≡ seen rows x = some_one (slice_get p k) i.located (seen rows x) (ap (slice_get p) (sym same) ∙ i.at) (at_place k x e) in
      let is : (row_at rows x.scope).kind ≡ kind.Module = sym (kind_is rows x.scope hosts) ∙ ap (λ l. (scope_of l).kind) (sym one) ∙ i.module_scope in
      let agrees : is_module_kind (row_at rows x.scope).kind ≡ true = ap is_module_kind is in
      let bad : true ≡ false = sym agrees ∙ module_no in
      absurd (cc)

  pub module_found : (o : Option Entry) → IsUnitEntry (map (seen rows) xs) name o → ModuleFound (map (seen rows) xs) name (module_at rows xs o)
  module_found None entry = λ m i. entry i.place (names_of (map (seen rows) xs) name m i)
  module_found (Some e) entry = pick (slice_get xs e.first) refl where
    kinds : (x : Placed) → slice_get xs e.first ≡ Some x → (b : Bool) → is_module_kind (row_at rows x.scope).kind ≡ b → ModuleFound (map (seen rows) xs) name (cond b (Some x.scope) None)
    kinds x ex true eb = is_module e.first x ex entry eb
    kinds x ex false eb = no_module e.first x ex entry eb

    pick : (q : Option Placed) → slice_get xs e.first ≡ q → ModuleFound (map (seen rows) xs) name (module_of rows q)
    pick None eq = let bad : None ≡ Some entry.item = sym (slice_get-map (seen rows) xs e.first ∙ ap (option_map (seen rows)) eq) ∙ entry.at in absurd (cc)
    pick (Some x) eq = kinds x eq (is_module_kind (row_at rows x.scope).kind) refl

-- what an entry tells of a name
pub told_is : (p : List Located) (s : ℕ) (name : List ℕ) (o : Option Entry) → IsLooked p s name o → IsTold p s name (told_of o)
told_is p s name None looked = λ k i. looked k (as_named p s name k i)
told_is p s name (Some e) looked = looked.told

-- the second unit of a name breaks the first rule
pub twice_first : (p q : List Located) (k : ℕ) → p ≡ q → IsFirst (IsNamedTwice p) k → BreaksFirst q k 1
twice_first p q k e f = let P : List Located → Type 0 = λ l. BreaksFirst l k 1 in subst P e (UnitTwice k f)
