-- What a declaration breaks by the entry of its name.
use Rattle.std.proofs.Common.{◌≡◌, ℕ, zero, suc, ◌<◌, ◌≤◌, Bool, true, false, not, is_some, cond, ltb, List, map, length, slice_get, option_map, Option, Some, None, refl, sym, ap, ◌∙◌, subst, arith}
use Rattle.std.proofs.lemmas.Bool.{ltb-true, ltb-false}
use Rattle.std.proofs.lemmas.Option.{slice_get-map}
use Rattle.f_items.specs.declared.item.Item.{Item}
use Rattle.f_items.specs.declared.item.Item.TheVariants.{Declares, Heads}
use Rattle.f_items.specs.declared.item.Share.{Share}
use Rattle.f_items.specs.declared.item.Share.TheVariants.{Whole, Announced, Typed}
use Rattle.f_items.specs.Places.{Located, At}
use Rattle.f_items.specs.Declarations.{Declaration, declaration_of, declared_by, IsDeclared, Tells, Clash}
use Rattle.f_items.specs.Rules.{IsTwice}
use Rattle.f_scope.specs.declared.placement.ScopeRow.{ScopeRow}
use Rattle.f_scope.specs.declared.placement.Placed.{Placed}
use Rattle.f_scope.specs.declared.table.Entry.{Entry}
use Rattle.f_scope.specs.Rows.{AreHosts, AreWithin, host_in, seen}
use Rattle.f_scope.specs.Tables.{Row, entry_at, table_at, declared_at}
use Rattle.f_scope.specs.declared.name_rule.Rule.{Rule}
use Rattle.f_scope.specs.declared.name_rule.Rule.TheVariants.{DeclaredOnce, Declared}
use Rattle.f_scope.specs.Own.{IsNamed, IsTold, IsEntry, IsLooked, AreOwn}
use Rattle.f_scope.specs.Alone.{BreaksDeclared, Twice, Lacking, DeclaredFound, told_before, broken_by, broken_declaration, broken_item, DeclarationFound}
use Rattle.f_scope.proofs.Chains.{declaration-is, within_at}
use Rattle.f_scope.proofs.Scans.{some_one}

clash_whole : (a : Share) → Clash a Whole
clash_whole Whole = tt
clash_whole Announced = tt
clash_whole Typed = tt

clash_announced : (a : Share) → Clash a Announced
clash_announced Whole = tt
clash_announced Announced = tt
clash_announced Typed = tt

clash_typed : (a : Share) → Tells a → Clash a Typed
clash_typed Whole t = tt
clash_typed Announced t = absurd t
clash_typed Typed t = tt

typed_clash : (a : Share) → Clash a Typed → Tells a
typed_clash Whole c = tt
typed_clash Announced c = absurd c
typed_clash Typed c = tt

module _ (p : List Located) (k : ℕ) (d : Declaration) where
  -- the other declaration of a pair
  other_named : (t : IsTwice p k d) → IsNamed p d.scope d.what.name.bytes t.place
  other_named t = record { item = t.item; declaration = t.first; at = t.at; declares = t.declares; scope_is = t.same_scope; name_is = t.same_name }

  other_declared : d.what.share ≡ Typed → (t : IsTwice p k d) → IsDeclared p d.scope d.what.name.bytes t.place
  other_declared e t = record {
    item = t.item;
    declaration = t.first;
    at = t.at;
    declares = t.declares;
    scope_is = t.same_scope;
    name_is = t.same_name;
    tells = (let P : Share → Type 0 = λ s. Clash t.first.what.share s in typed_clash t.first.what.share (subst P e t.clash));
  }

  -- the first that names it, where that stands before
  by_first : (e : Entry) → IsEntry p d.scope d.what.name.bytes e → e.first < k → ((a : Share) → Clash a d.what.share) → IsTwice p k d
  by_first e h lt clash = record { place = e.first; item = h.first.item; first = h.first.declaration; before = lt; at = h.first.at; declares = h.first.declares; same_scope = h.first.scope_is; same_name = h.first.name_is; clash = clash h.first.declaration.what.share }

  by_told : (t : ℕ) → IsDeclared p d.scope d.what.name.bytes t → t < k → d.what.share ≡ Typed → IsTwice p k d
  by_told t i lt e = record {
    place = t;
    item = i.item;
    first = i.declaration;
    before = lt;
    at = i.at;
    declares = i.declares;
    same_scope = i.scope_is;
    same_name = i.name_is;
    clash = (let P : Share → Type 0 = λ s. Clash i.declaration.what.share s in subst P (sym e) (clash_typed i.declaration.what.share i.tells));
  }

  -- none stands before the first
  not_first : (e : Entry) → IsEntry p d.scope d.what.name.bytes e → k ≤ e.first → IsTwice p k d → ⊥
  not_first e h le t = let lt = t.before in h.none_before t.place (omega (arith, lt, le)) (other_named t)

  whole : (e : Entry) → IsEntry p d.scope d.what.name.bytes e → d.what.share ≡ Whole → (b : Bool) → ltb e.first k ≡ b → DeclaredFound p k d (cond b (Some DeclaredOnce) None)
  whole e h is true eb = by_first e h (ltb-true e.first k eb) (λ a. let P : Share → Type 0 = λ s. Clash a s in subst P (sym is) (clash_whole a))
  whole e h is false eb = none where
    none : (rule : Rule) → BreaksDeclared p k d rule → ⊥
    none _ (Twice t) = not_first e h (ltb-false e.first k eb) t
    none _ (Lacking a i) = let bad : Whole ≡ Announced = sym is ∙ a in cc

  announced : (e : Entry) → IsEntry p d.scope d.what.name.bytes e → d.what.share ≡ Announced → (b : Bool) → ltb e.first k ≡ b → (o : Option ℕ) → IsTold p d.scope d.what.name.bytes o → DeclaredFound p k d (cond b (Some DeclaredOnce) (cond (not (is_some o)) (Some Declared) None))
  announced e h is true eb o told = by_first e h (ltb-true e.first k eb) (λ a. let P : Share → Type 0 = λ s. Clash a s in subst P (sym is) (clash_announced a))
  announced e h is false eb None told = (not_first e h (ltb-false e.first k eb), Lacking is told)
  announced e h is false eb (Some t) told = none where
    none : (rule : Rule) → BreaksDeclared p k d rule → ⊥
    none _ (Twice t) = not_first e h (ltb-false e.first k eb) t
    none _ (Lacking a i) = i t told.0

  typed : d.what.share ≡ Typed → (o : Option ℕ) → IsTold p d.scope d.what.name.bytes o → (b : Bool) → told_before o k ≡ b → DeclaredFound p k d (cond b (Some DeclaredOnce) None)
  typed is None told true eb = absurd (cc)
  typed is None told false eb = none where
    none : (rule : Rule) → BreaksDeclared p k d rule → ⊥
    none _ (Twice w) = told w.place (other_declared is w)
    none _ (Lacking a i) = let bad : Typed ≡ Announced = sym is ∙ a in cc
  typed is (Some t) told true eb = by_told t told.0 (ltb-true t k eb) is
  typed is (Some t) told false eb = none where
    none : (rule : Rule) → BreaksDeclared p k d rule → ⊥
    none _ (Twice w) = let lt = w.before in let le : k ≤ t = ltb-false t k eb in told.1 w.place (omega (arith, lt, le)) (other_declared is w)
    none _ (Lacking a i) = let bad : Typed ≡ Announced = sym is ∙ a in cc

  by_share : (e : Entry) → IsEntry p d.scope d.what.name.bytes e → (s : Share) → d.what.share ≡ s → DeclaredFound p k d (broken_by (Some e) k s)
  by_share e h Whole is = whole e h is (ltb e.first k) refl
  by_share e h Announced is = announced e h is (ltb e.first k) refl e.told h.told
  by_share e h Typed is = typed is e.told h.told (told_before e.told k) refl

  -- the declaration stands in the list
  pub found : IsNamed p d.scope d.what.name.bytes k → (o : Option Entry) → IsLooked p d.scope d.what.name.bytes o → DeclaredFound p k d (broken_by o k d.what.share)
  found i None looked = absurd (looked k i)
  found i (Some e) looked = by_share e looked d.what.share refl

-- the scope of a declaration is one of the table
pub host_range : (rows : List ScopeRow) → AreHosts rows → (s : ℕ) → s < length rows → host_in rows s < length rows
host_range rows h zero lt = let e : host_in rows 0 ≡ 0 = ap (λ r. r.host) h.first in omega (arith, e, lt)
host_range rows h (suc s) lt = let le = h.before s in omega (arith, le, lt)

scope_range : (rows : List ScopeRow) → AreHosts rows → (i : Item) (s : ℕ) (d : Declaration) → s < length rows → declared_by i s (host_in rows s) ≡ Some d → d.scope < length rows
scope_range rows h (Declares w) s d lt e =
    let same : s ≡ d.scope = (let both : Some (record { scope = s; what = w }) ≡ Some d = e in ap scope_in both) in omega (arith, same, lt) where
      scope_in : Option Declaration → ℕ
      scope_in None = 0
      scope_in (Some x) = x.scope
scope_range rows h (Heads w) s d lt e =
    let range = host_range rows h s lt in
    let same : host_in rows s ≡ d.scope = ap scope_in e in omega (arith, same, range) where
      scope_in : Option Declaration → ℕ
      scope_in None = 0
      scope_in (Some x) = x.scope
scope_range rows h _ s d lt e = absurd (cc)

pub broken_found : (rows : List ScopeRow) → AreHosts rows → (xs : List Placed) → AreWithin (length rows) xs → (own : List (List Row)) → AreOwn (map (seen rows) xs) own (length rows) → (k : ℕ) → DeclarationFound (map (seen rows) xs) k (broken_item rows own (slice_get xs k) k)
broken_found rows hosts xs within own are k l d at e = pick (slice_get xs k) refl where
  p : List Located
  p = map (seen rows) xs

  pick : (q : Option Placed) → slice_get xs k ≡ q → DeclaredFound p k d (broken_item rows own q k)
  pick None eq = let bad : None ≡ Some l = sym (slice_get-map (seen rows) xs k ∙ ap (option_map (seen rows)) eq) ∙ at in absurd (cc)
  pick (Some x) eq =
      let here : At p k (seen rows x) = slice_get-map (seen rows) xs k ∙ ap (option_map (seen rows)) eq in
      let one : l ≡ seen rows x = some_one (slice_get p k) l (seen rows x) at here in
      let is : declared_at rows x ≡ Some d = sym (declaration-is rows x hosts) ∙ ap declaration_of (sym one) ∙ e in
      let range : d.scope < length rows = scope_range rows hosts x.item x.scope d (within_at (length rows) xs k x within eq) is in
      let name = d.what.name.bytes in
      let named : IsNamed p d.scope name k = record { item = l; declaration = d; at = at; declares = e; scope_is = refl; name_is = refl } in
      let P : Option Declaration → Type 0 = λ o. DeclaredFound p k d (broken_declaration own o k) in
      subst P (sym is) (found p k d named (entry_at name (table_at own d.scope)) (are d.scope range name))
