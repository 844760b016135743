-- The tables of scopes, one after the other.
use Rattle.std.proofs.Common.{◌≡◌, ℕ, zero, suc, ◌<◌, ◌⊎◌, inl, inr, Bool, true, false, eqb, List, [], ◌∷◌, length, slice_get, Option, Some, None, refl, sym, ap, ◌∙◌, subst, arith}
use Rattle.std.proofs.lemmas.Bool.{eqb-true, eq-eqb}
use Rattle.std.proofs.lemmas.List.{get_or-set_same, get_or-set_other, length-set}
use Rattle.std.proofs.Math.ListN.{set}
use Rattle.jf_base.specs.declared.place.Place.{Place}
use Rattle.f_items.specs.declared.item.Name.{Name}
use Rattle.f_items.specs.declared.item.Item.{Item}
use Rattle.f_items.specs.declared.item.Item.TheVariants.{Uses, Takes}
use Rattle.f_items.specs.Places.{Located, scope_of, At}
use Rattle.f_items.specs.Accessible.{Stands, IsModule, IsRenamed, IsUsed, Grants, ByOnly, ByRename, ByAll}
use Rattle.f_scope.specs.Program.{Outline}
use Rattle.f_scope.specs.Tables.{Row, entry_at, table_at}
use Rattle.f_scope.proofs.Scans.{some_one}
use Rattle.f_scope.specs.declared.table.Entry.{Entry}
use Rattle.f_use.specs.Origins.{Member, is_covered, Covers, Apart, Grew, origins_of}
use Rattle.f_use.specs.Places.{is_use, Among, list_at, IsUsePlace, AreUsePlaces}
use Rattle.f_use.specs.Uses.{IsExact, Granted, AllGiven, OneTaken, AllTaken, ItemGives, PlaceGives, PlacesGive, ItemUses, IsItemKnown, IsPlaceKnown, ArePlacesKnown}
use Rattle.f_use.specs.Associated.{ScopeUses, IsBehind, IsOrder, IsFilled, OthersFound, Found, AreAssociated}
use Rattle.f_use.proofs.Growth.{grew_none, grew_both, grew_as}

-- ---- a list of places

-- a table that grows by a place and then by the others behind it grows by all
pub places_next : (p : List Located) (s place : ℕ) (behind : List ℕ) (a b c : List Row) → Grew a b (PlaceGives p s place) (PlaceGives p s place) → Grew b c (PlacesGive p s behind) (PlacesGive p s behind) → Grew a c (PlacesGive p s (place ∷ behind)) (PlacesGive p s (place ∷ behind))
places_next p s place behind a b c x y = grew_both a b c (PlaceGives p s place) (PlaceGives p s place) (PlacesGive p s behind) (PlacesGive p s behind) (PlacesGive p s (place ∷ behind)) (PlacesGive p s (place ∷ behind)) x y parts left right where
  parts : (n : List ℕ) (k : ℕ) → PlacesGive p s (place ∷ behind) n k → PlaceGives p s place n k ⊎ PlacesGive p s behind n k
  parts n k g = pick g.place g.among.0 g.among.1 g.gives where
    pick : (q i : ℕ) → slice_get (place ∷ behind) i ≡ Some q → PlaceGives p s q n k → PlaceGives p s place n k ⊎ PlacesGive p s behind n k
    pick q zero e h = let is : place ≡ q = cc in let P : ℕ → Type 0 = λ j. PlaceGives p s j n k in inl (subst P (sym is) h)
    pick q (suc i) e h = inr (record { place = q; among = (i, e); gives = h })

  left : (n : List ℕ) (k : ℕ) → PlaceGives p s place n k → PlacesGive p s (place ∷ behind) n k
  left n k g = record { place = place; among = (0, refl); gives = g }

  right : (n : List ℕ) (k : ℕ) → PlacesGive p s behind n k → PlacesGive p s (place ∷ behind) n k
  right n k g = record { place = g.place; among = (suc g.among.0, g.among.1); gives = g.gives }

pub places_none : (p : List Located) (s : ℕ) (a : List Row) → Grew a a (PlacesGive p s []) (PlacesGive p s [])
places_none p s a = grew_none a (PlacesGive p s []) (PlacesGive p s []) (λ n k g. let e = g.among.1 in absurd (cc))

pub known_next : (p : List Located) (tables : List (List Row)) (place : ℕ) (behind : List ℕ) → ArePlacesKnown p tables (place ∷ behind) → IsPlaceKnown p tables place × ArePlacesKnown p tables behind
known_next p tables place behind known = (known place (0, refl), λ k a. known k (suc a.0, a.1))

-- ---- one place

pub place_none : (p : List Located) (s place : ℕ) (a : List Row) → slice_get p place ≡ None → Grew a a (PlaceGives p s place) (PlaceGives p s place)
place_none p s place a none = grew_none a (PlaceGives p s place) (PlaceGives p s place) (λ n k g. let bad : None ≡ Some g.located = sym none ∙ g.at in absurd (cc))

pub place_some : (p : List Located) (s place : ℕ) (l : Located) (a b : List Row) → At p place l → Grew a b (ItemGives p s l.item) (ItemGives p s l.item) → Grew a b (PlaceGives p s place) (PlaceGives p s place)
place_some p s place l a b at x = grew_as a b (ItemGives p s l.item) (ItemGives p s l.item) (PlaceGives p s place) (PlaceGives p s place) x
    (λ n k g. let one : g.located ≡ l = some_one (slice_get p place) g.located l g.at at in let P : Located → Type 0 = λ y. ItemGives p s y.item n k in subst P one g.gives)
    (λ n k g. record { located = l; at = at; gives = g })

-- ---- one item

pub uses_none : (p : List Located) (s : ℕ) (pl : Place) (m : Name) (c o : Bool) (a : List Row) → o ≡ true → Grew a a (ItemGives p s (Uses pl m c o)) (ItemGives p s (Uses pl m c o))
uses_none p s pl m c o a only = grew_none a (ItemGives p s (Uses pl m c o)) (ItemGives p s (Uses pl m c o)) (λ n k g. let bad : true ≡ false = sym only ∙ g.0 in absurd (cc))

pub uses_all : (p : List Located) (s : ℕ) (pl : Place) (m : Name) (c o : Bool) (a b : List Row) → o ≡ false → Grew a b (AllTaken p s m.bytes) (AllTaken p s m.bytes) → Grew a b (ItemGives p s (Uses pl m c o)) (ItemGives p s (Uses pl m c o))
uses_all p s pl m c o a b whole x = grew_as a b (AllTaken p s m.bytes) (AllTaken p s m.bytes) (ItemGives p s (Uses pl m c o)) (ItemGives p s (Uses pl m c o)) x (λ n k g. g.1) (λ n k g. (whole, g))

-- ---- what the items of a scope give is what it uses

-- what an item of the scope gives
record Gives (p : List Located) (s : ℕ) (n : List ℕ) (k : ℕ) : Type 0 where
  place : ℕ
  uses : IsUsePlace p s place
  gives : ItemGives p s uses.located.item n k

module _ (p : List Located) (s : ℕ) where
  given_used : (i : Item) (place : ℕ) (l : Located) → At p place l → l.item ≡ i → (scope_of l).number ≡ s → (n : List ℕ) (k : ℕ) → ItemGives p s i n k → IsUsed p s n k
  given_used (Takes mo lo u r) place l at is here n k g = record { module_name = mo; used = u.bytes; m = g.1.0; grants = (let P : List ℕ → Type 0 = λ x. Grants p s mo x u.bytes in subst P (sym g.0) (grants r is)); is_module = g.1.1; public = g.1.2.public; entity = g.1.2.entity; denotes = g.1.2.denotes } where
    grants : (b : Bool) → l.item ≡ Takes mo lo u b → Grants p s mo lo.bytes u.bytes
    grants true e = ByRename lo u (record { place = place; located = l; at = at; item_is = e; scope_is = here })
    grants false e = ByOnly lo u (record { place = place; located = l; at = at; item_is = e; scope_is = here })
  given_used (Uses pl m c o) place l at is here n k g =
      let stands : Stands p s (Uses pl m c false) = record { place = place; located = l; at = at; item_is = is ∙ ap (Uses pl m c) g.0; scope_is = here } in
      record { module_name = m.bytes; used = n; m = g.1.0; grants = ByAll pl m c n refl stands g.1.2.0; is_module = g.1.1; public = g.1.2.1.public; entity = g.1.2.1.entity; denotes = g.1.2.1.denotes }
  given_used _ place l at is here n k g = absurd g

  -- an item that stands in the scope
  by_stands : (i : Item) → is_use i ≡ true → (st : Stands p s i) (n : List ℕ) (k : ℕ) → ItemGives p s i n k → Gives p s n k
  by_stands i stands st n k g =
      let P : Item → Type 0 = λ j. ItemGives p s j n k in
      record { place = st.place; uses = record { located = st.located; at = st.at; uses = ap is_use st.item_is ∙ stands; scope_is = st.scope_is }; gives = subst P (sym st.item_is) g }

  by_grants : (mn local used : List ℕ) → Grants p s mn local used → (t k : ℕ) → IsModule p mn t → Granted p t used k → Gives p s local k
  by_grants mn _ _ (ByOnly lo u st) t k is g = by_stands (Takes mn lo u false) refl st lo.bytes k (refl, (t, is, g))
  by_grants mn _ _ (ByRename lo u st) t k is g = by_stands (Takes mn lo u true) refl st lo.bytes k (refl, (t, is, g))
  by_grants mn _ _ (ByAll pl m c used e st deny) t k is g =
      let P : List ℕ → Type 0 = λ x. IsModule p x t in
      let Q : List ℕ → Type 0 = λ x. IsRenamed p s x used in
      by_stands (Uses pl m c false) refl st used k (refl, (t, subst P (sym e) is, ((λ r. deny (subst Q e r)), g)))

  used_given : (n : List ℕ) (k : ℕ) → IsUsed p s n k → Gives p s n k
  used_given n k i = by_grants i.module_name n i.used i.grants i.m k i.is_module (record { public = i.public; entity = i.entity; denotes = i.denotes })

  pub exact_from : (places : List ℕ) (rows : List Row) → ((k : ℕ) → (Among places k → IsUsePlace p s k) × (IsUsePlace p s k → Among places k)) → Grew [] rows (PlacesGive p s places) (PlacesGive p s places) → IsExact p s rows
  unfolding entry_at
  exact_from places rows listed grew = record { sound = λ n k m. sound n k (grew.only n k m); complete = λ n k i. grew.gets n k (gets n k (used_given n k i)); apart = grew.apart (λ n. tt) } where
    sound : (n : List ℕ) (k : ℕ) → ⊥ ⊎ PlacesGive p s places n k → IsUsed p s n k
    sound n k (inl b) = absurd b
    sound n k (inr g) =
        let found = (listed g.place).0 g.among in
        let one : found.located ≡ g.gives.located = some_one (slice_get p g.place) found.located g.gives.located found.at g.gives.at in
        given_used g.gives.located.item g.place g.gives.located g.gives.at refl (ap (λ l. (scope_of l).number) (sym one) ∙ found.scope_is) n k g.gives.gives

    gets : (n : List ℕ) (k : ℕ) → Gives p s n k → PlacesGive p s places n k
    gets n k g = record { place = g.place; among = (listed g.place).1 g.uses; gives = record { located = g.uses.located; at = g.uses.at; gives = g.gives } }

  pub places_known : (tables : List (List Row)) (places : List ℕ) → ((k : ℕ) → (Among places k → IsUsePlace p s k) × (IsUsePlace p s k → Among places k)) → ((m : ℕ) → ScopeUses p s m → IsExact p m (table_at tables m)) → ArePlacesKnown p tables places
  places_known tables places listed known k among l at t uses =
      let found = (listed k).0 among in
      let one : found.located ≡ l = some_one (slice_get p k) found.located l found.at at in
      known t (record { place = k; located = l; at = at; scope_is = ap (λ x. (scope_of x).number) (sym one) ∙ found.scope_is; uses = uses })

-- ---- all scopes

pub filled : (p : List Located) (old new : List (List Row)) (scope : ℕ) (rows : List Row) → scope < length old → new ≡ set old scope rows → IsExact p scope rows → IsFilled p old new scope
filled p old new scope rows lt e exact =
    let P : List Row → Type 0 = λ t. IsExact p scope t in
    let here : table_at new scope ≡ rows = ap (λ t. table_at t scope) e ∙ get_or-set_same old scope rows [] lt in
    record {
      length_is = ap length e ∙ length-set old scope rows;
      exact = subst P (sym here) exact;
      others = λ s apart. ap (λ t. table_at t s) e ∙ get_or-set_other old scope s rows [] apart;
    }

-- the tables of some scopes are known, and the others stand in the rest
pub record Going (o : Outline) (order : List ℕ) (used : List (List Row)) (rest : List ℕ) : Type 0 where
  pub done : List ℕ
  pub behind : IsBehind o.items done rest
  pub left : (s : ℕ) → Among order s → Among done s ⊎ Among rest s
  pub within : (s : ℕ) → Among rest s → s < o.scopes
  pub exact : (s : ℕ) → Among done s → IsExact o.items s (table_at used s)

pub going_first : (o : Outline) (order : List ℕ) (used : List (List Row)) → IsOrder o order → Going o order used order
going_first o order used is = record { done = []; behind = is.behind; left = λ s a. inr a; within = is.within; exact = λ s a. let e = a.1 in absurd (cc) }

pub going_next : (o : Outline) (order : List ℕ) (old new : List (List Row)) (scope : ℕ) (rest : List ℕ) → Going o order old (scope ∷ rest) → IsFilled o.items old new scope → Going o order new rest
going_next o order old new scope rest g f = record { done = scope ∷ g.done; behind = g.behind.1; left = λ s a. left s (g.left s a); within = λ s a. g.within s (suc a.0, a.1); exact = λ s a. exact s a.0 a.1 } where
  left : (s : ℕ) → Among g.done s ⊎ Among (scope ∷ rest) s → Among (scope ∷ g.done) s ⊎ Among rest s
  left s (inl a) = inl (suc a.0, a.1)
  left s (inr a) = pick a.0 a.1 where
    pick : (i : ℕ) → slice_get (scope ∷ rest) i ≡ Some s → Among (scope ∷ g.done) s ⊎ Among rest s
    pick zero e = inl (0, e)
    pick (suc i) e = inr (i, e)

  again : (s : ℕ) → IsExact o.items s (table_at old s) → (b : Bool) → eqb s scope ≡ b → IsExact o.items s (table_at new s)
  again s x true e = let P : ℕ → Type 0 = λ j. IsExact o.items j (table_at new j) in subst P (sym (eqb-true s scope e)) f.exact
  again s x false e = let P : List Row → Type 0 = λ t. IsExact o.items s t in subst P (sym (f.others s (λ is. let holds : eqb s scope ≡ true = eq-eqb s scope is in cc))) x

  exact : (s i : ℕ) → slice_get (scope ∷ g.done) i ≡ Some s → IsExact o.items s (table_at new s)
  exact s zero e = let is : scope ≡ s = cc in let P : ℕ → Type 0 = λ j. IsExact o.items j (table_at new j) in subst P is f.exact
  exact s (suc i) e = again s (g.exact s (i, e)) (eqb s scope) refl

pub going_known : (o : Outline) (order : List ℕ) (used : List (List Row)) (scope : ℕ) (rest : List ℕ) → Going o order used (scope ∷ rest) → (m : ℕ) → ScopeUses o.items scope m → IsExact o.items m (table_at used m)
going_known o order used scope rest g m uses = g.exact m (g.behind.0 m uses)

pub going_within : (o : Outline) (order : List ℕ) (used : List (List Row)) (scope : ℕ) (rest : List ℕ) → Going o order used (scope ∷ rest) → scope < o.scopes
going_within o order used scope rest g = g.within scope (0, refl)

pub going_last : (o : Outline) (order : List ℕ) (used : List (List Row)) (rest : List ℕ) → IsOrder o order → rest ≡ [] → Going o order used rest → AreAssociated o used
going_last o order used rest is none g = record { exact = λ s lt. pick s (g.left s (is.all s lt)) } where
  pick : (s : ℕ) → Among g.done s ⊎ Among rest s → IsExact o.items s (table_at used s)
  pick s (inl a) = g.exact s a
  pick s (inr a) = let e : slice_get [] a.0 ≡ Some s = ap (λ r. slice_get r a.0) (sym none) ∙ a.1 in absurd (cc)

-- ---- what is found

pub origins_found : (p : List Located) (s : ℕ) (rows : List Row) → IsExact p s rows → (name : List ℕ) (e : Option Entry) → entry_at name rows ≡ e → Found (IsUsed p s name) (origins_of e)
origins_found p s rows exact name None is = λ k i. let P : Option Entry → Type 0 = λ o. Covers o k in subst P is (exact.complete name k i)
origins_found p s rows exact name (Some e) is = (sound e.first (inl refl), others e.told refl) where
  sound : (k : ℕ) → Member (Some e) k → IsUsed p s name k
  sound k m = let P : Option Entry → Type 0 = λ o. Member o k in exact.sound name k (subst P (sym is) m)

  covered : (k : ℕ) → IsUsed p s name k → Covers (Some e) k
  covered k i = let P : Option Entry → Type 0 = λ o. Covers o k in subst P is (exact.complete name k i)

  others : (t : Option ℕ) → e.told ≡ t → OthersFound (IsUsed p s name) e.first t
  others None none = λ k i. let P : Option ℕ → Type 0 = λ t. is_covered e.first t k in subst P none (covered k i)
  others (Some k) some = (sound k (inr some), (let P : Option Entry → Type 0 = λ o. Apart o in subst P is (exact.apart name)) k some)
