-- What modules give, by the tables.
use Rattle.std.proofs.Common.{◌≡◌, ℕ, zero, suc, ◌<◌, ◌≤◌, ◌⊎◌, inl, inr, Bool, true, false, cond, List, [], ◌∷◌, map, length, slice_get, option_map, Option, Some, None, refl, sym, ap, ◌∙◌, subst, arith}
use Rattle.std.specs.Str.{bytes_eq}
use Rattle.std.proofs.lemmas.Option.{slice_get-map, slice_get_within, slice_get_past}
use Rattle.f_items.specs.declared.item.Item.{Item}
use Rattle.f_items.specs.declared.item.Item.TheVariants.{Declares, Heads}
use Rattle.f_items.specs.declared.item.Class.{Class}
use Rattle.f_items.specs.declared.item.Class.TheVariants as class
use Rattle.f_items.specs.Places.{Located, scope_of, host_of, At}
use Rattle.f_items.specs.Declarations.{Declaration, declaration_of, declared_by, IsDeclared, IsOwn}
use Rattle.f_items.specs.Accessible.{IsModule, IsRenamed, IsEntity, IsUsed, Denotes, Own, Used, is_public}
use Rattle.f_items.specs.Scoped.{IsNamedTwice}
use Rattle.f_items.proofs.Single.{one_of}
use Rattle.f_scope.specs.declared.table.Entry.{Entry}
use Rattle.f_scope.specs.declared.placement.ScopeRow.{ScopeRow}
use Rattle.f_scope.specs.declared.placement.Placed.{Placed}
use Rattle.f_scope.specs.Rows.{AreHosts, AreWithin, seen}
use Rattle.f_scope.specs.Own.{IsNamed, IsTold, IsLooked}
use Rattle.f_scope.specs.Program.{Outline, AreParts, ModuleFound}
use Rattle.f_scope.specs.Tables.{Row, entry_at, table_at}
use Rattle.f_scope.specs.UnitNames.{is_unit_name}
use Rattle.f_scope.proofs.Chains.{number_is, within_at}
use Rattle.f_scope.proofs.Lookups.{same_bytes, bytes_same}
use Rattle.f_scope.proofs.Modules.{names_of}
use Rattle.f_scope.proofs.Scans.{last, some_one, as_named}
use Rattle.f_use.specs.Origins.{Member, Covers, Grew, OwnOf, Reaches, Names, added_some, added_entry}
use Rattle.f_use.specs.Uses.{IsExact, Granted, From, OwnEntity, class_in, declared_class, entity_in, entity_at, AllGiven, Unrenamed, RowGives, RowsGive, ModuleIn, OneTaken, AllTaken}
use Rattle.f_use.proofs.Growth.{grew_none, grew_both, grew_as, grew_some, grew_entry}

-- ---- what is placed

module _ (rows : List ScopeRow) (xs : List Placed) where
  -- the item that is seen at a place
  pub seen_at : (k : ℕ) (l : Located) → At (map (seen rows) xs) k l → (x : Placed) × (slice_get xs k ≡ Some x) × (l ≡ seen rows x)
  seen_at k l at = pick (slice_get xs k) refl where
    pick : (o : Option Placed) → slice_get xs k ≡ o → (x : Placed) × (slice_get xs k ≡ Some x) × (l ≡ seen rows x)
    pick None e = let bad : None ≡ Some l = sym (slice_get-map (seen rows) xs k ∙ ap (option_map (seen rows)) e) ∙ at in absurd (cc)
    pick (Some x) e = (x, e, (let is : Some (seen rows x) ≡ Some l = sym (slice_get-map (seen rows) xs k ∙ ap (option_map (seen rows)) e) ∙ at in let one : seen rows x ≡ l = cc in sym one))

  pub at_place : (k : ℕ) (x : Placed) → slice_get xs k ≡ Some x → At (map (seen rows) xs) k (seen rows x)
  at_place k x e = slice_get-map (seen rows) xs k ∙ ap (option_map (seen rows)) e

pub none_seen : (o : Outline) (rows : List ScopeRow) (xs : List Placed) (own : List (List Row)) → AreParts o rows xs own → (k : ℕ) → slice_get xs k ≡ None → slice_get o.items k ≡ None
none_seen o rows xs own are k e = ap (λ p. slice_get p k) (sym are.items_are) ∙ slice_get-map (seen rows) xs k ∙ ap (option_map (seen rows)) e

pub some_seen : (o : Outline) (rows : List ScopeRow) (xs : List Placed) (own : List (List Row)) → AreParts o rows xs own → (k : ℕ) (x : Placed) → slice_get xs k ≡ Some x → At o.items k (seen rows x)
some_seen o rows xs own are k x e = ap (λ p. slice_get p k) (sym are.items_are) ∙ at_place rows xs k x e

-- ---- the entity of a scope's own

-- a scope has one own declaration of a name
pub one_own : (p : List Located) (s : ℕ) (name : List ℕ) (i j : ℕ) → IsOwn p s name i → IsOwn p s name j → i ≡ j
one_own p s name i j f g = one_of i j (λ lt. g.none_before i lt f.declared) (λ gt. f.none_before j gt g.declared)

unit_class : (c : Class) → is_unit_name c ≡ true → c ≡ class.UnitName
unit_class class.UnitName e = refl
unit_class _ e = absurd (cc)

other_class : (c : Class) → is_unit_name c ≡ false → c ≡ class.UnitName → ⊥
other_class c deny e = let holds : is_unit_name c ≡ true = ap is_unit_name e in let bad : true ≡ false = sym holds ∙ deny in cc

class_is : (x : Placed) (here host : ℕ) (d : Declaration) → declared_by x.item here host ≡ Some d → declared_class (Some x) ≡ Some d.what.class
class_is x here host d e = pick x.item refl e where
  class_of : Option Declaration → Option Class
  class_of None = None
  class_of (Some d) = Some d.what.class

  pick : (i : Item) → x.item ≡ i → declared_by i here host ≡ Some d → declared_class (Some x) ≡ Some d.what.class
  pick (Declares w) is e = ap class_in is ∙ ap class_of e
  pick (Heads w) is e = ap class_in is ∙ ap class_of e
  pick _ is e = absurd (cc)

module _ (rows : List ScopeRow) (xs : List Placed) (s : ℕ) (name : List ℕ) where
  own_some : (k : ℕ) → IsOwn (map (seen rows) xs) s name k → OwnEntity (map (seen rows) xs) s name (entity_in (declared_class (slice_get xs k)) k)
  own_some k own =
      let d = own.declared.declaration in
      let x = seen_at rows xs k own.declared.item own.declared.at in
      let e : declared_by x.0.item (scope_of (seen rows x.0)).number (host_of (seen rows x.0)).number ≡ Some d = sym (ap declaration_of x.2) ∙ own.declared.declares in
      let is : declared_class (slice_get xs k) ≡ Some d.what.class = ap declared_class x.1 ∙ class_is x.0 (scope_of (seen rows x.0)).number (host_of (seen rows x.0)).number d e in
      let P : Option Class → Type 0 = λ c. OwnEntity (map (seen rows) xs) s name (entity_in c k) in
      subst P (sym is) (pick (is_unit_name d.what.class) refl) where
        pick : (b : Bool) → is_unit_name own.declared.declaration.what.class ≡ b → OwnEntity (map (seen rows) xs) s name (cond b None (Some k))
        pick true e = λ j other entity.
            let same : j ≡ k = one_own (map (seen rows) xs) s name j k other own in
            let one : entity.item ≡ own.declared.item = some_one (slice_get (map (seen rows) xs) k) entity.item own.declared.item (ap (slice_get (map (seen rows) xs)) (sym same) ∙ entity.at) own.declared.at in
            let what : entity.declaration ≡ own.declared.declaration = some_one (declaration_of own.declared.item) entity.declaration own.declared.declaration (ap declaration_of (sym one) ∙ entity.declares) own.declared.declares in
            entity.no_unit (ap (λ d. d.what.class) what ∙ unit_class own.declared.declaration.what.class e)
        pick false e = (own, record { item = own.declared.item; declaration = own.declared.declaration; at = own.declared.at; declares = own.declared.declares; no_unit = other_class own.declared.declaration.what.class e })

  pub own_entity : (o : Option ℕ) → IsTold (map (seen rows) xs) s name o → OwnEntity (map (seen rows) xs) s name (entity_at xs o)
  own_entity None told = λ k own entity. told k own.declared
  own_entity (Some k) told = own_some k (record { declared = told.0; none_before = told.1 })

-- ---- one name of a module

pub as_used : (p : List Located) (m : ℕ) (used : List ℕ) (k : ℕ) → Denotes p m used k → IsOwn p m used k ⊎ IsUsed p m used k
as_used p m used k (Own _ _ _ own) = inl own
as_used p m used k (Used _ t module_name _ u _ grants is_module public entity denotes) = inr (record { module_name = module_name; used = u; m = t; grants = grants; is_module = is_module; public = public; entity = entity; denotes = denotes })

pub used_denotes : (p : List Located) (m : ℕ) (used : List ℕ) (k : ℕ) → IsUsed p m used k → Denotes p m used k
used_denotes p m used k i = Used m i.m i.module_name used i.used k i.grants i.is_module i.public i.entity i.denotes

module _ (p : List Located) (m : ℕ) (used local : List ℕ) (rows : List Row) (exact : IsExact p m rows) (o : Option ℕ) (own : OwnEntity p m used o) where
  own_is : (q : Option ℕ) → OwnEntity p m used q → (k : ℕ) → IsOwn p m used k → IsEntity p k → q ≡ Some k
  own_is None none k i entity = absurd (none k i entity)
  own_is (Some j) some k i entity = ap Some (one_own p m used j k some.0 i)

  own_granted : is_public p m used ≡ true → (q : Option ℕ) → OwnEntity p m used q → (k : ℕ) → q ≡ Some k → Granted p m used k
  own_granted public None none k e = absurd (cc)
  own_granted public (Some j) some k e =
      let same : j ≡ k = cc in
      let P : ℕ → Type 0 = λ i. Granted p m used i in
      subst P same (record { public = public; entity = some.1; denotes = Own m used j some.0 })

  both_parts : (a b c : List Row) → is_public p m used ≡ true → Grew a b (OwnOf local o) (OwnOf local o) → Grew b c (Reaches local (entry_at used rows)) (Names local (entry_at used rows)) → Grew a c (From p m used local) (From p m used local)
  both_parts a b c public x y = grew_both a b c (OwnOf local o) (OwnOf local o) (Reaches local (entry_at used rows)) (Names local (entry_at used rows)) (From p m used local) (From p m used local) x y parts left right where
    parts : (n : List ℕ) (k : ℕ) → From p m used local n k → OwnOf local o n k ⊎ Reaches local (entry_at used rows) n k
    parts n k f = pick (as_used p m used k f.1.denotes) where
      pick : IsOwn p m used k ⊎ IsUsed p m used k → OwnOf local o n k ⊎ Reaches local (entry_at used rows) n k
      pick (inl i) = inl (f.0, own_is o own k i f.1.entity)
      pick (inr i) = inr (f.0, exact.complete used k i)

    left : (n : List ℕ) (k : ℕ) → OwnOf local o n k → From p m used local n k
    left n k f = (f.0, own_granted public o own k f.1)

    right : (n : List ℕ) (k : ℕ) → Names local (entry_at used rows) n k → From p m used local n k
    right n k f = let i = exact.sound used k f.1 in (f.0, record { public = public; entity = i.entity; denotes = used_denotes p m used k i })

  pub grew_public : (a b c : List Row) → is_public p m used ≡ true → b ≡ added_some a local o → c ≡ added_entry b local (entry_at used rows) → Grew a c (From p m used local) (From p m used local)
  grew_public a b c public first second =
      let P : List Row → Type 0 = λ t. Grew a t (OwnOf local o) (OwnOf local o) in
      let Q : List Row → Type 0 = λ t. Grew b t (Reaches local (entry_at used rows)) (Names local (entry_at used rows)) in
      both_parts a b c public (subst P (sym first) (grew_some a local o)) (subst Q (sym second) (grew_entry b local (entry_at used rows) (exact.apart used)))

pub grew_private : (p : List Located) (m : ℕ) (used local : List ℕ) (a : List Row) → is_public p m used ≡ false → Grew a a (From p m used local) (From p m used local)
grew_private p m used local a deny = grew_none a (From p m used local) (From p m used local) (λ n k f. let bad : true ≡ false = sym f.1.public ∙ deny in absurd (cc))

-- ---- all names of a module

-- a name with an entry stands in a row
pub row_of_entry : (n : List ℕ) (rows : List Row) (e : Entry) → entry_at n rows ≡ Some e → (i : ℕ) × (row : Row) × (slice_get rows i ≡ Some row) × (row.0 ≡ n)
unfolding entry_at
row_of_entry n [] e is = absurd (cc)
row_of_entry n (r ∷ rs) e is = pick (bytes_eq n r.0) refl is (λ q. row_of_entry n rs e q) where
  Row_found : List Row → Type 0
  Row_found l = (i : ℕ) × (row : Row) × (slice_get l i ≡ Some row) × (row.0 ≡ n)

  behind : Row_found rs → Row_found (r ∷ rs)
  behind f = (suc f.0, f.1, f.2, f.3)

  pick : (b : Bool) → bytes_eq n r.0 ≡ b → cond b (Some r.1) (entry_at n rs) ≡ Some e → (entry_at n rs ≡ Some e → Row_found rs) → Row_found (r ∷ rs)
  pick true eb is more = (0, r, refl, sym (same_bytes n r.0 eb))
  pick false eb is more = behind (more is)

module _ (p : List Located) (scope : ℕ) (mn : List ℕ) (m : ℕ) where
  -- no rows
  pub rows_none : (rows a : List Row) → Grew a a (RowsGive p scope mn m rows 0) (RowsGive p scope mn m rows 0)
  rows_none rows a = grew_none a (RowsGive p scope mn m rows 0) (RowsGive p scope mn m rows 0) (λ n k g. let lt = g.below in absurd (omega (arith, lt)))

  -- one row more
  pub rows_more : (rows a b c : List Row) (i j : ℕ) → j ≡ suc i → Grew a b (RowsGive p scope mn m rows i) (RowsGive p scope mn m rows i) → Grew b c (RowGives p scope mn m rows i) (RowGives p scope mn m rows i) → Grew a c (RowsGive p scope mn m rows j) (RowsGive p scope mn m rows j)
  rows_more rows a b c i j next x y =
      grew_both a b c (RowsGive p scope mn m rows i) (RowsGive p scope mn m rows i) (RowGives p scope mn m rows i) (RowGives p scope mn m rows i) (RowsGive p scope mn m rows j) (RowsGive p scope mn m rows j) x y parts left right where
        parts : (n : List ℕ) (k : ℕ) → RowsGive p scope mn m rows j n k → RowsGive p scope mn m rows i n k ⊎ RowGives p scope mn m rows i n k
        parts n k g = pick (last g.number i (let lt = g.below in omega (arith, lt, next))) where
          pick : (g.number < i) ⊎ (g.number ≡ i) → RowsGive p scope mn m rows i n k ⊎ RowGives p scope mn m rows i n k
          pick (inl lt) = inl (record { number = g.number; below = lt; gives = g.gives })
          pick (inr e) = let P : ℕ → Type 0 = λ q. RowGives p scope mn m rows q n k in inr (subst P e g.gives)

        left : (n : List ℕ) (k : ℕ) → RowsGive p scope mn m rows i n k → RowsGive p scope mn m rows j n k
        left n k g = let lt = g.below in record { number = g.number; below = omega (arith, lt, next); gives = g.gives }

        right : (n : List ℕ) (k : ℕ) → RowGives p scope mn m rows i n k → RowsGive p scope mn m rows j n k
        right n k g = record { number = i; below = omega (arith, next); gives = g }

  -- no row with this number
  pub row_none : (rows a : List Row) (i : ℕ) → slice_get rows i ≡ None → Grew a a (RowGives p scope mn m rows i) (RowGives p scope mn m rows i)
  row_none rows a i none = grew_none a (RowGives p scope mn m rows i) (RowGives p scope mn m rows i) (λ n k g. let bad : None ≡ Some g.row = sym none ∙ g.at in absurd (cc))

  pub row_some : (rows a b : List Row) (i : ℕ) (row : Row) → slice_get rows i ≡ Some row → Grew a b (Unrenamed p scope mn m row.0) (Unrenamed p scope mn m row.0) → Grew a b (RowGives p scope mn m rows i) (RowGives p scope mn m rows i)
  row_some rows a b i row at x = grew_as a b (Unrenamed p scope mn m row.0) (Unrenamed p scope mn m row.0) (RowGives p scope mn m rows i) (RowGives p scope mn m rows i) x
      (λ n k g. let one : g.row ≡ row = some_one (slice_get rows i) g.row row g.at at in (sym g.name_is ∙ ap (λ r. r.0) one, g.given))
      (λ n k g. record { row = row; at = at; name_is = sym g.0; given = g.1 })

  -- a name that is renamed gives nothing, and another what it is granted
  pub renamed_none : (name : List ℕ) (a : List Row) → IsRenamed p scope mn name → Grew a a (Unrenamed p scope mn m name) (Unrenamed p scope mn m name)
  renamed_none name a holds = grew_none a (Unrenamed p scope mn m name) (Unrenamed p scope mn m name)
      (λ n k g. let P : List ℕ → Type 0 = λ x. IsRenamed p scope mn x in absurd (g.1.0 (subst P (sym g.0) holds)))

  pub unrenamed : (name : List ℕ) (a b : List Row) → (IsRenamed p scope mn name → ⊥) → Grew a b (From p m name name) (From p m name name) → Grew a b (Unrenamed p scope mn m name) (Unrenamed p scope mn m name)
  unrenamed name a b deny x = grew_as a b (From p m name name) (From p m name name) (Unrenamed p scope mn m name) (Unrenamed p scope mn m name) x
      (λ n k g. let P : List ℕ → Type 0 = λ x. Granted p m x k in (g.0, subst P g.0 g.1.1))
      (λ n k g. let P : List ℕ → Type 0 = λ x. Granted p m x k in let Q : List ℕ → Type 0 = λ x. IsRenamed p scope mn x in (g.0, ((λ r. deny (subst Q g.0 r)), subst P (sym g.0) g.1)))

  -- the names that it declares itself and those that it uses are all
  pub all_rows : (a b c own used : List Row) → ((n : List ℕ) → IsLooked p m n (entry_at n own)) → IsExact p m used → Grew a b (RowsGive p scope mn m own (length own)) (RowsGive p scope mn m own (length own))
      → Grew b c (RowsGive p scope mn m used (length used)) (RowsGive p scope mn m used (length used)) → Grew a c (AllGiven p scope mn m) (AllGiven p scope mn m)
  all_rows a b c own used looked exact x y =
      grew_both a b c (RowsGive p scope mn m own (length own)) (RowsGive p scope mn m own (length own)) (RowsGive p scope mn m used (length used)) (RowsGive p scope mn m used (length used)) (AllGiven p scope mn m) (AllGiven p scope mn m)
      x y parts (λ n k g. g.gives.given) (λ n k g. g.gives.given) where
        by_row : (rows : List Row) (n : List ℕ) (k : ℕ) → AllGiven p scope mn m n k → (e : Entry) → entry_at n rows ≡ Some e → RowsGive p scope mn m rows (length rows) n k
        by_row rows n k g e is = let f = row_of_entry n rows e is in record { number = f.0; below = slice_get_within rows f.0 f.1 f.2; gives = record { row = f.1; at = f.2; name_is = f.3; given = g } }

        own_row : (n : List ℕ) (k : ℕ) → AllGiven p scope mn m n k → IsOwn p m n k → (o : Option Entry) → entry_at n own ≡ o → IsLooked p m n o → RowsGive p scope mn m own (length own) n k
        own_row n k g i None e l = absurd (l k (as_named p m n k i.declared))
        own_row n k g i (Some x) e l = by_row own n k g x e

        used_row : (n : List ℕ) (k : ℕ) → AllGiven p scope mn m n k → (o : Option Entry) → entry_at n used ≡ o → Covers o k → RowsGive p scope mn m used (length used) n k
        used_row n k g None e covers = absurd covers
        used_row n k g (Some x) e covers = by_row used n k g x e

        parts : (n : List ℕ) (k : ℕ) → AllGiven p scope mn m n k → RowsGive p scope mn m own (length own) n k ⊎ RowsGive p scope mn m used (length used) n k
        parts n k g = pick (as_used p m n k g.1.denotes) where
          pick : IsOwn p m n k ⊎ IsUsed p m n k → RowsGive p scope mn m own (length own) n k ⊎ RowsGive p scope mn m used (length used) n k
          pick (inl i) = inl (own_row n k g i (entry_at n own) refl (looked n))
          pick (inr i) = inr (used_row n k g (entry_at n used) refl (exact.complete n k i))

-- ---- modules

pub module_one : (p : List Located) (name : List ℕ) (m t : ℕ) → ((k : ℕ) → IsNamedTwice p k → ⊥) → IsModule p name m → IsModule p name t → t ≡ m
module_one p name m t once i j =
    let same : i.place ≡ j.place = one_of i.place j.place
    (λ lt. once j.place (record { name = name; before = i.place; first = names_of p name m i; second = names_of p name t j; is_before = lt }))
    (λ gt. once i.place (record { name = name; before = j.place; first = names_of p name t j; second = names_of p name m i; is_before = gt })) in
    let one : i.located ≡ j.located = some_one (slice_get p j.place) i.located j.located (ap (slice_get p) (sym same) ∙ i.at) j.at in
    sym j.scope_is ∙ ap (λ l. (scope_of l).number) (sym one) ∙ i.scope_is

pub module_in : (o : Outline) (rows : List ScopeRow) (xs : List Placed) (own : List (List Row)) → AreParts o rows xs own → (name : List ℕ) (r : Option ℕ) → ModuleFound o.items name r → ModuleIn o name r
module_in o rows xs own are name None found = found
module_in o rows xs own are name (Some m) found = (found, range, λ t i. module_one o.items name m t once found i) where
  once : (k : ℕ) → IsNamedTwice o.items k → ⊥
  once = let P : List Located → Type 0 = λ p. (k : ℕ) → IsNamedTwice p k → ⊥ in subst P are.items_are are.once

  range : m < o.scopes
  range =
      let x = seen_at rows xs found.place found.located (ap (λ p. slice_get p found.place) are.items_are ∙ found.at) in
      let within = within_at (length rows) xs found.place x.0 are.within x.1 in
      let number : m ≡ x.0.scope = sym found.scope_is ∙ ap (λ l. (scope_of l).number) x.2 ∙ number_is rows x.0.scope are.hosts in
      let count = are.scopes_are in
      omega (arith, within, number, count)

module _ (o : Outline) (mn : List ℕ) (m : ℕ) (is : ModuleIn o mn (Some m)) where
  pub taken_one : (local used : List ℕ) (a b : List Row) → Grew a b (From o.items m used local) (From o.items m used local) → Grew a b (OneTaken o.items mn local used) (OneTaken o.items mn local used)
  taken_one local used a b x = grew_as a b (From o.items m used local) (From o.items m used local) (OneTaken o.items mn local used) (OneTaken o.items mn local used) x
      (λ n k g. let P : ℕ → Type 0 = λ t. Granted o.items t used k in (g.0, subst P (is.2 g.1.0 g.1.1) g.1.2))
      (λ n k g. (g.0, (m, is.0, g.1)))

  pub taken_all : (scope : ℕ) (a b : List Row) → Grew a b (AllGiven o.items scope mn m) (AllGiven o.items scope mn m) → Grew a b (AllTaken o.items scope mn) (AllTaken o.items scope mn)
  taken_all scope a b x = grew_as a b (AllGiven o.items scope mn m) (AllGiven o.items scope mn m) (AllTaken o.items scope mn) (AllTaken o.items scope mn) x
      (λ n k g. let P : ℕ → Type 0 = λ t. AllGiven o.items scope mn t n k in subst P (is.2 g.0 g.1) g.2)
      (λ n k g. (m, is.0, g))

pub none_one : (o : Outline) (mn local used : List ℕ) → ModuleIn o mn None → (a : List Row) → Grew a a (OneTaken o.items mn local used) (OneTaken o.items mn local used)
none_one o mn local used none a = grew_none a (OneTaken o.items mn local used) (OneTaken o.items mn local used) (λ n k g. none g.1.0 g.1.1)

pub none_all : (o : Outline) (scope : ℕ) (mn : List ℕ) → ModuleIn o mn None → (a : List Row) → Grew a a (AllTaken o.items scope mn) (AllTaken o.items scope mn)
none_all o scope mn none a = grew_none a (AllTaken o.items scope mn) (AllTaken o.items scope mn) (λ n k g. none g.0 g.1)
