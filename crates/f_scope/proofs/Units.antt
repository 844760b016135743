-- The names of units along items.
use Rattle.std.proofs.Common.{◌≡◌, ℕ, suc, ◌+◌, ◌<◌, ◌⊎◌, inl, inr, Bool, true, false, cond, List, [], ◌∷◌, ◌++◌, map, length, slice_get, Option, Some, None, refl, sym, ap, ◌∙◌, subst, arith}
use Rattle.std.specs.Str.{bytes_eq}
use Rattle.std.proofs.lemmas.List.{length-append, append_assoc}
use Rattle.std.proofs.lemmas.Option.{slice_get_within}
use Rattle.f_items.specs.declared.item.Item.{Item}
use Rattle.f_items.specs.declared.item.Item.TheVariants.{Declares}
use Rattle.f_items.specs.declared.item.Class.{Class}
use Rattle.f_items.specs.declared.item.Class.TheVariants as class
use Rattle.f_items.specs.Places.{Located, At}
use Rattle.f_items.specs.Scoped.{NamesUnit, IsFirst, IsNamedTwice}
use Rattle.f_scope.specs.declared.placement.ScopeRow.{ScopeRow}
use Rattle.f_scope.specs.declared.placement.Placed.{Placed}
use Rattle.f_scope.specs.declared.table.Entry.{Entry}
use Rattle.f_scope.specs.Rows.{seen}
use Rattle.f_scope.specs.Tables.{Row, entry_at, entry_with, noted}
use Rattle.f_scope.specs.UnitNames.{is_unit_name, unit_named, Scan, scan_new, scan_name, scan_units, IsUnitEntry, AreUnits, UnitsFound}
use Rattle.f_scope.proofs.Lookups.{same_bytes, bytes_same, entry-put}
use Rattle.f_scope.proofs.Scans.{last, seam, some_one}

-- what an item names, by what it is seen as
is_unit : (c : Class) → is_unit_name c ≡ true → c ≡ class.UnitName
is_unit class.UnitName e = refl
is_unit _ e = absurd (cc)

names : (p : List Located) (k : ℕ) (l : Located) (name : List ℕ) → At p k l → unit_named l.item ≡ Some name → NamesUnit p k name
names p k l name at e = pick l.item refl e where
  pick : (i : Item) → l.item ≡ i → unit_named i ≡ Some name → NamesUnit p k name
  pick (Declares d) is e = test (is_unit_name d.class) refl e where
    test : (b : Bool) → is_unit_name d.class ≡ b → cond b (Some d.name.bytes) None ≡ Some name → NamesUnit p k name
    test true eb e = record { item = l; what = d; at = at; item_is = is; unit_name = is_unit d.class eb; name_is = cc }
    test false eb e = absurd (cc)
  pick _ is e = absurd (cc)

named : (p : List Located) (k : ℕ) (l : Located) (name : List ℕ) → At p k l → NamesUnit p k name → unit_named l.item ≡ Some name
named p k l name at n =
    let one : n.item ≡ l = some_one (slice_get p k) n.item l n.at at in
    let is : l.item ≡ Declares n.what = ap (λ x. x.item) (sym one) ∙ n.item_is in
    ap unit_named is ∙ ap (λ c. cond (is_unit_name c) (Some n.what.name.bytes) None) n.unit_name ∙ ap Some n.name_is

-- ---- below a place

abbrev pub EntryBelow : List Located → ℕ → List ℕ → Option Entry → Type 0
EntryBelow p n name None = (k : ℕ) → k < n → NamesUnit p k name → ⊥
EntryBelow p n name (Some e) = NamesUnit p e.first name × (e.first < n)

pub record UnitsBelow (p : List Located) (n : ℕ) (rows : List Row) : Type 0 where
  pub entries : (name : List ℕ) → EntryBelow p n name (entry_at name rows)
  pub once : (k : ℕ) → k < n → IsNamedTwice p k → ⊥

module _ (p : List Located) (n : ℕ) (l : Located) (at : At p n l) (rows : List Row) (below : UnitsBelow p n rows) where
  -- an item that names no unit
  passed : unit_named l.item ≡ None → UnitsBelow p (suc n) rows
  passed none = record { entries = λ name. entry name (entry_at name rows) (below.entries name); once = λ k lt t. twice k t (last k n lt) } where
    no_name : (name : List ℕ) → NamesUnit p n name → ⊥
    no_name name i = let bad : None ≡ Some name = sym none ∙ named p n l name at i in cc

    entry : (name : List ℕ) (o : Option Entry) → EntryBelow p n name o → EntryBelow p (suc n) name o
    entry name None old = λ k lt i. pick k i (last k n lt) where
      pick : (k : ℕ) → NamesUnit p k name → (k < n) ⊎ (k ≡ n) → ⊥
      pick k i (inl a) = old k a i
      pick k i (inr e) = let P : ℕ → Type 0 = λ j. NamesUnit p j name in no_name name (subst P e i)
    entry name (Some e) old = let lt = old.1 in (old.0, omega (arith, lt))

    twice : (k : ℕ) → IsNamedTwice p k → (k < n) ⊎ (k ≡ n) → ⊥
    twice k t (inl a) = below.once k a t
    twice k t (inr e) = let P : ℕ → Type 0 = λ j. NamesUnit p j t.name in no_name t.name (subst P e t.second)

  -- one that names a unit anew
  added : (name : List ℕ) → unit_named l.item ≡ Some name → entry_at name rows ≡ None → UnitsBelow p (suc n) (noted rows name n true)
  added name is none = record { entries = λ other. subst (λ o. EntryBelow p (suc n) other o) (sym (entry-put other name (entry_with (entry_at name rows) n true) rows)) (entry other (bytes_eq other name) refl); once = λ k lt t. twice k t (last k n lt) } where
    here : NamesUnit p n name
    here = names p n l name at is

    new : (k : ℕ) → k < n → NamesUnit p k name → ⊥
    new = let P : Option Entry → Type 0 = λ o. EntryBelow p n name o in subst P none (below.entries name)

    only : (other : List ℕ) → NamesUnit p n other → other ≡ name
    only other i = let e : Some other ≡ Some name = sym (named p n l other at i) ∙ is in cc

    first_is : (entry_with (entry_at name rows) n true).first ≡ n
    first_is = ap (λ o. (entry_with o n true).first) none

    old : (other : List ℕ) (o : Option Entry) → (other ≡ name → ⊥) → EntryBelow p n other o → EntryBelow p (suc n) other o
    old other None apart h = λ k lt i. pick k i (last k n lt) where
      pick : (k : ℕ) → NamesUnit p k other → (k < n) ⊎ (k ≡ n) → ⊥
      pick k i (inl a) = h k a i
      pick k i (inr e) = let P : ℕ → Type 0 = λ j. NamesUnit p j other in apart (only other (subst P e i))
    old other (Some e) apart h = let lt = h.1 in (h.0, omega (arith, lt))

    entry : (other : List ℕ) (b : Bool) → bytes_eq other name ≡ b → EntryBelow p (suc n) other (cond b (Some (entry_with (entry_at name rows) n true)) (entry_at other rows))
    entry other true e =
        let same : other ≡ name = same_bytes other name e in
        let P : ℕ → Type 0 = λ k. NamesUnit p k other × (k < suc n) in
        let Q : List ℕ → Type 0 = λ x. NamesUnit p n x in
        subst P (sym first_is) (subst Q (sym same) here, omega arith)
    entry other false e = old other (entry_at other rows) (λ same. let yes : bytes_eq other name ≡ true = ap (bytes_eq other) (sym same) ∙ bytes_same other in cc) (below.entries other)

    twice : (k : ℕ) → IsNamedTwice p k → (k < n) ⊎ (k ≡ n) → ⊥
    twice k t (inl a) = below.once k a t
    twice k t (inr e) =
        let P : ℕ → Type 0 = λ j. NamesUnit p j t.name in
        let same : t.name ≡ name = only t.name (subst P e t.second) in
        let Q : List ℕ → Type 0 = λ x. NamesUnit p t.before x in
        let R : ℕ → Type 0 = λ j. t.before < j in
        new t.before (subst R e t.is_before) (subst Q same t.first)

  -- one that names a unit again
  again : (name : List ℕ) (e : Entry) → unit_named l.item ≡ Some name → entry_at name rows ≡ Some e → IsFirst (IsNamedTwice p) n
  again name e is some =
      let P : Option Entry → Type 0 = λ o. EntryBelow p n name o in
      let old = subst P some (below.entries name) in
      record { here = record { name = name; before = e.first; first = old.0; second = names p n l name at is; is_before = old.1 }; none_before = below.once }

-- ---- all items

abbrev pub Found : List Located → Scan → Type 0
Found p x = UnitsFound p x.0 x.1

module _ (scopes : List ScopeRow) (p : List Located) where
  whole : (rows : List Row) → UnitsBelow p (length p) rows → AreUnits p rows
  whole rows below = record { entries = λ name. entry name (entry_at name rows) (below.entries name); once = λ k t. below.once k (slice_get_within p k t.second.item t.second.at) t } where
    entry : (name : List ℕ) (o : Option Entry) → EntryBelow p (length p) name o → IsUnitEntry p name o
    entry name None old = λ k i. old k (slice_get_within p k i.item i.at) i
    entry name (Some e) old = old.0

  pub scanned : (xs : List Placed) (before : List Located) (n : ℕ) (rows : List Row) → p ≡ before ++ map (seen scopes) xs → length before ≡ n → UnitsBelow p n rows → Found p (scan_units rows n xs)
  unfolding scan_units
  scanned [] before n rows e len below =
      let long : length p ≡ n = ap length e ∙ length-append before [] ∙ (let z : length before + 0 ≡ n = omega (arith, len) in z) in
      let P : ℕ → Type 0 = λ k. UnitsBelow p k rows in
      whole rows (subst P (sym long) below)
  scanned (x ∷ xs) before n rows e len below = pick (λ rows' parts' grown' b. scanned xs (before ++ seen scopes x ∷ []) (suc n) rows' parts' grown' b) (unit_named x.item) refl where
    l : Located
    l = seen scopes x

    at : At p n l
    at = ap (λ q. slice_get q n) e ∙ ap (slice_get (before ++ l ∷ map (seen scopes) xs)) (sym len) ∙ seam before l (map (seen scopes) xs)

    parts : p ≡ (before ++ l ∷ []) ++ map (seen scopes) xs
    parts = e ∙ sym (append_assoc before (l ∷ []) (map (seen scopes) xs))

    grown : length (before ++ l ∷ []) ≡ suc n
    grown = let a = length-append before (l ∷ []) in omega (arith, a, len)

    More : Type 0
    More = (rows' : List Row) → p ≡ (before ++ l ∷ []) ++ map (seen scopes) xs → length (before ++ l ∷ []) ≡ suc n → UnitsBelow p (suc n) rows' → Found p (scan_units rows' (suc n) xs)

    new : More → (name : List ℕ) (o : Option Entry) → unit_named x.item ≡ Some name → entry_at name rows ≡ o → Found p (scan_new o name rows n (λ rows. scan_units rows (suc n) xs))
    new more name None is eo = more (noted rows name n true) parts grown (added p n l at rows below name is eo)
    new more name (Some e) is eo = again p n l at rows below name e is eo

    pick : More → (o : Option (List ℕ)) → unit_named x.item ≡ o → Found p (scan_name o rows n (λ rows. scan_units rows (suc n) xs))
    pick more None is = more rows parts grown (passed p n l at rows below is)
    pick more (Some name) is = new more name (entry_at name rows) is refl

none_yet : (p : List Located) (name : List ℕ) → EntryBelow p 0 name (entry_at name [])
unfolding entry_at
none_yet p name = λ k lt i. absurd (omega (arith, lt))

pub found_units : (scopes : List ScopeRow) (xs : List Placed) → Found (map (seen scopes) xs) (scan_units [] 0 xs)
found_units scopes xs = scanned scopes (map (seen scopes) xs) xs [] 0 [] refl refl (record { entries = none_yet (map (seen scopes) xs); once = λ k lt t. absurd (omega (arith, lt)) })
