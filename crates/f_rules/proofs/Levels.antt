-- The types of the last parts along items.
use Rattle.std.proofs.Common.{◌≡◌, ℕ, zero, suc, pred, ◌<◌, ◌≤◌, ◌⊎◌, inl, inr, Bool, true, false, List, [], ◌∷◌, ◌++◌, Option, Some, None, slice_get, length, refl, sym, ap, ◌∙◌, subst, arith}
use Rattle.std.proofs.lemmas.List.{get_or_append_left}
use Rattle.std.proofs.Math.Seq.{get_or-append_seam}
use Rattle.std.proofs.lemmas.Option.{slice_get_within}
use Rattle.f_items.specs.declared.item.Name.{Name}
use Rattle.f_items.specs.declared.item.Item.{Item}
use Rattle.f_items.specs.declared.item.Item.TheVariants.{Refers, Selects, Inside, Outside}
use Rattle.f_items.specs.declared.item.Class.TheVariants as class
use Rattle.f_items.specs.declared.item.Need.{Need}
use Rattle.f_items.specs.declared.item.Need.TheVariants as need
use Rattle.f_items.specs.Places.{Open, Located, scope_of, At}
use Rattle.f_items.specs.Accessible.{Visible}
use Rattle.f_items.specs.Selections.{IsOnly, IsOfClass, IsOfType, IsComponent, open_behind, open_from, open_before, is_part, is_inside, IsLastPart, SelectsFrom, IsPartOf, FirstPart, OtherPart}
use Rattle.f_items.proofs.Single.{three}
use Rattle.f_items.proofs.Selected.{last_part_one, part_type_one}
use Rattle.f_scope.proofs.Scans.{some_one}
use Rattle.f_rules.specs.declared.declared_types.PartType.{PartType}
use Rattle.f_rules.specs.declared.declared_types.PartType.TheVariants.{Untold, NotDerived, Derived}
use Rattle.f_rules.specs.PartTypes.{TypeTold, TypeWhere, ObjectTold, IsComponentOf, ComponentTold, ItemTold, LastTold, PartLevels, closed, passed, OuterTold, AreLevels, type_in, ArePartTypes}
use Rattle.f_rules.proofs.Types.{told_as, none_told, OnlyOf}

-- ---- open parentheses

open_start : (d : ℕ) (p : List Located) → open_from d p zero ≡ d
unfolding open_from
open_start d [] = refl
open_start d (x ∷ xs) = refl

opens_from : (p : List Located) (d i : ℕ) (l : Located) → At p i l → open_from d p (suc i) ≡ open_behind (open_from d p i) l.item
unfolding open_from
opens_from [] d i l at = absurd (cc)
opens_from (x ∷ xs) d zero l at = let same : x ≡ l = cc in open_start (open_behind d x.item) xs ∙ ap (λ y. open_behind d y.item) same
opens_from (x ∷ xs) d (suc i) l at = opens_from xs (open_behind d x.item) i l at

part_no_inside : (i : Item) → is_part i ≡ true → is_inside i ≡ true → ⊥
part_no_inside Inside e f = cc
part_no_inside _ e f = cc

-- ---- one item further

module _ (p : List Located) (i : ℕ) (l : Located) (at : At p i l) where
  opens : open_before p (suc i) ≡ open_behind (open_before p i) l.item
  opens = opens_from p 0 i l at

  -- the item is passed over where so many parentheses are open
  IsPast : ℕ → Type 0
  IsPast d = (d < open_before p i) ⊎ ((open_before p i ≡ d) × (is_inside l.item ≡ true))

  keeps : (d j : ℕ) → IsPast d → IsLastPart p d j i → IsLastPart p d j (suc i)
  unfolding IsPast
  keeps d j past f = record {
    before = (let lt = f.before in omega (arith, lt));
    part = f.part;
    at = f.at;
    names = f.names;
    open_is = f.open_is;
    between = λ m k lo hi there. pick m k lo hi there (three m i);
  } where
    pick : (m : ℕ) (k : Located) → j < m → m < suc i → At p m k → (m < i) ⊎ ((m ≡ i) ⊎ (i < m)) → (d < open_before p m) ⊎ ((open_before p m ≡ d) × (is_inside k.item ≡ true))
    pick m k lo hi there (inl lt) = f.between m k lo lt there
    pick m k lo hi there (inr (inl e)) =
        let A : ℕ → Type 0 = λ w. At p w k in
        let item : l ≡ k = some_one (slice_get p i) l k at (subst A e there) in
        let B : ℕ → Located → Type 0 = λ w y. (d < open_before p w) ⊎ ((open_before p w ≡ d) × (is_inside y.item ≡ true)) in
        subst (λ w. B w k) (sym e) (subst (λ y. B i y) item past)
    pick m k lo hi there (inr (inr gt)) = absurd (omega (arith, gt, hi))

  -- a last part behind the item is before it, or is the item itself
  before_or_here : (d j : ℕ) → IsLastPart p d j (suc i) → (j < i) ⊎ (j ≡ i)
  before_or_here d j f = pick (three j i) where
    pick : (j < i) ⊎ ((j ≡ i) ⊎ (i < j)) → (j < i) ⊎ (j ≡ i)
    pick (inl lt) = inl lt
    pick (inr (inl e)) = inr e
    pick (inr (inr gt)) = let lt = f.before in absurd (omega (arith, gt, lt))

  -- the item itself is a part, and so many parentheses are open before it
  itself : (d j : ℕ) → IsLastPart p d j (suc i) → j ≡ i → (open_before p i ≡ d) × (is_part l.item ≡ true)
  itself d j f e =
      let A : ℕ → Type 0 = λ w. At p w f.part in
      let item : f.part ≡ l = some_one (slice_get p i) f.part l (subst A e f.at) at in
      (ap (open_before p) (sym e) ∙ f.open_is, ap (λ y. is_part y.item) (sym item) ∙ f.names)

  backs : (d j : ℕ) → IsPast d → IsLastPart p d j (suc i) → IsLastPart p d j i
  unfolding IsPast
  backs d j past f = pick (before_or_here d j f) where
    here : (open_before p i ≡ d) × (is_part l.item ≡ true) → (d < open_before p i) ⊎ ((open_before p i ≡ d) × (is_inside l.item ≡ true)) → ⊥
    here h (inl deep) = let same = h.0 in omega (arith, same, deep)
    here h (inr g) = part_no_inside l.item h.1 g.1

    pick : (j < i) ⊎ (j ≡ i) → IsLastPart p d j i
    pick (inl lt) = record { before = lt; part = f.part; at = f.at; names = f.names; open_is = f.open_is; between = λ m k lo hi there. f.between m k lo (omega (arith, hi)) there }
    pick (inr e) = absurd (here (itself d j f e) past)

  keep_told : (d : ℕ) → IsPast d → (t : PartType) → LastTold p d i t → LastTold p d (suc i) t
  keep_told d past t f = told_as (λ o. (j : ℕ) × IsLastPart p d j i × IsPartOf p j o) (λ o. (j : ℕ) × IsLastPart p d j (suc i) × IsPartOf p j o) (λ o h. (h.0, keeps d h.0 past h.1, h.2)) (λ o h. (h.0, backs d h.0 past h.1, h.2)) t f

  keep_outer : (ts : List PartType) → length ts ≤ open_before p i → OuterTold p i ts → OuterTold p (suc i) ts
  unfolding IsPast
  keep_outer [] le f = tt
  keep_outer (t ∷ ts) le f = (keep_told (length ts) (inl (omega (arith, le))) t f.0, keep_outer ts (omega (arith, le)) f.1)

  -- no part is last where the item hides those before it, and is none itself
  none_last : (d : ℕ) → ((d < open_before p i) → ⊥) → ((open_before p i ≡ d) → is_inside l.item ≡ true → ⊥) → ((open_before p i ≡ d) → is_part l.item ≡ true → ⊥) → LastTold p d (suc i) Untold
  none_last d deep inside_ part o h = pick (before_or_here d h.0 h.1) where
    hidden : (d < open_before p i) ⊎ ((open_before p i ≡ d) × (is_inside l.item ≡ true)) → ⊥
    hidden (inl lt) = deep lt
    hidden (inr g) = inside_ g.0 g.1

    pick : (h.0 < i) ⊎ (h.0 ≡ i) → ⊥
    pick (inl lt) = hidden (h.1.between i l lt (omega arith) at)
    pick (inr e) = let s = itself d h.0 h.1 e in part s.0 s.1

  -- ---- the type of the part itself

  part_item : (o : Option ℕ) → IsPartOf p i o → ((n : Name) × (l.item ≡ Refers n need.Object)) ⊎ ((n : Name) × (l.item ≡ Selects n))
  part_item o (FirstPart _ m n e _ bt is alone data_ ty) = inl (n, ap (λ y. y.item) (some_one (slice_get p i) l m at bt) ∙ is)
  part_item o (OtherPart _ m n j t c _ bt is from part comp ty) = inr (n, ap (λ y. y.item) (some_one (slice_get p i) l m at bt) ∙ is)

  named_part : (o : Option ℕ) → IsPartOf p i o → is_part l.item ≡ true
  named_part o h = pick (part_item o h) where
    pick : ((n : Name) × (l.item ≡ Refers n need.Object)) ⊎ ((n : Name) × (l.item ≡ Selects n)) → is_part l.item ≡ true
    pick (inl x) = ap is_part x.1
    pick (inr x) = ap is_part x.1

  here_last : is_part l.item ≡ true → IsLastPart p (open_before p i) i (suc i)
  here_last e = record { before = omega arith; part = l; at = at; names = e; open_is = refl; between = λ m k lo hi there. absurd (omega (arith, lo, hi)) }

  -- the item is no parenthesis that opens: the part that it names is the last, or there is none
  here_told : is_inside l.item ≡ false → (r : PartType) → TypeTold (IsPartOf p i) r → LastTold p (open_before p i) (suc i) r
  here_told no_ r f = told_as (IsPartOf p i) (λ o. (j : ℕ) × IsLastPart p (open_before p i) j (suc i) × IsPartOf p j o) (λ o h. (i, here_last (named_part o h), h)) (λ o h. pick o h (before_or_here (open_before p i) h.0 h.1)) r f where
    hidden : (open_before p i < open_before p i) ⊎ ((open_before p i ≡ open_before p i) × (is_inside l.item ≡ true)) → ⊥
    hidden (inl lt) = omega (arith, lt)
    hidden (inr g) = let bad : true ≡ false = sym g.1 ∙ no_ in cc

    pick : (o : Option ℕ) (h : (j : ℕ) × IsLastPart p (open_before p i) j (suc i) × IsPartOf p j o) → (h.0 < i) ⊎ (h.0 ≡ i) → IsPartOf p i o
    pick o h (inl lt) = absurd (hidden (h.1.between i l lt (omega arith) at))
    pick o h (inr e) = let Q : ℕ → Type 0 = λ w. IsPartOf p w o in subst Q e h.2

  -- ---- the levels

  pub passes : (s : PartLevels) (r : PartType) → AreLevels p i s → TypeTold (IsPartOf p i) r → AreLevels p (suc i) (passed l.item r s)
  unfolding IsPast
  passes s r are told = by_item l.item refl where
    d : ℕ
    d = open_before p i

    same_depth : (it : Item) → l.item ≡ it → open_before p (suc i) ≡ open_behind d it
    same_depth it is = opens ∙ ap (open_behind d) is

    outer_kept : OuterTold p (suc i) s.outer
    outer_kept = let long = are.depth in keep_outer s.outer (omega (arith, long)) are.outer_told

    stays : (it : Item) → l.item ≡ it → open_behind d it ≡ d → is_inside it ≡ false → AreLevels p (suc i) (record { current = r; outer = s.outer })
    stays it is same no_ = record {
      depth = are.depth ∙ sym (same_depth it is ∙ same);
      current_told = (let L : ℕ → Type 0 = λ n. LastTold p n (suc i) r in subst L (sym (same_depth it is ∙ same)) (here_told (ap is_inside is ∙ no_) r told));
      outer_told = outer_kept;
    }

    opened : l.item ≡ Inside → AreLevels p (suc i) (record { current = Untold; outer = s.current ∷ s.outer })
    opened is = record {
      depth = ap suc are.depth ∙ sym (same_depth Inside is);
      current_told = (let L : ℕ → Type 0 = λ n. LastTold p n (suc i) Untold in subst L (sym (same_depth Inside is)) (none_last (suc d) (λ lt. omega (arith, lt)) (λ e g. omega (arith, e)) (λ e g. omega (arith, e))));
      outer_told = (let L : ℕ → Type 0 = λ n. LastTold p n (suc i) s.current in subst L (sym are.depth) (keep_told d (inr (refl, ap is_inside is)) s.current are.current_told), outer_kept);
    }

    closes : (ts : List PartType) → s.outer ≡ ts → l.item ≡ Outside → AreLevels p (suc i) (closed ts)
    closes [] e is =
        let none : d ≡ 0 = sym are.depth ∙ ap length e in
        let now : open_before p (suc i) ≡ 0 = same_depth Outside is ∙ ap pred none in
        record {
          depth = sym now;
          current_told = (let L : ℕ → Type 0 = λ n. LastTold p n (suc i) Untold in subst L (sym now) (none_last 0 (λ lt. omega (arith, lt, none)) (λ f g. let bad : true ≡ false = sym g ∙ ap is_inside is in cc) (λ f g. let bad : true ≡ false = sym g ∙ ap is_part is in cc)));
          outer_told = tt;
        }
    closes (t ∷ ts) e is =
        let deep : d ≡ suc (length ts) = sym are.depth ∙ ap length e in
        let now : open_before p (suc i) ≡ length ts = same_depth Outside is ∙ ap pred deep in
        let O : List PartType → Type 0 = λ xs. OuterTold p i xs in
        let outer = subst O e are.outer_told in
        record {
          depth = sym now;
          current_told = (let L : ℕ → Type 0 = λ n. LastTold p n (suc i) t in subst L (sym now) (keep_told (length ts) (inl (omega (arith, deep))) t outer.0));
          outer_told = keep_outer ts (omega (arith, deep)) outer.1;
        }

    by_item : (it : Item) → l.item ≡ it → AreLevels p (suc i) (passed it r s)
    by_item Inside is = opened is
    by_item Outside is = closes s.outer refl is
    by_item _ is = stays _ is refl refl

  -- ---- what an item tells of its part

  no_part : (r : PartType) → r ≡ Untold → ((o : Option ℕ) → IsPartOf p i o → ⊥) → TypeTold (IsPartOf p i) r
  no_part r e none = none_told (IsPartOf p i) r e none

  component_part : (n : Name) → l.item ≡ Selects n → (o : Option ℕ) → IsPartOf p i o → (j t : ℕ) × SelectsFrom p i j × IsPartOf p j (Some t) × IsComponentOf p t n.bytes o
  component_part n is o (FirstPart _ m x e _ bt js alone data_ ty) = let bad : Selects n ≡ Refers x need.Object = sym is ∙ ap (λ y. y.item) (some_one (slice_get p i) l m at bt) ∙ js in absurd (cc)
  component_part n is o (OtherPart _ m x j t c _ bt js from part comp ty) =
      let same : x ≡ n = (let both : Selects n ≡ Selects x = sym is ∙ ap (λ y. y.item) (some_one (slice_get p i) l m at bt) ∙ js in cc) in
      let C : Name → Type 0 = λ y. IsComponent p t y.bytes c in
      (j, t, from, part, (c, subst C same comp, ty))

  selects_told : (n : Name) → l.item ≡ Selects n → (base : PartType) → LastTold p (open_before p i) i base → (r : PartType) → ComponentTold p base n.bytes r → TypeTold (IsPartOf p i) r
  selects_told n is Untold last r e = no_part r e (λ o h. (let g = component_part n is o h in last (Some g.1) (g.0, g.2, g.3)))
  selects_told n is NotDerived last r e = no_part r e (λ o h. (
      let g = component_part n is o h in
      let same = last_part_one p (open_before p i) g.0 last.0 i g.2 last.1 in
      let Q : ℕ → Type 0 = λ w. IsPartOf p w (Some g.1) in
      let bad : None ≡ Some g.1 = part_type_one p last.0 None (Some g.1) last.2 (subst Q same g.3) in
      cc))
  selects_told n is (Derived t) last r told = told_as (IsComponentOf p t n.bytes) (IsPartOf p i) (λ o h. OtherPart i l n last.0 t h.0 o at is last.1 last.2 h.1 h.2) from r told where
    from : (o : Option ℕ) → IsPartOf p i o → IsComponentOf p t n.bytes o
    from o h =
        let g = component_part n is o h in
        let same = last_part_one p (open_before p i) g.0 last.0 i g.2 last.1 in
        let Q : ℕ → Type 0 = λ w. IsPartOf p w (Some g.1) in
        let types : g.1 ≡ t = (let both : Some t ≡ Some g.1 = part_type_one p last.0 (Some t) (Some g.1) last.2 (subst Q same g.3) in cc) in
        let C : ℕ → Type 0 = λ w. IsComponentOf p w n.bytes o in
        subst C types g.4

  object_need : (n : Name) (nd : Need) → l.item ≡ Refers n nd → (o : Option ℕ) → IsPartOf p i o → nd ≡ need.Object
  object_need n nd is o h = pick (part_item o h) where
    pick : ((x : Name) × (l.item ≡ Refers x need.Object)) ⊎ ((x : Name) × (l.item ≡ Selects x)) → nd ≡ need.Object
    pick (inl x) = let both : Refers n nd ≡ Refers x.0 need.Object = sym is ∙ x.1 in cc
    pick (inr x) = let bad : Refers n nd ≡ Selects x.0 = sym is ∙ x.1 in absurd (cc)

  pub item_told : (scope : ℕ) (base : PartType) → LastTold p (open_before p i) i base → (scope_of l).number ≡ scope → (r : PartType) → ItemTold p scope base l.item r → TypeTold (IsPartOf p i) r
  item_told scope base last number r = by_item l.item refl where
    by_need : (n : Name) (nd : Need) → l.item ≡ Refers n nd → ItemTold p scope base (Refers n nd) r → TypeTold (IsPartOf p i) r
    by_need n need.Object is h = h i l n at number is refl
    by_need n _ is e = no_part r e (λ o h. let bad = object_need n _ is o h in cc)

    by_item : (it : Item) → l.item ≡ it → ItemTold p scope base it r → TypeTold (IsPartOf p i) r
    by_item (Refers n nd) is h = by_need n nd is h
    by_item (Selects n) is h = selects_told n is base last r h
    by_item _ is e = no_part r e (λ o h. none (part_item o h)) where
      none : ((x : Name) × (l.item ≡ Refers x need.Object)) ⊎ ((x : Name) × (l.item ≡ Selects x)) → ⊥
      none (inl x) = let bad = sym is ∙ x.1 in cc
      none (inr x) = let bad = sym is ∙ x.1 in cc

  -- the first part of a reference
  pub object_told : (n : Name) → l.item ≡ Refers n need.Object → (w : Option ℕ) → OnlyOf p (Visible p l.scopes n.bytes) class.Data w → (r : PartType) → TypeWhere p w r → TypeTold (IsPartOf p i) r
  unfolding OnlyOf
  object_told n is w f r told = by w f told where
    first : (o : Option ℕ) → IsPartOf p i o → (e : ℕ) × IsOnly (Visible p l.scopes n.bytes) e × IsOfClass p e class.Data × IsOfType p e o
    first o (FirstPart _ m x e _ bt js alone data_ ty) =
        let item : m ≡ l = some_one (slice_get p i) m l bt at in
        let same : x ≡ n = (let both : Refers x need.Object ≡ Refers n need.Object = sym js ∙ ap (λ y. y.item) item ∙ is in cc) in
        let V : Open → Name → Type 0 = λ y z. IsOnly (Visible p y z.bytes) e in
        (e, subst (λ z. V l.scopes z) same (subst (λ y. V y.scopes x) item alone), data_, ty)
    first o (OtherPart _ m x j t c _ bt js from part comp ty) = let bad : Refers n need.Object ≡ Selects x = sym is ∙ ap (λ y. y.item) (some_one (slice_get p i) l m at bt) ∙ js in absurd (cc)

    by : (w : Option ℕ) → OnlyOf p (Visible p l.scopes n.bytes) class.Data w → TypeWhere p w r → TypeTold (IsPartOf p i) r
    by None f e = no_part r e (λ o h. (let g = first o h in f g.0 g.1 g.2))
    by (Some e) f told = told_as (IsOfType p e) (IsPartOf p i) (λ o ty. FirstPart i l n e o at is f.0 f.1 ty) (λ o h. (let g = first o h in let T : ℕ → Type 0 = λ v. IsOfType p v o in subst T (f.0.1 g.0 g.1.0) g.3)) r told

-- ---- the table

-- so many items have their types in the table
pub TypesBelow : List Located → List PartType → ℕ → Type 0
TypesBelow p types n = (k : ℕ) → k < n → LastTold p (open_before p k) k (type_in types k)

pub types_none : (p : List Located) → TypesBelow p [] 0
unfolding TypesBelow
types_none p k lt = absurd (omega (arith, lt))

pub types_next : (p : List Located) (types new : List PartType) (s : PartLevels) (n : ℕ) → length types ≡ n → TypesBelow p types n → AreLevels p n s → new ≡ types ++ s.current ∷ [] → TypesBelow p new (suc n)
unfolding TypesBelow
types_next p types new s n long old are e k lt = pick (three k n) where
  pick : (k < n) ⊎ ((k ≡ n) ⊎ (n < k)) → LastTold p (open_before p k) k (type_in new k)
  pick (inl a) = let T : PartType → Type 0 = λ t. LastTold p (open_before p k) k t in subst T (sym (ap (λ ts. type_in ts k) e ∙ get_or_append_left types (s.current ∷ []) Untold k (omega (arith, a, long)))) (old k a)
  pick (inr (inl same)) =
      let T : PartType → Type 0 = λ t. LastTold p (open_before p k) k t in
      let K : ℕ → Type 0 = λ w. LastTold p (open_before p w) w s.current in
      subst T (sym (ap (type_in new) (same ∙ sym long) ∙ ap (λ ts. type_in ts (length types)) e ∙ get_or-append_seam types s.current [] Untold)) (subst K (sym same) are.current_told)
  pick (inr (inr gt)) = absurd (omega (arith, gt, lt))

pub types_all : (p : List Located) (types : List PartType) (n : ℕ) → length p ≤ n → TypesBelow p types n → ArePartTypes p types
unfolding TypesBelow
types_all p types n le below k l at = let lt = slice_get_within p k l at in below k (omega (arith, le, lt))

pub levels_none : (p : List Located) → AreLevels p 0 (record { current = Untold; outer = [] })
levels_none p = record {
  depth = sym (open_start 0 p);
  current_told = λ o h. (let lt = h.1.before in omega (arith, lt));
  outer_told = tt;
}

pub some_item : (p : List Located) (k : ℕ) → k < length p → (l : Located) × At p k l
some_item [] k lt = absurd (omega (arith, lt))
some_item (x ∷ xs) zero lt = (x, refl)
some_item (x ∷ xs) (suc k) lt = some_item xs k (omega (arith, lt))
