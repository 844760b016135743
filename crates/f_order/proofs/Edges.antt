-- Units and the edges between them, along items.
use Rattle.std.proofs.Common.{◌≡◌, ℕ, suc, ◌<◌, ◌≤◌, ◌⊎◌, inl, inr, Bool, true, false, cond, eqb, ltb, List, [], ◌∷◌, ◌++◌, length, slice_get, replicate, Option, Some, None, refl, sym, ap, ◌∙◌, subst, arith}
use Rattle.std.specs.Prelude.{Decides}
use Rattle.std.proofs.lemmas.Bool.{eqb-true, eq-eqb, lt-ltb, ltb-true, ltb-false}
use Rattle.std.proofs.lemmas.List.{get_or-set_same, get_or-set_other, get_or-replicate, length-set, get_or_past, length-replicate}
use Rattle.std.proofs.lemmas.Option.{slice_get_within}
use Rattle.std.proofs.Math.ListN.{set}
use Rattle.f_items.specs.Places.{Located, unit_of, At}
use Rattle.f_items.specs.Order.{UsesModule, IsUnit, IsModuleUnit}
use Rattle.f_scope.specs.Program.{Outline}
use Rattle.f_use.specs.Places.{Among, list_at, put_at}
use Rattle.f_use.proofs.Listed.{among_more, among_last, among_cases}
use Rattle.f_order.specs.declared.units.Edge.{Edge}
use Rattle.f_order.specs.Units.{AreUnits, UnitFound, NamesModule, ModuleFound, EdgeFound}
use Rattle.f_order.specs.Marks.{marked, set_mark, set_some}
use Rattle.f_order.specs.Graph.{AreEdges, AreInside, IsGraph, put_some}
use Rattle.f_order.proofs.Marking.{MarkedBelow, below_same, below_more}

-- the item at a place stands in the unit
abbrev pub StandsIn : List Located → ℕ → ℕ → Type 0
StandsIn p k u = (l : Located) × At p k l × (unit_of l ≡ u)

abbrev pub NamesAt : List Located → ℕ → ℕ → Type 0
NamesAt p k u = NamesModule p k u

-- ---- which units there are

module _ (o : Outline) (units : List ℕ) (table : AreUnits o units) where
  some_one : {A : Type 0} (q : Option A) (x y : A) → q ≡ Some x → q ≡ Some y → x ≡ y
  some_one q x y e f = let d : Some x ≡ Some y = sym e ∙ f in cc

  pub stands_none : (ms : List Bool) (k : ℕ) → UnitFound o.items k None → MarkedBelow (StandsIn o.items) ms k → MarkedBelow (StandsIn o.items) ms (suc k)
  stands_none ms k none old = below_same (StandsIn o.items) ms k (λ u s. none s.0 s.1) old

  pub stands_some : (ms : List Bool) (k v : ℕ) → length ms ≡ o.scopes → UnitFound o.items k (Some v) → MarkedBelow (StandsIn o.items) ms k → MarkedBelow (StandsIn o.items) (set_mark ms v) (suc k)
  stands_some ms k v long found old =
      let lt = table.within k found.0 found.1 in
      let is = found.2 in
      below_more (StandsIn o.items) ms k v (omega (arith, lt, is, long)) found (λ u s. sym s.2 ∙ ap unit_of (some_one (slice_get o.items k) s.0 found.0 s.1 found.1) ∙ found.2) old

  pub stands_next : (ms : List Bool) (k : ℕ) (r : Option ℕ) → length ms ≡ o.scopes → UnitFound o.items k r → MarkedBelow (StandsIn o.items) ms k → MarkedBelow (StandsIn o.items) (set_some ms r) (suc k)
  stands_next ms k None long found old = stands_none ms k found old
  stands_next ms k (Some v) long found old = stands_some ms k v long found old

  pub all_stand : (ms : List Bool) (k : ℕ) → length o.items ≤ k → MarkedBelow (StandsIn o.items) ms k → (u : ℕ) → Decides (marked ms u) (IsUnit o.items u)
  all_stand ms k le old u = (λ e. let f = (old u).0 e in (f.0, f.2.0, f.2.1, f.2.2), λ i. let lt = slice_get_within o.items i.0 i.1 i.2 in (old u).1 i.0 (omega (arith, lt, le)) (i.1, i.2, i.3))

  -- ---- which have a module

  module_range : (k u : ℕ) → NamesModule o.items k u → u < o.scopes
  module_range k u n =
      let m = n.in_unit.is_module in
      let lt = table.within m.place m.located m.at in
      let is = n.in_unit.unit_is in
      omega (arith, lt, is)

  pub named_none : (ms : List Bool) (k : ℕ) → ModuleFound o.items k None → MarkedBelow (NamesAt o.items) ms k → MarkedBelow (NamesAt o.items) ms (suc k)
  named_none ms k none old = below_same (NamesAt o.items) ms k none old

  pub named_some : (ms : List Bool) (k v : ℕ) → length ms ≡ o.scopes → ModuleFound o.items k (Some v) → MarkedBelow (NamesAt o.items) ms k → MarkedBelow (NamesAt o.items) (set_mark ms v) (suc k)
  named_some ms k v long found old = let lt = module_range k v found.0 in below_more (NamesAt o.items) ms k v (omega (arith, lt, long)) found.0 found.1 old

  pub named_next : (ms : List Bool) (k : ℕ) (r : Option ℕ) → length ms ≡ o.scopes → ModuleFound o.items k r → MarkedBelow (NamesAt o.items) ms k → MarkedBelow (NamesAt o.items) (set_some ms r) (suc k)
  named_next ms k None long found old = named_none ms k found old
  named_next ms k (Some v) long found old = named_some ms k v long found old

  pub all_named : (ms : List Bool) (k : ℕ) → length o.items ≤ k → MarkedBelow (NamesAt o.items) ms k → (u : ℕ) → Decides (marked ms u) (IsModuleUnit o.items u)
  all_named ms k le old u = (λ e. let f = (old u).0 e in (f.2.name, f.2.in_unit), λ i. let m = i.1.is_module in let lt = slice_get_within o.items m.place m.located m.at in (old u).1 m.place (omega (arith, lt, le)) (record { name = i.0; in_unit = i.1; place_is = refl }))

  -- ---- edges

  pub unit_range : (k u m : ℕ) → UsesModule o.items k u m → u < o.scopes
  unit_range k u m i = let lt = table.within k i.located i.at in let is = i.unit_is in omega (arith, lt, is)

  pub inside : AreInside o
  inside u m d =
      let n = d.1.module_is.is_module in
      let lt = table.within n.place n.located n.at in
      let is = d.1.module_is.unit_is in
      omega (arith, lt, is)

  pub graph_is : (present modules : List Bool) (edges : List (List ℕ)) → ((u : ℕ) → Decides (marked present u) (IsUnit o.items u)) → ((u : ℕ) → Decides (marked modules u) (IsModuleUnit o.items u)) → AreEdges o.items edges → IsGraph o present modules edges
  graph_is present modules edges a b e = record { units_are = a; modules_are = b; edges_are = e; within = λ u i. let lt = table.within i.0 i.1 i.2 in let is = i.3 in omega (arith, lt, is) }

-- the lists have the pairs that stand below a place
pub record PairsBelow (P : ℕ → ℕ → ℕ → Type 0) (lists : List (List ℕ)) (n : ℕ) : Type 0 where
  pub sound : (u m : ℕ) → Among (list_at lists u) m → (k : ℕ) × (k < n) × P k u m
  pub complete : (u m k : ℕ) → k < n → P k u m → Among (list_at lists u) m

-- the lists have the edges of the items below a place
abbrev pub EdgesBelow : List Located → List (List ℕ) → ℕ → Type 0
EdgesBelow p edges n = PairsBelow (UsesModule p) edges n

pub no_list : (c u : ℕ) → list_at (replicate c []) u ≡ []
no_list c u = pick (ltb u c) refl where
  long : (lists : List (List ℕ)) → lists ≡ replicate c [] → length lists ≡ c
  long lists e = ap length e ∙ length-replicate c []

  past : (lists : List (List ℕ)) → lists ≡ replicate c [] → c ≤ u → list_at lists u ≡ []
  past lists e le = let n = long lists e in get_or_past lists u [] (omega (arith, le, n))

  pick : (b : Bool) → ltb u c ≡ b → list_at (replicate c []) u ≡ []
  pick true e = get_or-replicate c u [] [] (ltb-true u c e)
  pick false e = past (replicate c []) refl (ltb-false u c e)

pub pairs_none : (P : ℕ → ℕ → ℕ → Type 0) (c : ℕ) → PairsBelow P (replicate c []) 0
pairs_none P c = record { sound = λ u m a. sound u m (let Q : List ℕ → Type 0 = λ l. Among l m in subst Q (no_list c u) a); complete = λ u m k lt. absurd (omega (arith, lt)) } where
  sound : (u m : ℕ) → Among [] m → (k : ℕ) × (k < 0) × P k u m
  sound u m a = let e = a.1 in absurd (cc)

pub edges_none : (p : List Located) (c : ℕ) → EdgesBelow p (replicate c []) 0
edges_none p c = pairs_none (UsesModule p) c

pub put-here : (lists : List (List ℕ)) (at n : ℕ) → at < length lists → list_at (put_at lists at n) at ≡ list_at lists at ++ n ∷ []
put-here lists at n lt = ap (λ b. list_at (cond b (set lists at (list_at lists at ++ n ∷ [])) lists) at) (lt-ltb at (length lists) lt) ∙ get_or-set_same lists at (list_at lists at ++ n ∷ []) [] lt

pub put-there : (lists : List (List ℕ)) (at n u : ℕ) → (u ≡ at → ⊥) → list_at (put_at lists at n) u ≡ list_at lists u
put-there lists at n u apart = pick (ltb at (length lists)) where
  pick : (b : Bool) → list_at (cond b (set lists at (list_at lists at ++ n ∷ [])) lists) u ≡ list_at lists u
  pick true = get_or-set_other lists at u (list_at lists at ++ n ∷ []) [] apart
  pick false = refl

pub length_put : (lists : List (List ℕ)) (at n : ℕ) → length (put_at lists at n) ≡ length lists
length_put lists at n = pick (ltb at (length lists)) where
  pick : (b : Bool) → length (cond b (set lists at (list_at lists at ++ n ∷ [])) lists) ≡ length lists
  pick true = length-set lists at (list_at lists at ++ n ∷ [])
  pick false = refl

module _ (P : ℕ → ℕ → ℕ → Type 0) (edges : List (List ℕ)) (n : ℕ) (old : PairsBelow P edges n) where
  smaller : (k : ℕ) → k < suc n → (k < n) ⊎ (k ≡ n)
  smaller k lt = pick (ltb k n) refl where
    pick : (b : Bool) → ltb k n ≡ b → (k < n) ⊎ (k ≡ n)
    pick true e = inl (ltb-true k n e)
    pick false e = let le = ltb-false k n e in inr (omega (arith, le, lt))

  pub pairs_same : ((u m : ℕ) → P n u m → ⊥) → PairsBelow P edges (suc n)
  pairs_same none = record { sound = λ u m a. (let f = old.sound u m a in let lt = f.1 in (f.0, omega (arith, lt), f.2)); complete = λ u m k lt i. pick u m k i (smaller k lt) } where
    pick : (u m k : ℕ) → P k u m → (k < n) ⊎ (k ≡ n) → Among (list_at edges u) m
    pick u m k i (inl a) = old.complete u m k a i
    pick u m k i (inr e) = let Q : ℕ → Type 0 = λ j. P j u m in absurd (none u m (subst Q e i))

  pub pairs_more : (e : Edge) → e.unit < length edges → P n e.unit e.module_unit × ((u m : ℕ) → P n u m → (u ≡ e.unit) × (m ≡ e.module_unit)) → PairsBelow P (put_at edges e.unit e.module_unit) (suc n)
  pairs_more e range found = record { sound = λ u m a. sound u m a (eqb u e.unit) refl; complete = λ u m k lt i. complete u m k i (smaller k lt) } where
    new : List (List ℕ)
    new = put_at edges e.unit e.module_unit

    apart : (u : ℕ) → eqb u e.unit ≡ false → u ≡ e.unit → ⊥
    apart u eb is = let holds : eqb u e.unit ≡ true = eq-eqb u e.unit is in cc

    before : (u m : ℕ) → Among (list_at edges u) m → (k : ℕ) × (k < suc n) × P k u m
    before u m a = let f = old.sound u m a in let lt = f.1 in (f.0, omega (arith, lt), f.2)

    here : (u m : ℕ) → u ≡ e.unit → Among (list_at edges e.unit) m ⊎ (m ≡ e.module_unit) → (k : ℕ) × (k < suc n) × P k u m
    here u m is (inl a) = let Q : ℕ → Type 0 = λ v. Among (list_at edges v) m in before u m (subst Q (sym is) a)
    here u m is (inr same) = let Q : ℕ → ℕ → Type 0 = λ v w. P n v w in (n, omega arith, subst (λ v. Q v m) (sym is) (subst (λ w. Q e.unit w) (sym same) found.0))

    sound : (u m : ℕ) → Among (list_at (put_at edges e.unit e.module_unit) u) m → (b : Bool) → eqb u e.unit ≡ b → (k : ℕ) × (k < suc n) × P k u m
    sound u m a true eb =
        let is = eqb-true u e.unit eb in
        let W : ℕ → Type 0 = λ v. Among (list_at (put_at edges e.unit e.module_unit) v) m in
        let Q : List ℕ → Type 0 = λ l. Among l m in
        here u m is (among_cases (list_at edges e.unit) e.module_unit m (subst Q (put-here edges e.unit e.module_unit range) (subst W is a)))
    sound u m a false eb = let Q : List ℕ → Type 0 = λ l. Among l m in before u m (subst Q (put-there edges e.unit e.module_unit u (apart u eb)) a)

    stays : (u m : ℕ) → Among (list_at edges u) m → (b : Bool) → eqb u e.unit ≡ b → Among (list_at (put_at edges e.unit e.module_unit) u) m
    stays u m a true eb =
        let is = eqb-true u e.unit eb in
        let W : ℕ → Type 0 = λ v. Among (list_at (put_at edges e.unit e.module_unit) v) m in
        let R : ℕ → Type 0 = λ v. Among (list_at edges v) m in
        let Q : List ℕ → Type 0 = λ l. Among l m in
        subst W (sym is) (subst Q (sym (put-here edges e.unit e.module_unit range)) (among_more (list_at edges e.unit) (e.module_unit ∷ []) m (subst R is a)))
    stays u m a false eb = let Q : List ℕ → Type 0 = λ l. Among l m in subst Q (sym (put-there edges e.unit e.module_unit u (apart u eb))) a

    complete : (u m k : ℕ) → P k u m → (k < n) ⊎ (k ≡ n) → Among (list_at (put_at edges e.unit e.module_unit) u) m
    complete u m k i (inl a) = stays u m (old.complete u m k a i) (eqb u e.unit) refl
    complete u m k i (inr same) =
        let Q : ℕ → Type 0 = λ j. P j u m in
        let is = found.1 u m (subst Q same i) in
        let W : ℕ → Type 0 = λ v. Among (list_at (put_at edges e.unit e.module_unit) v) m in
        let R : List ℕ → Type 0 = λ l. Among l m in
        let T : ℕ → Type 0 = λ w. Among (list_at edges e.unit ++ e.module_unit ∷ []) w in
        subst W (sym is.0) (subst R (sym (put-here edges e.unit e.module_unit range)) (subst T (sym is.1) (among_last (list_at edges e.unit) e.module_unit)))

pub edges_next : (o : Outline) (units : List ℕ) → AreUnits o units → (edges : List (List ℕ)) (k : ℕ) (r : Option Edge) → length edges ≡ o.scopes → EdgeFound o.items k r → EdgesBelow o.items edges k → EdgesBelow o.items (put_some edges r) (suc k)
edges_next o units table edges k None long found old = pairs_same (UsesModule o.items) edges k old found
edges_next o units table edges k (Some e) long found old = let lt = unit_range o units table k e.unit e.module_unit found.0 in pairs_more (UsesModule o.items) edges k old e (omega (arith, lt, long)) found

pub length_put_some : (edges : List (List ℕ)) (r : Option Edge) → length (put_some edges r) ≡ length edges
length_put_some edges None = refl
length_put_some edges (Some e) = length_put edges e.unit e.module_unit

pub edges_all : (p : List Located) (edges : List (List ℕ)) (k : ℕ) → length p ≤ k → EdgesBelow p edges k → AreEdges p edges
edges_all p edges k le old u m = (λ a. let f = old.sound u m a in (f.0, f.2), λ d. let lt = slice_get_within p d.0 d.1.located d.1.at in old.complete u m d.0 (omega (arith, lt, le)) d.1)
