-- Scopes behind the modules that they use.
use Rattle.std.proofs.Common.{◌≡◌, ℕ, zero, suc, ◌<◌, ◌≤◌, ◌⊎◌, inl, inr, Bool, true, false, cond, ltb, List, [], ◌∷◌, ◌++◌, length, slice_get, replicate, Some, refl, sym, ap, ◌∙◌, subst, arith}
use Rattle.std.specs.Prelude.{Contains}
use Rattle.std.proofs.lemmas.Bool.{ltb-true, ltb-false}
use Rattle.std.proofs.lemmas.List.{length-replicate}
use Rattle.f_items.specs.declared.item.Item.{Item}
use Rattle.f_items.specs.declared.item.Item.TheVariants.{Uses, Takes}
use Rattle.f_items.specs.Places.{Located}
use Rattle.f_items.specs.Accessible.{IsModule}
use Rattle.f_items.specs.Order.{module_used, DependsOn, IsUnit, InOrder, NoMore, Next}
use Rattle.f_scope.specs.Program.{Outline}
use Rattle.f_use.specs.Places.{Among, list_at, put_at}
use Rattle.f_use.specs.Uses.{ItemUses}
use Rattle.f_use.specs.Associated.{ScopeUses, IsBehind, IsOrder}
use Rattle.f_order.specs.Marks.{marked, set_mark}
use Rattle.f_order.specs.Reach.{State, extended_one, extended}
use Rattle.f_order.specs.Units.{number_at, AreUnits}
use Rattle.f_order.specs.Scopes.{AreMembers, ScopesIn, UnitsIn}
use Rattle.f_order.proofs.Marking.{none_marked}
use Rattle.f_order.proofs.Edges.{PairsBelow, pairs_same, pairs_more}
use Rattle.f_order.proofs.Cycles.{contains_cases}
use Rattle.f_order.proofs.Search.{Extends, extends_one, extends_all}

-- ---- the scopes of units

-- the scope at place k of the table is in unit u
abbrev pub IsMember : List ℕ → ℕ → ℕ → ℕ → ℕ → Type 0
IsMember units count k u s = (s ≡ k) × (number_at units k ≡ u) × (u < count)

put_past : (lists : List (List ℕ)) (at n : ℕ) → length lists ≤ at → put_at lists at n ≡ lists
put_past lists at n le = pick (ltb at (length lists)) refl where
  pick : (b : Bool) → ltb at (length lists) ≡ b → put_at lists at n ≡ lists
  pick true e = let lt = ltb-true at (length lists) e in absurd (omega (arith, lt, le))
  pick false e = ap (λ b. cond b (Rattle.std.proofs.Math.ListN.set lists at (list_at lists at ++ n ∷ [])) lists) e

pub members_next : (units : List ℕ) (count : ℕ) (lists : List (List ℕ)) (k : ℕ) → length lists ≡ count → PairsBelow (IsMember units count) lists k → PairsBelow (IsMember units count) (put_at lists (number_at units k) k) (suc k)
members_next units count lists k long old = pick (ltb (number_at units k) count) refl where
  pick : (b : Bool) → ltb (number_at units k) count ≡ b → PairsBelow (IsMember units count) (put_at lists (number_at units k) k) (suc k)
  pick true e =
      let lt = ltb-true (number_at units k) count e in
      pairs_more (IsMember units count) lists k old (record { unit = number_at units k; module_unit = k }) (omega (arith, lt, long)) ((refl, refl, lt), λ u m i. (sym i.1, i.0))
  pick false e =
      let le = ltb-false (number_at units k) count e in
      let P : List (List ℕ) → Type 0 = λ l. PairsBelow (IsMember units count) l (suc k) in
      subst P (sym (put_past lists (number_at units k) k (omega (arith, le, long)))) (pairs_same (IsMember units count) lists k old (λ u m i. let is = i.1 in let lt = i.2 in omega (arith, is, lt, le)))

pub members_all : (units : List ℕ) (count : ℕ) (lists : List (List ℕ)) (n : ℕ) → n ≤ count → count ≤ n → PairsBelow (IsMember units count) lists n → AreMembers units count lists
members_all units count lists n le ge old = record {
  within = λ u s a. (let f = old.sound u s a in let lt = f.1 in let is = f.2.0 in (omega (arith, lt, is, le), ap (number_at units) is ∙ f.2.1));
  all = λ u s lt e r. old.complete u s s (omega (arith, lt, ge)) (refl, e, r);
}

-- ---- one scope behind others

behind_snoc : (p : List Located) (ds xs : List ℕ) (s : ℕ) → IsBehind p ds xs → ((m : ℕ) → ScopeUses p s m → Among ds m ⊎ Among xs m) → IsBehind p ds (xs ++ s ∷ [])
behind_snoc p ds [] s b f = (λ m u. pick m (f m u), tt) where
  pick : (m : ℕ) → Among ds m ⊎ Among [] m → Among ds m
  pick m (inl a) = a
  pick m (inr a) = let e = a.1 in absurd (cc)
behind_snoc p ds (x ∷ xs) s b f = (b.0, behind_snoc p (x ∷ ds) xs s b.1 (λ m u. pick m (f m u))) where
  pick : (m : ℕ) → Among ds m ⊎ Among (x ∷ xs) m → Among (x ∷ ds) m ⊎ Among xs m
  pick m (inl a) = inl (suc a.0, a.1)
  pick m (inr a) = at a.0 a.1 where
    at : (i : ℕ) → slice_get (x ∷ xs) i ≡ Some m → Among (x ∷ ds) m ⊎ Among xs m
    at zero e = inl (0, e)
    at (suc i) e = inr (i, e)

module _ (o : Outline) where
  -- the modules that a scope uses are there
  abbrev pub Known : State → ℕ → Type 0
  Known s n = (m : ℕ) → ScopeUses o.items n m → marked s.1 m ≡ true

  pub one_in : (s : State) (n : ℕ) → n < o.scopes → Known s n → ScopesIn o s → ScopesIn o (extended_one n s)
  one_in s n lt known old = record { agrees = x.agrees old.agrees; within = λ v a. within v (x.only v a); behind = behind (marked s.1 n) refl; count = x.count ∙ old.count } where
    x : Extends (n ∷ []) s (extended_one n s)
    x = let count = old.count in extends_one n s (omega (arith, count, lt))

    within : (v : ℕ) → Among s.0 v ⊎ Among (n ∷ []) v → v < o.scopes
    within v (inl a) = old.within v a
    within v (inr a) = at a.0 a.1 where
      at : (i : ℕ) → slice_get (n ∷ []) i ≡ Some v → v < o.scopes
      at zero e = let is : n ≡ v = cc in omega (arith, is, lt)
      at (suc i) e = absurd (cc)

    behind : (b : Bool) → marked s.1 n ≡ b → IsBehind o.items [] (extended_one n s).0
    behind b e = let P : Bool → Type 0 = λ c. IsBehind o.items [] (cond c s (s.0 ++ n ∷ [], set_mark s.1 n)).0 in subst P (sym e) (pick b) where
      pick : (b : Bool) → IsBehind o.items [] (cond b s (s.0 ++ n ∷ [], set_mark s.1 n)).0
      pick true = old.behind
      pick false = behind_snoc o.items [] s.0 n old.behind (λ m u. inr ((old.agrees m).0 (known m u)))

  pub all_in : (ns : List ℕ) (s : State) → ((n : ℕ) → Among ns n → n < o.scopes) → ((n : ℕ) → Among ns n → Known s n) → ScopesIn o s → ScopesIn o (extended ns s)
  unfolding extended
  all_in [] s within known old = old
  all_in (n ∷ ns) s within known old =
      let lt = within n (0, refl) in
      let count = old.count in
      let x = extends_one n s (omega (arith, count, lt)) in
      all_in ns (extended_one n s) (λ v a. within v (suc a.0, a.1)) (λ v a m u. x.keeps_marks m (known v (suc a.0, a.1) m u)) (one_in s n lt (known n (0, refl)) old)

  pub none_in : (s : State) → s ≡ ([], replicate o.scopes false) → ScopesIn o s
  none_in s e = let P : State → Type 0 = λ t. ScopesIn o t in subst P (sym e) (record { agrees = λ v. (λ m. absurd (none_marked o.scopes v m), λ a. absurd (nothing v a)); within = λ v a. absurd (nothing v a); behind = tt; count = length-replicate o.scopes false }) where
    nothing : (v : ℕ) → Among [] v → ⊥
    nothing v a = let i = a.1 in cc

  -- ---- units

  module _ (units : List ℕ) (table : AreUnits o units) where
    used_name : (i : Item) (m : ℕ) → ItemUses o.items i m → (name : List ℕ) × (module_used i ≡ Some name) × IsModule o.items name m
    used_name (Uses place n c b) m is = (n.bytes, refl, is)
    used_name (Takes n l u r) m is = (n, refl, is)
    used_name _ m is = absurd is

    -- the unit of a scope depends on that of a module that the scope uses
    pub depends : (s m : ℕ) → ScopeUses o.items s m → DependsOn o.items (number_at units s) (number_at units m)
    depends s m u =
        let n = used_name u.located.item m u.uses in
        let i = n.2 in (
          u.place,
          record {
            located = u.located;
            name = n.0;
            at = u.at;
            uses = n.1;
            unit_is = sym (table.numbers u.place u.located u.at) ∙ ap (number_at units) u.scope_is;
            module_is = record { scope = m; is_module = i; unit_is = sym (table.numbers i.place i.located i.at) ∙ ap (number_at units) i.scope_is };
          },
        )

    pub module_inside : (s m : ℕ) → ScopeUses o.items s m → (m < o.scopes) × IsUnit o.items (number_at units m)
    module_inside s m w =
        let d = (depends s m w).1.module_is in
        let i = (used_name w.located.item m w.uses).2 in
        let lt = table.inside i.place i.located i.at in
        let is = i.scope_is in
        (omega (arith, lt, is), (d.is_module.place, d.is_module.located, d.is_module.at, d.unit_is))

-- the scopes of these units are there
abbrev pub AllOf : Outline → List ℕ → List ℕ → State → Type 0
AllOf o units done s = (u v : ℕ) → Contains done u → v < o.scopes → number_at units v ≡ u → marked s.1 v ≡ true

pub record Going (o : Outline) (units rest : List ℕ) (s : State) : Type 0 where
  pub are : ScopesIn o s
  pub done : List ℕ
  pub order : InOrder o.items done rest
  pub all : AllOf o units done s

pub going_first : (o : Outline) (units order : List ℕ) (s : State) → InOrder o.items [] order → ScopesIn o s → Going o units order s
going_first o units order s ordered are = record { are = are; done = []; order = ordered; all = λ u v c. (let lt = c.1 in absurd (omega (arith, lt))) }

pub going_last : (o : Outline) (units rest : List ℕ) (s : State) → rest ≡ [] → Going o units rest s → UnitsIn o units s
going_last o units [] s e g = last g.order where
  last : InOrder o.items g.done [] → UnitsIn o units s
  last (NoMore _ all) = record { are = g.are; all = λ u v i. g.all u v (all u i) }
going_last o units (u ∷ us) s e g = absurd (cc)

module _ (o : Outline) (units : List ℕ) (table : AreUnits o units) (lists : List (List ℕ)) (members : AreMembers units o.scopes lists) where
  pub going_next : (u : ℕ) (rest : List ℕ) (s t : State) → Going o units (u ∷ rest) s → t ≡ extended (list_at lists u) s → Going o units rest t
  going_next u rest s t g e = let P : State → Type 0 = λ q. Going o units rest q in subst P (sym e) (pick g.order) where
    pick : InOrder o.items g.done (u ∷ rest) → Going o units rest (extended (list_at lists u) s)
    pick (Next _ _ _ ready least next) = record { are = all_in o (list_at lists u) s within known g.are; done = u ∷ g.done; order = next; all = λ w v c lt is. all w v lt is (contains_cases o.items u w g.done c) } where
      within : (n : ℕ) → Among (list_at lists u) n → n < o.scopes
      within n a = (members.within u n a).0

      known : (n : ℕ) → Among (list_at lists u) n → Known o s n
      known n a m uses =
          let P : ℕ → Type 0 = λ w. DependsOn o.items w (number_at units m) in
          let d = subst P (members.within u n a).1 (depends o units table n m uses) in
          g.all (number_at units m) m (ready.modules_are (number_at units m) d) (module_inside o units table n m uses).0 refl

      x : Extends (list_at lists u) s (extended (list_at lists u) s)
      x = let count = g.are.count in extends_all (list_at lists u) s (λ v a. let lt = within v a in omega (arith, lt, count))

      range : u < o.scopes
      range = let i = ready.is_unit in let lt = table.within i.0 i.1 i.2 in let is = i.3 in omega (arith, lt, is)

      all : (w v : ℕ) → v < o.scopes → number_at units v ≡ w → (w ≡ u) ⊎ Contains g.done w → marked (extended (list_at lists u) s).1 v ≡ true
      all w v lt is (inl same) = x.all v (members.all u v lt (is ∙ same) range)
      all w v lt is (inr old) = x.keeps_marks v (g.all w v old lt is)

module _ (o : Outline) (units : List ℕ) (table : AreUnits o units) where
  pub others_in : (s t : State) (n : ℕ) → n < o.scopes → UnitsIn o units s → t ≡ extended_one n s → UnitsIn o units t
  others_in s t n lt old e = let P : State → Type 0 = λ q. UnitsIn o units q in subst P (sym e) (record { are = one_in o s n lt known old.are; all = λ u v i range is. x.keeps_marks v (old.all u v i range is) }) where
    known : Known o s n
    known m uses = let i = module_inside o units table n m uses in old.all (number_at units m) m i.1 i.0 refl

    x : Extends (n ∷ []) s (extended_one n s)
    x = let count = old.are.count in extends_one n s (omega (arith, count, lt))

  pub others_below : (s t : State) (n : ℕ) → n < o.scopes → UnitsIn o units s → t ≡ extended_one n s → ((v : ℕ) → v < n → marked s.1 v ≡ true) → (v : ℕ) → v < suc n → marked t.1 v ≡ true
  others_below s t n lt old e below v le = ap (λ q. marked q.1 v) e ∙ pick (ltb v n) refl where
    x : Extends (n ∷ []) s (extended_one n s)
    x = let count = old.are.count in extends_one n s (omega (arith, count, lt))

    pick : (b : Bool) → ltb v n ≡ b → marked (extended_one n s).1 v ≡ true
    pick true e = x.keeps_marks v (below v (ltb-true v n e))
    pick false e = let ge = ltb-false v n e in let same : n ≡ v = omega (arith, ge, le) in x.all v (0, ap Some same)

  pub order_is : (s : State) (n : ℕ) → o.scopes ≤ n → UnitsIn o units s → ((v : ℕ) → v < n → marked s.1 v ≡ true) → IsOrder o s.0
  order_is s n le old below = record { all = λ v lt. (old.are.agrees v).0 (below v (omega (arith, lt, le))); within = old.are.within; behind = old.are.behind }
