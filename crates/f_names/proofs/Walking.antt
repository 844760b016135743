-- The first broken rule of a program.
use Rattle.std.proofs.Common.{◌≡◌, ℕ, zero, suc, ◌+◌, ◌<◌, ◌≤◌, ◌⊎◌, inl, inr, Bool, true, false, cond, eqb, ltb, List, [], ◌∷◌, ◌++◌, length, slice_get, replicate, Option, Some, None, refl, sym, ap, ◌∙◌, subst, arith}
use Rattle.std.specs.Prelude.{Contains}
use Rattle.std.proofs.lemmas.Bool.{ltb-true, ltb-false, lt-ltb, eqb-true, eq-eqb}
use Rattle.std.proofs.lemmas.List.{append_assoc, get_or-set_same, get_or-set_other, get_or_past, get_or-replicate, length-replicate}
use Rattle.std.proofs.Math.ListN.{set}
use Rattle.std.proofs.lemmas.Option.{slice_get_within}
use Rattle.f_items.specs.Places.{Located, unit_of, At}
use Rattle.f_items.specs.Order.{IsOnCycle, IsUnit, InOrder, NoMore, Next}
use Rattle.f_items.specs.Rules.{Breaks}
use Rattle.f_items.specs.Scoped.{IsNamedTwice, IsFirst, BreaksLeast, BreaksIn, AreKept, BreaksFirst, OnCycle, InUnit, IsKept}
use Rattle.f_items.proofs.Single.{three}
use Rattle.f_scope.proofs.Scans.{some_one}
use Rattle.f_scope.specs.Program.{Outline}
use Rattle.f_use.specs.Places.{Among, list_at, put_at}
use Rattle.f_order.specs.declared.units.Edge.{Edge}
use Rattle.f_order.specs.Units.{AreUnits, UnitFound}
use Rattle.f_order.proofs.Edges.{PairsBelow, pairs_none, pairs_same, pairs_more, length_put}
use Rattle.f_order.proofs.Cycles.{contains_cases}
use Rattle.f_rules.specs.RuleOf.{number_of, RuleFound, RuleAt}
use Rattle.f_names.specs.declared.walk.Broken.{Broken}
use Rattle.f_names.specs.Lists.{put_unit, Ascending, ArePlaces}
use Rattle.f_names.specs.Walk.{KeptAt, FirstIn, FirstOf}

-- ---- places of units

-- the item at place k stands in unit u
abbrev pub Stands : List Located → ℕ → ℕ → ℕ → Type 0
Stands p k u m = (m ≡ k) × ((l : Located) × At p k l × (unit_of l ≡ u))

get_snoc : (xs : List ℕ) (n j y : ℕ) → slice_get (xs ++ n ∷ []) j ≡ Some y → (slice_get xs j ≡ Some y) ⊎ ((j ≡ length xs) × (y ≡ n))
get_snoc [] n zero y e = let is : n ≡ y = cc in inr (refl, sym is)
get_snoc [] n (suc j) y e = absurd (cc)
get_snoc (x ∷ xs) n zero y e = inl e
get_snoc (x ∷ xs) n (suc j) y e = pick (get_snoc xs n j y e) where
  pick : (slice_get xs j ≡ Some y) ⊎ ((j ≡ length xs) × (y ≡ n)) → (slice_get xs j ≡ Some y) ⊎ ((suc j ≡ suc (length xs)) × (y ≡ n))
  pick (inl a) = inl a
  pick (inr a) = inr (ap suc a.0, a.1)

ascending_snoc : (xs : List ℕ) (n : ℕ) → Ascending xs → ((k : ℕ) → Among xs k → k < n) → Ascending (xs ++ n ∷ [])
ascending_snoc xs n asc below i j x y lt ex ey = pick (get_snoc xs n i x ex) (get_snoc xs n j y ey) where
  pick : (slice_get xs i ≡ Some x) ⊎ ((i ≡ length xs) × (x ≡ n)) → (slice_get xs j ≡ Some y) ⊎ ((j ≡ length xs) × (y ≡ n)) → x < y
  pick (inl a) (inl b) = asc i j x y lt a b
  pick (inl a) (inr b) = let less = below x (i, a) in let is = b.1 in omega (arith, less, is)
  pick (inr a) (inl b) = let within = slice_get_within xs j y b in let is = a.0 in absurd (omega (arith, within, is, lt))
  pick (inr a) (inr b) = let ia = a.0 in let ib = b.0 in absurd (omega (arith, ia, ib, lt))

put-here : (lists : List (List ℕ)) (at n : ℕ) → at < length lists → list_at (put_at lists at n) at ≡ list_at lists at ++ n ∷ []
put-here lists at n lt = ap (λ b. list_at (cond b (set lists at (list_at lists at ++ n ∷ [])) lists) at) (lt-ltb at (length lists) lt) ∙ get_or-set_same lists at (list_at lists at ++ n ∷ []) [] lt

put-there : (lists : List (List ℕ)) (at n u : ℕ) → (u ≡ at → ⊥) → list_at (put_at lists at n) u ≡ list_at lists u
put-there lists at n u apart = pick (ltb at (length lists)) where
  pick : (b : Bool) → list_at (cond b (set lists at (list_at lists at ++ n ∷ [])) lists) u ≡ list_at lists u
  pick true = get_or-set_other lists at u (list_at lists at ++ n ∷ []) [] apart
  pick false = refl

-- the lists have the places below one, in their order
pub record ListsBelow (p : List Located) (lists : List (List ℕ)) (n : ℕ) : Type 0 where
  pub pairs : PairsBelow (Stands p) lists n
  pub ascending : (u : ℕ) → Ascending (list_at lists u)

no_list : (c u : ℕ) → list_at (replicate c []) u ≡ []
no_list c u = pick (ltb u c) refl where
  past : (lists : List (List ℕ)) → lists ≡ replicate c [] → c ≤ u → list_at lists u ≡ []
  past lists e le = let n = ap length e ∙ length-replicate c [] in get_or_past lists u [] (omega (arith, le, n))

  pick : (b : Bool) → ltb u c ≡ b → list_at (replicate c []) u ≡ []
  pick true e = get_or-replicate c u [] [] (ltb-true u c e)
  pick false e = past (replicate c []) refl (ltb-false u c e)

pub lists_none : (p : List Located) (c : ℕ) → ListsBelow p (replicate c []) 0
lists_none p c = record { pairs = pairs_none (Stands p) c; ascending = λ u. let P : List ℕ → Type 0 = λ l. Ascending l in subst P (sym (no_list c u)) nothing } where
  nothing : Ascending []
  nothing i j x y lt ex ey = absurd (cc)

module _ (o : Outline) (units : List ℕ) (table : AreUnits o units) (lists : List (List ℕ)) (k : ℕ) (long : length lists ≡ o.scopes) (old : ListsBelow o.items lists k) where
  pub lists_next : (r : Option ℕ) → UnitFound o.items k r → ListsBelow o.items (put_unit lists r k) (suc k)
  lists_next None none = record { pairs = pairs_same (Stands o.items) lists k old.pairs (λ u m s. none s.1.0 s.1.1); ascending = old.ascending }
  lists_next (Some u) found = record { pairs = pairs_more (Stands o.items) lists k old.pairs (record { unit = u; module_unit = k }) range ((refl, found), λ v m s. (same v s.1, s.0)); ascending = λ v. asc v (eqb v u) refl } where
    range : u < length lists
    range = let lt = table.within k found.0 found.1 in let is = found.2 in omega (arith, lt, is, long)

    same : (v : ℕ) → (l : Located) × At o.items k l × (unit_of l ≡ v) → v ≡ u
    same v s = sym s.2 ∙ ap unit_of (some_one (slice_get o.items k) s.0 found.0 s.1 found.1) ∙ found.2

    below : (j : ℕ) → Among (list_at lists u) j → j < k
    below j a = let f = old.pairs.sound u j a in let lt = f.1 in let is = f.2.0 in omega (arith, lt, is)

    asc : (v : ℕ) (b : Bool) → eqb v u ≡ b → Ascending (list_at (put_at lists u k) v)
    asc v true e =
        let P : List ℕ → Type 0 = λ l. Ascending l in
        subst P (sym (ap (list_at (put_at lists u k)) (eqb-true v u e) ∙ put-here lists u k range)) (ascending_snoc (list_at lists u) k (old.ascending u) below)
    asc v false e =
        let P : List ℕ → Type 0 = λ l. Ascending l in
        subst P (sym (put-there lists u k v (λ is. let holds : eqb v u ≡ true = eq-eqb v u is in cc))) (old.ascending v)

pub length_unit : (lists : List (List ℕ)) (r : Option ℕ) (k : ℕ) → length (put_unit lists r k) ≡ length lists
length_unit lists None k = refl
length_unit lists (Some u) k = length_put lists u k

pub lists_all : (p : List Located) (lists : List (List ℕ)) (n : ℕ) → length p ≤ n → ListsBelow p lists n → ArePlaces p lists
lists_all p lists n le old = record {
  all = λ k l at. (let lt = slice_get_within p k l at in old.pairs.complete (unit_of l) k k (omega (arith, lt, le)) (refl, (l, at, refl)));
  within = λ u k a. within u k (old.pairs.sound u k a);
  ascending = old.ascending;
} where
  within : (u k : ℕ) → (j : ℕ) × (j < n) × Stands p j u k → (l : Located) × At p k l × (unit_of l ≡ u)
  within u k f = let P : ℕ → Type 0 = λ w. (l : Located) × At p w l × (unit_of l ≡ u) in subst P (sym f.2.0) f.2.1

-- ---- along places

module _ (p : List Located) where
  pub first_here : (k : ℕ) (ks : List ℕ) (b : Broken) → b.place ≡ k → RuleAt p b.place (Some b.rule) → FirstIn p (k ∷ ks) (Some b)
  first_here k ks b is breaks = (0, ap Some (sym is), breaks, λ j i lt. absurd (omega (arith, lt)))

  pub first_next : (k : ℕ) (ks : List ℕ) (r : Option Broken) → KeptAt p k → FirstIn p ks r → FirstIn p (k ∷ ks) r
  first_next k ks None kept rest = λ i a. pick i a.0 a.1 where
    pick : (i j : ℕ) → slice_get (k ∷ ks) j ≡ Some i → KeptAt p i
    pick i zero e = let is : k ≡ i = cc in let P : ℕ → Type 0 = λ w. KeptAt p w in subst P is kept
    pick i (suc j) e = rest i (j, e)
  first_next k ks (Some b) kept rest = (suc rest.0, rest.1, rest.2, λ j i lt e. pick j i lt e) where
    pick : (j i : ℕ) → j < suc rest.0 → slice_get (k ∷ ks) j ≡ Some i → KeptAt p i
    pick zero i lt e = let is : k ≡ i = cc in let P : ℕ → Type 0 = λ w. KeptAt p w in subst P is kept
    pick (suc j) i lt e = rest.3 j i (omega (arith, lt)) e

  pub first_none : (ks : List ℕ) → ks ≡ [] → FirstIn p ks None
  first_none [] e k a = let i = a.1 in absurd (cc)
  first_none (x ∷ xs) e k a = absurd (cc)

  -- ---- along units

  module _ (lists : List (List ℕ)) where
    pub of_here : (u : ℕ) (us : List ℕ) (b : Broken) → FirstIn p (list_at lists u) (Some b) → FirstOf p lists (u ∷ us) (Some b)
    unfolding FirstOf
    of_here u us b f = inl (b, refl, f)

    pub of_next : (u : ℕ) (us : List ℕ) (r : Option Broken) → FirstIn p (list_at lists u) None → FirstOf p lists us r → FirstOf p lists (u ∷ us) r
    unfolding FirstOf
    of_next u us r kept rest = inr (kept, rest)

    pub of_none : (us : List ℕ) → us ≡ [] → FirstOf p lists us None
    unfolding FirstOf
    of_none [] e = refl
    of_none (u ∷ us) e = absurd (cc)

    -- ---- what it says of the program

    module _ (places : ArePlaces p lists) where
      -- nothing is broken in a unit whose items break nothing
      unit_kept : (u : ℕ) → FirstIn p (list_at lists u) None → (k : ℕ) → BreaksIn p u k → ⊥
      unit_kept u f k b =
          let P : ℕ → Type 0 = λ w. Among (list_at lists w) k in
          f k (subst P b.unit_is (places.all k b.item b.at)) b.item b.at b.rule b.breaks

      least : (k : ℕ) (l : Located) (at : At p k l) (b : Broken) → b.place ≡ k → RuleAt p b.place (Some b.rule) → BreaksLeast p k (number_of b.rule)
      least k l at b is breaks =
          let P : ℕ → Type 0 = λ w. RuleAt p w (Some b.rule) in
          let f = subst P is breaks l at in
          record { item = l; at = at; breaks = f.0; least = f.1 }

      first_is : (u : ℕ) (b : Broken) → FirstIn p (list_at lists u) (Some b) → IsFirst (BreaksIn p u) b.place × BreaksLeast p b.place (number_of b.rule)
      first_is u b f = (record { here = here; none_before = none }, least b.place there.0 there.1 b refl f.2) where
        there : (l : Located) × At p b.place l × (unit_of l ≡ u)
        there = places.within u b.place (f.0, f.1)

        here : BreaksIn p u b.place
        here = record { item = there.0; rule = number_of b.rule; at = there.1; unit_is = there.2; breaks = (f.2 there.0 there.1).0 }

        none : (j : ℕ) → j < b.place → BreaksIn p u j → ⊥
        none j lt i = pick (three a.0 f.0) where
          a : Among (list_at lists u) j
          a = subst (λ w. Among (list_at lists w) j) i.unit_is (places.all j i.item i.at)

          pick : (a.0 < f.0) ⊎ ((a.0 ≡ f.0) ⊎ (f.0 < a.0)) → ⊥
          pick (inl less) = f.3 a.0 j less a.1 i.item i.at i.rule i.breaks
          pick (inr (inl same)) =
              let both : Some j ≡ Some b.place = sym a.1 ∙ ap (slice_get (list_at lists u)) same ∙ f.1 in
              let is : j ≡ b.place = cc in
              omega (arith, lt, is)
          pick (inr (inr more)) = let gt = places.ascending u f.0 a.0 b.place j more f.1 a.1 in omega (arith, lt, gt)

      kept_snoc : (before : List ℕ) (u : ℕ) → AreKept p before → ((k : ℕ) → BreaksIn p u k → ⊥) → AreKept p (before ++ u ∷ [])
      kept_snoc [] u kept none = (none, tt)
      kept_snoc (x ∷ xs) u kept none = (kept.0, kept_snoc xs u kept.1 none)

      module _ (names : (k : ℕ) → IsNamedTwice p k → ⊥) (no_cycle : (k : ℕ) → IsOnCycle p k → ⊥) (order : List ℕ) (ordered : InOrder p [] order) where
        broken_from : (before us : List ℕ) → before ++ us ≡ order → AreKept p before → (b : Broken) → FirstOf p lists us (Some b) → BreaksFirst p b.place (number_of b.rule)
        unfolding FirstOf
        broken_from before [] e kept b f = absurd (cc)
        broken_from before (u ∷ us) e kept b (inl f) =
            let same : f.0 ≡ b = (let both : Some b ≡ Some f.0 = f.1 in cc) in
            let P : Broken → Type 0 = λ x. FirstIn p (list_at lists u) (Some x) in
            let first = first_is u b (subst P same f.2) in
            let Q : List ℕ → Type 0 = λ l. InOrder p [] l in
            InUnit b.place (number_of b.rule) before u us names no_cycle (subst Q (sym e) ordered) kept first.0 first.1
        broken_from before (u ∷ us) e kept b (inr f) = broken_from (before ++ u ∷ []) us (append_assoc before (u ∷ []) us ∙ e) (kept_snoc before u kept (unit_kept u f.0)) b f.1

        pub broken_first : (b : Broken) → FirstOf p lists order (Some b) → BreaksFirst p b.place (number_of b.rule)
        broken_first b f = broken_from [] order refl tt b f

        -- each unit is kept
        all_kept : (us : List ℕ) → FirstOf p lists us None → AreKept p us
        unfolding FirstOf
        all_kept [] f = tt
        all_kept (u ∷ us) (inl f) = absurd (let bad : None ≡ Some f.0 = f.1 in cc)
        all_kept (u ∷ us) (inr f) = (unit_kept u f.0, all_kept us f.1)

        in_units : (done us : List ℕ) → InOrder p done us → AreKept p us → (u : ℕ) → IsUnit p u → Contains done u ⊎ ((k : ℕ) → BreaksIn p u k → ⊥)
        in_units done [] (NoMore _ all) kept u i = inl (all u i)
        in_units done (v ∷ vs) (Next _ _ _ ready least rest) kept u i = pick (in_units (v ∷ done) vs rest kept.1 u i) where
          more : (u ≡ v) ⊎ Contains done u → Contains done u ⊎ ((k : ℕ) → BreaksIn p u k → ⊥)
          more (inl e) = let P : ℕ → Type 0 = λ w. (k : ℕ) → BreaksIn p w k → ⊥ in inr (subst P (sym e) kept.0)
          more (inr c) = inl c

          pick : Contains (v ∷ done) u ⊎ ((k : ℕ) → BreaksIn p u k → ⊥) → Contains done u ⊎ ((k : ℕ) → BreaksIn p u k → ⊥)
          pick (inl c) = more (contains_cases p v u done c)
          pick (inr none) = inr none

        pub kept_all : FirstOf p lists order None → IsKept p
        kept_all f = record { unit_names = names; no_cycle = no_cycle; rules = λ k r l at b. pick k r l at b (in_units [] order ordered (all_kept order f) (unit_of l) (k, l, at, refl)) } where
          pick : (k r : ℕ) (l : Located) → At p k l → Breaks p k l r → Contains [] (unit_of l) ⊎ ((j : ℕ) → BreaksIn p (unit_of l) j → ⊥) → ⊥
          pick k r l at b (inl c) = let lt = c.1 in omega (arith, lt)
          pick k r l at b (inr none) = none k (record { item = l; rule = r; at = at; unit_is = refl; breaks = b })

pub on_cycle : (p : List Located) (k : ℕ) → ((j : ℕ) → IsNamedTwice p j → ⊥) → IsFirst (IsOnCycle p) k → BreaksFirst p k 5
on_cycle p k names first = OnCycle k names first
