-- Cycles of modules, and that there is none where units have an order.
use Rattle.std.proofs.Common.{◌≡◌, ℕ, zero, suc, ◌<◌, ◌≤◌, ◌⊎◌, inl, inr, Bool, true, false, ◌&&◌, not, cond, ltb, List, [], ◌∷◌, ◌++◌, length, get_or, replicate, reverse, Some, None, refl, sym, ap, ◌∙◌, subst, arith}
use Rattle.std.specs.Prelude.{Decides, Contains}
use Rattle.std.proofs.lemmas.Bool.{ltb-true, ltb-false}
use Rattle.std.proofs.lemmas.List.{append-nil, append_assoc, length-replicate, reverse-append}
use Rattle.std.proofs.lemmas.Option.{slice_get_within}
use Rattle.f_items.specs.Places.{Located}
use Rattle.f_items.specs.Order.{UsesModule, DependsOn, Reaches, Same, Along, IsOnCycle, IsUnit, IsModuleUnit, IsReady, InOrder, NoMore, Next}
use Rattle.f_scope.specs.Program.{Outline}
use Rattle.f_use.specs.Places.{list_at}
use Rattle.f_order.specs.declared.units.Edge.{Edge}
use Rattle.f_order.specs.Units.{EdgeFound}
use Rattle.f_order.specs.Marks.{marked, set_mark, are_marked, unmarked}
use Rattle.f_order.specs.Graph.{IsGraph, is_next, is_other, LeastFound, AreReached}
use Rattle.f_order.specs.Order.{CycleFound, AreDone, AllModules, with_other, done_other}
use Rattle.f_order.proofs.Marking.{none_marked, length_set, set_here, set_cases, set_keeps, set_fewer, all_marked, all_are, one_unmarked}
use Rattle.f_order.proofs.Search.{reaches_more}

-- ---- the test of one place

pub no_edge_no_cycle : (p : List Located) (k : ℕ) → EdgeFound p k None → Decides false (IsOnCycle p k)
no_edge_no_cycle p k none = (λ e. absurd (cc), λ i. absurd (none i.unit i.m i.uses))

pub edge_on_cycle : (p : List Located) (k : ℕ) (e : Edge) (marks : List Bool) (b : Bool) → EdgeFound p k (Some e) → AreReached p e.module_unit marks → b ≡ marked marks e.unit → Decides b (IsOnCycle p k)
edge_on_cycle p k e marks b found reached is = (λ yes_. record { unit = e.unit; m = e.module_unit; uses = found.0; back = (reached e.unit).0 (sym is ∙ yes_) }, λ i. back i) where
  back : IsOnCycle p k → b ≡ true
  back i =
      let same = found.1 i.unit i.m i.uses in
      let P : ℕ → ℕ → Type 0 = λ m u. Reaches p m u in
      is ∙ (reached e.unit).1 (subst (λ m. P m e.unit) same.1 (subst (λ u. P i.m u) same.0 i.back))

-- ---- the first

smaller : (k n : ℕ) → k < suc n → (k < n) ⊎ (k ≡ n)
smaller k n lt = pick (ltb k n) refl where
  pick : (b : Bool) → ltb k n ≡ b → (k < n) ⊎ (k ≡ n)
  pick true e = inl (ltb-true k n e)
  pick false e = let le = ltb-false k n e in inr (omega (arith, le, lt))

-- none below the next place
pub none_more : (P : ℕ → Type 0) (n : ℕ) → ((j : ℕ) → j < n → P j → ⊥) → (P n → ⊥) → (j : ℕ) → j < suc n → P j → ⊥
none_more P n old here j lt h = pick (smaller j n lt) where
  pick : (j < n) ⊎ (j ≡ n) → ⊥
  pick (inl a) = old j a h
  pick (inr e) = here (subst P e h)

pub no_cycle_all : (p : List Located) (n : ℕ) → length p ≤ n → ((j : ℕ) → j < n → IsOnCycle p j → ⊥) → CycleFound p None
no_cycle_all p n le none k i = let lt = slice_get_within p k i.uses.located i.uses.at in none k (omega (arith, lt, le)) i

-- ---- where units have an order

module _ (p : List Located) where
  contains_first : (u : ℕ) (ds : List ℕ) → Contains (u ∷ ds) u
  contains_first u ds = (0, omega arith, refl)

  contains_more : (u v : ℕ) (ds : List ℕ) → Contains ds v → Contains (u ∷ ds) v
  contains_more u v ds c = let lt = c.1 in (suc c.0, omega (arith, lt), c.2)

  pub contains_cases : (u v : ℕ) (ds : List ℕ) → Contains (u ∷ ds) v → (v ≡ u) ⊎ Contains ds v
  contains_cases u v ds c = pick c.0 c.1 c.2 where
    pick : (k : ℕ) → k < length (u ∷ ds) → get_or (u ∷ ds) k v ≡ v → (v ≡ u) ⊎ Contains ds v
    pick zero lt e = inl (sym e)
    pick (suc k) lt e = inr (k, omega (arith, lt), e)

  -- what was looked at leads only to what was
  abbrev Closed : List ℕ → Type 0
  Closed done = (u m : ℕ) → Contains done u → DependsOn p u m → Contains done m

  abbrev NoLoop : List ℕ → Type 0
  NoLoop done = (u m : ℕ) → Contains done u → DependsOn p u m → Reaches p m u → ⊥

  closed_reaches : (done : List ℕ) → Closed done → (a b : ℕ) → Reaches p a b → Contains done a → Contains done b
  closed_reaches done closed a _ (Same _) c = c
  closed_reaches done closed a b (Along _ n _ d r) c = closed_reaches done closed n b r (closed a n c d)

  closed_next : (done : List ℕ) (u : ℕ) → IsReady p done u → Closed done → Closed (u ∷ done)
  closed_next done u ready closed v m c d = pick (contains_cases u v done c) where
    pick : (v ≡ u) ⊎ Contains done v → Contains (u ∷ done) m
    pick (inl e) = let P : ℕ → Type 0 = λ w. DependsOn p w m in contains_more u m done (ready.modules_are m (subst P e d))
    pick (inr old) = contains_more u m done (closed v m old d)

  no_loop_next : (done : List ℕ) (u : ℕ) → IsReady p done u → Closed done → NoLoop done → NoLoop (u ∷ done)
  no_loop_next done u ready closed none v m c d r = pick (contains_cases u v done c) where
    pick : (v ≡ u) ⊎ Contains done v → ⊥
    pick (inl e) =
        let P : ℕ → Type 0 = λ w. DependsOn p w m in
        let Q : ℕ → Type 0 = λ w. Reaches p m w in
        ready.not_done (closed_reaches done closed m u (subst Q e r) (ready.modules_are m (subst P e d)))
    pick (inr old) = none v m old d r

  in_order_none : (done us : List ℕ) → InOrder p done us → Closed done → NoLoop done → (k : ℕ) → IsOnCycle p k → ⊥
  in_order_none done [] (NoMore _ all) closed none k i = none i.unit i.m (all i.unit (k, i.uses.located, i.uses.at, i.uses.unit_is)) (k, i.uses) i.back
  in_order_none done (u ∷ us) (Next _ _ _ ready least rest) closed none k i = in_order_none (u ∷ done) us rest (closed_next done u ready closed) (no_loop_next done u ready closed none) k i

  pub ordered_no_cycle : (us : List ℕ) → InOrder p [] us → (k : ℕ) → IsOnCycle p k → ⊥
  ordered_no_cycle us ordered = in_order_none [] us ordered (λ u m c d. absurd (nothing u c)) (λ u m c d r. nothing u c) where
    nothing : (u : ℕ) → Contains [] u → ⊥
    nothing u c = let lt = c.1 in omega (arith, lt)

-- ---- one unit more

pub unit_first : (o : Outline) (done : List Bool) → done ≡ replicate o.scopes false → AreDone o [] done
unit_first o done e = record { behind = λ us h. h; tells = λ u. tells u; count = ap length e ∙ length-replicate o.scopes false } where
  tells : (u : ℕ) → Decides (marked done u) (Contains [] u)
  tells u = (λ m. absurd (none_marked o.scopes u (ap (λ l. marked l u) (sym e) ∙ m)), λ c. (let lt = c.1 in absurd (omega (arith, lt))))

reverse_last : (order : List ℕ) (u : ℕ) → reverse (order ++ u ∷ []) ≡ u ∷ reverse order
reverse_last order u = reverse-append order (u ∷ [])

pub unit_more : (o : Outline) (order new : List ℕ) (done marks : List Bool) (u : ℕ) → AreDone o order done → IsReady o.items (reverse order) u → ((v : ℕ) → IsReady o.items (reverse order) v → u ≤ v) → u < o.scopes → new ≡ order ++ u ∷ [] → marks ≡ set_mark done u → AreDone o new marks
unit_more o order new done marks u old ready least range e f = record { behind = behind; tells = λ v. (λ m. there v m, λ c. here v c); count = ap length f ∙ length_set done u ∙ old.count } where
  P : List ℕ → List ℕ → Type 0
  P ds us = InOrder o.items ds us

  back : reverse new ≡ u ∷ reverse order
  back = ap reverse e ∙ reverse_last order u

  behind : (us : List ℕ) → InOrder o.items (reverse new) us → InOrder o.items [] (new ++ us)
  behind us h =
      let next : InOrder o.items (reverse order) (u ∷ us) = Next (reverse order) u us ready least (subst (λ ds. P ds us) back h) in
      let same : order ++ u ∷ us ≡ new ++ us = sym (append_assoc order (u ∷ []) us) ∙ ap (λ l. l ++ us) (sym e) in
      subst (λ l. P [] l) same (old.behind (u ∷ us) next)

  there : (v : ℕ) → marked marks v ≡ true → Contains (reverse new) v
  there v m = subst (λ ds. Contains ds v) (sym back) (pick (set_cases done u v (ap (λ l. marked l v) (sym f) ∙ m))) where
    pick : (marked done v ≡ true) ⊎ (v ≡ u) → Contains (u ∷ reverse order) v
    pick (inl a) = contains_more o.items u v (reverse order) ((old.tells v).0 a)
    pick (inr a) = let Q : ℕ → Type 0 = λ w. Contains (u ∷ reverse order) w in subst Q (sym a) (contains_first o.items u (reverse order))

  here : (v : ℕ) → Contains (reverse new) v → marked marks v ≡ true
  here v c = ap (λ l. marked l v) f ∙ pick (contains_cases o.items u v (reverse order) (subst (λ ds. Contains ds v) back c)) where
    pick : (v ≡ u) ⊎ Contains (reverse order) v → marked (set_mark done u) v ≡ true
    pick (inl a) = let count = old.count in ap (marked (set_mark done u)) a ∙ set_here done u (omega (arith, count, range))
    pick (inr a) = set_keeps done u v ((old.tells v).1 a)

-- all modules were looked at, and the units with smaller numbers
pub record Others (o : Outline) (order : List ℕ) (done : List Bool) (n : ℕ) : Type 0 where
  pub are : AreDone o order done
  pub all : AllModules o order
  pub below : (v : ℕ) → v < n → IsUnit o.items v → Contains (reverse order) v

-- ---- modules

both : (a b : Bool) → (a && b) ≡ true → (a ≡ true) × (b ≡ true)
both true true e = (refl, refl)
both true false e = absurd (cc)
both false b e = absurd (cc)

not_true : (b : Bool) → not b ≡ true → b ≡ false
not_true true e = absurd (cc)
not_true false e = refl

module _ (o : Outline) (units modules : List Bool) (edges : List (List ℕ)) (g : IsGraph o units modules edges) where
  module_is_unit : (u : ℕ) → IsModuleUnit o.items u → IsUnit o.items u
  module_is_unit u m = let i = m.1.is_module in (i.place, i.located, i.at, m.1.unit_is)

  not_marked : (done : List Bool) (order : List ℕ) → AreDone o order done → (u : ℕ) → marked done u ≡ false → Contains (reverse order) u → ⊥
  not_marked done order are u e c = let m = (are.tells u).1 c in let bad : true ≡ false = sym m ∙ e in cc

  contained : (done : List Bool) (order : List ℕ) → AreDone o order done → (u : ℕ) → (Contains (reverse order) u → ⊥) → marked done u ≡ false
  contained done order are u none = pick (marked done u) refl where
    pick : (b : Bool) → marked done u ≡ b → b ≡ false
    pick true e = absurd (none ((are.tells u).0 e))
    pick false e = refl

  module _ (order : List ℕ) (done : List Bool) (are : AreDone o order done) where
    next_ready : (u : ℕ) → is_next modules edges done u ≡ true → IsReady o.items (reverse order) u
    next_ready u e =
        let a = both (marked modules u) (not (marked done u) && are_marked done (list_at edges u)) e in
        let b = both (not (marked done u)) (are_marked done (list_at edges u)) a.1 in
        let m = (g.modules_are u).0 a.0 in
        record {
          is_unit = module_is_unit u m;
          not_done = not_marked done order are u (not_true (marked done u) b.0);
          modules_are = λ v d. (are.tells v).0 (all_marked done (list_at edges u) b.1 v ((g.edges_are u v).1 d));
          others_are = inl m;
        }

    ready_next : (u : ℕ) → IsModuleUnit o.items u → IsReady o.items (reverse order) u → is_next modules edges done u ≡ true
    ready_next u m r =
        let a : marked modules u ≡ true = (g.modules_are u).1 m in
        let b : not (marked done u) ≡ true = ap not (contained done order are u r.not_done) in
        let c : are_marked done (list_at edges u) ≡ true = all_are done (list_at edges u) (λ v w. (are.tells v).1 (r.modules_are v ((g.edges_are u v).0 w))) in
        ap (λ x. x && (not (marked done u) && are_marked done (list_at edges u))) a ∙ ap (λ x. x && are_marked done (list_at edges u)) b ∙ c

    pub next_range : (u : ℕ) → is_next modules edges done u ≡ true → u < o.scopes
    next_range u e = g.within u (next_ready u e).is_unit

    next_least : (u : ℕ) → LeastFound (λ v. is_next modules edges done v) (Some u) → (v : ℕ) → IsReady o.items (reverse order) v → u ≤ v
    next_least u least v r = pick r.others_are where
      le : (b : Bool) → ltb v u ≡ b → IsModuleUnit o.items v → u ≤ v
      le true e m = absurd (least.1 v (ltb-true v u e) (ready_next v m r))
      le false e m = ltb-false v u e

      pick : IsModuleUnit o.items v ⊎ ((m : ℕ) → IsModuleUnit o.items m → Contains (reverse order) m) → u ≤ v
      pick (inl m) = le (ltb v u) refl m
      pick (inr all) =
          let a = both (marked modules u) (not (marked done u) && are_marked done (list_at edges u)) least.0 in
          let ready = next_ready u least.0 in
          absurd (ready.not_done (all u ((g.modules_are u).0 a.0)))

    pub module_more : (new : List ℕ) (marks : List Bool) (u : ℕ) → LeastFound (λ v. is_next modules edges done v) (Some u) → new ≡ order ++ u ∷ [] → marks ≡ set_mark done u → AreDone o new marks
    module_more new marks u least e f = unit_more o order new done marks u are (next_ready u least.0) (next_least u least) (next_range u least.0) e f

    pub module_fewer : (marks : List Bool) (u : ℕ) → LeastFound (λ v. is_next modules edges done v) (Some u) → marks ≡ set_mark done u → unmarked marks < unmarked done
    module_fewer marks u least f =
        let a = both (marked modules u) (not (marked done u) && are_marked done (list_at edges u)) least.0 in
        let b = both (not (marked done u)) (are_marked done (list_at edges u)) a.1 in
        let range = next_range u least.0 in
        let count = are.count in
        let fewer = set_fewer done u (omega (arith, range, count)) (not_true (marked done u) b.0) in
        let is = ap unmarked f in
        omega (arith, fewer, is)

    -- ---- the others

    other_ready : AllModules o order → (u : ℕ) → is_other units done u ≡ true → IsReady o.items (reverse order) u
    other_ready all u e =
        let a = both (marked units u) (not (marked done u)) e in
        record {
          is_unit = (g.units_are u).0 a.0;
          not_done = not_marked done order are u (not_true (marked done u) a.1);
          modules_are = λ v d. all v (d.1.name, d.1.module_is);
          others_are = inr all;
        }

    other_least : (u : ℕ) → ((v : ℕ) → v < u → IsUnit o.items v → Contains (reverse order) v) → (v : ℕ) → IsReady o.items (reverse order) v → u ≤ v
    other_least u below v r = pick (ltb v u) refl where
      pick : (b : Bool) → ltb v u ≡ b → u ≤ v
      pick true e = absurd (r.not_done (below v (ltb-true v u e) r.is_unit))
      pick false e = ltb-false v u e

    pub open_not : LeastFound (λ v. is_other modules done v) None → AllModules o order
    open_not none m is = pick (marked done m) refl where
      pick : (b : Bool) → marked done m ≡ b → Contains (reverse order) m
      pick true e = (are.tells m).0 e
      pick false e = absurd (none m (ap (λ x. x && not (marked done m)) ((g.modules_are m).1 is) ∙ ap not e))

    -- ---- a cycle, where modules are left and none can be looked at

    step : ((u : ℕ) → is_next modules edges done u ≡ true → ⊥) → (u : ℕ) → is_other modules done u ≡ true → (m k : ℕ) × UsesModule o.items k u m × (is_other modules done m ≡ true)
    step stuck u e = pick (are_marked done (list_at edges u)) refl where
      pick : (b : Bool) → are_marked done (list_at edges u) ≡ b → (m k : ℕ) × UsesModule o.items k u m × (is_other modules done m ≡ true)
      pick true f =
          let a = both (marked modules u) (not (marked done u)) e in
          absurd (stuck u (ap (λ x. x && (not (marked done u) && are_marked done (list_at edges u))) a.0 ∙ ap (λ x. x && are_marked done (list_at edges u)) a.1 ∙ f))
      pick false f =
          let v = one_unmarked done (list_at edges u) f in
          let d = (g.edges_are u v.0).0 v.1 in
          let m : marked modules v.0 ≡ true = (g.modules_are v.0).1 (d.1.name, d.1.module_is) in
          (v.0, d.0, d.1, ap (λ x. x && not (marked done v.0)) m ∙ ap not v.2)

    open_range : (u : ℕ) → is_other modules done u ≡ true → u < o.scopes
    open_range u e = g.within u (module_is_unit u ((g.modules_are u).0 (both (marked modules u) (not (marked done u)) e).0))

    walk : ((u : ℕ) → is_next modules edges done u ≡ true → ⊥) → (n : ℕ) (seen : List Bool) (u : ℕ) → unmarked seen ≤ n → length seen ≡ o.scopes → is_other modules done u ≡ true → ((v : ℕ) → marked seen v ≡ true → Reaches o.items v u) → (k : ℕ) × IsOnCycle o.items k
    walk stuck zero seen u le long e reach = pick (step stuck u e) where
      pick : (m k : ℕ) × UsesModule o.items k u m × (is_other modules done m ≡ true) → (k : ℕ) × IsOnCycle o.items k
      pick s = test (marked seen s.0) refl where
        test : (b : Bool) → marked seen s.0 ≡ b → (k : ℕ) × IsOnCycle o.items k
        test true f = (s.1, record { unit = u; m = s.0; uses = s.2; back = reach s.0 f })
        test false f = let lt = open_range s.0 s.3 in let fewer = set_fewer seen s.0 (omega (arith, lt, long)) f in absurd (omega (arith, fewer, le))
    walk stuck (suc n) seen u le long e reach = pick (step stuck u e) (λ seen u le long e reach. walk stuck n seen u le long e reach) where
      Again : Type 0
      Again = (seen : List Bool) (u : ℕ) → unmarked seen ≤ n → length seen ≡ o.scopes → is_other modules done u ≡ true → ((v : ℕ) → marked seen v ≡ true → Reaches o.items v u) → (k : ℕ) × IsOnCycle o.items k

      pick : (m k : ℕ) × UsesModule o.items k u m × (is_other modules done m ≡ true) → ((seen : List Bool) (u : ℕ) → unmarked seen ≤ n → length seen ≡ o.scopes → is_other modules done u ≡ true → ((v : ℕ) → marked seen v ≡ true → Reaches o.items v u) → (k : ℕ) × IsOnCycle o.items k) → (k : ℕ) × IsOnCycle o.items k
      pick s again = test (marked seen s.0) refl where
        reached : (v : ℕ) → (marked seen v ≡ true) ⊎ (v ≡ s.0) → Reaches o.items v s.0
        reached v (inl m) = reaches_more o.items v u s.0 (reach v m) (s.1, s.2)
        reached v (inr is) = let P : ℕ → Type 0 = λ w. Reaches o.items w s.0 in subst P (sym is) (Same s.0)

        test : (b : Bool) → marked seen s.0 ≡ b → (k : ℕ) × IsOnCycle o.items k
        test true f = (s.1, record { unit = u; m = s.0; uses = s.2; back = reach s.0 f })
        test false f =
            let lt = open_range s.0 s.3 in
            let fewer = set_fewer seen s.0 (omega (arith, lt, long)) f in
            again (set_mark seen s.0) s.0 (omega (arith, fewer, le)) (length_set seen s.0 ∙ long) s.3 (λ v m. reached v (set_cases seen s.0 v m))

    pub stuck_cycle : ((u : ℕ) → is_next modules edges done u ≡ true → ⊥) → (u : ℕ) → is_other modules done u ≡ true → (k : ℕ) × IsOnCycle o.items k
    stuck_cycle stuck u e = walk stuck (unmarked (replicate o.scopes false)) (replicate o.scopes false) u (omega arith) (length-replicate o.scopes false) e (λ v m. absurd (none_marked o.scopes v m))

  -- ---- the others, one by one

  pub others_next : (order new : List ℕ) (done marks : List Bool) (n : ℕ) → n < o.scopes → Others o order done n → new ≡ with_other units order done n → marks ≡ done_other units done n → Others o new marks (suc n)
  others_next order new done marks n range old e f = pick (is_other units done n) refl where
    stays : (v : ℕ) → Contains (reverse order) v → Contains (reverse (order ++ n ∷ [])) v
    stays v c = subst (λ ds. Contains ds v) (sym (reverse_last order n)) (contains_more o.items n v (reverse order) c)

    done_here : (b : Bool) → marked done n ≡ b → is_other units done n ≡ false → IsUnit o.items n → Contains (reverse order) n
    done_here true m none i = (old.are.tells n).0 m
    done_here false m none i =
        let holds : is_other units done n ≡ true = ap (λ x. x && not (marked done n)) ((g.units_are n).1 i) ∙ ap not m in
        let bad : true ≡ false = sym holds ∙ none in
        absurd (cc)

    pick : (b : Bool) → is_other units done n ≡ b → Others o new marks (suc n)
    pick true is =
        let o1 : new ≡ order ++ n ∷ [] = e ∙ ap (λ b. cond b (order ++ n ∷ []) order) is in
        let o2 : marks ≡ set_mark done n = f ∙ ap (λ b. cond b (set_mark done n) done) is in
        let P : List ℕ → Type 0 = λ l. AllModules o l in
        let Q : List ℕ → Type 0 = λ l. (v : ℕ) → v < suc n → IsUnit o.items v → Contains (reverse l) v in
        record {
          are = unit_more o order new done marks n old.are (other_ready order done old.are old.all n is) (other_least order done old.are n old.below) range o1 o2;
          all = subst P (sym o1) (λ m i. stays m (old.all m i));
          below = subst Q (sym o1) (λ v lt i. there v i (smaller v n lt));
        } where
          there : (v : ℕ) → IsUnit o.items v → (v < n) ⊎ (v ≡ n) → Contains (reverse (order ++ n ∷ [])) v
          there v i (inl lt) = stays v (old.below v lt i)
          there v i (inr same) = let R : ℕ → Type 0 = λ w. Contains (reverse (order ++ n ∷ [])) w in subst R (sym same) (subst (λ ds. Contains ds n) (sym (reverse_last order n)) (contains_first o.items n (reverse order)))
    pick false is =
        let o1 : new ≡ order = e ∙ ap (λ b. cond b (order ++ n ∷ []) order) is in
        let o2 : marks ≡ done = f ∙ ap (λ b. cond b (set_mark done n) done) is in
        let P : List ℕ → Type 0 = λ l. AllModules o l in
        let Q : List ℕ → Type 0 = λ l. (v : ℕ) → v < suc n → IsUnit o.items v → Contains (reverse l) v in
        let A : List ℕ → List Bool → Type 0 = λ l m. AreDone o l m in
        record {
          are = subst (λ l. A l marks) (sym o1) (subst (λ m. A order m) (sym o2) old.are);
          all = subst P (sym o1) old.all;
          below = subst Q (sym o1) (λ v lt i. there v i (smaller v n lt) is);
        } where
          there : (v : ℕ) → IsUnit o.items v → (v < n) ⊎ (v ≡ n) → is_other units done n ≡ false → Contains (reverse order) v
          there v i (inl lt) none = old.below v lt i
          there v i (inr same) none =
              let R : ℕ → Type 0 = λ w. Contains (reverse order) w in
              let S : ℕ → Type 0 = λ w. IsUnit o.items w in
              subst R (sym same) (done_here (marked done n) refl none (subst S same i))

  pub others_done : (order : List ℕ) (done : List Bool) (n : ℕ) → o.scopes ≤ n → Others o order done n → InOrder o.items [] order
  others_done order done n le others =
      let P : List ℕ → Type 0 = λ l. InOrder o.items [] l in
      subst P (append-nil order) (others.are.behind [] (NoMore (reverse order) (λ u i. let lt = g.within u i in others.below u (omega (arith, lt, le)) i)))
