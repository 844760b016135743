-- Modules that wait for others: what they wait for where none was looked at, and what changes where one is.
use Rattle.std.proofs.Common.{◌≡◌, ℕ, zero, suc, ◌+◌, ◌-◌, ◌<◌, ◌≤◌, Bool, true, false, ◌&&◌, ◌||◌, not, cond, eqb, ltb, List, [], ◌∷◌, ◌++◌, map, length, replicate, Option, Some, None, refl, sym, ap, ◌∙◌, subst, arith}
use Rattle.std.specs.List.{All}
use Rattle.std.specs.Ordering.{nat_cmp, match_ordering}
use Rattle.std.specs.declared.cmp.Ordering.TheVariants.{Less, Equal, Greater}
use Rattle.std.specs.BTreeSet.{insert_key}
use Rattle.std.proofs.lemmas.Bool.{eqb-true, eq-eqb, lt-ltb, ltb-true, ltb-false}
use Rattle.std.proofs.lemmas.List.{get_or-set_same, get_or-set_other, get_or_past, get_or-replicate, length-replicate}
use Rattle.std.proofs.lemmas.List.Elements.{All-head, All-tail}
use Rattle.std.proofs.lemmas.List.Sums.{sum_by-cons, sum_by_push}
use Rattle.std.proofs.Math.ListN.{set}
use Rattle.f_scope.specs.Program.{Outline}
use Rattle.f_use.specs.Places.{list_at, put_at}
use Rattle.f_order.specs.Marks.{marked, set_mark, are_marked, unmarked}
use Rattle.f_order.specs.Graph.{IsGraph, is_next, LeastFound}
use Rattle.f_order.specs.Ready.{open_count, times, has, count_at, is_ready, with_ready, lowered, State, released_one, released, with_user, AreUsers, AreReady, TakesFirst}
use Rattle.f_order.specs.Order.{AreDone}
use Rattle.f_order.proofs.Marking.{none_marked, set_here, set_there}
use Rattle.f_order.proofs.Edges.{no_list, put-here, put-there, length_put}
use Rattle.f_order.proofs.Cycles.{next_range, module_more, module_fewer}

-- ---- how often numbers stand in lists

times_cons : (n m : ℕ) (ms : List ℕ) → times n (m ∷ ms) ≡ cond (eqb m n) 1 0 + times n ms
times_cons n m ms = sum_by-cons (λ x. cond (eqb x n) 1 0) m ms

open_cons : (done : List Bool) (m : ℕ) (ms : List ℕ) → open_count done (m ∷ ms) ≡ cond (not (marked done m)) 1 0 + open_count done ms
open_cons done m ms = sum_by-cons (λ x. cond (not (marked done x)) 1 0) m ms

apart : (a b : ℕ) → eqb a b ≡ false → a ≡ b → ⊥
apart a b e is = let holds : eqb a b ≡ true = eq-eqb a b is in cc

positive : (n : ℕ) → 0 < n → eqb n 0 ≡ false
positive n lt = pick (eqb n 0) refl where
  pick : (b : Bool) → eqb n 0 ≡ b → eqb n 0 ≡ false
  pick true e = let is = eqb-true n 0 e in absurd (omega (arith, lt, is))
  pick false e = e

-- all units of a list were looked at where none of them wasn't
pub all_where_none_open : (done : List Bool) (ms : List ℕ) → are_marked done ms ≡ eqb (open_count done ms) 0
unfolding are_marked
all_where_none_open done [] = refl
all_where_none_open done (m ∷ ms) = pick (marked done m) refl (all_where_none_open done ms) where
  pick : (b : Bool) → marked done m ≡ b → are_marked done ms ≡ eqb (open_count done ms) 0 → (marked done m && are_marked done ms) ≡ eqb (open_count done (m ∷ ms)) 0
  pick true e more =
      let c : open_count done (m ∷ ms) ≡ 0 + open_count done ms = open_cons done m ms ∙ ap (λ b. cond (not b) 1 0 + open_count done ms) e in
      let n : open_count done (m ∷ ms) ≡ open_count done ms = omega (arith, c) in
      ap (λ b. b && are_marked done ms) e ∙ more ∙ ap (λ k. eqb k 0) (sym n)
  pick false e more =
      let c : open_count done (m ∷ ms) ≡ 1 + open_count done ms = open_cons done m ms ∙ ap (λ b. cond (not b) 1 0 + open_count done ms) e in
      ap (λ b. b && are_marked done ms) e ∙ sym (positive (open_count done (m ∷ ms)) (omega (arith, c)))

open_fresh : (c : ℕ) (ms : List ℕ) → open_count (replicate c false) ms ≡ length ms
open_fresh c [] = refl
open_fresh c (m ∷ ms) = pick (marked (replicate c false) m) refl (open_fresh c ms) where
  pick : (b : Bool) → marked (replicate c false) m ≡ b → open_count (replicate c false) ms ≡ length ms → open_count (replicate c false) (m ∷ ms) ≡ suc (length ms)
  pick true e more = absurd (none_marked c m e)
  pick false e more =
      let n : open_count (replicate c false) (m ∷ ms) ≡ 1 + open_count (replicate c false) ms = open_cons (replicate c false) m ms ∙ ap (λ b. cond (not b) 1 0 + open_count (replicate c false) ms) e in
      omega (arith, n, more)

-- those that weren't looked at are fewer by as many as the unit that is now stands in the list
open_taken : (done : List Bool) (m : ℕ) → m < length done → marked done m ≡ false → (ns : List ℕ) → open_count done ns ≡ open_count (set_mark done m) ns + times m ns
open_taken done m lt none [] = refl
open_taken done m lt none (n ∷ ns) = pick (eqb n m) refl (open_taken done m lt none ns) where
  pick : (b : Bool) → eqb n m ≡ b → open_count done ns ≡ open_count (set_mark done m) ns + times m ns → open_count done (n ∷ ns) ≡ open_count (set_mark done m) (n ∷ ns) + times m (n ∷ ns)
  pick true e more =
      let is = eqb-true n m e in
      let old : open_count done (n ∷ ns) ≡ 1 + open_count done ns = open_cons done n ns ∙ ap (λ b. cond (not b) 1 0 + open_count done ns) (ap (marked done) is ∙ none) in
      let new : open_count (set_mark done m) (n ∷ ns) ≡ 0 + open_count (set_mark done m) ns = open_cons (set_mark done m) n ns ∙ ap (λ b. cond (not b) 1 0 + open_count (set_mark done m) ns) (ap (marked (set_mark done m)) is ∙ set_here done m lt) in
      let one : times m (n ∷ ns) ≡ 1 + times m ns = times_cons m n ns ∙ ap (λ b. cond b 1 0 + times m ns) e in
      omega (arith, old, new, one, more)
  pick false e more =
      let old = open_cons done n ns in
      let new : open_count (set_mark done m) (n ∷ ns) ≡ cond (not (marked done n)) 1 0 + open_count (set_mark done m) ns = open_cons (set_mark done m) n ns ∙ ap (λ b. cond (not b) 1 0 + open_count (set_mark done m) ns) (set_there done m n (apart n m e)) in
      let none_here : times m (n ∷ ns) ≡ 0 + times m ns = times_cons m n ns ∙ ap (λ b. cond b 1 0 + times m ns) e in
      omega (arith, old, new, none_here, more)

-- ---- the numbers in a list

or_twice : (a b : Bool) → (a || b) ≡ (a || (a || b))
or_twice true b = refl
or_twice false b = refl

or_swap : (a b c : Bool) → (a || (b || c)) ≡ (b || (a || c))
or_swap true true c = refl
or_swap true false c = refl
or_swap false b c = refl

has_insert : (ks : List ℕ) (k v : ℕ) → has (insert_key nat_cmp ks k) v ≡ (eqb v k || has ks v)
has_insert [] k v = refl
has_insert (x ∷ xs) k v = pick (ltb k x) (eqb k x) refl (has_insert xs k v) where
  pick : (b c : Bool) → eqb k x ≡ c → has (insert_key nat_cmp xs k) v ≡ (eqb v k || has xs v)
      → has (match_ordering (cond b Less (cond c Equal Greater)) (k ∷ x ∷ xs) (x ∷ xs) (x ∷ insert_key nat_cmp xs k)) v ≡ (eqb v k || (eqb v x || has xs v))
  pick true c e more = refl
  pick false true e more = or_twice (eqb v x) (has xs v) ∙ ap (λ n. eqb v n || (eqb v x || has xs v)) (sym (eqb-true k x e))
  pick false false e more = ap (λ b. eqb v x || b) more ∙ or_swap (eqb v x) (eqb v k) (has xs v)

-- no number that isn't above
absent : (r : List ℕ) (u v : ℕ) → v ≤ u → All (λ w. u < w) r → has r v ≡ false
absent [] u v le above = refl
absent (x ∷ xs) u v le above =
    let lt = All-head (λ w. u < w) x xs above in
    ap (λ b. b || has xs v) (pick (eqb v x) refl lt) ∙ absent xs u v le (All-tail (λ w. u < w) x xs above) where
      pick : (b : Bool) → eqb v x ≡ b → u < x → eqb v x ≡ false
      pick true e lt = let is = eqb-true v x e in absurd (omega (arith, is, lt, le))
      pick false e lt = e

-- ---- the counts

lowered_at : (cs : List ℕ) (u v : ℕ) → count_at (lowered cs u) v ≡ cond (eqb u v) (count_at cs v - 1) (count_at cs v)
lowered_at cs u v = pick (ltb u (length cs)) refl (eqb u v) refl where
  pick : (b : Bool) → ltb u (length cs) ≡ b → (c : Bool) → eqb u v ≡ c → count_at (cond b (set cs u (count_at cs u - 1)) cs) v ≡ cond c (count_at cs v - 1) (count_at cs v)
  pick true e true f =
      let is = eqb-true u v f in
      ap (count_at (set cs u (count_at cs u - 1))) (sym is) ∙ get_or-set_same cs u (count_at cs u - 1) 0 (ltb-true u (length cs) e) ∙ ap (λ n. count_at cs n - 1) is
  pick true e false f = get_or-set_other cs u v (count_at cs u - 1) 0 (λ is. apart u v f (sym is))
  pick false e true f =
      let is = eqb-true u v f in
      let le = ltb-false u (length cs) e in
      let past : count_at cs v ≡ 0 = get_or_past cs v 0 (omega (arith, is, le)) in
      omega (arith, past)
  pick false e false f = refl

count_lengths : (edges : List (List ℕ)) (u : ℕ) → count_at (map length edges) u ≡ length (list_at edges u)
count_lengths [] u = refl
count_lengths (l ∷ ls) zero = refl
count_lengths (l ∷ ls) (suc u) = count_lengths ls u

-- ---- what each unit waits for

-- each unit waits for as many uses as there are of units that weren't looked at, and for those that are still to be taken off; and those that wait for none are ready
pub record Balance (modules done : List Bool) (edges : List (List ℕ)) (rest : List ℕ) (s : State) : Type 0 where
  pub counted : (v : ℕ) → count_at s.0 v ≡ open_count done (list_at edges v) + times v rest
  pub are_ready : AreReady modules done s.0 s.1

pub waits_first : (modules done : List Bool) (edges : List (List ℕ)) (c : ℕ) (s : State) → done ≡ replicate c false → s.0 ≡ map length edges → AreReady modules done s.0 s.1 → Balance modules done edges [] s
waits_first modules done edges c s fresh counts ready = record { counted = counted; are_ready = ready } where
  counted : (v : ℕ) → count_at s.0 v ≡ open_count done (list_at edges v) + 0
  counted v =
      let is : count_at s.0 v ≡ length (list_at edges v) = ap (λ l. count_at l v) counts ∙ count_lengths edges v in
      let none : open_count done (list_at edges v) ≡ length (list_at edges v) = ap (λ d. open_count d (list_at edges v)) fresh ∙ open_fresh c (list_at edges v) in
      omega (arith, is, none)

and_false : (a b : Bool) → (a && (b && false)) ≡ false
and_false true true = refl
and_false true false = refl
and_false false b = refl

and_false_first : (a b : Bool) → (a && (false && b)) ≡ false
and_false_first true b = refl
and_false_first false b = refl

module _ (modules done : List Bool) (edges : List (List ℕ)) where
  -- one use fewer
  release_next : (u : ℕ) (us : List ℕ) (s : State) → Balance modules done edges (u ∷ us) s → Balance modules done edges us (released_one modules done u s)
  release_next u us s old = record { counted = λ v. counted v (eqb u v) refl; are_ready = λ v. ready v (is_ready modules done (lowered s.0 u) u) refl } where
    counted : (v : ℕ) (b : Bool) → eqb u v ≡ b → count_at (lowered s.0 u) v ≡ open_count done (list_at edges v) + times v us
    counted v true e =
        let was = old.counted v in
        let one : times v (u ∷ us) ≡ 1 + times v us = times_cons v u us ∙ ap (λ b. cond b 1 0 + times v us) e in
        let is : count_at (lowered s.0 u) v ≡ count_at s.0 v - 1 = lowered_at s.0 u v ∙ ap (λ b. cond b (count_at s.0 v - 1) (count_at s.0 v)) e in
        omega (arith, was, one, is)
    counted v false e =
        let was = old.counted v in
        let one : times v (u ∷ us) ≡ 0 + times v us = times_cons v u us ∙ ap (λ b. cond b 1 0 + times v us) e in
        let is : count_at (lowered s.0 u) v ≡ count_at s.0 v = lowered_at s.0 u v ∙ ap (λ b. cond b (count_at s.0 v - 1) (count_at s.0 v)) e in
        omega (arith, was, one, is)

    other : (v : ℕ) → eqb v u ≡ false → has s.1 v ≡ is_ready modules done (lowered s.0 u) v
    other v e = old.are_ready v ∙ ap (λ n. marked modules v && (not (marked done v) && eqb n 0)) (sym (lowered_at s.0 u v ∙ ap (λ b. cond b (count_at s.0 v - 1) (count_at s.0 v)) (flipped (eqb u v) refl))) where
      flipped : (b : Bool) → eqb u v ≡ b → eqb u v ≡ false
      flipped true f = absurd (apart v u e (sym (eqb-true u v f)))
      flipped false f = f

    ready : (v : ℕ) (b : Bool) → is_ready modules done (lowered s.0 u) u ≡ b → has (with_ready modules done (lowered s.0 u) s.1 u) v ≡ is_ready modules done (lowered s.0 u) v
    ready v true e = ap (λ b. has (cond b (insert_key nat_cmp s.1 u) s.1) v) e ∙ has_insert s.1 u v ∙ pick (eqb v u) refl where
      pick : (b : Bool) → eqb v u ≡ b → (eqb v u || has s.1 v) ≡ is_ready modules done (lowered s.0 u) v
      pick true f = ap (λ b. b || has s.1 v) f ∙ sym (ap (is_ready modules done (lowered s.0 u)) (eqb-true v u f) ∙ e)
      pick false f = ap (λ b. b || has s.1 v) f ∙ other v f
    ready v false e = ap (λ b. has (cond b (insert_key nat_cmp s.1 u) s.1) v) e ∙ pick (eqb v u) refl where
      pick : (b : Bool) → eqb v u ≡ b → has s.1 v ≡ is_ready modules done (lowered s.0 u) v
      pick true f =
          let is = eqb-true v u f in
          let was = old.counted u in
          let one : times u (u ∷ us) ≡ 1 + times u us = times_cons u u us ∙ ap (λ b. cond b 1 0 + times u us) (eq-eqb u u refl) in
          ap (has s.1) is ∙ old.are_ready u ∙ ap (λ b. marked modules u && (not (marked done u) && b)) (positive (count_at s.0 u) (omega (arith, was, one))) ∙ and_false (marked modules u) (not (marked done u)) ∙ sym (ap (is_ready modules done (lowered s.0 u)) is ∙ e)
      pick false f = other v f

  pub release_all : (us : List ℕ) (s : State) → Balance modules done edges us s → Balance modules done edges [] (released modules done us s)
  unfolding released
  release_all [] s old = old
  release_all (u ∷ us) s old = release_all us (released_one modules done u s) (release_next u us s old)

  -- ---- the first that is ready

  pub ready_is_next : (s : State) → Balance modules done edges [] s → (v : ℕ) → has s.1 v ≡ is_next modules edges done v
  ready_is_next s waits v =
      let was = waits.counted v in
      let is : count_at s.0 v ≡ open_count done (list_at edges v) = omega (arith, was) in
      waits.are_ready v ∙ ap (λ b. marked modules v && (not (marked done v) && b)) (ap (λ n. eqb n 0) is ∙ sym (all_where_none_open done (list_at edges v)))

  pub first_is_next : (s : State) (r : Option ℕ) (behind : List ℕ) → Balance modules done edges [] s → TakesFirst s.1 r behind → LeastFound (λ v. is_next modules edges done v) r
  first_is_next s None behind waits first = λ u e. none u e where
    none : (u : ℕ) → is_next modules edges done u ≡ true → ⊥
    none u e = let bad : false ≡ true = ap (λ l. has l u) (sym first) ∙ ready_is_next s waits u ∙ e in cc
  first_is_next s (Some u) behind waits first = (sym (ready_is_next s waits u) ∙ ap (λ l. has l u) first.0 ∙ ap (λ b. b || has behind u) (eq-eqb u u refl), λ v lt e. below v lt e (eqb v u) refl) where
    below : (v : ℕ) → v < u → is_next modules edges done v ≡ true → (b : Bool) → eqb v u ≡ b → ⊥
    below v lt e true f = let is = eqb-true v u f in absurd (omega (arith, is, lt))
    below v lt e false f =
        let none = absent behind u v (omega (arith, lt)) first.1 in
        let bad : true ≡ false = sym e ∙ sym (ready_is_next s waits v) ∙ ap (λ l. has l v) first.0 ∙ ap (λ b. b || has behind v) f ∙ none in
        cc

  -- the units that use the first are still to be told
  pub waits_next : (s : State) (behind : List ℕ) (u : ℕ) (users : List ℕ) → u < length done → marked done u ≡ false → Balance modules done edges [] s → TakesFirst s.1 (Some u) behind
      → ((v : ℕ) → times v users ≡ times u (list_at edges v)) → Balance modules (set_mark done u) edges users (s.0, behind)
  waits_next s behind u users lt none old first uses = record { counted = counted; are_ready = λ v. is v (eqb v u) refl } where
    counted : (v : ℕ) → count_at s.0 v ≡ open_count (set_mark done u) (list_at edges v) + times v users
    counted v =
        let was = old.counted v in
        let fewer = open_taken done u lt none (list_at edges v) in
        let same = uses v in
        omega (arith, was, fewer, same)

    is : (v : ℕ) (b : Bool) → eqb v u ≡ b → has behind v ≡ is_ready modules (set_mark done u) s.0 v
    is v true e =
        let here = eqb-true v u e in
        let done_now : marked (set_mark done u) v ≡ true = ap (marked (set_mark done u)) here ∙ set_here done u lt in
        absent behind u v (omega (arith, here)) first.1 ∙ sym (ap (λ b. marked modules v && (not b && eqb (count_at s.0 v) 0)) done_now ∙ and_false_first (marked modules v) (eqb (count_at s.0 v) 0))
    is v false e =
        let there = set_there done u v (apart v u e) in
        sym (ap (λ l. has l v) first.0 ∙ ap (λ b. b || has behind v) e) ∙ old.are_ready v ∙ ap (λ b. marked modules v && (not b && eqb (count_at s.0 v) 0)) (sym there)

-- ---- the modules that are ready at first

-- those below a number are
abbrev pub ReadyBelow : List Bool → List Bool → List ℕ → List ℕ → ℕ → Type 0
ReadyBelow modules done counts ready n = (v : ℕ) → (v < n → has ready v ≡ is_ready modules done counts v) × (n ≤ v → has ready v ≡ false)

module _ (modules done : List Bool) (counts : List ℕ) where
  pub ready_first : (ready : List ℕ) → ready ≡ [] → ReadyBelow modules done counts ready 0
  ready_first ready e v = (λ lt. absurd (omega (arith, lt)), λ le. ap (λ l. has l v) e)

  pub ready_more : (ready : List ℕ) (n : ℕ) → ReadyBelow modules done counts ready n → ReadyBelow modules done counts (with_ready modules done counts ready n) (suc n)
  ready_more ready n old v = pick (is_ready modules done counts n) refl (eqb v n) refl where
    pick : (b : Bool) → is_ready modules done counts n ≡ b → (c : Bool) → eqb v n ≡ c
        → (v < suc n → has (with_ready modules done counts ready n) v ≡ is_ready modules done counts v) × (suc n ≤ v → has (with_ready modules done counts ready n) v ≡ false)
    pick true e true f =
        let is = eqb-true v n f in
        (λ lt. ap (λ b. has (cond b (insert_key nat_cmp ready n) ready) v) e ∙ has_insert ready n v ∙ ap (λ b. b || has ready v) f ∙ sym (ap (is_ready modules done counts) is ∙ e), λ le. absurd (omega (arith, is, le)))
    pick true e false f =
        let ne = apart v n f in
        let same : has (with_ready modules done counts ready n) v ≡ has ready v = ap (λ b. has (cond b (insert_key nat_cmp ready n) ready) v) e ∙ has_insert ready n v ∙ ap (λ b. b || has ready v) f in
        (λ lt. same ∙ (old v).0 (omega (arith, lt, ne)), λ le. same ∙ (old v).1 (omega (arith, le)))
    pick false e true f =
        let is = eqb-true v n f in
        (λ lt. ap (λ b. has (cond b (insert_key nat_cmp ready n) ready) v) e ∙ (old v).1 (omega (arith, is)) ∙ sym (ap (is_ready modules done counts) is ∙ e), λ le. absurd (omega (arith, is, le)))
    pick false e false f =
        let ne = apart v n f in
        let same : has (with_ready modules done counts ready n) v ≡ has ready v = ap (λ b. has (cond b (insert_key nat_cmp ready n) ready) v) e in
        (λ lt. same ∙ (old v).0 (omega (arith, lt, ne)), λ le. same ∙ (old v).1 (omega (arith, le)))

  pub ready_all : (ready : List ℕ) (n : ℕ) → length modules ≤ n → ReadyBelow modules done counts ready n → AreReady modules done counts ready
  ready_all ready n le old v = pick (ltb v n) refl where
    pick : (b : Bool) → ltb v n ≡ b → has ready v ≡ is_ready modules done counts v
    pick true e = (old v).0 (ltb-true v n e)
    pick false e =
        let ge = ltb-false v n e in
        let past : marked modules v ≡ false = get_or_past modules v false (omega (arith, ge, le)) in
        (old v).1 ge ∙ sym (ap (λ b. b && (not (marked done v) && eqb (count_at counts v) 0)) past)

-- ---- the units that use each

-- those below a number stand in the lists
abbrev pub UsersBelow : ℕ → List (List ℕ) → List (List ℕ) → ℕ → Type 0
UsersBelow count edges users n = (u m : ℕ) → m < count → (u < n → times u (list_at users m) ≡ times m (list_at edges u)) × (n ≤ u → times u (list_at users m) ≡ 0)

pub users_first : (count : ℕ) (edges users : List (List ℕ)) → users ≡ replicate count [] → UsersBelow count edges users 0
users_first count edges users e u m range = (λ lt. absurd (omega (arith, lt)), λ le. ap (λ l. times u (list_at l m)) e ∙ ap (times u) (no_list count m))

put_times : (users : List (List ℕ)) (x u v m : ℕ) → m < length users → times v (list_at (put_at users x u) m) ≡ times v (list_at users m) + cond (eqb x m) (cond (eqb u v) 1 0) 0
put_times users x u v m lt = pick (eqb x m) refl where
  pick : (b : Bool) → eqb x m ≡ b → times v (list_at (put_at users x u) m) ≡ times v (list_at users m) + cond b (cond (eqb u v) 1 0) 0
  pick true e =
      let is = eqb-true x m e in
      let P : ℕ → Type 0 = λ n. list_at (put_at users x u) n ≡ list_at users n ++ u ∷ [] in
      ap (times v) (subst P is (put-here users x u (omega (arith, is, lt)))) ∙ sum_by_push (λ n. cond (eqb n v) 1 0) (list_at users m) u
  pick false e =
      let same = ap (times v) (put-there users x u m (λ is. apart x m e (sym is))) in
      omega (arith, same)

pub length_with_user : (users : List (List ℕ)) (u : ℕ) (ms : List ℕ) → length (with_user users u ms) ≡ length users
unfolding with_user
length_with_user users u [] = refl
length_with_user users u (m ∷ ms) = length_with_user (put_at users m u) u ms ∙ length_put users m u

with_user_times : (users : List (List ℕ)) (u : ℕ) (ms : List ℕ) (v m : ℕ) → m < length users → times v (list_at (with_user users u ms) m) ≡ times v (list_at users m) + cond (eqb u v) (times m ms) 0
unfolding with_user
with_user_times users u [] v m lt = pick (eqb u v) where
  pick : (b : Bool) → times v (list_at users m) ≡ times v (list_at users m) + cond b 0 0
  pick true = omega arith
  pick false = omega arith
with_user_times users u (x ∷ ms) v m lt =
    let long = length_put users x u in
    pick (eqb u v) (eqb x m) (with_user_times (put_at users x u) u ms v m (omega (arith, long, lt))) (put_times users x u v m lt) (times_cons m x ms) where
      end : ℕ
      end = times v (list_at (with_user (put_at users x u) u ms) m)

      put : ℕ
      put = times v (list_at (put_at users x u) m)

      start : ℕ
      start = times v (list_at users m)

      pick : (b c : Bool) → end ≡ put + cond b (times m ms) 0 → put ≡ start + cond c (cond b 1 0) 0 → times m (x ∷ ms) ≡ cond c 1 0 + times m ms → end ≡ start + cond b (times m (x ∷ ms)) 0
      pick true true e f g = omega (arith, e, f, g)
      pick true false e f g = omega (arith, e, f, g)
      pick false true e f g = omega (arith, e, f, g)
      pick false false e f g = omega (arith, e, f, g)

module _ (count : ℕ) (edges : List (List ℕ)) where
  pub users_next : (users : List (List ℕ)) (n : ℕ) → length users ≡ count → UsersBelow count edges users n → UsersBelow count edges (with_user users n (list_at edges n)) (suc n)
  users_next users n long old u m range = pick (eqb n u) refl where
    is : times u (list_at (with_user users n (list_at edges n)) m) ≡ times u (list_at users m) + cond (eqb n u) (times m (list_at edges n)) 0
    is = with_user_times users n (list_at edges n) u m (omega (arith, range, long))

    pick : (b : Bool) → eqb n u ≡ b → (u < suc n → times u (list_at (with_user users n (list_at edges n)) m) ≡ times m (list_at edges u)) × (suc n ≤ u → times u (list_at (with_user users n (list_at edges n)) m) ≡ 0)
    pick true e =
        let here = eqb-true n u e in
        let before = (old u m range).1 (omega (arith, here)) in
        let now : times u (list_at (with_user users n (list_at edges n)) m) ≡ times u (list_at users m) + times m (list_at edges n) = is ∙ ap (λ b. times u (list_at users m) + cond b (times m (list_at edges n)) 0) e in
        let same : times m (list_at edges n) ≡ times m (list_at edges u) = ap (λ k. times m (list_at edges k)) here in
        (λ lt. omega (arith, now, before, same), λ le. absurd (omega (arith, here, le)))
    pick false e =
        let ne = apart n u e in
        let now : times u (list_at (with_user users n (list_at edges n)) m) ≡ times u (list_at users m) + 0 = is ∙ ap (λ b. times u (list_at users m) + cond b (times m (list_at edges n)) 0) e in
        (λ lt. (let before = (old u m range).0 (omega (arith, lt, ne)) in omega (arith, now, before)), λ le. (let before = (old u m range).1 (omega (arith, le)) in omega (arith, now, before)))

  pub users_all : (users : List (List ℕ)) (n : ℕ) → length edges ≤ n → UsersBelow count edges users n → AreUsers count edges users
  users_all users n le old u m range = pick (ltb u n) refl where
    pick : (b : Bool) → ltb u n ≡ b → times u (list_at users m) ≡ times m (list_at edges u)
    pick true e = (old u m range).0 (ltb-true u n e)
    pick false e =
        let ge = ltb-false u n e in
        (old u m range).1 ge ∙ ap (times m) (sym (get_or_past edges u [] (omega (arith, ge, le))))

-- ---- modules, one by one

-- these units were looked at, and each unit waits for what is left
pub record Progress (o : Outline) (modules : List Bool) (edges : List (List ℕ)) (order : List ℕ) (done : List Bool) (s : State) : Type 0 where
  pub are : AreDone o order done
  pub waits : Balance modules done edges [] s

module _ (o : Outline) (units modules : List Bool) (edges : List (List ℕ)) (g : IsGraph o units modules edges) (order : List ℕ) (done : List Bool) (s : State) (old : Progress o modules edges order done s) where
  module _ (u : ℕ) (behind : List ℕ) (first : TakesFirst s.1 (Some u) behind) where
    least : LeastFound (λ v. is_next modules edges done v) (Some u)
    least = first_is_next modules done edges s (Some u) behind old.waits first

    open_one : (b : Bool) → marked done u ≡ b → marked done u ≡ false
    open_one true e =
        let bad : true ≡ false = sym least.0 ∙ ap (λ b. marked modules u && (not b && are_marked done (list_at edges u))) e ∙ and_false_first (marked modules u) (are_marked done (list_at edges u)) in
        absurd (cc)
    open_one false e = e

    pub progress_fewer : (marks : List Bool) → marks ≡ set_mark done u → unmarked marks < unmarked done
    progress_fewer marks f = module_fewer o units modules edges g order done old.are marks u least f

    pub progress_next : (users : List (List ℕ)) → AreUsers o.scopes edges users → (new : List ℕ) (marks : List Bool) (t : State) → new ≡ order ++ u ∷ [] → marks ≡ set_mark done u → t ≡ released modules marks (list_at users u) (s.0, behind)
        → Progress o modules edges new marks t
    progress_next users uses new marks t e f h =
        let range = next_range o units modules edges g order done old.are u least.0 in
        let count = old.are.count in
        let P : List Bool → Type 0 = λ d. Balance modules d edges (list_at users u) (s.0, behind) in
        let Q : State → Type 0 = λ q. Balance modules marks edges [] q in
        record {
          are = module_more o units modules edges g order done old.are new marks u least e f;
          waits = subst Q (sym h) (release_all modules marks edges (list_at users u) (s.0, behind) (subst P (sym f) (waits_next modules done edges s behind u (list_at users u) (omega (arith, range, count)) (open_one (marked done u) refl) old.waits first (λ v. uses v u range))));
        }

  pub progress_last : (behind : List ℕ) → TakesFirst s.1 None behind → (u : ℕ) → is_next modules edges done u ≡ true → ⊥
  progress_last behind first = first_is_next modules done edges s None behind old.waits first
