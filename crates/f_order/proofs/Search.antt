-- A search along USE statements.
use Rattle.std.proofs.Common.{◌≡◌, ℕ, zero, suc, ◌+◌, ◌-◌, ◌<◌, ◌≤◌, ◌⊎◌, inl, inr, Bool, true, false, cond, List, [], ◌∷◌, ◌++◌, length, get_or, slice_get, replicate, Some, None, refl, sym, ap, ◌∙◌, subst, arith}
use Rattle.std.proofs.lemmas.List.{length-append, length-replicate}
use Rattle.std.proofs.lemmas.Option.{slice_get_within, slice_get_cases}
use Rattle.f_items.specs.Places.{Located}
use Rattle.f_items.specs.Order.{DependsOn, Reaches, Same, Along}
use Rattle.f_scope.specs.Program.{Outline}
use Rattle.f_scope.proofs.Scans.{last as next_or}
use Rattle.f_use.specs.Places.{Among, list_at}
use Rattle.f_use.proofs.Listed.{among_more, among_last, among_cases}
use Rattle.f_order.specs.Marks.{marked, set_mark, unmarked}
use Rattle.f_order.specs.Graph.{AreEdges, AreInside, AreReached}
use Rattle.f_order.specs.Reach.{State, extended_one, extended}
use Rattle.f_order.proofs.Marking.{none_marked, length_set, set_here, set_cases, set_keeps, set_fewer}

-- the marks are those of what was found
abbrev pub Agrees : State → Type 0
Agrees s = (v : ℕ) → (marked s.1 v ≡ true → Among s.0 v) × (Among s.0 v → marked s.1 v ≡ true)

-- what changes where numbers are added
pub record Extends (ns : List ℕ) (s t : State) : Type 0 where
  pub keeps_marks : (v : ℕ) → marked s.1 v ≡ true → marked t.1 v ≡ true
  pub keeps_found : (i v : ℕ) → slice_get s.0 i ≡ Some v → slice_get t.0 i ≡ Some v
  pub only : (v : ℕ) → Among t.0 v → Among s.0 v ⊎ Among ns v
  pub all : (v : ℕ) → Among ns v → marked t.1 v ≡ true
  pub agrees : Agrees s → Agrees t
  pub sum : unmarked t.1 + length t.0 ≡ unmarked s.1 + length s.0
  pub count : length t.1 ≡ length s.1
  pub longer : length s.0 ≤ length t.0

get_more : (xs ys : List ℕ) (i k : ℕ) → slice_get xs i ≡ Some k → slice_get (xs ++ ys) i ≡ Some k
get_more [] ys i k e = absurd (cc)
get_more (x ∷ xs) ys zero k e = e
get_more (x ∷ xs) ys (suc i) k e = get_more xs ys i k e

only_one : (n v : ℕ) → Among (n ∷ []) v → v ≡ n
only_one n v a = at a.0 a.1 where
  at : (i : ℕ) → slice_get (n ∷ []) i ≡ Some v → v ≡ n
  at zero e = let is : n ≡ v = cc in sym is
  at (suc i) e = absurd (cc)

none_of : (s : State) (v : ℕ) → Among [] v → ⊥
none_of s v a = let e = a.1 in cc

extends_none : (s : State) → Extends [] s s
extends_none s = record { keeps_marks = λ v e. e; keeps_found = λ i v e. e; only = λ v a. inl a; all = λ v a. absurd (none_of s v a); agrees = λ h. h; sum = refl; count = refl; longer = omega arith }

pub extends_one : (n : ℕ) (s : State) → n < length s.1 → Extends (n ∷ []) s (extended_one n s)
extends_one n s lt = pick (marked s.1 n) refl where
  pick : (b : Bool) → marked s.1 n ≡ b → Extends (n ∷ []) s (cond b s (s.0 ++ n ∷ [], set_mark s.1 n))
  pick true e = record { keeps_marks = λ v m. m; keeps_found = λ i v g. g; only = λ v a. inl a; all = λ v a. ap (marked s.1) (only_one n v a) ∙ e; agrees = λ h. h; sum = refl; count = refl; longer = omega arith }
  pick false e =
      let grown = length-append s.0 (n ∷ []) in
      let fewer = set_fewer s.1 n lt e in
      record {
        keeps_marks = λ v m. set_keeps s.1 n v m;
        keeps_found = λ i v g. get_more s.0 (n ∷ []) i v g;
        only = λ v a. only v (among_cases s.0 n v a);
        all = λ v a. ap (marked (set_mark s.1 n)) (only_one n v a) ∙ set_here s.1 n lt;
        agrees = λ h v. (λ m. found h v (set_cases s.1 n v m), λ a. marks h v (among_cases s.0 n v a));
        sum = omega (arith, grown, fewer);
        count = length_set s.1 n;
        longer = omega (arith, grown);
      } where
        only : (v : ℕ) → Among s.0 v ⊎ (v ≡ n) → Among s.0 v ⊎ Among (n ∷ []) v
        only v (inl a) = inl a
        only v (inr is) = inr (0, ap Some (sym is))

        found : Agrees s → (v : ℕ) → (marked s.1 v ≡ true) ⊎ (v ≡ n) → Among (s.0 ++ n ∷ []) v
        found h v (inl m) = among_more s.0 (n ∷ []) v ((h v).0 m)
        found h v (inr is) = let P : ℕ → Type 0 = λ w. Among (s.0 ++ n ∷ []) w in subst P (sym is) (among_last s.0 n)

        marks : Agrees s → (v : ℕ) → Among s.0 v ⊎ (v ≡ n) → marked (set_mark s.1 n) v ≡ true
        marks h v (inl a) = set_keeps s.1 n v ((h v).1 a)
        marks h v (inr is) = ap (marked (set_mark s.1 n)) is ∙ set_here s.1 n lt

extends_more : (n : ℕ) (ns : List ℕ) (s t u : State) → Extends (n ∷ []) s t → Extends ns t u → Extends (n ∷ ns) s u
extends_more n ns s t u x y =
    let a = x.sum in let b = y.sum in let c = x.longer in let d = y.longer in
    record {
      keeps_marks = λ v e. y.keeps_marks v (x.keeps_marks v e);
      keeps_found = λ i v e. y.keeps_found i v (x.keeps_found i v e);
      only = λ v m. both v (y.only v m);
      all = λ v m. all v m.0 m.1;
      agrees = λ h. y.agrees (x.agrees h);
      sum = omega (arith, a, b);
      count = y.count ∙ x.count;
      longer = omega (arith, c, d);
    } where
      first : (v : ℕ) → Among s.0 v ⊎ Among (n ∷ []) v → Among s.0 v ⊎ Among (n ∷ ns) v
      first v (inl m) = inl m
      first v (inr m) = inr (0, ap Some (sym (only_one n v m)))

      both : (v : ℕ) → Among t.0 v ⊎ Among ns v → Among s.0 v ⊎ Among (n ∷ ns) v
      both v (inl m) = first v (x.only v m)
      both v (inr m) = inr (suc m.0, m.1)

      all : (v i : ℕ) → slice_get (n ∷ ns) i ≡ Some v → marked u.1 v ≡ true
      all v zero e = y.keeps_marks v (x.all v (0, e))
      all v (suc i) e = y.all v (i, e)

pub extends_all : (ns : List ℕ) (s : State) → ((v : ℕ) → Among ns v → v < length s.1) → Extends ns s (extended ns s)
unfolding extended
extends_all [] s within = extends_none s
extends_all (n ∷ ns) s within =
    let first = extends_one n s (within n (0, refl)) in
    let long = first.count in
    let rest : (v : ℕ) → Among ns v → v < length (extended_one n s).1 = λ v a. let lt = within v (suc a.0, a.1) in omega (arith, lt, long) in
    extends_more n ns s (extended_one n s) (extended ns (extended_one n s)) first (extends_all ns (extended_one n s) rest)

-- ---- the search

-- one unit further
pub reaches_more : (p : List Located) (a u m : ℕ) → Reaches p a u → DependsOn p u m → Reaches p a m
reaches_more p a _ m (Same _) d = Along a m m d (Same m)
reaches_more p a u m (Along _ n _ e r) d = Along a n m e (reaches_more p n u m r d)

pub record Searched (o : Outline) (from : ℕ) (s : State) (at : ℕ) : Type 0 where
  pub agrees : Agrees s
  pub sound : (v : ℕ) → Among s.0 v → Reaches o.items from v
  pub start : Among s.0 from
  pub closed : (i v : ℕ) → i < at → slice_get s.0 i ≡ Some v → (m : ℕ) → DependsOn o.items v m → marked s.1 m ≡ true
  pub count : length s.1 ≡ o.scopes
  pub within : at ≤ length s.0

-- more is found by the same amount as fewer are unmarked
pub left : State → ℕ → ℕ
left s at = unmarked s.1 + (length s.0 - at)

module _ (o : Outline) (edges : List (List ℕ)) (known : AreEdges o.items edges) (inside : AreInside o) (from : ℕ) where
  pub search_first : from < o.scopes → (s : State) → s ≡ extended_one from ([], replicate o.scopes false) → Searched o from s 0
  search_first lt s e = let P : State → Type 0 = λ t. Searched o from t 0 in subst P (sym e) first where
    empty : State
    empty = ([], replicate o.scopes false)

    long : length (replicate o.scopes false) ≡ o.scopes
    long = length-replicate o.scopes false

    x : Extends (from ∷ []) ([], replicate o.scopes false) (extended_one from ([], replicate o.scopes false))
    x = extends_one from ([], replicate o.scopes false) (omega (arith, lt, long))

    agree : Agrees ([], replicate o.scopes false)
    agree = λ v. (λ m. absurd (none_marked o.scopes v m), λ a. absurd (none_of ([], replicate o.scopes false) v a))

    only : (v : ℕ) → Among [] v ⊎ Among (from ∷ []) v → Reaches o.items from v
    only v (inl a) = absurd (none_of ([], replicate o.scopes false) v a)
    only v (inr a) = let P : ℕ → Type 0 = λ w. Reaches o.items from w in subst P (sym (only_one from v a)) (Same from)

    first : Searched o from (extended_one from ([], replicate o.scopes false)) 0
    first = record {
      agrees = x.agrees agree;
      sound = λ v a. only v (x.only v a);
      start = (x.agrees agree from).0 (x.all from (0, refl));
      closed = λ i v lt. absurd (omega (arith, lt));
      count = x.count ∙ long;
      within = omega arith;
    }

  module _ (s t : State) (at u : ℕ) (old : Searched o from s at) (here : slice_get s.0 at ≡ Some u) (is : t ≡ extended (list_at edges u) s) where
    extends : Extends (list_at edges u) s t
    extends =
        let P : State → Type 0 = λ q. Extends (list_at edges u) s q in
        let count = old.count in
        subst P (sym is) (extends_all (list_at edges u) s (λ v a. let lt = inside u v ((known u v).0 a) in omega (arith, lt, count)))

    pub search_next : Searched o from t (suc at)
    search_next = record {
      agrees = extends.agrees old.agrees;
      sound = λ v a. sound v (extends.only v a);
      start = (old.start.0, extends.keeps_found old.start.0 from old.start.1);
      closed = λ i v lt e m d. closed i v e m d (last i lt);
      count = extends.count ∙ old.count;
      within = (let lt = slice_get_within s.0 at u here in let more = extends.longer in omega (arith, lt, more));
    } where
      sound : (v : ℕ) → Among s.0 v ⊎ Among (list_at edges u) v → Reaches o.items from v
      sound v (inl a) = old.sound v a
      sound v (inr a) = reaches_more o.items from u v (old.sound u (at, here)) ((known u v).0 a)

      last : (i : ℕ) → i < suc at → (i < at) ⊎ (i ≡ at)
      last i lt = next_or i at lt

      there : (i v : ℕ) → slice_get t.0 i ≡ Some v → (w : ℕ) → slice_get s.0 i ≡ Some w → w ≡ v
      there i v e w f = let g : Some w ≡ Some v = sym (extends.keeps_found i w f) ∙ e in cc

      closed : (i v : ℕ) → slice_get t.0 i ≡ Some v → (m : ℕ) → DependsOn o.items v m → (i < at) ⊎ (i ≡ at) → marked t.1 m ≡ true
      closed i v e m d (inl lt) = old_one (slice_get_cases s.0 i).1 where
        old_one : ((x : ℕ) × (i < length s.0) × (slice_get s.0 i ≡ Some x) × (get_or s.0 i x ≡ x)) ⊎ ((length s.0 ≤ i) × (slice_get s.0 i ≡ None)) → marked t.1 m ≡ true
        old_one (inl q) = let P : ℕ → Type 0 = λ w. DependsOn o.items w m in extends.keeps_marks m (old.closed i q.0 lt q.2 m (subst P (sym (there i v e q.0 q.2)) d))
        old_one (inr q) = let le = q.0 in let within = old.within in absurd (omega (arith, lt, le, within))
      closed i v e m d (inr same) =
          let f : slice_get s.0 i ≡ Some u = ap (slice_get s.0) same ∙ here in
          let P : ℕ → Type 0 = λ w. DependsOn o.items w m in
          extends.all m ((known u m).1 (subst P (sym (there i v e u f)) d))

    pub search_less : unmarked t.1 + (length t.0 - suc at) < unmarked s.1 + (length s.0 - at)
    search_less =
        let lt = slice_get_within s.0 at u here in
        let sum = extends.sum in
        let more = extends.longer in
        omega (arith, lt, sum, more)

  pub search_last : (s : State) (at : ℕ) → slice_get s.0 at ≡ None → Searched o from s at → AreReached o.items from s.1
  search_last s at none old v = (λ m. old.sound v ((old.agrees v).0 m), λ r. go from v r ((old.agrees from).1 old.start)) where
    past : ((x : ℕ) × (at < length s.0) × (slice_get s.0 at ≡ Some x) × (get_or s.0 at x ≡ x)) ⊎ ((length s.0 ≤ at) × (slice_get s.0 at ≡ None)) → length s.0 ≤ at
    past (inl q) = let bad : None ≡ Some q.0 = sym none ∙ q.2 in absurd (cc)
    past (inr q) = q.0

    step : (a n : ℕ) → DependsOn o.items a n → marked s.1 a ≡ true → marked s.1 n ≡ true
    step a n d m =
        let f = (old.agrees a).0 m in
        let lt = slice_get_within s.0 f.0 a f.1 in
        let le = past (slice_get_cases s.0 at).1 in
        old.closed f.0 a (omega (arith, lt, le)) f.1 n d

    go : (a v : ℕ) → Reaches o.items a v → marked s.1 a ≡ true → marked s.1 v ≡ true
    go a _ (Same _) m = m
    go a v (Along _ n _ d r) m = go n v r (step a n d m)
