-- The rules for a run that comes to another, at most so many units later, and shows nothing new until then.
use Rattle.std.proofs.Common.{◌≡◌, ℕ, zero, suc, ◌+◌, ◌<◌, ◌≤◌, ◌%◌, List, [], Option, Some, None, Bool, true, false, cond, refl, sym, ap, ◌∙◌, subst, arith, zero-add}
use Rattle.std.specs.Prelude.{◌&&◌, ◌||◌, nat_eq, nat_lt, slice_get}
use Rattle.std.proofs.Math.Nat.{suc-add}
use Rattle.std.proofs.lemmas.Bool.Decides.{nat_tests}
use Rattle.behaviour.specs.Behaviour.{Running, Seen, Behaviour}
use Rattle.work.specs.Units.{with_value}
use Rattle.flat_ir.specs.Bytes.{Bytes, Area, Areas, number, put, lies, fits, loaded, stored}
use Rattle.flat_ir.specs.Placement.{Places}
use Rattle.flat_ir.specs.Tree.{Procedure}
use Rattle.flat_ir.specs.Flat.{World, seen, Next, Back, on, at_zero, turns, meaning, frame_of, charged, returning, nowhere, called, calls_of}
use Rattle.flat_ir.specs.Comes.{delayed, Comes}

-- n bytes lie in an area, and where they may be loaded and stored
pub record Lies (n : ℕ) (s : Area) (a : ℕ) : Type 0 where
  pub above : s.low ≤ a
  pub below : a + n ≤ s.high

pub data Within (n : ℕ) (s : Areas) (a : ℕ) : Type 0 where
  in_image : Lies n s.image a → Within n s a
  in_objects : Lies n s.objects a → Within n s a
  in_heap : Lies n s.heap a → Within n s a

lie : (n : ℕ) (s : Area) (a : ℕ) → Lies n s a → lies n s a ≡ true
lie n s a h = grind (arith, nat_tests, h.above, h.below)

second : (a b : Bool) → b ≡ true → (a || b) ≡ true
second true b h = refl
second false b h = h

first : (a b : Bool) → a ≡ true → (a || b) ≡ true
first true b h = refl
first false b h = absurd (cc)

both : (a b : Bool) → a ≡ true → b ≡ true → (a && b) ≡ true
both true b h k = k
both false b h k = absurd (cc)

pub some_fit : (n : ℕ) (s : Areas) (a : ℕ) → nat_eq (a % n) 0 ≡ true → Within n s a → fits n s a ≡ true
some_fit n s a e (in_image h) = both _ _ e (first _ _ (lie n s.image a h))
some_fit n s a e (in_objects h) = both _ _ e (second (lies n s.image a) _ (first _ _ (lie n s.objects a h)))
some_fit n s a e (in_heap h) = both _ _ e (second (lies n s.image a) _ (second (lies n s.objects a) _ (lie n s.heap a h)))

pub loads : (n : ℕ) (s : Areas) (m : Bytes) (a : ℕ) → fits n s a ≡ true → loaded n s m a ≡ Some (number n m a)
unfolding loaded
loads n s m a h = ap (λ b. cond b (Some (number n m a)) None) h

pub stores : (n : ℕ) (s : Areas) (m : Bytes) (a v : ℕ) → fits n s a ≡ true → stored n s m a v ≡ Some (put n m a v)
unfolding stored
stores n s m a v h = ap (λ b. cond b (Some (put n m a v)) None) h

module _ {s : Seen} {good : Behaviour → Type 0} where
  pub arrived : (b : ℕ) (r : Behaviour) → good r → Comes s good b r
  arrived b r g = record { k = 0; few = omega arith; rest = r; is_good = g; runs = λ n. refl }

  pub within : {a b : ℕ} {r : Behaviour} → a ≤ b → Comes s good a r → Comes s good b r
  within le c = record { k = c.k; few = omega (arith, c.few); rest = c.rest; is_good = c.is_good; runs = c.runs }

  pub ticked : (b : ℕ) (w : World) (r : Behaviour) → seen w Running ≡ s → Comes s good b r → Comes s good (suc b) (on w r)
  ticked b w r e c = record { k = suc c.k; few = omega (arith, c.few); rest = c.rest; is_good = c.is_good; runs = runs }
    where
      runs : (n : ℕ) → on w r n ≡ delayed s (suc c.k) c.rest n
      runs zero = e
      runs (suc n) = c.runs n

  pub valued : {A : Type 0} {b : ℕ} (o : Option A) (other : Behaviour) (go : A → Behaviour) (v : A) → o ≡ Some v → Comes s good b (go v) → Comes s good b (with_value o other go)
  valued {A} {b} o other go v e c = subst (λ o. Comes s good b (with_value o other go)) (sym e) c

  -- a load at an address that computes to a, of a value that is v
  pub load : {b : ℕ} (areas : Areas) (other : Behaviour) (go : ℕ → Behaviour) (n : ℕ) (m : Bytes) {i : ℕ} (a v : ℕ) → i ≡ a → fits n areas a ≡ true → number n m a ≡ v → Comes s good b (go v) → Comes s good b (with_value (loaded n areas m i) other go)
  load {b} areas other go n m {i} a v e h ev c = valued _ other go v (ap (λ i. loaded n areas m i) e ∙ (loads n areas m a h ∙ ap Some ev)) c

  pub store : {b : ℕ} (areas : Areas) (other : Behaviour) (go : Bytes → Behaviour) (n : ℕ) (m : Bytes) {i u : ℕ} (a v : ℕ) → i ≡ a → u ≡ v → fits n areas a ≡ true → Comes s good b (go (put n m a v)) → Comes s good b (with_value (stored n areas m i u) other go)
  store {b} areas other go n m {i} {u} a v e ev h c = valued _ other go (put n m a v) (ap (λ i. stored n areas m i u) e ∙ (ap (λ u. stored n areas m a u) ev ∙ stores n areas m a v h)) c

  -- the same, where the new memory has a name and an equation: terms stay small in a long routine
  pub stored_as : {b : ℕ} (areas : Areas) (other : Behaviour) (go : Bytes → Behaviour) (n : ℕ) (m : Bytes) {i u : ℕ} (a v : ℕ) → i ≡ a → u ≡ v → fits n areas a ≡ true → ((m' : Bytes) → m' ≡ put n m a v → Comes s good b (go m')) → Comes s good b (with_value (stored n areas m i u) other go)
  stored_as {b} areas other go n m {i} {u} a v e ev h c = store areas other go n m a v e ev h (c (put n m a v) refl)

  -- branches
  pub if_zero : {b : ℕ} (v : ℕ) (x y : Behaviour) → v ≡ 0 → Comes s good b x → Comes s good b (at_zero v x y)
  if_zero {b} v x y e c = subst (λ v. Comes s good b (at_zero v x y)) (sym e) c

  pub if_any : {b : ℕ} (v : ℕ) (x y : Behaviour) → (v ≡ 0 → Comes s good b x) → (0 < v → Comes s good b y) → Comes s good b (at_zero v x y)
  if_any {b} zero x y none some = none refl
  if_any {b} (suc v) x y none some = some (omega arith)

  pub when_true : {b : ℕ} (t : Bool) (x y : Behaviour) → (t ≡ true → Comes s good b y) → (t ≡ false → Comes s good b x) → Comes s good b (at_zero (cond t 1 0) x y)
  when_true {b} true x y when else' = when refl
  when_true {b} false x y when else' = else' refl

  -- the test of an order of numbers without sign
  pub if_less : {b : ℕ} (i j : ℕ) (x y : Behaviour) → (i < j → Comes s good b y) → (j ≤ i → Comes s good b x) → Comes s good b (at_zero (cond (nat_lt i j) 1 0) x y)
  if_less {b} i j x y when else' = go (nat_lt i j) refl
    where
      go : (t : Bool) → nat_lt i j ≡ t → Comes s good b (at_zero (cond t 1 0) x y)
      go true e = when (grind (arith, nat_tests))
      go false e = else' (grind (arith, nat_tests))

  -- a loop that has gone back, over states, each with a bound on its turns and one on the units of a turn
  pub loops : {X : Type 0} (env : X → List ℕ) (world : X → World) (left units : X → ℕ) (body : Next → Next) → ((x : X) → seen (world x) Running ≡ s) → ((x : X) (again : Next) → ((y : X) → left y < left x → Comes s good (suc (units y)) (again (env y) (world y))) → Comes s good (units x) (body again (env x) (world x))) → (d : ℕ) (x : X) → left x < d → Comes s good (suc (units x)) (turns d body (env x) (world x))
  loops env world left units body quiet step zero x h = absurd (omega arith)
  loops env world left units body quiet step (suc d) x h = ticked (units x) (world x) _ (quiet x) (step x (turns d body) (λ y less. loops env world left units body quiet step d y (omega arith)))

  -- the same values and the same world, written otherwise
  pub moved : {b : ℕ} (again : Next) (env env' : List ℕ) (w w' : World) → env ≡ env' → w ≡ w' → Comes s good b (again env' w') → Comes s good b (again env w)
  moved {b} again env env' w w' e ew c = subst (λ v. Comes s good b (again v w)) (sym e) (subst (λ v. Comes s good b (again env' v)) (sym ew) c)

  -- a call of a procedure whose frame fits
  pub enters : {b : ℕ} (ps : List Procedure) (g : Places) (p : ℕ) (f : Procedure) (d need : ℕ) (args env : List ℕ) (w w' : World) (back : Back) → seen w Running ≡ s → slice_get ps p ≡ Some f → frame_of f.params f.values args ≡ Some env → charged g.frames f.charge w ≡ Some w' → need < d
      → ((d : ℕ) → need ≤ d → Comes s good b (meaning f.body g (calls_of ps g d) d (returning f.charge back) nowhere (λ env w. returning f.charge back [] w) env w')) → Comes s good (suc b) (calls_of ps g d p args w back)
  enters {b} ps g p f zero need args env w w' back quiet e ef ec h c = absurd (omega arith)
  enters {b} ps g p f (suc d) need args env w w' back quiet e ef ec h c =
      subst (λ o. Comes s good (suc b) (called o g (calls_of ps g d) d args w back)) (sym e)
      (valued _ _ _ env ef (valued _ _ _ w' ec (ticked b w _ quiet (c d (omega arith)))))

pub delayed_on : (s : Seen) (k j : ℕ) (t u : Behaviour) → ((n : ℕ) → t n ≡ delayed s j u n) → (n : ℕ) → delayed s k t n ≡ delayed s (k + j) u n
delayed_on s zero j t u e n = e n ∙ ap (λ k. delayed s k u n) (sym (zero-add j))
delayed_on s (suc k) j t u e zero = rw suc-add
delayed_on s (suc k) j t u e (suc n) = rw suc-add (delayed_on s k j t u e n)

-- a run that comes to a run that comes to a good one
pub bound : (s : Seen) (mid good : Behaviour → Type 0) (a b : ℕ) (r : Behaviour) → Comes s mid a r → ((t : Behaviour) → mid t → Comes s good b t) → Comes s good (a + b) r
bound s mid good a b r c f =
    let e = f c.rest c.is_good in
    record { k = c.k + e.k; few = omega (arith, c.few, e.few); rest = e.rest; is_good = e.is_good; runs = λ n. c.runs n ∙ delayed_on s c.k e.k c.rest e.rest e.runs n }
