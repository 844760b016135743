-- The rules for a run that comes to another after exactly so many units, and shows nothing new until then: one for each load, store, test, unit and call.
use Rattle.std.proofs.Common.{◌≡◌, ℕ, zero, suc, ◌+◌, ◌-◌, ◌<◌, ◌≤◌, List, [], ◌∷◌, Option, Some, None, Bool, true, false, cond, refl, sym, ap, ◌∙◌, subst, arith, add-zero}
use Rattle.std.specs.Prelude.{nat_le, nat_lt, slice_get}
use Rattle.std.proofs.lemmas.Bool.Decides.{nat_tests}
use Rattle.behaviour.specs.Behaviour.{Running, Seen, Behaviour}
use Rattle.work.specs.Units.{with_value}
use Rattle.flat_ir.specs.Bytes.{Bytes, Areas, number, put, fits, loaded, stored}
use Rattle.flat_ir.specs.Placement.{Places}
use Rattle.flat_ir.specs.Tree.{Stmt, Procedure}
use Rattle.flat_ir.specs.Flat.{World, seen, with_frames, Next, Back, on, at_zero, turns, meaning, frame_of, charged, returning, nowhere, called, calls_of}
use Rattle.flat_ir.specs.Comes.{delayed, Comes, Exactly}
use Rattle.flat_ir.proofs.Comes.{loads, stores, delayed_on}

pub done : {s : Seen} {t : Behaviour} → Exactly s 0 t t
done {s} {t} = record { runs = λ n. refl }

-- another number of units, or another end
pub counted : {s : Seen} {t r : Behaviour} {j k : ℕ} → j ≡ k → Exactly s j t r → Exactly s k t r
counted {s} {t} {r} {j} {k} e x = subst (λ k. Exactly s k t r) e x

pub ending : {s : Seen} {t u r : Behaviour} {k : ℕ} → t ≡ u → Exactly s k t r → Exactly s k u r
ending {s} {t} {u} {r} {k} e x = subst (λ t. Exactly s k t r) e x

-- a run that comes to a run that comes to another
pub joined : {s : Seen} {t u r : Behaviour} {j k : ℕ} → Exactly s k u r → Exactly s j t u → Exactly s (k + j) t r
joined {s} {t} {u} {r} {j} {k} x y = record { runs = λ n. x.runs n ∙ delayed_on s k j u t y.runs n }

-- exact counts are bounds
pub comes : {s : Seen} {t r : Behaviour} {k : ℕ} (good : Behaviour → Type 0) (b : ℕ) → k ≤ b → good t → Exactly s k t r → Comes s good b r
comes {s} {t} {r} {k} good b le g x = record { k = k; few = le; rest = t; is_good = g; runs = x.runs }

module _ {s : Seen} {t : Behaviour} where
  pub ticks : {k : ℕ} (w : World) (r : Behaviour) → seen w Running ≡ s → Exactly s k t r → Exactly s (suc k) t (on w r)
  ticks {k} w r e x = record { runs = runs }
    where
      runs : (n : ℕ) → on w r n ≡ delayed s (suc k) t n
      runs zero = e
      runs (suc n) = x.runs n

  pub gives : {A : Type 0} {k : ℕ} (o : Option A) (other : Behaviour) (go : A → Behaviour) (v : A) → o ≡ Some v → Exactly s k t (go v) → Exactly s k t (with_value o other go)
  gives {A} {k} o other go v e x = subst (λ o. Exactly s k t (with_value o other go)) (sym e) x

  -- a load at an address that computes to a, of a value that is v
  pub load : {k : ℕ} (areas : Areas) (other : Behaviour) (go : ℕ → Behaviour) (n : ℕ) (m : Bytes) {i : ℕ} (a v : ℕ) → i ≡ a → fits n areas a ≡ true → number n m a ≡ v → Exactly s k t (go v) → Exactly s k t (with_value (loaded n areas m i) other go)
  load {k} areas other go n m {i} a v e h ev x = gives _ other go v (ap (λ i. loaded n areas m i) e ∙ (loads n areas m a h ∙ ap Some ev)) x

  -- the same, where what the load gives is known
  pub load_known : {k : ℕ} (areas : Areas) (other : Behaviour) (go : ℕ → Behaviour) (n : ℕ) (m : Bytes) {i : ℕ} (a v : ℕ) → i ≡ a → loaded n areas m a ≡ Some v → Exactly s k t (go v) → Exactly s k t (with_value (loaded n areas m i) other go)
  load_known {k} areas other go n m {i} a v e h x = gives _ other go v (ap (λ i. loaded n areas m i) e ∙ h) x

  -- a store after which the memory is m'
  pub store : {k : ℕ} (areas : Areas) (other : Behaviour) (go : Bytes → Behaviour) (n : ℕ) (m m' : Bytes) {i : ℕ} (a u : ℕ) → i ≡ a → fits n areas a ≡ true → put n m a u ≡ m' → Exactly s k t (go m') → Exactly s k t (with_value (stored n areas m i u) other go)
  store {k} areas other go n m m' {i} a u e h em x = gives _ other go m' (ap (λ i. stored n areas m i u) e ∙ (stores n areas m a u h ∙ ap Some em)) x

  -- branches
  pub if_zero : {k : ℕ} (v : ℕ) (x y : Behaviour) → v ≡ 0 → Exactly s k t x → Exactly s k t (at_zero v x y)
  if_zero {k} v x y e h = subst (λ v. Exactly s k t (at_zero v x y)) (sym e) h

  pub if_some : {k : ℕ} (v : ℕ) (x y : Behaviour) → 0 < v → Exactly s k t y → Exactly s k t (at_zero v x y)
  if_some {k} zero x y less h = absurd (omega arith)
  if_some {k} (suc v) x y less h = h

  pub when_true : {k : ℕ} (b : Bool) (x y : Behaviour) → (b ≡ true → Exactly s k t y) → (b ≡ false → Exactly s k t x) → Exactly s k t (at_zero (cond b 1 0) x y)
  when_true {k} true x y when else' = when refl
  when_true {k} false x y when else' = else' refl

  pub if_less : {k : ℕ} (i j : ℕ) (x y : Behaviour) → (i < j → Exactly s k t y) → (j ≤ i → Exactly s k t x) → Exactly s k t (at_zero (cond (nat_lt i j) 1 0) x y)
  if_less {k} i j x y when else' = when_true (nat_lt i j) x y (λ e. when (grind (arith, nat_tests))) (λ e. else' (grind (arith, nat_tests)))

  -- a loop that has gone back, over states, each with a bound on its turns and the units that follow it
  pub loops : {X : Type 0} (env : X → List ℕ) (world : X → World) (left units : X → ℕ) (body : Next → Next) → ((x : X) → seen (world x) Running ≡ s) → ((x : X) (again : Next) → ((y : X) → left y < left x → Exactly s (suc (units y)) t (again (env y) (world y))) → Exactly s (units x) t (body again (env x) (world x))) → (d : ℕ) (x : X) → left x < d → Exactly s (suc (units x)) t (turns d body (env x) (world x))
  loops {X} env world left units body quiet step zero x h = absurd (omega arith)
  loops {X} env world left units body quiet step (suc d) x h = ticks (world x) _ (quiet x) (step x (turns d body) (λ y less. loops env world left units body quiet step d y (omega arith)))

  -- the same values and the same world, written otherwise
  pub moved : {k : ℕ} (again : Next) (env env' : List ℕ) (w w' : World) → env ≡ env' → w ≡ w' → Exactly s k t (again env' w') → Exactly s k t (again env w)
  moved {k} again env env' w w' e ew h = subst (λ v. Exactly s k t (again v w)) (sym e) (subst (λ v. Exactly s k t (again env' v)) (sym ew) h)

  -- a call of a procedure whose frame fits
  pub enters : {k : ℕ} (ps : List Procedure) (g : Places) (p : ℕ) (f : Procedure) (d need : ℕ) (args env : List ℕ) (w w' : World) (back : Back) → seen w Running ≡ s → slice_get ps p ≡ Some f → frame_of f.params f.values args ≡ Some env → charged g.frames f.charge w ≡ Some w' → need < d
      → ((d : ℕ) → need ≤ d → Exactly s k t (meaning f.body g (calls_of ps g d) d (returning f.charge back) nowhere (λ env w. returning f.charge back [] w) env w')) → Exactly s (suc k) t (calls_of ps g d p args w back)
  enters {k} ps g p f zero need args env w w' back quiet e ef ec h c = absurd (omega arith)
  enters {k} ps g p f (suc d) need args env w w' back quiet e ef ec h c =
      subst (λ o. Exactly s (suc k) t (called o g (calls_of ps g d) d args w back)) (sym e)
      (gives _ _ _ env ef (gives _ _ _ w' ec (ticks w _ quiet (c d (omega arith)))))

  -- a call of a routine, whose frame takes no bytes of the limit
  pub enters_routine : {k : ℕ} (ps : List Procedure) (g : Places) (p params values : ℕ) (body : Stmt) (d need : ℕ) (args env : List ℕ) (w : World) (back : Back) → seen w Running ≡ s → slice_get ps p ≡ Some (record { params = params; values = values; charge = 0; body = body }) → frame_of params values args ≡ Some env → w.frames ≤ g.frames → need < d
      → ((d : ℕ) → need ≤ d → Exactly s k t (meaning body g (calls_of ps g d) d back nowhere (λ env w. back [] w) env w)) → Exactly s (suc k) t (calls_of ps g d p args w back)
  enters_routine {k} ps g p params values body d need args env w back quiet e ef room h c =
      enters ps g p _ d need args env w w back quiet e ef uncharged h
      (λ d le. subst (λ (b : Back). Exactly s k t (meaning body g (calls_of ps g d) d b nowhere (λ env w. b [] w) env w)) (sym returned) (c d le))
    where
      uncharged : charged g.frames 0 w ≡ Some w
      uncharged =
          let fit : nat_le (w.frames + 0) g.frames ≡ true = grind (arith, nat_tests) in
          ap (λ b. cond b (Some (with_frames w (w.frames + 0))) None) fit ∙ ap (λ n. Some (with_frames w n)) (add-zero w.frames)

      returned : returning 0 back ≡ back
      returned = λ i rs w. back rs (with_frames w (less w.frames i))
        where
          less : (n : ℕ) → n - 0 ≡ n
          less n = omega arith
