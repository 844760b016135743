-- A run that is cut off at some depth shows nothing that the whole run doesn't show.
use Rattle.std.proofs.Common.{ℕ, zero, suc, List, [], ◌≡◌, refl, sym, ◌∙◌}
use Rattle.std.specs.Prelude.{Option, Some, None}
use Rattle.work.specs.Units.{unit}
use Rattle.work.specs.Work.{Outcome, Again, Left, Returned, Work, Over, Do, Call, Loop, Procedure, Running, Deed, Quiet, Counted, GivesByte, TakesByte, EndsRun, Rules}
use Rattle.work.specs.Run.{World, told, Run, with_memory, gave, took, does, Back, Calls, Turn, again, run, result_of, entered, calls_of, begun, starting, within, whole}
use Rattle.work.specs.Whole.{free, around, through, from}
use Rattle.work.proofs.Whole.{free_do, free_loop, free_call, whole_is}

-- whatever the first shows, the second shows at some bound
abbrev pub Settled : {S : Type 0} → (ℕ → S) → (ℕ → S) → Type 0
Settled r r' = (i : ℕ) → (j : ℕ) × (r i ≡ r' j)

module _ {S : Type 0} where
  settled_unit : (now : S) (r r' : ℕ → S) → Settled r r' → Settled (unit now r) (unit now r')
  settled_unit now r r' h zero = (0, refl)
  settled_unit now r r' h (suc i) = (suc (h i).0, (h i).1)

  settled_by : (r r' r'' : ℕ → S) → ((j : ℕ) → r'' j ≡ r' j) → Settled r r' → Settled r r''
  settled_by r r' r'' e h i = ((h i).0, (h i).1 ∙ sym (e (h i).0))

module _ {V M P : Type 0} where
  does_settled : (d : Deed V M P) (w : World M) (next next' : V → World M → Run P) → ((v : V) (w' : World M) → Settled (next v w') (next' v w')) → Settled (does d w next) (does d w next')
  does_settled (Quiet v m) w next next' h = h v (with_memory w m)
  does_settled (Counted v m) w next next' h = settled_unit (told w Running) _ _ (h v (with_memory w m))
  does_settled (GivesByte b v m) w next next' h = settled_unit (told w Running) _ _ (h v (gave w b m))
  does_settled (TakesByte f m) w next next' h = settled_unit (told w Running) _ _ (h (f w.unread) (took w w.unread m))
  does_settled (EndsRun e) w next next' h = λ i. (i, refl)

  abbrev SettledBack : Back V M P → Back V M P → Type 0
  SettledBack back back' = (o : Outcome V) (w : World M) → Settled (back o w) (back' o w)

module _ {A V M P : Type 0} (r : Rules A V M P) (ps : ℕ → Procedure A V P) where
  abbrev SettledCalls : Calls V M P → Type 0
  SettledCalls calls = (p : ℕ) (vs : List V) (w : World M) (next next' : List V → World M → Run P) → ((v : List V) (w' : World M) → Settled (next v w') (next' v w'))
      → Settled (calls p vs w next) (through r ps (ps p) vs w next' (r.enter (ps p).frame w.memory))

  again_settled : (turn : Turn V M P) (body : List V → Work A V P) → ((s : List V) (back back' : Back V M P) → SettledBack back back' → (w : World M) → Settled (turn s back w) (free r ps (body s) back' w))
      → (k : Outcome V → Work A V P) (d : ℕ) (after back' : Back V M P) → SettledBack after (λ o. free r ps (k o) back') → SettledBack (again d turn after) (around r ps body k back')
  again_settled turn body h k zero after back' ha (Again s) w = λ i. (0, refl)
  again_settled turn body h k (suc d) after back' ha (Again s) w =
      settled_unit (told w Running) _ _
      (settled_by _ (free r ps (body s) (around r ps body k back') w) _ (free_loop r ps s body k back' w)
      (h s (again d turn after) (around r ps body k back') (again_settled turn body h k d after back' ha) w))
  again_settled turn body h k zero after back' ha (Left s) w = ha (Left s) w
  again_settled turn body h k (suc d) after back' ha (Left s) w = ha (Left s) w
  again_settled turn body h k zero after back' ha (Returned s) w = ha (Returned s) w
  again_settled turn body h k (suc d) after back' ha (Returned s) w = ha (Returned s) w

  run_settled : (calls : Calls V M P) → SettledCalls calls → (d : ℕ) (c : Work A V P) (back back' : Back V M P) → SettledBack back back' → (w : World M)
      → Settled (run r calls d c back w) (free r ps c back' w)
  run_settled calls hc d (Over o) back back' hb w = hb o w
  run_settled calls hc d (Do at a k) back back' hb w =
      settled_by _ (does (r.deed at a w.memory) w (λ v. free r ps (k v) back')) _ (free_do r ps at a k back' w)
      (does_settled (r.deed at a w.memory) w _ _ (λ v w'. run_settled calls hc d (k v) back back' hb w'))
  run_settled calls hc d (Call p vs k) back back' hb w =
      settled_by _ (through r ps (ps p) vs w (λ v. free r ps (k v) back') (r.enter (ps p).frame w.memory)) _ (free_call r ps p vs k back' w)
      (hc p vs w _ _ (λ v w'. run_settled calls hc d (k v) back back' hb w'))
  run_settled calls hc d (Loop s body k) back back' hb w =
      settled_by _ (free r ps (body s) (around r ps body k back') w) _ (free_loop r ps s body k back' w)
      (run_settled calls hc d (body s) _ _
      (again_settled (λ t. run r calls d (body t)) body (λ t b b' h w'. run_settled calls hc d (body t) b b' h w') k d _ back' (λ o w'. run_settled calls hc d (k o) back back' hb w')) w)

  entered_settled : (calls : Calls V M P) → SettledCalls calls → (d : ℕ) (f : Procedure A V P) (vs : List V) (w : World M) (next next' : List V → World M → Run P)
      → ((v : List V) (w' : World M) → Settled (next v w') (next' v w')) → (o : Option M) → Settled (entered r calls d f vs w next o) (through r ps f vs w next' o)
  entered_settled calls hc d f vs w next next' h None = λ i. (i, refl)
  entered_settled calls hc d f vs w next next' h (Some m) =
      settled_unit (told w Running) _ _ (run_settled calls hc d (f.work vs) _ _ (λ o w'. h (result_of o) (with_memory w' (r.leave f.frame w'.memory))) (with_memory w m))

  calls_settled : (d : ℕ) → SettledCalls (calls_of r ps d)
  calls_settled zero p vs w next next' h = λ i. (0, at_once (r.enter (ps p).frame w.memory))
    where
      at_once : (o : Option M) → told w Running ≡ through r ps (ps p) vs w next' o 0
      at_once None = refl
      at_once (Some m) = refl
  calls_settled (suc d) p vs w next next' h = entered_settled (calls_of r ps d) (calls_settled d) d (ps p) vs w next next' h (r.enter (ps p).frame w.memory)

  begun_settled : (d : ℕ) (main : Procedure A V P) (w : World M) (o : Option M) → Settled (begun r (calls_of r ps d) d main w o) (from r ps main w o)
  begun_settled d main w None = λ i. (i, refl)
  begun_settled d main w (Some m) = run_settled (calls_of r ps d) (calls_settled d) d (main.work []) _ _ (λ o w' i. (i, refl)) (with_memory w m)

  pub settles : (main : Procedure A V P) (m : M) (input : List ℕ) (d i : ℕ) → (n : ℕ) × (within r ps main m input d i ≡ whole r ps main m input n)
  settles main m input d =
      settled_by (within r ps main m input d) (from r ps main (starting m input) (r.enter main.frame m)) (whole r ps main m input) (whole_is r ps main m input)
      (begun_settled d main (starting m input) (r.enter main.frame m))
