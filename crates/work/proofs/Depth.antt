-- How deep calls may be, and how often loops may go back, doesn't matter to a run of fewer units.
use Rattle.std.proofs.Common.{ℕ, zero, suc, List, [], ◌+◌, ◌≡◌, ◌≤◌, refl, sym, ◌∙◌, subst, arith}
use Rattle.std.specs.Prelude.{Option, Some, None}
use Rattle.behaviour.specs.Run.{IsRun}
use Rattle.work.specs.Units.{unit}
use Rattle.work.specs.Work.{Outcome, Again, Left, Returned, Work, Over, Do, Call, Loop, Procedure, Running, Deed, Quiet, Counted, GivesByte, TakesByte, EndsRun, Rules}
use Rattle.work.specs.Run.{World, told, Run, with_memory, gave, took, does, Back, Calls, Turn, again, run, result_of, entered, calls_of, begun, starting, within, seen, behaviour_of}
use Rattle.work.proofs.Laws.{Step, Lawful, within_lawful}

module _ {S : Type 0} where
  pub unit_agree : (n : ℕ) (now : S) (r r' : ℕ → S) → ((m : ℕ) → suc m ≤ n → r m ≡ r' m) → (m : ℕ) → m ≤ n → unit now r m ≡ unit now r' m
  unit_agree n now r r' h zero le = refl
  unit_agree n now r r' h (suc m) le = h m le

module _ {V M P : Type 0} where
  abbrev pub AgreeBack : ℕ → Back V M P → Back V M P → Type 0
  AgreeBack n back back' = (o : Outcome V) (w : World M) (m : ℕ) → m ≤ n → back o w m ≡ back' o w m

  abbrev pub AgreeCalls : ℕ → Calls V M P → Calls V M P → Type 0
  AgreeCalls n calls calls' = (k : ℕ) → k ≤ n → (p : ℕ) (vs : List V) (w : World M) (next next' : List V → World M → Run P)
      → ((v : List V) (w' : World M) (m : ℕ) → m ≤ k → next v w' m ≡ next' v w' m) → (m : ℕ) → m ≤ k → calls p vs w next m ≡ calls' p vs w next' m

  abbrev AgreeTurn : ℕ → Turn V M P → Turn V M P → Type 0
  AgreeTurn n turn turn' = (k : ℕ) → k ≤ n → (s : List V) (back back' : Back V M P) → AgreeBack k back back' → (w : World M) (m : ℕ) → m ≤ k → turn s back w m ≡ turn' s back' w m

  pub does_agree : (n : ℕ) (d : Deed V M P) (w : World M) (next next' : V → World M → Run P) → ((v : V) (w' : World M) (m : ℕ) → m ≤ n → next v w' m ≡ next' v w' m)
      → (m : ℕ) → m ≤ n → does d w next m ≡ does d w next' m
  does_agree n (Quiet v mem) w next next' h m le = h v (with_memory w mem) m le
  does_agree n (Counted v mem) w next next' h m le = unit_agree n (told w Running) _ _ (λ j lo. h v (with_memory w mem) j (omega arith)) m le
  does_agree n (GivesByte b v mem) w next next' h m le = unit_agree n (told w Running) _ _ (λ j lo. h v (gave w b mem) j (omega arith)) m le
  does_agree n (TakesByte f mem) w next next' h m le = unit_agree n (told w Running) _ _ (λ j lo. h (f w.unread) (took w w.unread mem) j (omega arith)) m le
  does_agree n (EndsRun e) w next next' h m le = refl

  pub again_agree : (n : ℕ) (turn turn' : Turn V M P) → AgreeTurn n turn turn' → (d d' k : ℕ) → k ≤ d → k ≤ d' → k ≤ n → (after after' : Back V M P) → AgreeBack k after after'
      → AgreeBack k (again d turn after) (again d' turn' after')
  again_agree n turn turn' h zero zero k le le' le'' after after' ha (Again s) w m lo = refl
  again_agree n turn turn' h zero (suc d') k le le' le'' after after' ha (Again s) w zero lo = refl
  again_agree n turn turn' h zero (suc d') k le le' le'' after after' ha (Again s) w (suc m) lo = absurd (omega arith)
  again_agree n turn turn' h (suc d) zero k le le' le'' after after' ha (Again s) w zero lo = refl
  again_agree n turn turn' h (suc d) zero k le le' le'' after after' ha (Again s) w (suc m) lo = absurd (omega arith)
  again_agree n turn turn' h (suc d) (suc d') k le le' le'' after after' ha (Again s) w zero lo = refl
  again_agree n turn turn' h (suc d) (suc d') k le le' le'' after after' ha (Again s) w (suc m) lo =
      h m (omega arith) s _ _
      (again_agree n turn turn' h d d' m (omega arith) (omega arith) (omega arith) after after' (λ o w' j low. ha o w' j (omega arith)))
      w m (omega arith)
  again_agree n turn turn' h zero zero k le le' le'' after after' ha (Left s) w m lo = ha (Left s) w m lo
  again_agree n turn turn' h zero (suc d') k le le' le'' after after' ha (Left s) w m lo = ha (Left s) w m lo
  again_agree n turn turn' h (suc d) zero k le le' le'' after after' ha (Left s) w m lo = ha (Left s) w m lo
  again_agree n turn turn' h (suc d) (suc d') k le le' le'' after after' ha (Left s) w m lo = ha (Left s) w m lo
  again_agree n turn turn' h zero zero k le le' le'' after after' ha (Returned s) w m lo = ha (Returned s) w m lo
  again_agree n turn turn' h zero (suc d') k le le' le'' after after' ha (Returned s) w m lo = ha (Returned s) w m lo
  again_agree n turn turn' h (suc d) zero k le le' le'' after after' ha (Returned s) w m lo = ha (Returned s) w m lo
  again_agree n turn turn' h (suc d) (suc d') k le le' le'' after after' ha (Returned s) w m lo = ha (Returned s) w m lo

module _ {A V M P : Type 0} (r : Rules A V M P) where
  pub run_agree : (n : ℕ) (calls calls' : Calls V M P) → AgreeCalls n calls calls' → (d d' : ℕ) → n ≤ d → n ≤ d' → (c : Work A V P)
      → (k : ℕ) → k ≤ n → (back back' : Back V M P) → AgreeBack k back back' → (w : World M) (m : ℕ) → m ≤ k → run r calls d c back w m ≡ run r calls' d' c back' w m
  run_agree n calls calls' hc d d' le le' (Over o) k low back back' hb w m lo = hb o w m lo
  run_agree n calls calls' hc d d' le le' (Do at a j) k low back back' hb w m lo =
      does_agree k (r.deed at a w.memory) w _ _ (λ v w' i lo'. run_agree n calls calls' hc d d' le le' (j v) k low back back' hb w' i lo') m lo
  run_agree n calls calls' hc d d' le le' (Call p vs j) k low back back' hb w m lo =
      hc k low p vs w _ _ (λ v w' i lo'. run_agree n calls calls' hc d d' le le' (j v) k low back back' hb w' i lo') m lo
  run_agree n calls calls' hc d d' le le' (Loop s body j) k low back back' hb w m lo =
      run_agree n calls calls' hc d d' le le' (body s) k low _ _
      (again_agree n (λ t. run r calls d (body t)) (λ t. run r calls' d' (body t))
      (λ k' low' t b b' hb' w' i lo'. run_agree n calls calls' hc d d' le le' (body t) k' low' b b' hb' w' i lo')
      d d' k (omega arith) (omega arith) low _ _
      (λ o w' i lo'. run_agree n calls calls' hc d d' le le' (j o) k low back back' hb w' i lo'))
      w m lo

  entered_agree : (n : ℕ) (calls calls' : Calls V M P) → AgreeCalls n calls calls' → (d d' : ℕ) → n ≤ d → n ≤ d' → (f : Procedure A V P) (vs : List V) (w : World M)
      (k : ℕ) → k ≤ suc n → (next next' : List V → World M → Run P) → ((v : List V) (w' : World M) (m : ℕ) → m ≤ k → next v w' m ≡ next' v w' m)
      → (o : Option M) (m : ℕ) → m ≤ k → entered r calls d f vs w next o m ≡ entered r calls' d' f vs w next' o m
  entered_agree n calls calls' hc d d' le le' f vs w k low next next' h None m lo = refl
  entered_agree n calls calls' hc d d' le le' f vs w k low next next' h (Some mem) m lo =
      unit_agree k (told w Running) _ _ (λ i lo'. run_agree n calls calls' hc d d' le le' (f.work vs) i (omega arith) _ _
      (λ o w' j lo''. h (result_of o) _ j (omega arith)) (with_memory w mem) i (omega arith)) m lo

  zero_entered : (calls : Calls V M P) (d : ℕ) (f : Procedure A V P) (vs : List V) (w : World M) (next : List V → World M → Run P) (o : Option M) (m : ℕ) → m ≤ 0
      → told w Running ≡ entered r calls d f vs w next o m
  zero_entered calls d f vs w next o (suc m) le = absurd (omega arith)
  zero_entered calls d f vs w next None zero le = refl
  zero_entered calls d f vs w next (Some mem) zero le = refl

  pub calls_agree : (ps : ℕ → Procedure A V P) (n d d' : ℕ) → n ≤ d → n ≤ d' → AgreeCalls n (calls_of r ps d) (calls_of r ps d')
  calls_agree ps n zero zero le le' k low p vs w next next' h m lo = refl
  calls_agree ps n zero (suc d') le le' k low p vs w next next' h m lo = zero_entered (calls_of r ps d') d' (ps p) vs w next' (r.enter (ps p).frame w.memory) m (omega arith)
  calls_agree ps n (suc d) zero le le' k low p vs w next next' h m lo = sym (zero_entered (calls_of r ps d) d (ps p) vs w next (r.enter (ps p).frame w.memory) m (omega arith))
  calls_agree ps zero (suc d) (suc d') le le' k low p vs w next next' h m lo =
      sym (zero_entered (calls_of r ps d) d (ps p) vs w next (r.enter (ps p).frame w.memory) m (omega arith))
      ∙ zero_entered (calls_of r ps d') d' (ps p) vs w next' (r.enter (ps p).frame w.memory) m (omega arith)
  calls_agree ps (suc n) (suc d) (suc d') le le' k low p vs w next next' h m lo =
      entered_agree n (calls_of r ps d) (calls_of r ps d') (calls_agree ps n d d' (omega arith) (omega arith)) d d' (omega arith) (omega arith) (ps p) vs w k (omega arith) next next' h
      (r.enter (ps p).frame w.memory) m lo

  begun_agree : (ps : ℕ → Procedure A V P) (main : Procedure A V P) (n d d' : ℕ) → n ≤ d → n ≤ d' → (w : World M) (o : Option M)
      → begun r (calls_of r ps d) d main w o n ≡ begun r (calls_of r ps d') d' main w o n
  begun_agree ps main n d d' le le' w None = refl
  begun_agree ps main n d d' le le' w (Some m) =
      run_agree n _ _ (calls_agree ps n d d' le le') d d' le le' (main.work []) n (omega arith) _ _ (λ o w' i lo. refl) (with_memory w m) n (omega arith)

  -- a run of n units is the same at all depths that are n or more
  pub depth_free : (ps : ℕ → Procedure A V P) (main : Procedure A V P) (m : M) (input : List ℕ) (n d d' : ℕ) → n ≤ d → n ≤ d' → within r ps main m input d n ≡ within r ps main m input d' n
  depth_free ps main m input n d d' le le' = begun_agree ps main n d d' le le' (starting m input) (r.enter main.frame m)

  pub is_run : (ps : ℕ → Procedure A V P) (main : Procedure A V P) (m : M) (input : List ℕ) → IsRun (behaviour_of r ps main m input)
  is_run ps main m input = record {
    starts = (lawful 0).first;
    steps = λ n. let e : n + 1 ≡ suc n = omega arith in subst (λ k. Step (seen (at_depth n n)) (seen (at_depth k k))) (sym e) (next n);
  }
    where
      at_depth : ℕ → Run P
      at_depth d = within r ps main m input d

      lawful : (d : ℕ) → Lawful (starting m input) (at_depth d)
      lawful d = within_lawful r ps main m input d

      next : (n : ℕ) → Step (seen (at_depth n n)) (seen (at_depth (suc n) (suc n)))
      next n = subst (λ t. Step (seen t) (seen (at_depth (suc n) (suc n)))) (sym (depth_free ps main m input n n (suc n) (omega arith) (omega arith))) ((lawful (suc n)).steps n)
