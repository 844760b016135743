-- Whatever the acts, the values and the memory are, what is seen of work keeps the laws of a run.
use Rattle.std.proofs.Common.{ℕ, zero, suc, List, [], ◌∷◌, ◌≡◌, refl, sym, subst, inl, inr}
use Rattle.std.specs.Prelude.{◌⊎◌, Option, Some, None, pos}
use Rattle.behaviour.specs.Behaviour as B
use Rattle.behaviour.specs.Behaviour.{Frames}
use Rattle.behaviour.specs.Run.{Event, Gives, Takes, Ends}
use Rattle.work.specs.Units.{unit}
use Rattle.work.specs.Work.{Outcome, Again, Left, Returned, Work, Over, Do, Call, Loop, Procedure, End, Running, Stopped, Limited, Violated, Deed, Quiet, Counted, GivesByte, TakesByte, EndsRun, Rules}
use Rattle.work.specs.Run.{World, told, Run, over, with_memory, gave, took, does, Back, Calls, Turn, again, run, result_of, entered, calls_of, begun, starting, within, seen}

-- the same, or one event more
abbrev pub Step : B.Seen → B.Seen → Type 0
Step s t = (t ≡ s) ⊎ Event s t

abbrev pub shown : {M : Type 0} → World M → B.Seen
shown w = record { output = w.output; taken = w.taken; ending = B.Running }

-- a run that begins where w stands, and shows at most one event a unit
pub record Lawful {M P : Type 0} (w : World M) (r : Run P) : Type 0 where
  pub first : seen (r 0) ≡ shown w
  pub steps : (n : ℕ) → Step (seen (r n)) (seen (r (suc n)))

took_step : {M : Type 0} (w : World M) (bs : List ℕ) (m : M) → Step (shown w) (shown (took w bs m))
took_step w [] m = inl refl
took_step w (b ∷ bs) m = inr (Takes w.output w.taken)

module _ {M P : Type 0} where
  halted_lawful : (w : World M) → Lawful {P = P} w (λ n. told w Running)
  halted_lawful w = record { first = refl; steps = λ n. inl refl }

  unit_lawful : (w w' : World M) (r : Run P) → Step (shown w) (shown w') → Lawful w' r → Lawful w (unit (told w Running) r)
  unit_lawful w w' r s h = record {
    first = refl;
    steps = elim [ zero ↦ subst (λ t. Step (shown w) t) (sym h.first) s | suc n ↦ h.steps n ];
  }

  ends_so : (e : End P) (w : World M) → Step (shown w) (seen (told w e))
  ends_so Running w = inl refl
  ends_so (Stopped c) w = inr (Ends w.output w.taken (B.Stopped c) (λ p. absurd (cc)))
  ends_so (Limited k) w = inr (Ends w.output w.taken (B.Limited k) (λ p. absurd (cc)))
  ends_so (Violated t at) w = inr (Ends w.output w.taken B.Wrong (λ p. absurd (cc)))

  over_lawful : (w : World M) (e : End P) → Lawful w (over w e)
  over_lawful w e = record { first = refl; steps = elim [ zero ↦ ends_so e w | suc n ↦ inl refl ] }

  moved : (w : World M) (m : M) (r : Run P) → Lawful (with_memory w m) r → Lawful w r
  moved w m r h = record { first = h.first; steps = h.steps }

module _ {V M P : Type 0} where
  does_lawful : (d : Deed V M P) (w : World M) (next : V → World M → Run P) → ((v : V) (w' : World M) → Lawful w' (next v w')) → Lawful w (does d w next)
  does_lawful (Quiet v m) w next h = moved w m _ (h v (with_memory w m))
  does_lawful (Counted v m) w next h = unit_lawful w (with_memory w m) _ (inl refl) (h v (with_memory w m))
  does_lawful (GivesByte b v m) w next h = unit_lawful w (gave w b m) _ (inr (Gives w.output w.taken b)) (h v (gave w b m))
  does_lawful (TakesByte f m) w next h = unit_lawful w (took w w.unread m) _ (took_step w w.unread m) (h (f w.unread) (took w w.unread m))
  does_lawful (EndsRun e) w next h = over_lawful w e

  abbrev pub LawfulBack : Back V M P → Type 0
  LawfulBack back = (o : Outcome V) (w : World M) → Lawful w (back o w)

  abbrev pub LawfulCalls : Calls V M P → Type 0
  LawfulCalls calls = (p : ℕ) (vs : List V) (w : World M) (next : List V → World M → Run P) → ((v : List V) (w' : World M) → Lawful w' (next v w')) → Lawful w (calls p vs w next)

  again_lawful : (turn : Turn V M P) → ((s : List V) (back : Back V M P) → LawfulBack back → (w : World M) → Lawful w (turn s back w))
      → (d : ℕ) (after : Back V M P) → LawfulBack after → LawfulBack (again d turn after)
  again_lawful turn h zero after ha (Again s) w = halted_lawful w
  again_lawful turn h (suc d) after ha (Again s) w = unit_lawful w w _ (inl refl) (h s (again d turn after) (again_lawful turn h d after ha) w)
  again_lawful turn h zero after ha (Left s) w = ha (Left s) w
  again_lawful turn h (suc d) after ha (Left s) w = ha (Left s) w
  again_lawful turn h zero after ha (Returned s) w = ha (Returned s) w
  again_lawful turn h (suc d) after ha (Returned s) w = ha (Returned s) w

module _ {A V M P : Type 0} (r : Rules A V M P) where
  pub run_lawful : (calls : Calls V M P) → LawfulCalls calls → (d : ℕ) (c : Work A V P) (back : Back V M P) → LawfulBack back → (w : World M) → Lawful w (run r calls d c back w)
  run_lawful calls hc d (Over o) back hb w = hb o w
  run_lawful calls hc d (Do at a k) back hb w = does_lawful (r.deed at a w.memory) w _ (λ v w'. run_lawful calls hc d (k v) back hb w')
  run_lawful calls hc d (Call p vs k) back hb w = hc p vs w _ (λ v w'. run_lawful calls hc d (k v) back hb w')
  run_lawful calls hc d (Loop s body k) back hb w =
      run_lawful calls hc d (body s) _
      (again_lawful (λ t. run r calls d (body t)) (λ t b h w'. run_lawful calls hc d (body t) b h w') d _ (λ o w'. run_lawful calls hc d (k o) back hb w')) w

  entered_lawful : (calls : Calls V M P) → LawfulCalls calls → (d : ℕ) (f : Procedure A V P) (vs : List V) (w : World M) (next : List V → World M → Run P)
      → ((v : List V) (w' : World M) → Lawful w' (next v w')) → (o : Option M) → Lawful w (entered r calls d f vs w next o)
  entered_lawful calls hc d f vs w next h None = over_lawful w (Limited Frames)
  entered_lawful calls hc d f vs w next h (Some m) =
      unit_lawful w (with_memory w m) _ (inl refl) (run_lawful calls hc d (f.work vs) _ (λ o w'. moved w' _ _ (h (result_of o) (with_memory w' (r.leave f.frame w'.memory)))) (with_memory w m))

  pub calls_lawful : (ps : ℕ → Procedure A V P) (d : ℕ) → LawfulCalls (calls_of r ps d)
  calls_lawful ps zero p vs w next h = halted_lawful w
  calls_lawful ps (suc d) p vs w next h = entered_lawful (calls_of r ps d) (calls_lawful ps d) d (ps p) vs w next h (r.enter (ps p).frame w.memory)

  begun_lawful : (calls : Calls V M P) → LawfulCalls calls → (d : ℕ) (main : Procedure A V P) (w : World M) (o : Option M) → Lawful w (begun r calls d main w o)
  begun_lawful calls hc d main w None = over_lawful w (Limited Frames)
  begun_lawful calls hc d main w (Some m) = moved w m _ (run_lawful calls hc d (main.work []) _ (λ o w'. over_lawful w' (Stopped (pos 0))) (with_memory w m))

  pub within_lawful : (ps : ℕ → Procedure A V P) (main : Procedure A V P) (m : M) (input : List ℕ) (d : ℕ) → Lawful (starting m input) (within r ps main m input d)
  within_lawful ps main m input d = begun_lawful (calls_of r ps d) (calls_lawful ps d) d main (starting m input) (r.enter main.frame m)
