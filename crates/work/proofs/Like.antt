-- How one work is shown to do what another does, form by form.
use Rattle.std.proofs.Common.{ℕ, zero, suc, List, [], ◌∷◌, ◌++◌, ◌+◌, ◌≡◌, refl, sym, ◌∙◌, ap, subst, inl, inr, arith, ⊎_elim}
use Rattle.std.specs.Prelude.{◌⊎◌, Option, Some, None, pos}
use Rattle.behaviour.specs.Behaviour.{Wrong, Frames}
use Rattle.behaviour.specs.Follows.{Follows}
use Rattle.work.specs.Units.{unit}
use Rattle.work.specs.Work.{Outcome, Again, Left, Returned, Work, Over, Do, Call, Loop, Procedure, End, Running, Stopped, Limited, Violated, Deed, Quiet, Counted, GivesByte, TakesByte, EndsRun, Rules}
use Rattle.work.specs.Run.{World, told, Run, ending, seen, over, with_memory, gave, took, does, Back, Calls, Turn, again, run, result_of, entered, calls_of, begun, starting, whole, behaviour_of}
use Rattle.work.specs.Like.{Fine, Follow, Starts, Worlds, Deeds, quiets, counts, gives, takes, ends, fails, Outcomes, agains, lefts, returneds, Enters, refused, fit, FollowBack, FollowNext, Setting, Like, LikeProcedures, LikeMain}

seen_same : {M M' P P' : Type 0} (w : World M) (w' : World M') (e : End P) (e' : End P') → w'.output ≡ w.output → w'.taken ≡ w.taken → ending e' ≡ ending e → seen (told w' e') ≡ seen (told w e)
seen_same w w' e e' o t h = λ i. record { output = o i; taken = t i; ending = h i }

fine_or : {P : Type 0} (e : End P) → Fine e ⊎ (ending e ≡ Wrong)
fine_or Running = inl tt
fine_or (Stopped c) = inl tt
fine_or (Limited k) = inl tt
fine_or (Violated t at) = inr refl

module _ {P P' : Type 0} where
  unit_follow : {M M' : Type 0} (w : World M) (w' : World M') (a : Run P) (a' : Run P') → seen (told {P = P'} w' Running) ≡ seen (told {P = P} w Running) → Follow a a' → Follow (unit (told w Running) a) (unit (told w' Running) a')
  unit_follow w w' a a' e h zero f = e
  unit_follow w w' a a' e h (suc n) f = h n f

  violated_follow : {M M' : Type 0} (w : World M) (w' : World M') (t : ℕ) (at : P) (a' : Run P') → seen (told {P = P'} w' Running) ≡ seen (told {P = P} w Running) → Starts w' a' → Follow (over w (Violated t at)) a'
  violated_follow w w' t at a' e h zero f = h ∙ e
  violated_follow w w' t at a' e h (suc n) f = absurd f

  over_follow : {M M' : Type 0} (w : World M) (w' : World M') (x : End P) (x' : End P') → seen (told {P = P'} w' Running) ≡ seen (told {P = P} w Running) → seen (told w' x') ≡ seen (told w x) → Follow (over w x) (over w' x')
  over_follow w w' x x' e h zero f = e
  over_follow w w' x x' e h (suc n) f = h

module _ {V M P : Type 0} where
  does_starts : (d : Deed V M P) (w : World M) (next : V → World M → Run P) → ((v : V) (u : World M) → Starts u (next v u)) → Starts w (does d w next)
  does_starts (Quiet v m) w next h = h v (with_memory w m)
  does_starts (Counted v m) w next h = refl
  does_starts (GivesByte b v m) w next h = refl
  does_starts (TakesByte f m) w next h = refl
  does_starts (EndsRun e) w next h = refl

  abbrev StartsBack : Back V M P → Type 0
  StartsBack back = (o : Outcome V) (w : World M) → Starts w (back o w)

  again_starts : (d : ℕ) (turn : Turn V M P) (after : Back V M P) → StartsBack after → StartsBack (again d turn after)
  again_starts zero turn after h (Again s) w = refl
  again_starts (suc d) turn after h (Again s) w = refl
  again_starts zero turn after h (Left s) w = h (Left s) w
  again_starts (suc d) turn after h (Left s) w = h (Left s) w
  again_starts zero turn after h (Returned s) w = h (Returned s) w
  again_starts (suc d) turn after h (Returned s) w = h (Returned s) w

module _ {A V M P A' V' M' P' : Type 0} (r : Rules A V M P) (r' : Rules A' V' M' P') (Mem : M → M' → Type 0) (Vals : List V → List V' → Type 0) where
  shown_same : (w : World M) (w' : World M') → Worlds Mem w w' → seen (told {P = P'} w' Running) ≡ seen (told {P = P} w Running)
  shown_same w w' h = seen_same {P = P} {P' = P'} w w' Running Running h.output h.taken refl

  moved : (w : World M) (w' : World M') (m : M) (m' : M') → Worlds Mem w w' → Mem m m' → Worlds Mem (with_memory w m) (with_memory w' m')
  moved w w' m m' h q = record { memory = q; unread = h.unread; taken = h.taken; output = h.output }

  took_some : (w : World M) (w' : World M') (bs : List ℕ) (m : M) (m' : M') → Worlds Mem w w' → Mem m m' → Worlds Mem (took w bs m) (took w' bs m')
  took_some w w' [] m m' h q = moved w w' m m' h q
  took_some w w' (b ∷ bs) m m' h q = record { memory = q; unread = refl; taken = ap (λ t. t + 1) h.taken; output = h.output }

  took_too : (w : World M) (w' : World M') (m : M) (m' : M') → Worlds Mem w w' → Mem m m' → Worlds Mem (took w w.unread m) (took w' w'.unread m')
  took_too w w' m m' h q = subst (λ bs. Worlds Mem (took w w.unread m) (took w' bs m')) (sym h.unread) (took_some w w' w.unread m m' h q)

  does_follow : (R : V → V' → Type 0) (d : Deed V M P) (d' : Deed V' M' P') → Deeds Mem R d d' → (w : World M) (w' : World M') → Worlds Mem w w'
      → (next : V → World M → Run P) (next' : V' → World M' → Run P') → ((v : V') (u : World M') → Starts u (next' v u))
      → ((v : V) (v' : V') → R v v' → (u : World M) (u' : World M') → Worlds Mem u u' → Follow (next v u) (next' v' u')) → Follow (does d w next) (does d' w' next')
  does_follow R _ _ (quiets v v' m m' q qm) w w' h next next' hs hn = hn v v' q _ _ (moved w w' m m' h qm)
  does_follow R _ _ (counts v v' m m' q qm) w w' h next next' hs hn = unit_follow w w' _ _ (shown_same w w' h) (hn v v' q _ _ (moved w w' m m' h qm))
  does_follow R _ _ (gives b v v' m m' q qm) w w' h next next' hs hn =
      unit_follow w w' _ _ (shown_same w w' h) (hn v v' q (gave w b m) (gave w' b m') (record { memory = qm; unread = h.unread; taken = h.taken; output = ap (λ o. o ++ b ∷ []) h.output }))
  does_follow R _ _ (takes f f' m m' q qm) w w' h next next' hs hn =
      unit_follow w w' _ _ (shown_same w w' h) (hn (f w.unread) (f' w'.unread) (subst (λ bs. R (f w.unread) (f' bs)) (sym h.unread) (q w.unread)) _ _ (took_too w w' m m' h qm))
  does_follow R _ _ (ends e e' q) w w' h next next' hs hn = over_follow w w' e e' (shown_same w w' h) (seen_same w w' e e' h.output h.taken q)
  does_follow R _ _ (fails t at d') w w' h next next' hs hn = violated_follow w w' t at _ (shown_same w w' h) (does_starts d' w' next' hs)

  again_follow : (I : List V → List V' → Type 0) (turn : Turn V M P) (turn' : Turn V' M' P')
      → ((s : List V) (s' : List V') → I s s' → (back : Back V M P) (back' : Back V' M' P') → FollowBack r r' Mem Vals (Outcomes I) back back' → (w : World M) (w' : World M') → Worlds Mem w w' → Follow (turn s back w) (turn' s' back' w'))
      → (d : ℕ) (after : Back V M P) (after' : Back V' M' P') → FollowBack r r' Mem Vals (Outcomes I) after after'
      → (o : Outcome V) (o' : Outcome V') → Outcomes I o o' → (w : World M) (w' : World M') → Worlds Mem w w' → Follow (again d turn after o w) (again d turn' after' o' w')
  again_follow I turn turn' h zero after after' ha _ _ (agains {t = s} {t' = s'} i) w w' hw = λ n f. shown_same w w' hw
  again_follow I turn turn' h (suc d) after after' ha _ _ (agains {t = s} {t' = s'} i) w w' hw =
      unit_follow w w' _ _ (shown_same w w' hw)
      (h s s' i _ _ (record { starts = again_starts d turn' after' ha.starts; follow = again_follow I turn turn' h d after after' ha }) w w' hw)
  again_follow I turn turn' h zero after after' ha _ _ (lefts {t = s} {t' = s'} i) w w' hw = ha.follow (Left s) (Left s') (lefts i) w w' hw
  again_follow I turn turn' h (suc d) after after' ha _ _ (lefts {t = s} {t' = s'} i) w w' hw = ha.follow (Left s) (Left s') (lefts i) w w' hw
  again_follow I turn turn' h zero after after' ha _ _ (returneds {t = s} {t' = s'} i) w w' hw = ha.follow (Returned s) (Returned s') (returneds i) w w' hw
  again_follow I turn turn' h (suc d) after after' ha _ _ (returneds {t = s} {t' = s'} i) w w' hw = ha.follow (Returned s) (Returned s') (returneds i) w w' hw

  abbrev StartsCalls : Calls V' M' P' → Type 0
  StartsCalls calls' = (p : ℕ) (vs : List V') (w : World M') (next' : List V' → World M' → Run P') → ((v : List V') (u : World M') → Starts u (next' v u)) → Starts w (calls' p vs w next')

  run_starts : (calls' : Calls V' M' P') → StartsCalls calls' → (d : ℕ) (c : Work A' V' P') (back : Back V' M' P') → StartsBack back → (w : World M') → Starts w (run r' calls' d c back w)
  run_starts calls' hc d (Over o) back hb w = hb o w
  run_starts calls' hc d (Do at a k) back hb w = does_starts (r'.deed at a w.memory) w _ (λ v u. run_starts calls' hc d (k v) back hb u)
  run_starts calls' hc d (Call p vs k) back hb w = hc p vs w _ (λ v u. run_starts calls' hc d (k v) back hb u)
  run_starts calls' hc d (Loop s body k) back hb w =
      run_starts calls' hc d (body s) _ (again_starts d (λ t. run r' calls' d (body t)) (λ o. run r' calls' d (k o) back) (λ o u. run_starts calls' hc d (k o) back hb u)) w

  module _ (g : Setting r r' Mem Vals) where
    starts_all : (R : Outcome V → Outcome V' → Type 0) (c : Work A' V' P') (back : Back V M P) (back' : Back V' M' P') → FollowBack r r' Mem Vals R back back' → (w : World M') → Starts w (run r' g.calls' g.depth c back' w)
    starts_all R c back back' hb w = run_starts g.calls' g.calls_follow.starts g.depth c back' hb.starts w

    pub like_over : (R : Outcome V → Outcome V' → Type 0) (o : Outcome V) (o' : Outcome V') → R o o' → Like r r' Mem Vals g R (Over o) (Over o')
    like_over R o o' q = record { by = λ back back' hb w w' h. hb.follow o o' q w w' h }

    pub like_do : (R : Outcome V → Outcome V' → Type 0) (Q : V → V' → Type 0) (at : P) (at' : P') (a : A) (a' : A') (k : V → Work A V P) (k' : V' → Work A' V' P')
        → ((m : M) (m' : M') → Mem m m' → Deeds Mem Q (r.deed at a m) (r'.deed at' a' m')) → ((v : V) (v' : V') → Q v v' → Like r r' Mem Vals g R (k v) (k' v'))
        → Like r r' Mem Vals g R (Do at a k) (Do at' a' k')
    like_do R Q at at' a a' k k' hd hk = record {
      by = λ back back' hb w w' h.
          does_follow Q (r.deed at a w.memory) (r'.deed at' a' w'.memory) (hd w.memory w'.memory h.memory) w w' h _ _
          (λ v u. starts_all R (k' v) back back' hb u) (λ v v' q u u' hu. (hk v v' q).by back back' hb u u' hu);
    }

    -- the first is violated, whatever the second does
    pub like_wrong : (R : Outcome V → Outcome V' → Type 0) (at : P) (a : A) (k : V → Work A V P) (c' : Work A' V' P') → ((m : M) → (t : ℕ) × (place : P) × (r.deed at a m ≡ EndsRun (Violated t place)))
        → Like r r' Mem Vals g R (Do at a k) c'
    like_wrong R at a k c' hd = record {
      by = λ back back' hb w w' h. (let d = hd w.memory in
          subst (λ x. Follow (does x w (λ v. run r g.calls g.depth (k v) back)) (run r' g.calls' g.depth c' back' w')) (sym d.2)
          (violated_follow w w' d.0 d.1 _ (shown_same w w' h) (starts_all R c' back back' hb w')));
    }

    -- an act of the first alone, which is no unit
    pub like_first : (R : Outcome V → Outcome V' → Type 0) (at : P) (a : A) (k : V → Work A V P) (c' : Work A' V' P')
        → ((m : M) (m' : M') → Mem m m' → (v : V) × (m1 : M) × (r.deed at a m ≡ Quiet v m1) × Mem m1 m' × Like r r' Mem Vals g R (k v) c') → Like r r' Mem Vals g R (Do at a k) c'
    like_first R at a k c' hd = record {
      by = λ back back' hb w w' h. (let d = hd w.memory w'.memory h.memory in
          subst (λ x. Follow (does x w (λ v. run r g.calls g.depth (k v) back)) (run r' g.calls' g.depth c' back' w')) (sym d.2)
          (d.4.by back back' hb (with_memory w d.1) w' (record { memory = d.3; unread = h.unread; taken = h.taken; output = h.output })));
    }

    -- an act of the second alone, which is no unit
    pub like_second : (R : Outcome V → Outcome V' → Type 0) (at' : P') (a' : A') (c : Work A V P) (k' : V' → Work A' V' P')
        → ((m : M) (m' : M') → Mem m m' → (v : V') × (m1 : M') × (r'.deed at' a' m' ≡ Quiet v m1) × Mem m m1 × Like r r' Mem Vals g R c (k' v)) → Like r r' Mem Vals g R c (Do at' a' k')
    like_second R at' a' c k' hd = record {
      by = λ back back' hb w w' h. (let d = hd w.memory w'.memory h.memory in
          subst (λ x. Follow (run r g.calls g.depth c back w) (does x w' (λ v. run r' g.calls' g.depth (k' v) back'))) (sym d.2)
          (d.4.by back back' hb w (with_memory w' d.1) (record { memory = d.3; unread = h.unread; taken = h.taken; output = h.output })));
    }

    pub like_call : (R : Outcome V → Outcome V' → Type 0) (p : ℕ) (vs : List V) (vs' : List V') (k : List V → Work A V P) (k' : List V' → Work A' V' P')
        → Vals vs vs' → ((v : List V) (v' : List V') → Vals v v' → Like r r' Mem Vals g R (k v) (k' v')) → Like r r' Mem Vals g R (Call p vs k) (Call p vs' k')
    like_call R p vs vs' k k' q hk = record {
      by = λ back back' hb w w' h.
          g.calls_follow.follow p vs vs' q w w' h _ _
          (record { starts = λ v u. starts_all R (k' v) back back' hb u; follow = λ v v' q' u u' hu. (hk v v' q').by back back' hb u u' hu });
    }

    pub like_loop : (R : Outcome V → Outcome V' → Type 0) (I : List V → List V' → Type 0) (s : List V) (s' : List V') (body : List V → Work A V P) (body' : List V' → Work A' V' P')
        (k : Outcome V → Work A V P) (k' : Outcome V' → Work A' V' P') → I s s' → ((t : List V) (t' : List V') → I t t' → Like r r' Mem Vals g (Outcomes I) (body t) (body' t'))
        → ((o : Outcome V) (o' : Outcome V') → Outcomes I o o' → Like r r' Mem Vals g R (k o) (k' o')) → Like r r' Mem Vals g R (Loop s body k) (Loop s' body' k')
    like_loop R I s s' body body' k k' i hbody hk = record {
      by = λ back back' hb w w' h.
          (hbody s s' i).by _ _
          (record {
            starts = again_starts g.depth (λ t. run r' g.calls' g.depth (body' t)) (λ o. run r' g.calls' g.depth (k' o) back') (λ o u. starts_all R (k' o) back back' hb u);
            follow = again_follow I _ _ (λ t t' j b b' hb' u u' hu. (hbody t t' j).by b b' hb' u u' hu) g.depth _ _
                (record { starts = λ o u. starts_all R (k' o) back back' hb u; follow = λ o o' q u u' hu. (hk o o' q).by back back' hb u u' hu });
          }) w w' h;
    }

  entered_starts : (calls' : Calls V' M' P') (d : ℕ) (f : Procedure A' V' P') (vs : List V') (w : World M') (next' : List V' → World M' → Run P') (o : Option M') → Starts w (entered r' calls' d f vs w next' o)
  entered_starts calls' d f vs w next' None = refl
  entered_starts calls' d f vs w next' (Some m) = refl

  module _ (ps : ℕ → Procedure A V P) (ps' : ℕ → Procedure A' V' P') (like : LikeProcedures r r' Mem Vals ps ps') where
    entered_follow : (g : Setting r r' Mem Vals) (p : ℕ) (vs : List V) (vs' : List V') → Vals vs vs' → (w : World M) (w' : World M') → Worlds Mem w w'
        → (next : List V → World M → Run P) (next' : List V' → World M' → Run P') → FollowNext r r' Mem Vals next next' → (o : Option M) (o' : Option M') → Enters Mem o o'
        → Follow (entered r g.calls g.depth (ps p) vs w next o) (entered r' g.calls' g.depth (ps' p) vs' w' next' o')
    entered_follow g p vs vs' q w w' h next next' hn _ _ refused = over_follow w w' (Limited Frames) (Limited Frames) (shown_same w w' h) (seen_same {P = P} {P' = P'} w w' (Limited Frames) (Limited Frames) h.output h.taken refl)
    entered_follow g p vs vs' q w w' h next next' hn _ _ (fit {m = m} {m' = m'} qm) =
        unit_follow w w' _ _ (shown_same w w' h)
        ((like.bodies p g vs vs' q).by _ _
        (record {
          starts = λ o u. hn.starts (result_of o) (with_memory u (r'.leave (ps' p).frame u.memory));
          follow = λ o o' qo u u' hu. hn.follow (result_of o) (result_of o') qo _ _ (moved u u' _ _ hu (like.leaves p u.memory u'.memory hu.memory));
        })
        (with_memory w m) (with_memory w' m') (moved w w' m m' h qm))

    calls_start : (d : ℕ) → StartsCalls (calls_of r' ps' d)
    calls_start zero p vs w next' h = refl
    calls_start (suc d) p vs w next' h = entered_starts (calls_of r' ps' d) d (ps' p) vs w next' (r'.enter (ps' p).frame w.memory)

    follow_at : (d p : ℕ) (vs : List V) (vs' : List V') → Vals vs vs' → (w : World M) (w' : World M') → Worlds Mem w w'
        → (next : List V → World M → Run P) (next' : List V' → World M' → Run P') → FollowNext r r' Mem Vals next next' → Follow (calls_of r ps d p vs w next) (calls_of r' ps' d p vs' w' next')
    follow_at zero p vs vs' q w w' h next next' hn = λ n f. shown_same w w' h
    follow_at (suc d) p vs vs' q w w' h next next' hn =
        entered_follow (record { calls = calls_of r ps d; calls' = calls_of r' ps' d; calls_follow = record { starts = calls_start d; follow = follow_at d }; depth = d })
        p vs vs' q w w' h next next' hn (r.enter (ps p).frame w.memory) (r'.enter (ps' p).frame w'.memory) (like.enters p w.memory w'.memory h.memory)

    abbrev setting : ℕ → Setting r r' Mem Vals
    setting d = record { calls = calls_of r ps d; calls' = calls_of r' ps' d; calls_follow = record { starts = calls_start d; follow = follow_at d }; depth = d }

    begun_follow : (main : Procedure A V P) (main' : Procedure A' V' P') → ((g : Setting r r' Mem Vals) → Like r r' Mem Vals g (λ o o'. Unit {0}) (main.work []) (main'.work []))
        → (d : ℕ) (w : World M) (w' : World M') → seen (told {P = P'} w' Running) ≡ seen (told {P = P} w Running)
        → ((m : M) (m' : M') → Mem m m' → Worlds Mem (with_memory w m) (with_memory w' m')) → seen (told {P = P'} w' (Limited Frames)) ≡ seen (told {P = P} w (Limited Frames))
        → (o : Option M) (o' : Option M') → Enters Mem o o' → Follow (begun r (calls_of r ps d) d main w o) (begun r' (calls_of r' ps' d) d main' w' o')
    begun_follow main main' hb d w w' e hw e' _ _ refused = over_follow w w' (Limited Frames) (Limited Frames) e e'
    begun_follow main main' hb d w w' e hw e' _ _ (fit {m = m} {m' = m'} q) =
        (hb (setting d)).by _ _
        (record {
          starts = λ o u. refl;
          follow = λ o o' t u u' hu. over_follow u u' (Stopped (pos 0)) (Stopped (pos 0)) (shown_same u u' hu) (seen_same {P = P} {P' = P'} u u' (Stopped (pos 0)) (Stopped (pos 0)) hu.output hu.taken refl);
        })
        (with_memory w m) (with_memory w' m') (hw m m' q)

    -- the second program shows what the first shows at each number of units, up to a violation of the first
    pub whole_follow : (main : Procedure A V P) (main' : Procedure A' V' P') (m : M) (m' : M') → LikeMain r r' Mem Vals main main' m m' → (input : List ℕ) → Follow (whole r ps main m input) (whole r' ps' main' m' input)
    whole_follow main main' m m' h input n =
        begun_follow main main' h.bodies n (starting m input) (starting m' input) refl
        (λ m1 m1' q. record { memory = q; unread = refl; taken = refl; output = refl }) refl (r.enter main.frame m) (r'.enter main'.frame m') h.enters n

    pub like_follows : (main : Procedure A V P) (main' : Procedure A' V' P') (m : M) (m' : M') → LikeMain r r' Mem Vals main main' m m' → (input : List ℕ)
        → Follows 1 (behaviour_of r' ps' main' m' input) (behaviour_of r ps main m input)
    like_follows main main' m m' h input = record {
      forth = λ n fine. (n, omega arith, ⊎_elim (whole_follow main main' m m' h input n) (λ w. absurd (fine w)) (fine_or (whole r ps main m input n).end));
      back = λ n. (n, ⊎_elim (λ f. inl (whole_follow main main' m m' h input n f)) inr (fine_or (whole r ps main m input n).end));
    }
