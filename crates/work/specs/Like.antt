-- When one work does what another does, unit for unit, up to a violation of the first.
use Rattle.std.specs.Prelude.{◌≡◌, ℕ, List, [], Option, Some, None}
use Rattle.work.specs.Work.{Outcome, Again, Left, Returned, Work, Procedure, End, Running, Stopped, Limited, Violated, Deed, Quiet, Counted, GivesByte, TakesByte, EndsRun, Rules}
use Rattle.work.specs.Run.{World, told, Run, ending, seen, Back, Calls, run, result_of}

-- no violation
abbrev pub Fine : {P : Type 0} → End P → Type 0
Fine Running = Unit {0}
Fine (Stopped c) = Unit {0}
Fine (Limited k) = Unit {0}
Fine (Violated t at) = ⊥

-- the second shows the same as the first at each number of units at which the first isn't violated
abbrev pub Follow : {P P' : Type 0} → Run P → Run P' → Type 0
Follow r r' = (n : ℕ) → Fine (r n).end → seen (r' n) ≡ seen (r n)

-- a run begins with what has been seen
abbrev pub Starts : {M P : Type 0} → World M → Run P → Type 0
Starts {P = P} w r = seen (r 0) ≡ seen (told {P = P} w Running)

-- two worlds that show the same, with memories that correspond by Mem
pub record Worlds {M M' : Type 0} (Mem : M → M' → Type 0) (w : World M) (w' : World M') : Type 0 where
  pub memory : Mem w.memory w'.memory
  pub unread : w'.unread ≡ w.unread
  pub taken : w'.taken ≡ w.taken
  pub output : w'.output ≡ w.output

-- two acts that come to the same, with answers that correspond by R; where the first is a violation, the second may come to anything
pub data Deeds {V M P V' M' P' : Type 0} (Mem : M → M' → Type 0) (R : V → V' → Type 0) : Deed V M P → Deed V' M' P' → Type 0 where
  quiets : (v : V) (v' : V') (m : M) (m' : M') → R v v' → Mem m m' → Deeds Mem R (Quiet v m) (Quiet v' m')
  counts : (v : V) (v' : V') (m : M) (m' : M') → R v v' → Mem m m' → Deeds Mem R (Counted v m) (Counted v' m')
  gives : (b : ℕ) (v : V) (v' : V') (m : M) (m' : M') → R v v' → Mem m m' → Deeds Mem R (GivesByte b v m) (GivesByte b v' m')
  takes : (f : List ℕ → V) (f' : List ℕ → V') (m : M) (m' : M') → ((bs : List ℕ) → R (f bs) (f' bs)) → Mem m m' → Deeds Mem R (TakesByte f m) (TakesByte f' m')
  ends : (e : End P) (e' : End P') → ending e' ≡ ending e → Deeds Mem R (EndsRun e) (EndsRun e')
  fails : (t : ℕ) (at : P) (d' : Deed V' M' P') → Deeds Mem R (EndsRun (Violated t at)) d'

-- two outcomes of one form, where I holds of what they carry
pub data Outcomes {V V' : Type 0} (I : List V → List V' → Type 0) : Outcome V → Outcome V' → Type 0 where
  agains : {t : List V} {t' : List V'} → I t t' → Outcomes I (Again t) (Again t')
  lefts : {t : List V} {t' : List V'} → I t t' → Outcomes I (Left t) (Left t')
  returneds : {t : List V} {t' : List V'} → I t t' → Outcomes I (Returned t) (Returned t')

-- two frames that are both entered or both refused
pub data Enters {M M' : Type 0} (Mem : M → M' → Type 0) : Option M → Option M' → Type 0 where
  refused : Enters Mem None None
  fit : {m : M} {m' : M'} → Mem m m' → Enters Mem (Some m) (Some m')

-- two worlds of work over memories that correspond by Mem and lists of values that correspond by Vals
module _ {A V M P A' V' M' P' : Type 0} (r : Rules A V M P) (r' : Rules A' V' M' P') (Mem : M → M' → Type 0) (Vals : List V → List V' → Type 0) where
  -- what comes after, from outcomes that correspond by R
  pub record FollowBack (R : Outcome V → Outcome V' → Type 0) (back : Back V M P) (back' : Back V' M' P') : Type 0 where
    pub starts : (o : Outcome V') (w : World M') → Starts w (back' o w)
    pub follow : (o : Outcome V) (o' : Outcome V') → R o o' → (w : World M) (w' : World M') → Worlds Mem w w' → Follow (back o w) (back' o' w')

  pub record FollowNext (next : List V → World M → Run P) (next' : List V' → World M' → Run P') : Type 0 where
    pub starts : (vs : List V') (w : World M') → Starts w (next' vs w)
    pub follow : (vs : List V) (vs' : List V') → Vals vs vs' → (w : World M) (w' : World M') → Worlds Mem w w' → Follow (next vs w) (next' vs' w')

  pub record FollowCalls (calls : Calls V M P) (calls' : Calls V' M' P') : Type 0 where
    pub starts : (p : ℕ) (vs : List V') (w : World M') (next' : List V' → World M' → Run P') → ((v : List V') (u : World M') → Starts u (next' v u)) → Starts w (calls' p vs w next')
    pub follow : (p : ℕ) (vs : List V) (vs' : List V') → Vals vs vs' → (w : World M) (w' : World M') → Worlds Mem w w'
        → (next : List V → World M → Run P) (next' : List V' → World M' → Run P') → FollowNext next next' → Follow (calls p vs w next) (calls' p vs' w' next')

  -- what both works run under: procedures that follow each other
  pub record Setting : Type 0 where
    pub calls : Calls V M P
    pub calls' : Calls V' M' P'
    pub calls_follow : FollowCalls calls calls'
    pub depth : ℕ

  -- the second work does what the first does, where what comes after does, from outcomes that correspond by R
  pub record Like (g : Setting) (R : Outcome V → Outcome V' → Type 0) (c : Work A V P) (c' : Work A' V' P') : Type 0 where
    pub by : (back : Back V M P) (back' : Back V' M' P') → FollowBack R back back' → (w : World M) (w' : World M') → Worlds Mem w w'
        → Follow (run r g.calls g.depth c back w) (run r' g.calls' g.depth c' back' w')

  abbrev pub Results : Outcome V → Outcome V' → Type 0
  Results o o' = Vals (result_of o) (result_of o')

  -- each procedure of the second does what that of the first does, if all procedures that it calls do
  pub record LikeProcedures (ps : ℕ → Procedure A V P) (ps' : ℕ → Procedure A' V' P') : Type 0 where
    pub enters : (p : ℕ) (m : M) (m' : M') → Mem m m' → Enters Mem (r.enter (ps p).frame m) (r'.enter (ps' p).frame m')
    pub leaves : (p : ℕ) (m : M) (m' : M') → Mem m m' → Mem (r.leave (ps p).frame m) (r'.leave (ps' p).frame m')
    pub bodies : (p : ℕ) (g : Setting) (vs : List V) (vs' : List V') → Vals vs vs' → Like g Results ((ps p).work vs) ((ps' p).work vs')

  -- and so do the main procedures, begun with these memories
  pub record LikeMain (main : Procedure A V P) (main' : Procedure A' V' P') (m : M) (m' : M') : Type 0 where
    pub enters : Enters Mem (r.enter main.frame m) (r'.enter main'.frame m')
    pub bodies : (g : Setting) → Like g (λ o o'. Unit {0}) (main.work []) (main'.work [])
