-- What is told of work at each number of units.
use Rattle.std.specs.Prelude.{ℕ, zero, suc, pos, ◌+◌, List, [], ◌∷◌, ◌++◌, Option, Some, None}
use Rattle.behaviour.specs.Behaviour as B
use Rattle.behaviour.specs.Behaviour.{Frames, Behaviour}
use Rattle.work.specs.Units.{unit, ended}
use Rattle.work.specs.Work.{Outcome, Again, Left, Returned, Work, Over, Do, Call, Loop, Procedure, End, Running, Stopped, Limited, Violated, Deed, Quiet, Counted, GivesByte, TakesByte, EndsRun, Rules}

-- what acts work on
pub record World (M : Type 0) : Type 0 where
  pub memory : M
  pub unread : List ℕ
  pub taken : ℕ
  pub output : List ℕ

-- what is told of a run: the bytes given, how many bytes were taken, and how it stands
pub record Told (P : Type 0) : Type 0 where
  pub output : List ℕ
  pub taken : ℕ
  pub end : End P

abbrev pub told : {M P : Type 0} → World M → End P → Told P
told w e = record { output = w.output; taken = w.taken; end = e }

-- by the units that are done
abbrev pub Run : Type 0 → Type 0
Run P = ℕ → Told P

abbrev pub over : {M P : Type 0} → World M → End P → Run P
over w e = ended (told w Running) (told w e)

-- no unit more is done
abbrev pub halted : {M P : Type 0} → World M → Run P
halted w n = told w Running

abbrev pub with_memory : {M : Type 0} → World M → M → World M
with_memory w m = record { memory = m; unread = w.unread; taken = w.taken; output = w.output }

abbrev pub gave : {M : Type 0} → World M → ℕ → M → World M
gave w b m = record { memory = m; unread = w.unread; taken = w.taken; output = w.output ++ b ∷ [] }

abbrev pub took : {M : Type 0} → World M → List ℕ → M → World M
took w [] m = with_memory w m
took w (b ∷ bs) m = record { memory = m; unread = bs; taken = w.taken + 1; output = w.output }

abbrev pub does : {V M P : Type 0} → Deed V M P → World M → (V → World M → Run P) → Run P
does (Quiet v m) w next = next v (with_memory w m)
does (Counted v m) w next = unit (told w Running) (next v (with_memory w m))
does (GivesByte b v m) w next = unit (told w Running) (next v (gave w b m))
does (TakesByte f m) w next = unit (told w Running) (next (f w.unread) (took w w.unread m))
does (EndsRun e) w next = over w e

-- what comes after an outcome, and after a call's results
abbrev pub Back : Type 0 → Type 0 → Type 0 → Type 0
Back V M P = Outcome V → World M → Run P

abbrev pub Calls : Type 0 → Type 0 → Type 0 → Type 0
Calls V M P = (procedure : ℕ) → List V → World M → (List V → World M → Run P) → Run P

-- a turn of a loop, from what the loop carries
abbrev pub Turn : Type 0 → Type 0 → Type 0 → Type 0
Turn V M P = List V → Back V M P → World M → Run P

-- what comes after a turn of a loop that goes back at most d times more: where it goes back, that is a unit
abbrev pub again : {V M P : Type 0} → (d : ℕ) → (turn : Turn V M P) → (after : Back V M P) → Back V M P
again zero turn after (Again s) w = halted w
again (suc d) turn after (Again s) w = unit (told w Running) (turn s (again d turn after) w)
again zero turn after (Left s) w = after (Left s) w
again (suc d) turn after (Left s) w = after (Left s) w
again zero turn after (Returned s) w = after (Returned s) w
again (suc d) turn after (Returned s) w = after (Returned s) w

-- work, where no loop goes back more than d times
abbrev pub run : {A V M P : Type 0} → Rules A V M P → Calls V M P → ℕ → Work A V P → Back V M P → World M → Run P
run r calls d (Over o) back w = back o w
run r calls d (Do at a k) back w = does (r.deed at a w.memory) w (λ v. run r calls d (k v) back)
run r calls d (Call p vs k) back w = calls p vs w (λ v. run r calls d (k v) back)
run r calls d (Loop s body k) back w = run r calls d (body s) (again d (λ t. run r calls d (body t)) (λ o. run r calls d (k o) back)) w

abbrev pub result_of : {V : Type 0} → Outcome V → List V
result_of (Again s) = []
result_of (Left s) = []
result_of (Returned s) = s

-- a call is a unit, and its frame is charged in it
abbrev pub entered : {A V M P : Type 0} → Rules A V M P → Calls V M P → ℕ → Procedure A V P → List V → World M → (List V → World M → Run P) → Option M → Run P
entered r calls d f vs w next None = over w (Limited Frames)
entered r calls d f vs w next (Some m) = unit (told w Running) (run r calls d (f.work vs) (λ o w'. next (result_of o) (with_memory w' (r.leave f.frame w'.memory))) (with_memory w m))

-- calls of procedures, at most d deep
abbrev pub calls_of : {A V M P : Type 0} → Rules A V M P → (ℕ → Procedure A V P) → ℕ → Calls V M P
calls_of r ps zero p vs w next = halted w
calls_of r ps (suc d) p vs w next = entered r (calls_of r ps d) d (ps p) vs w next (r.enter (ps p).frame w.memory)

-- the main procedure, whose frame is charged before the first unit; its return ends the run
abbrev pub begun : {A V M P : Type 0} → Rules A V M P → Calls V M P → ℕ → Procedure A V P → World M → Option M → Run P
begun r calls d main w None = over w (Limited Frames)
begun r calls d main w (Some m) = run r calls d (main.work []) (λ o w'. over w' (Stopped (pos 0))) (with_memory w m)

abbrev pub starting : {M : Type 0} → M → List ℕ → World M
starting m input = record { memory = m; unread = input; taken = 0; output = [] }

-- a program with calls at most d deep and loops that go back at most d times
abbrev pub within : {A V M P : Type 0} → Rules A V M P → (ℕ → Procedure A V P) → Procedure A V P → M → List ℕ → ℕ → Run P
within r ps main m input d = begun r (calls_of r ps d) d main (starting m input) (r.enter main.frame m)

-- a program at n units: no call in it can be deeper than n, and no loop can go back more often
abbrev pub whole : {A V M P : Type 0} → Rules A V M P → (ℕ → Procedure A V P) → Procedure A V P → M → List ℕ → Run P
whole r ps main m input n = within r ps main m input n n

-- a violation is wrong, whatever its tag and place
abbrev pub ending : {P : Type 0} → End P → B.Ending
ending Running = B.Running
ending (Stopped c) = B.Stopped c
ending (Limited k) = B.Limited k
ending (Violated t at) = B.Wrong

abbrev pub seen : {P : Type 0} → Told P → B.Seen
seen t = record { output = t.output; taken = t.taken; ending = ending t.end }

-- what is seen of a program
abbrev pub behaviour_of : {A V M P : Type 0} → Rules A V M P → (ℕ → Procedure A V P) → Procedure A V P → M → List ℕ → Behaviour
behaviour_of r ps main m input n = seen (whole r ps main m input n)
