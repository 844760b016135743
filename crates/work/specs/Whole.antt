-- Work with no bound but its units, form by form.
use Rattle.std.specs.Prelude.{ℕ, List, [], Option, Some, None, pos}
use Rattle.behaviour.specs.Behaviour.{Frames}
use Rattle.work.specs.Units.{unit}
use Rattle.work.specs.Work.{Outcome, Again, Left, Returned, Work, Loop, Procedure, Running, Stopped, Limited, Rules}
use Rattle.work.specs.Run.{World, told, Run, over, with_memory, Back, run, result_of, calls_of}

module _ {A V M P : Type 0} (r : Rules A V M P) (ps : ℕ → Procedure A V P) where
  -- work by n units: no call in it can be deeper than n, and no loop can go back more often
  abbrev pub free : Work A V P → Back V M P → World M → Run P
  free c back w n = run r (calls_of r ps n) n c back w n

  -- what comes after a turn of a loop: where it goes back, that is a unit
  abbrev pub around : (List V → Work A V P) → (Outcome V → Work A V P) → Back V M P → Back V M P
  around body k back (Again s) w = unit (told w Running) (free (Loop s body k) back w)
  around body k back (Left s) w = free (k (Left s)) back w
  around body k back (Returned s) w = free (k (Returned s)) back w

  -- a call, whose frame passes the limit or not
  abbrev pub through : Procedure A V P → List V → World M → (List V → World M → Run P) → Option M → Run P
  through f vs w next None = over w (Limited Frames)
  through f vs w next (Some m) = unit (told w Running) (free (f.work vs) (λ o w'. next (result_of o) (with_memory w' (r.leave f.frame w'.memory))) (with_memory w m))

  -- a program, whose own frame passes the limit or not
  abbrev pub from : Procedure A V P → World M → Option M → Run P
  from main w None = over w (Limited Frames)
  from main w (Some m) = free (main.work []) (λ o w'. over w' (Stopped (pos 0))) (with_memory w m)
