-- A machine that does work step by step, with a stack of what waits.
use Rattle.std.specs.Prelude.{ℕ, List, [], ◌∷◌, Option, Some, None, pos}
use Rattle.behaviour.specs.Behaviour.{Frames}
use Rattle.work.specs.Units.{unit}
use Rattle.work.specs.Work.{Outcome, Again, Left, Returned, Work, Over, Do, Call, Loop, Procedure, End, Running, Stopped, Limited, Deed, Quiet, Counted, GivesByte, TakesByte, EndsRun, Rules}
use Rattle.work.specs.Run.{World, told, Run, over, with_memory, gave, took, Back, result_of}
use Rattle.work.specs.Whole.{free, around}

-- what waits: the rest of a caller, whose callee's frame has so many bytes; or a loop, with one turn and what comes after it
pub data Waiting (A V P : Type 0) : Type 0 where
  AfterCall : (frame : ℕ) → (List V → Work A V P) → Waiting A V P
  InLoop : (List V → Work A V P) → (Outcome V → Work A V P) → Waiting A V P

pub record State (A V M P : Type 0) : Type 0 where
  pub now : Work A V P
  pub stack : List (Waiting A V P)
  pub world : World M

abbrev pub state : {A V M P : Type 0} → Work A V P → List (Waiting A V P) → World M → State A V M P
state c stack w = record { now = c; stack = stack; world = w }

-- a step without a unit, a step that is a unit, or the end
pub data Stepped (A V M P : Type 0) : Type 0 where
  Goes : State A V M P → Stepped A V M P
  DoesUnit : State A V M P → Stepped A V M P
  Finishes : End P → Stepped A V M P

module _ {A V M P : Type 0} where
  abbrev pub step_deed : Deed V M P → (V → Work A V P) → List (Waiting A V P) → World M → Stepped A V M P
  step_deed (Quiet v m) k stack w = Goes (state (k v) stack (with_memory w m))
  step_deed (Counted v m) k stack w = DoesUnit (state (k v) stack (with_memory w m))
  step_deed (GivesByte b v m) k stack w = DoesUnit (state (k v) stack (gave w b m))
  step_deed (TakesByte f m) k stack w = DoesUnit (state (k (f w.unread)) stack (took w w.unread m))
  step_deed (EndsRun e) k stack w = Finishes e

  abbrev pub step_call : Procedure A V P → List V → (List V → Work A V P) → List (Waiting A V P) → World M → Option M → Stepped A V M P
  step_call f vs k stack w None = Finishes (Limited Frames)
  step_call f vs k stack w (Some m) = DoesUnit (state (f.work vs) (AfterCall f.frame k ∷ stack) (with_memory w m))

module _ {A V M P : Type 0} (r : Rules A V M P) (ps : ℕ → Procedure A V P) where
  abbrev pub step_outcome : Outcome V → List (Waiting A V P) → World M → Stepped A V M P
  step_outcome o [] w = Finishes (Stopped (pos 0))
  step_outcome o (AfterCall frame k ∷ stack) w = Goes (state (k (result_of o)) stack (with_memory w (r.leave frame w.memory)))
  step_outcome (Again s) (InLoop body k ∷ stack) w = DoesUnit (state (Loop s body k) stack w)
  step_outcome (Left s) (InLoop body k ∷ stack) w = Goes (state (k (Left s)) stack w)
  step_outcome (Returned s) (InLoop body k ∷ stack) w = Goes (state (k (Returned s)) stack w)

  abbrev pub step_work : Work A V P → List (Waiting A V P) → World M → Stepped A V M P
  step_work (Over o) stack w = step_outcome o stack w
  step_work (Do at a k) stack w = step_deed (r.deed at a w.memory) k stack w
  step_work (Call p vs k) stack w = step_call (ps p) vs k stack w (r.enter (ps p).frame w.memory)
  step_work (Loop s body k) stack w = Goes (state (body s) (InLoop body k ∷ stack) w)

  -- what a stack will do
  abbrev pub back_of : List (Waiting A V P) → Back V M P
  back_of [] o w = over w (Stopped (pos 0))
  back_of (AfterCall frame k ∷ stack) o w = free r ps (k (result_of o)) (back_of stack) (with_memory w (r.leave frame w.memory))
  back_of (InLoop body k ∷ stack) o w = around r ps body k (back_of stack) o w

  -- what a state will tell
  abbrev pub run_from : State A V M P → Run P
  run_from s = free r ps s.now (back_of s.stack) s.world

  -- what is told behind a step in this world
  abbrev pub run_after : World M → Stepped A V M P → Run P
  run_after w (Goes s) = run_from s
  run_after w (DoesUnit s) = unit (told w Running) (run_from s)
  run_after w (Finishes e) = over w e
