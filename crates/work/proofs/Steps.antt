-- The machine with a stack does what the work does.
use Rattle.std.proofs.Common.{ℕ, List, [], ◌∷◌, ◌≡◌, refl, ◌∙◌}
use Rattle.std.specs.Prelude.{Option, Some, None}
use Rattle.work.specs.Work.{Outcome, Again, Left, Returned, Work, Over, Do, Call, Loop, Procedure, Deed, Quiet, Counted, GivesByte, TakesByte, EndsRun, Rules}
use Rattle.work.specs.Run.{World, does}
use Rattle.work.specs.Whole.{free, through}
use Rattle.work.specs.Steps.{Waiting, AfterCall, InLoop, step_deed, step_call, step_outcome, step_work, back_of, run_after}
use Rattle.work.proofs.Whole.{free_do, free_call, free_loop}

module _ {A V M P : Type 0} (r : Rules A V M P) (ps : ℕ → Procedure A V P) where
  deed_steps : (d : Deed V M P) (k : V → Work A V P) (stack : List (Waiting A V P)) (w : World M) (n : ℕ)
      → does d w (λ v. free r ps (k v) (back_of r ps stack)) n ≡ run_after r ps w (step_deed d k stack w) n
  deed_steps (Quiet v m) k stack w n = refl
  deed_steps (Counted v m) k stack w n = refl
  deed_steps (GivesByte b v m) k stack w n = refl
  deed_steps (TakesByte f m) k stack w n = refl
  deed_steps (EndsRun e) k stack w n = refl

  call_steps : (f : Procedure A V P) (vs : List V) (k : List V → Work A V P) (stack : List (Waiting A V P)) (w : World M) (o : Option M) (n : ℕ)
      → through r ps f vs w (λ v. free r ps (k v) (back_of r ps stack)) o n ≡ run_after r ps w (step_call f vs k stack w o) n
  call_steps f vs k stack w None n = refl
  call_steps f vs k stack w (Some m) n = refl

  outcome_steps : (o : Outcome V) (stack : List (Waiting A V P)) (w : World M) (n : ℕ) → back_of r ps stack o w n ≡ run_after r ps w (step_outcome r ps o stack w) n
  outcome_steps o [] w n = refl
  outcome_steps o (AfterCall frame k ∷ stack) w n = refl
  outcome_steps (Again s) (InLoop body k ∷ stack) w n = refl
  outcome_steps (Left s) (InLoop body k ∷ stack) w n = refl
  outcome_steps (Returned s) (InLoop body k ∷ stack) w n = refl

  pub work_steps : (c : Work A V P) (stack : List (Waiting A V P)) (w : World M) (n : ℕ) → free r ps c (back_of r ps stack) w n ≡ run_after r ps w (step_work r ps c stack w) n
  work_steps (Over o) stack w n = outcome_steps o stack w n
  work_steps (Do at a k) stack w n = free_do r ps at a k (back_of r ps stack) w n ∙ deed_steps (r.deed at a w.memory) k stack w n
  work_steps (Call p vs k) stack w n = free_call r ps p vs k (back_of r ps stack) w n ∙ call_steps (ps p) vs k stack w (r.enter (ps p).frame w.memory) n
  work_steps (Loop s body k) stack w n = free_loop r ps s body k (back_of r ps stack) w n
